use Rattle.std.proofs.Common.{◌≡◌, ◌++◌, map, length, drop, replicate, Err, sym, ap, ◌∙◌}
use Rattle.std.proofs.lemmas.List.{length-map, length-take-le, take_at}
use Rattle.std.proofs.lemmas.List.FromFn.{length-map-range_with_len}
use Rattle.std.proofs.lemmas.Result.{err_from_is_err_and}
use Rattle.systems.specs.Tables.{table_of}
use Rattle.enclosures.specs.Elimination.{eliminated, row_of, elimination_of}
use Rattle.enclosures.specs.Working.{viewed}
use Rattle.enclosures.proofs.Enclosing.{verdict_row, verdict_fault, encloses_row, encloses_fault}
use Rattle.enclosures.proofs.elimination.EliminationEnclosure.enclose.Goals as goal

pub solve-requires : goal.solve-requires
solve-requires c =
    let t = table_of c.args.system.now in
    let many = sym (length-map c.lines.result.items viewed) ∙ ap length c.lines.ensures ∙ length-map-range_with_len (row_of t) 0 t.size in
    let room = length-take-le c.size-n.result (replicate 6 c.zero-components.result) c.size-n.ensures.few in
    ap length c.as_mut_slice.ensures.value ∙ many ∙ sym c.size-n.ensures.value ∙ sym room

pub returns : goal.returns
returns c =
    let t = table_of c.args.system.now in
    let n = c.size-n.result in
    let xs = c.solve.new.components in
    let was = c.args.row.now in
    let long : length xs ≡ n = c.solve.auto.components ∙ length-take-le n (replicate 6 c.zero-components.result) c.size-n.ensures.few in
    let copied : c.copy_from_slice.new.self ≡ xs = c.copy_from_slice.ensures.after ∙ take_at xs _ n long in
    let solved = ap (λ ls. eliminated (length ls) (map viewed ls)) (sym c.as_mut_slice.ensures.value) ∙ c.in_ok-solve.ensures in
    encloses_row (elimination_of t) xs was _ (verdict_row t c.lines.result.items c.lines.ensures xs solved) (λ k. copied k ++ drop (sym long k) was)

pub returns-in_err-solve : goal.returns-in_err-solve
returns-in_err-solve c =
    let t = table_of c.args.system.now in
    let q = err_from_is_err_and c.from_residual.result c.from_residual.ensures.1 in
    let solved = ap (λ ls. eliminated (length ls) (map viewed ls)) (sym c.as_mut_slice.ensures.value) ∙ c.in_err-solve.ensures in
    let stopped = verdict_fault t c.lines.result.items c.lines.ensures c.in_err-solve.field-0.0 solved in
    encloses_fault (elimination_of t) q.0 c.from_residual.result c.args.row.now (stopped ∙ ap Err (sym q.2)) q.1
