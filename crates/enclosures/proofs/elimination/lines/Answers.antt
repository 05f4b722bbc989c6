use Rattle.std.proofs.Common.{◌≡◌, ◌<◌, ◌++◌, ◌∷◌, [], map, length, sym, ap, ◌∙◌, arith, rules}
use Rattle.std.proofs.lemmas.List.{map-append, length-map}
use Rattle.std.proofs.lemmas.List.FromFn.{map-range_with_len_more, length-map-range_with_len}
use Rattle.std.specs.List.{range_with_len}
use Rattle.systems.specs.Tables.{table_of}
use Rattle.enclosures.specs.Elimination.{row_of}
use Rattle.enclosures.specs.Working.{viewed}
use Rattle.enclosures.proofs.elimination.lines.Goals as goal

pub loop-row-preserved : goal.loop-row-preserved
loop-row-preserved c =
    let l = c.loop-row in
    ap (map viewed) c.push.ensures.items ∙ map-append viewed l.lines.items (c.new.result ∷ [])
    ∙ (λ k. l.invariant k ++ c.new.ensures k ∷ []) ∙ sym (map-range_with_len_more (row_of (table_of c.args.system.now)) 0 l.row l.row (omega arith))

pub push-requires : goal.push-requires
push-requires c =
    let l = c.loop-row in
    let many = sym (length-map l.lines.items viewed) ∙ ap length l.invariant ∙ length-map-range_with_len (row_of (table_of c.args.system.now)) 0 l.row in
    let room : length l.lines.items < 6 = omega (arith, many, c.size-row-end.ensures.few) in
    search rules

pub returns : goal.returns
returns c =
    let l = c.loop-row in
    let end : l.row ≡ (table_of c.args.system.now).size = omega (arith, c.size-row-end.ensures.value) in
    l.invariant ∙ ap (λ n. map (row_of (table_of c.args.system.now)) (range_with_len 0 n)) end
