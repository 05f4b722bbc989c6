use Rattle.std.proofs.Common.{◌≡◌, ◌≤◌, ◌++◌, length, take, drop, replicate, Err, sym, ap, ◌∙◌, arith, rules}
use Rattle.std.proofs.lemmas.List.{length-take-le, take-replicate}
use Rattle.std.proofs.lemmas.Result.{err_from_is_err_and}
use Rattle.systems.specs.Tables.{table_of}
use Rattle.enclosures.specs.RowSums.{row_sums_of}
use Rattle.enclosures.proofs.Enclosing.{encloses_row, encloses_fault}
use Rattle.enclosures.specs.Greatest.{verdict_row, verdict_fault}
use Rattle.enclosures.proofs.row_sums.RowSumsEnclosure.enclose.Goals as goal

pub returns : goal.returns
returns c =
    let t = table_of c.args.system.now in
    let n = c.size.result in
    let a = c.in_ok-alpha.alpha.grains in
    let y = c.around_zero.result in
    let was = c.args.row.now in
    let few : t.size ≤ 6 = omega (arith, c.size.ensures.value, c.size.ensures.few) in
    let within : n ≤ length was = search rules in
    let room = length-take-le n was within in
    let all : c.fill.new.self ≡ replicate (length (take n was)) y = search rules in
    let filled : c.fill.new.self ≡ take t.size (replicate 6 y) =
    all ∙ ap (λ k. replicate k y) (room ∙ c.size.ensures.value) ∙ sym (take-replicate t.size 6 y few) in
    let long : n ≡ length (take t.size (replicate 6 y)) = sym (length-take-le t.size (replicate 6 y) few ∙ sym c.size.ensures.value) in
    encloses_row (row_sums_of t) (take t.size (replicate 6 y)) was _ (verdict_row t few a y c.around_zero.ensures (sym c.in_ok-alpha.ensures)) (λ k. filled k ++ drop (long k) was)

pub returns-in_err-alpha : goal.returns-in_err-alpha
returns-in_err-alpha c =
    let t = table_of c.args.system.now in
    let q = err_from_is_err_and c.from_residual.result c.from_residual.ensures.1 in
    let stopped = verdict_fault t c.in_err-alpha.field-0.0 (sym c.in_err-alpha.ensures) in
    encloses_fault (row_sums_of t) q.0 c.from_residual.result c.args.row.now (stopped ∙ ap Err (sym q.2)) q.1
