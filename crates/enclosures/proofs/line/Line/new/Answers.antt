use Rattle.std.proofs.Common.{◌≡◌, ◌<◌, ◌++◌, ◌∷◌, [], map, length, sym, ap, ◌∙◌, arith, rules}
use Rattle.std.proofs.lemmas.List.{map-append, length-map}
use Rattle.std.proofs.lemmas.List.FromFn.{map-range_with_len_more, length-map-range_with_len}
use Rattle.std.specs.List.{range_with_len}
use Rattle.grains.specs.Arithmetic.{ends_of}
use Rattle.systems.specs.Tables.{table_of}
use Rattle.enclosures.specs.Elimination.{in_grains, working_at, row_of}
use Rattle.enclosures.proofs.Rows.{row_long, entry_seen}
use Rattle.enclosures.proofs.line.Line.new.Goals as goal

pub loop-entry-preserved : goal.loop-entry-preserved
loop-entry-preserved c =
    let l = c.loop-entry in
    let i = c.args.equation.now.row in
    let t = table_of c.args.equation.now.system.now in
    let es = c.coefficients-entry-items.result.now in
    let read = c.coefficients-entry-items.ensures.value in
    let long = row_long t i t.size es read in
    let made = c.in_grains.ensures ∙ ap in_grains (entry_seen t i t.size es read l.entry-index c.entry-item.result (omega (arith, long)) c.entry-item.is) in
    ap (map ends_of) c.push.ensures.items ∙ map-append ends_of l.coefficients.items (c.in_grains.result ∷ [])
    ∙ (λ k. l.invariant k ++ made k ∷ []) ∙ sym (map-range_with_len_more (working_at t i) 0 l.entry-index l.entry-index (omega arith))

pub push-requires : goal.push-requires
push-requires c =
    let l = c.loop-entry in
    let i = c.args.equation.now.row in
    let t = table_of c.args.equation.now.system.now in
    let es = c.coefficients-entry-items.result.now in
    let long = row_long t i t.size es c.coefficients-entry-items.ensures.value in
    let many = sym (length-map l.coefficients.items ends_of) ∙ ap length l.invariant ∙ length-map-range_with_len (working_at t i) 0 l.entry-index in
    let room : length l.coefficients.items < 6 = omega (arith, many, long, c.coefficients-entry-items.ensures.few) in
    search rules

pub returns : goal.returns
unfolding row_of
returns c =
    let l = c.loop-entry in
    let i = c.args.equation.now.row in
    let t = table_of c.args.equation.now.system.now in
    let long = row_long t i t.size c.coefficients-entry-items.result.now c.coefficients-entry-items.ensures.value in
    let end : l.entry-index ≡ t.size = omega (arith, long) in
    let front = l.invariant ∙ ap (λ m. map (working_at t i) (range_with_len 0 m)) end in
    let right = c.in_grains-2.ensures ∙ ap in_grains c.right.ensures in
    λ k. record { coefficients = front k; right = right k }
