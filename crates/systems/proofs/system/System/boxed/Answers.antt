use Rattle.std.proofs.Common.{◌≡◌, ◌<◌, ◌∙◌, map, length, take, drop, sym, ap, arith}
use Rattle.std.specs.List.{range_with_len}
use Rattle.algebra.proofs.Filling.{filled_more}
use Rattle.std.proofs.lemmas.List.{length-take-le}
use Rattle.systems.specs.Boxes.{Marks, fixed_entry, box_entry}
use Rattle.systems.specs.Entries.{ends_of}
use Rattle.systems.specs.Tables.{places_of, table_of}
use Rattle.systems.proofs.Walks.{same_element, changed_rest, front_whole, ends_tabled, box-tabled}
use Rattle.systems.proofs.system.System.boxed.Goals as goal

pub loop-place-preserved : goal.loop-place-preserved
loop-place-preserved c =
    let l = c.loop-place in
    let d = c.args.self.now.draft in
    let m : Marks = record { fixed = c.args.fixed; ends = c.args.ends } in
    let was = take (places_of d.size.rows) d.entries in
    let now = l.entry-items in
    let h : l.place < length now = omega arith in
    let h' : l.place < length was = rw (← c.places.ensures.value) c.loop-place-test.true in
    let rest : drop l.place now ≡ drop l.place was = rw (← c.places.ensures.value) l.invariant.1 in
    let same = same_element ends_of ends_of now was l.place c.entry-item.result c.fixed_entry.result h h' rest in
    let made : ends_of c.fixed_entry.result ≡ box_entry m (table_of c.args.self.now) l.place =
    c.fixed_entry.ensures ∙ ap (λ e. fixed_entry m l.place (ends_of e)) same ∙ ap (fixed_entry m l.place) (sym (ends_tabled d.size.rows d.entries l.place c.entry-item.result h')) in (
      filled_more ends_of (box_entry m (table_of c.args.self.now)) now l.place c.fixed_entry.result h made l.invariant.0,
      rw c.places.ensures.value (changed_rest ends_of ends_of now was l.place c.entry-item.result c.fixed_entry.result h h' rest),
    )

pub returns : goal.returns
returns c =
    let l = c.loop-place in
    let d = c.args.self.now.draft in
    let m : Marks = record { fixed = c.args.fixed; ends = c.args.ends } in
    let n = places_of d.size.rows in
    let long = length-take-le c.places.result d.entries (omega (arith, d.full, c.places.ensures.bound)) in
    let there : n ≡ l.place = sym c.places.ensures.value ∙ omega (arith, long) in
    let all = front_whole ends_of n l.place l.entry-items (drop c.places.result d.entries) _ (omega (arith, there)) (l.auto.entry-items ∙ long ∙ c.places.ensures.value) l.invariant.0
    ∙ ap (λ k. map (box_entry m (table_of c.args.self.now)) (range_with_len 0 k)) (sym there) in
    c.of.ensures ∙ box-tabled d.size.rows _ d.entries m all
