-- Entries in grains lie in the span. Assumes nothing.
use Rattle.std.proofs.Common.{◌≡◌, ◌^◌, ◌<◌, true, ℤ, pos, ◌*ℤ◌, neg_ℤ, ◌≤ℤ◌, is_some, Some, None, Option, sym, refl, ap, ◌∙◌, arith, to_z-of_z, w32, w64, to_z, of_z}
use lib.Signed.{mag}
use borrow.Author.Differences.{ints}
use Rattle.std.specs.Option.{option_map}
use Rattle.algebra.specs.Ends.{Ends, from_to}
use Rattle.grains.specs.declared.interval.Interval.{Interval}
use Rattle.grains.specs.Arithmetic.{ends_of, in_span, interval_of}
use Rattle.systems.specs.declared.entry.Entry.{Entry}
use Rattle.systems.specs.Entries.{ends_of as entry_ends}
use Rattle.enclosures.specs.Elimination.{in_grains}

accepted : (a b : ℤ) → a ≤ℤ b → neg_ℤ (pos 65536) ≤ℤ a → b ≤ℤ pos 65536 → interval_of (a *ℤ pos 16384) (b *ℤ pos 16384) ≡ Some (from_to (a *ℤ pos 16384) (b *ℤ pos 16384))
unfolding interval_of in_span
accepted a b o l h = grind (arith, ints)

-- what `Interval::new` answers at the ends of an entry, as the code hands them over
pub made_in_grains : (e : Entry) (o : Option Interval) (l h s t : ℤ) → mag l < 2 ^ 31 → mag h < 2 ^ 31 → mag s < 2 ^ 63 → mag t < 2 ^ 63 → l ≡ e.low → h ≡ e.high
    → s ≡ to_z w32 (of_z w32 l) *ℤ pos 16384 → t ≡ to_z w32 (of_z w32 h) *ℤ pos 16384 → option_map ends_of o ≡ interval_of (to_z w64 (of_z w64 s)) (to_z w64 (of_z w64 t))
    → option_map ends_of o ≡ Some (in_grains (entry_ends e))
made_in_grains e o l h s t ml mh ms mt el eh es et made =
    let low : to_z w64 (of_z w64 s) ≡ e.low *ℤ pos 16384 = to_z-of_z {w = w64} (record { sfits = ms }) ∙ es ∙ ap (λ z. z *ℤ pos 16384) (to_z-of_z {w = w32} (record { sfits = ml }) ∙ el) in
    let high : to_z w64 (of_z w64 t) ≡ e.high *ℤ pos 16384 = to_z-of_z {w = w64} (record { sfits = mt }) ∙ et ∙ ap (λ z. z *ℤ pos 16384) (to_z-of_z {w = w32} (record { sfits = mh }) ∙ eh) in
    made ∙ (λ i. interval_of (low i) (high i)) ∙ accepted e.low e.high e.ordered e.above e.below

pub some_made : (o : Option Interval) (x : Ends) → option_map ends_of o ≡ Some x → is_some o ≡ true
some_made None x e = cc
some_made (Some y) x e = refl

pub value_made : (o : Option Interval) (x : Ends) (y : Interval) → option_map ends_of o ≡ Some x → o ≡ Some y → ends_of y ≡ x
value_made o x y e f = let g : ◌≡◌ {A = Option Ends} (Some (ends_of y)) (Some x) = ap (option_map ends_of) (sym f) ∙ e in cc
