-- A start keeps what a started search keeps. Assumes nothing.
use Rattle.std.proofs.Common.{◌≡◌, ℕ, ◌+◌, ◌-◌, ◌%◌, ◌^◌, ◌<◌, ◌≤◌, Bool, true, false, cond, ◌&&◌, eqb, leb, [], ◌∷◌, None, Ok, Err, Result, sym, refl, ap, ◌∙◌, subst, inl, arith, pow_pos, pow_mono, leb-true}
use native.Mathlib.Nat.{zero-div}
use borrow.Author.Differences.{ints}
use borrow.Author.Tests.{clash}
use Rattle.std.proofs.lemmas.List.Sums.{sum_by-cons}
use Rattle.algebra.proofs.Chaining.{ok_value, then_ok}
use Rattle.systems.specs.Boxes.{bit, box_of}
use Rattle.systems.specs.Points.{Proper}
use Rattle.systems.specs.Tables.{Table, places_of, wide_entries}
use Rattle.enclosures.specs.Methods.{Solvable, Enclosed, Narrowing}
use Rattle.enclosures.specs.Verdicts.{Verdict}
use Rattle.partition.specs.declared.marks.Marks.{Marks}
use Rattle.partition.specs.Boxing.{MarksFit}
use Rattle.partition.specs.Marking.{marks_of}
use Rattle.partition.proofs.BoxLaws.{box_counts}
use Rattle.outcomes.specs.declared.record.Entered.{Entered}
use Rattle.outcomes.specs.Searching.{Started, unfixed, entered, start_of}
use Rattle.outcomes.proofs.Entering.{EnteredAt, entered_at}
use Rattle.outcomes.proofs.Inside.{widened, same_box}
use Rattle.outcomes.proofs.Keeping.{Held, weight}

-- an accepted step that a test lets pass
pass_ok : {A E : Type 0} (b : Bool) (d : E) (o : Result A E) (y : A) → cond b o (Err d) ≡ Ok y → (b ≡ true) × (o ≡ Ok y)
pass_ok true d o y e = (refl, e)
pass_ok false d o y e = absurd (let z : ◌≡◌ {A = ℕ} 0 1 = cc in omega arith)

both : (a b : Bool) → (a && b) ≡ true → (a ≡ true) × (b ≡ true)
both true true e = (refl, refl)
both true false e = absurd (clash e)
both false b e = absurd (clash e)

no_bit : (k : ℕ) → bit 0 k ≡ false
no_bit k = ap (λ (z : ℕ). eqb (z % 2) 1) (zero-div (2 ^ k))

none_fits : (t : Table) → MarksFit (marks_of unfixed) t
none_fits t = record { at_wide = λ k e. absurd (clash (sym (no_bit k) ∙ e)); within = pow_pos (places_of t.size) }

module _ (v : Table → Verdict) (t : Table) (proper : Proper t) (solvable : Solvable v) (enclosed : Enclosed v) (narrowing : Narrowing v) where
  whole_weight : (m : Marks) → m ≡ unfixed → 2 ^ wide_entries (box_of (marks_of m) t) ≤ 2 ^ wide_entries t
  whole_weight m e = subst (λ (n : Marks). 2 ^ wide_entries (box_of (marks_of n) t) ≤ 2 ^ wide_entries t) (sym e)
      (pow_mono {i = wide_entries (box_of (marks_of unfixed) t)} {j = wide_entries t} (let c = box_counts t (marks_of unfixed) proper (none_fits t) in omega arith))

  entered_held : (c : ℕ) (w : Entered) → c < t.size → EnteredAt v t c unfixed w → Held v t (record { component = c; high = w.high; splits = 0; waiting = w.waiting ∷ [] })
  entered_held c w h at =
      let is = at.marks in
      let small = whole_weight w.waiting.marks is in
      let sum = sum_by-cons (weight t) w.waiting [] in
      record {
        inside = h;
        sound = (
          record {
            fit = subst (λ (m : Marks). MarksFit (marks_of m) t) (sym is) (none_fits t);
            ends = subst (λ (m : Marks). (j : ℕ) → bit m.fixed j ≡ false → bit m.ends j ≡ false) (sym is) (λ j e. e);
            row = at.row;
            ok = ap (λ (m : Marks). v (box_of (marks_of m) t)) is ∙ at.ok;
            low = at.low;
            thin = λ e. at.reaches;
          },
          tt,
        );
        met = at.met;
        spread = λ P d p sol.
            let m = marks_of w.waiting.marks in
            let wide = widened t (box_of m t) (same_box t m proper (ap (λ (m : Marks). m.fixed) is)) P d p sol in
            inl (inl (wide.0, d, p, wide.1, omega (arith, ints)));
        few = omega arith;
        counts = omega arith;
      }

  pub start_held : (c : ℕ) (s : Started) → start_of v t c None ≡ Ok s → Held v t s × (s.component + 1 ≡ c) × (s.splits ≡ 0)
  unfolding start_of
  start_held c s e =
      let x = pass_ok (leb 1 c && leb c t.size) _ _ s e in
      let y = both (leb 1 c) (leb c t.size) x.0 in
      let from = leb-true 1 c y.0 in
      let to = leb-true c t.size y.1 in
      let z = then_ok (entered v t (c - 1) unfixed) _ s x.1 in
      let at = entered_at v t proper solvable enclosed narrowing (c - 1) unfixed z.0 (omega arith) z.1 in
      subst (λ (n : Started). Held v t n × (n.component + 1 ≡ c) × (n.splits ≡ 0)) (ok_value z.2) (entered_held (c - 1) z.0 (omega arith) at, omega arith, refl)
