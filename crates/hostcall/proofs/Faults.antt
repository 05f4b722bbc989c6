-- No refusal has the number 0. Assumes nothing.
use Rattle.std.proofs.Common.{◌≡◌, ℕ, ◌-◌, Bool, true, false, cond, ◌&&◌, leb, ◌⊎◌, List, [], ◌∷◌, None, Ok, Err, Result, refl, ap, ◌∙◌, inl, inr, ⊎_elim, arith}
use Rattle.algebra.specs.Chaining.{and_then}
use Rattle.algebra.specs.Ends.{Ends}
use Rattle.grains.specs.declared.interval.ArithmeticError.{ArithmeticError}
use Rattle.grains.specs.declared.interval.ArithmeticError.TheVariants.{DivisorContainsZero, OutsideSpan}
use Rattle.systems.specs.declared.refusal.Refusal.{Refusal}
use Rattle.systems.specs.declared.refusal.Refusal.TheVariants.{SizeOutOfRange, PlaceOutOfRange, EndOutOfRange, EndsOutOfOrder, JobEndsEarly, MarkNotAllowed, PlaceNotRising, EntryIsZero, BytesAfterEnd, BufferTooShort}
use Rattle.systems.specs.Refusals.{number_of}
use Rattle.systems.specs.Tables.{Table, midpoint_of}
use Rattle.enclosures.specs.declared.fault.Fault.{Fault}
use Rattle.enclosures.specs.Elimination.{elimination_of}
use Rattle.enclosures.specs.Sweeping.{sweep_of}
use Rattle.enclosures.specs.Verdicts.{Verdict, fault_of, verdict_of}
use Rattle.partition.specs.declared.marks.Marks.{Marks}
use Rattle.outcomes.specs.declared.record.Entered.{Entered}
use Rattle.outcomes.specs.declared.refusal.SearchRefusal.{SearchRefusal}
use Rattle.outcomes.specs.declared.refusal.SearchRefusal.TheVariants as refusal
use Rattle.outcomes.specs.Refusals.{number_of as search_number}
use Rattle.outcomes.specs.Searching.{Started, box, figures_of, entered, start_of, unfixed}
use Rattle.searches.specs.Lowest.{solved_of}
use Rattle.solver.specs.Solving.{found_for}

pub refusal_named : (e : Refusal) → number_of e ≡ 0 → ⊥
refusal_named SizeOutOfRange h = omega arith
refusal_named PlaceOutOfRange h = omega arith
refusal_named EndOutOfRange h = omega arith
refusal_named EndsOutOfOrder h = omega arith
refusal_named JobEndsEarly h = omega arith
refusal_named MarkNotAllowed h = omega arith
refusal_named PlaceNotRising h = omega arith
refusal_named EntryIsZero h = omega arith
refusal_named BytesAfterEnd h = omega arith
refusal_named BufferTooShort h = omega arith

-- a verdict whose faults have numbers other than 0
Named : (Table → Verdict) → Type 0
Named v = (t : Table) (f : Fault) → v t ≡ Err f → f.number ≡ 0 → ⊥

fault_value : {A : Type 0} {f g : Fault} → ◌≡◌ {A = Result A Fault} (Err f) (Err g) → f ≡ g
fault_value e = cc

arithmetic_named : (e : ArithmeticError) → (fault_of e).number ≡ 0 → ⊥
arithmetic_named DivisorContainsZero h = omega arith
arithmetic_named OutsideSpan h = omega arith

verdict_named : (o : Result (List Ends) ArithmeticError) (f : Fault) → verdict_of o ≡ Err f → f.number ≡ 0 → ⊥
verdict_named (Ok row) f e h = let z : ◌≡◌ {A = ℕ} 0 1 = cc in omega arith
verdict_named (Err d) f e h = arithmetic_named d (ap (λ (g : Fault). g.number) (fault_value e) ∙ h)

elimination_named : Named elimination_of
unfolding Named elimination_of
elimination_named t f e h = verdict_named _ f e h

-- a chain that ends in an error: its first step did, or the rest
then_err : {A B E : Type 0} (o : Result A E) (f : A → Result B E) (e : E) → and_then o f ≡ Err e → (o ≡ Err e) ⊎ ((x : A) × (o ≡ Ok x) × (f x ≡ Err e))
then_err (Ok x) f e p = inr (x, refl, p)
then_err {A} {B} {E} (Err d) f e p = inl (ap {B = Result A E} (λ (z : E). Err z) (error_value p))
  where
    error_value : {d e : E} → ◌≡◌ {A = Result B E} (Err d) (Err e) → d ≡ e
    error_value q = cc

accepted : {A E : Type 0} (x : A) (e : E) → ◌≡◌ {A = Result A E} (Ok x) (Err e) → ⊥
accepted x e p = let z : ◌≡◌ {A = ℕ} 0 1 = cc in omega arith

sweep_named : Named (sweep_of elimination_of)
unfolding Named sweep_of
sweep_named t f e h = ⊎_elim (λ p. elimination_named t f p h) (λ p. accepted _ f p.2) (then_err (elimination_of t) _ f e)

-- ---- a start
module _ (v : Table → Verdict) (named : Named v) where
  figures_named : (c : ℕ) (u : Table) (e : SearchRefusal) → figures_of c (v u) ≡ Err e → search_number e ≡ 0 → ⊥
  unfolding Named
  figures_named c u e p h = by_verdict (v u) refl p
    where
      by_verdict : (o : Verdict) → v u ≡ o → figures_of c o ≡ Err e → ⊥
      by_verdict (Ok row) q r = accepted _ e r
      by_verdict (Err f) q r = named u f q (ap search_number (refusal_value r) ∙ h)
        where
          refusal_value : {d g : SearchRefusal} → ◌≡◌ {A = Result Ends SearchRefusal} (Err d) (Err g) → d ≡ g
          refusal_value w = cc

  entered_named : (t : Table) (c : ℕ) (m : Marks) (e : SearchRefusal) → entered v t c m ≡ Err e → search_number e ≡ 0 → ⊥
  unfolding entered
  entered_named t c m e p h =
      ⊎_elim (λ q. figures_named c (box t m) e q h)
      (λ q. ⊎_elim (λ r. figures_named c (midpoint_of (box t m)) e r h) (λ r. accepted _ e r.2) (then_err (figures_of c (v (midpoint_of (box t m)))) _ e q.2))
      (then_err (figures_of c (v (box t m))) _ e p)

  start_named : (t : Table) (c : ℕ) (e : SearchRefusal) → start_of v t c None ≡ Err e → search_number e ≡ 0 → ⊥
  unfolding start_of
  start_named t c e p h = by_test (leb 1 c && leb c t.size) p
    where
      begun : Entered → Result Started SearchRefusal
      begun w = Ok (record { component = c - 1; high = w.high; splits = 0; waiting = w.waiting ∷ [] })

      elsewhere : {d g : SearchRefusal} → ◌≡◌ {A = Result Started SearchRefusal} (Err d) (Err g) → d ≡ g
      elsewhere w = cc

      by_test : (x : Bool) → cond x (and_then (entered v t (c - 1) unfixed) begun) (Err refusal.ComponentOutOfRange) ≡ Err e → ⊥
      by_test true q = ⊎_elim (λ r. entered_named t (c - 1) unfixed e r h) (λ r. accepted _ e r.2) (then_err (entered v t (c - 1) unfixed) begun e q)
      by_test false q = let five : ◌≡◌ {A = ℕ} 5 0 = ap search_number (elsewhere q) ∙ h in omega arith

pub found_named : (t : Table) (c b : ℕ) (e : SearchRefusal) → found_for t c b ≡ Err e → search_number e ≡ 0 → ⊥
unfolding found_for solved_of
found_named t c b e p h = ⊎_elim (λ q. start_named (sweep_of elimination_of) sweep_named t c e q h) (λ q. accepted _ e q.2) (then_err (start_of (sweep_of elimination_of) t c None) _ e p)
