-- What the laws of the built rules rest on: where a scan finds no place, and that it finds a wide one. Assumes nothing.
use Rattle.std.specs.Prelude.{◌≡◌, ℕ, zero, suc, ◌<◌, Bool, true, false, cond, ℤ, Some, None, Option, ◌≢◌, int_lt, refl}
use Rattle.std.proofs.Common.{arith, subst, below_more}
use Rattle.systems.specs.Tables.{Table, places_of}
use Rattle.partition.specs.Choosing.{wide_at, WidePlace, better, best_below}

-- a place that is found is one place
pub some_value : {A : Type 0} {x y : A} → ◌≡◌ {A = Option A} (Some x) (Some y) → x ≡ y
some_value e = cc

module _ (wide : ℕ → Bool) (w : ℕ → ℤ) where
  pub none_below : (m : ℕ) → ((j : ℕ) → j < m → wide j ≡ false) → best_below wide w m ≡ None
  none_below zero h = refl
  none_below (suc m) h = rw (none_below m (λ j l. h j (omega arith)), h m (omega arith)) refl

  better_none : (o : Option ℕ) (m : ℕ) → better wide w o m ≡ None → (o ≡ None) × (wide m ≡ false)
  better_none None m e = (refl, by_test (wide m) e)
    where
      by_test : (b : Bool) → cond b (Some m) None ≡ None → b ≡ false
      by_test true h = absurd (let z : ◌≡◌ {A = ℕ} 0 1 = cc in omega arith)
      by_test false h = refl
  better_none (Some k) m e = absurd (by_tests (wide m) (int_lt (w k) (w m)) e)
    where
      by_tests : (b c : Bool) → cond b (cond c (Some m) (Some k)) (Some k) ≢ None
      by_tests true true h = let z : ◌≡◌ {A = ℕ} 0 1 = cc in omega arith
      by_tests true false h = let z : ◌≡◌ {A = ℕ} 0 1 = cc in omega arith
      by_tests false c h = let z : ◌≡◌ {A = ℕ} 0 1 = cc in omega arith

  pub below_none : (m : ℕ) → best_below wide w m ≡ None → (j : ℕ) → j < m → wide j ≡ false
  below_none zero e j h = absurd (omega arith)
  below_none (suc m) e j h = let b = better_none (best_below wide w m) m e in below_more (λ i. wide i ≡ false) m (λ i l. below_none m b.0 i l) b.1 j (omega arith)

  -- the place that a scan finds is one of those before m, and wide
  pub found_wide : (m k : ℕ) → best_below wide w m ≡ Some k → (k < m) × (wide k ≡ true)
  found_wide zero k e = absurd (let z : ◌≡◌ {A = ℕ} 0 1 = cc in omega arith)
  found_wide (suc m) k e = (elim (best_below wide w m) as (λ o. best_below wide w m ≡ o → better wide w o m ≡ Some k → (k < suc m) × (wide k ≡ true)) [
    | None ↦ λ f h. by_last (wide m) refl h
    | Some p ↦ λ f h. let g = found_wide m p f in by_both (wide m) (int_lt (w p) (w m)) p refl g h
  ]) refl e
    where
      here : wide m ≡ true → m ≡ k → (k < suc m) × (wide k ≡ true)
      here t q = subst (λ (i : ℕ). (i < suc m) × (wide i ≡ true)) q (omega arith, t)

      before : (p : ℕ) → (p < m) × (wide p ≡ true) → p ≡ k → (k < suc m) × (wide k ≡ true)
      before p g q = subst (λ (i : ℕ). (i < suc m) × (wide i ≡ true)) q (omega arith, g.1)

      by_last : (b : Bool) → wide m ≡ b → cond b (Some m) None ≡ Some k → (k < suc m) × (wide k ≡ true)
      by_last true t h = here t (some_value h)
      by_last false t h = absurd (let z : ◌≡◌ {A = ℕ} 0 1 = cc in omega arith)

      by_both : (b c : Bool) (p : ℕ) → wide m ≡ b → (p < m) × (wide p ≡ true) → cond b (cond c (Some m) (Some p)) (Some p) ≡ Some k → (k < suc m) × (wide k ≡ true)
      by_both true true p t g h = here t (some_value h)
      by_both true false p t g h = before p g (some_value h)
      by_both false c p t g h = before p g (some_value h)

-- ---- the laws of the built rules
module _ (w : ℕ → ℤ) (t : Table) where
  pub place_below : (k : ℕ) → best_below (wide_at t) w (places_of t.size) ≡ Some k → WidePlace t k
  place_below k e = let g = found_wide (wide_at t) w (places_of t.size) k e in record { there = g.0; wide = g.1 }
