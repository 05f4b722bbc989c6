-- The greatest of the wide places, and a scan for it. Assumes nothing.
use Rattle.std.specs.Prelude.{◌≡◌, ℕ, zero, suc, ◌<◌, Bool, true, false, cond, ℤ, ◌≤ℤ◌, ◌<ℤ◌, Some, None, Option, int_lt, refl}
use Rattle.std.specs.Option.{option_map}
use Rattle.std.proofs.Common.{arith, ap, sym, subst, below_more}
use Rattle.std.proofs.lemmas.Int.{ints}
use Rattle.partition.specs.declared.rules.Best.{Best}
use Rattle.partition.specs.Choosing.{Greatest, better, best_below}
use Rattle.partition.specs.Scanning.{heavier_of, Keeps}
use Rattle.partition.specs.Scans.{some_value, below_none}

lt_true : (a b : ℤ) → int_lt a b ≡ true → a <ℤ b
lt_true a b e = grind (arith, ints)

lt_false : (a b : ℤ) → int_lt a b ≡ false → b ≤ℤ a
lt_false a b e = grind (arith, ints)

module _ (wide : ℕ → Bool) (w : ℕ → ℤ) where
  -- one more place: the greatest of those before it, or none, and whether it is wide and outweighs that
  first_wide : (m : ℕ) → wide m ≡ true → ((j : ℕ) → j < m → wide j ≡ false) → Greatest wide w (suc m) m
  first_wide m h none = record {
    there = omega arith;
    chosen = h;
    most = λ j l q. below_more (λ i. wide i ≡ true → w i ≤ℤ w m) m (λ i k r. absurd (let t = none i k in let z : ◌≡◌ {A = ℕ} 0 1 = cc in omega arith)) (λ r. omega (arith, ints)) j (omega arith) q;
    first = λ j l q. absurd (let t = none j l in let z : ◌≡◌ {A = ℕ} 0 1 = cc in omega arith);
  }

  outweighs : (m k : ℕ) → wide m ≡ true → w k <ℤ w m → Greatest wide w m k → Greatest wide w (suc m) m
  outweighs m k h lt g = record {
    there = omega arith;
    chosen = h;
    most = λ j l q. below_more (λ i. wide i ≡ true → w i ≤ℤ w m) m (λ i n r. let t = g.most i n r in omega (arith, ints)) (λ r. omega (arith, ints)) j (omega arith) q;
    first = λ j l q. let t = g.most j l q in omega (arith, ints);
  }

  stays : (m k : ℕ) → (wide m ≡ true → w m ≤ℤ w k) → Greatest wide w m k → Greatest wide w (suc m) k
  stays m k h g = record {
    there = let t = g.there in omega arith;
    chosen = g.chosen;
    most = λ j l q. below_more (λ i. wide i ≡ true → w i ≤ℤ w k) m (λ i n r. g.most i n r) h j (omega arith) q;
    first = g.first;
  }

  pub greatest_below : (m k : ℕ) → best_below wide w m ≡ Some k → Greatest wide w m k
  greatest_below zero k e = absurd (let z : ◌≡◌ {A = ℕ} 0 1 = cc in omega arith)
  greatest_below (suc m) k e = (elim (best_below wide w m) as (λ o. best_below wide w m ≡ o → better wide w o m ≡ Some k → Greatest wide w (suc m) k) [
    | None ↦ λ f h. (elim (wide m) as (λ b. wide m ≡ b → cond b (Some m) None ≡ Some k → Greatest wide w (suc m) k) [
      | true ↦ λ t q. subst (Greatest wide w (suc m)) (some_value q) (first_wide m t (below_none wide w m f))
      | false ↦ λ t q. absurd (let z : ◌≡◌ {A = ℕ} 0 1 = cc in omega arith)
    ]) refl h
    | Some p ↦ λ f h. let g = greatest_below m p f in (elim (wide m) as (λ b. wide m ≡ b → cond b (cond (int_lt (w p) (w m)) (Some m) (Some p)) (Some p) ≡ Some k → Greatest wide w (suc m) k) [
      | true ↦ λ t q. (elim (int_lt (w p) (w m)) as (λ c. int_lt (w p) (w m) ≡ c → cond c (Some m) (Some p) ≡ Some k → Greatest wide w (suc m) k) [
        | true ↦ λ u r. subst (Greatest wide w (suc m)) (some_value r) (outweighs m p t (lt_true (w p) (w m) u) g)
        | false ↦ λ u r. subst (Greatest wide w (suc m)) (some_value r) (stays m p (λ v. lt_false (w p) (w m) u) g)
      ]) refl q
      | false ↦ λ t q. subst (Greatest wide w (suc m)) (some_value q) (stays m p (λ v. absurd (let z : ◌≡◌ {A = ℕ} 0 1 = cc in omega arith)) g)
    ]) refl h
  ]) refl e

  -- a turn of the scan
  pub keeps_wide : (best : Option Best) (o : Option ℕ) (m : ℕ) (v : ℤ) → wide m ≡ true → v ≡ w m → Keeps w best o → Keeps w (heavier_of best m v) (better wide w o m)
  keeps_wide None None m v h e k = rw h (refl, e)
  keeps_wide None (Some p) m v h e k = absurd k
  keeps_wide (Some b) None m v h e k = absurd k
  keeps_wide (Some b) (Some p) m v h e k = rw h (by_test (int_lt (w p) (w m)) (int_lt b.weight v) (λ i. int_lt (sym k.1 i) (sym e i)))
    where
      by_test : (c d : Bool) → c ≡ d → Keeps w (cond d (Some (record { place = m; weight = v })) (Some b)) (cond c (Some m) (Some p))
      by_test true true q = (refl, e)
      by_test true false q = absurd (let z : ◌≡◌ {A = ℕ} 0 1 = cc in omega arith)
      by_test false true q = absurd (let z : ◌≡◌ {A = ℕ} 0 1 = cc in omega arith)
      by_test false false q = k

  pub keeps_thin : (best : Option Best) (o : Option ℕ) (m : ℕ) → wide m ≡ false → Keeps w best o → Keeps w best (better wide w o m)
  keeps_thin None None m h k = rw h tt
  keeps_thin None (Some p) m h k = absurd k
  keeps_thin (Some b) None m h k = absurd k
  keeps_thin (Some b) (Some p) m h k = rw h k

  -- the place that a scan kept at its end
  pub kept_place : (best : Option Best) (o : Option ℕ) → Keeps w best o → option_map (λ b. b.place) best ≡ o
  kept_place None None k = refl
  kept_place None (Some p) k = absurd k
  kept_place (Some b) None k = absurd k
  kept_place (Some b) (Some p) k = ap Some k.0
