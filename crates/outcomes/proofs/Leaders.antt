-- The leading record, and what some or all records of a list have. Assumes nothing.
use Rattle.std.proofs.Common.{◌≡◌, ℕ, zero, suc, ◌+◌, ◌<◌, ◌≤◌, Bool, true, false, cond, ◌⊎◌, List, [], ◌∷◌, ◌++◌, length, get_or, take, drop, ℤ, ◌≤ℤ◌, sum_by, filter, refl, inl, inr, ⊎_elim, arith, below_more}
use lib.Signed.{lt_z}
use borrow.Author.Differences.{ints}
use Rattle.std.specs.List.{remove, AllByRecursion}
use Rattle.std.proofs.ByRecursion.{All-append, All-take, All-drop, All-from_get_or}
use Rattle.std.proofs.lemmas.List.Sums.{sum_by-cons}
use Rattle.outcomes.specs.declared.record.Record.{Record}
use Rattle.outcomes.specs.Waiting.{nothing, record_at, leading_below, leading_at, leading}

-- ---- some element has a property
abbrev pub Any : {X : Type 0} → (X → Type 0) → List X → Type 0
Any P [] = ⊥
Any P (x ∷ xs) = P x ⊎ Any P xs

pub any_left : {X : Type 0} (P : X → Type 0) (xs ys : List X) → Any P xs → Any P (xs ++ ys)
any_left P [] ys h = absurd h
any_left P (x ∷ xs) ys (inl h) = inl h
any_left P (x ∷ xs) ys (inr h) = inr (any_left P xs ys h)

pub any_right : {X : Type 0} (P : X → Type 0) (xs ys : List X) → Any P ys → Any P (xs ++ ys)
any_right P [] ys h = h
any_right P (x ∷ xs) ys h = inr (any_right P xs ys h)

-- it is the one that is taken out, or it stays
pub any_removed : {X : Type 0} (P : X → Type 0) (xs : List X) (i : ℕ) (d : X) → Any P xs → P (get_or xs i d) ⊎ Any P (remove xs i)
any_removed P [] i d h = absurd h
any_removed P (x ∷ xs) zero d (inl h) = inl h
any_removed P (x ∷ xs) zero d (inr h) = inr h
any_removed P (x ∷ xs) (suc i) d (inl h) = inr (inl h)
any_removed P (x ∷ xs) (suc i) d (inr h) = ⊎_elim (λ r. inl r) (λ r. inr (inr r)) (any_removed P xs i d h)

-- it passes the test, or it is an element that does not
pub any_kept : {X : Type 0} (test : X → Bool) (P Q : X → Type 0) (R : Type 0) → ((x : X) → Q x → P x → test x ≡ false → R) → (xs : List X) → AllByRecursion Q xs → Any P xs → Any P (filter test xs) ⊎ R
any_kept test P Q R f [] q h = absurd h
any_kept {X} test P Q R f (x ∷ xs) q h = by_test (test x) refl h (λ k. any_kept test P Q R f xs q.1 k)
  where
    by_test : (b : Bool) → test x ≡ b → P x ⊎ Any P xs → (Any P xs → Any P (filter test xs) ⊎ R) → Any P (cond b (x ∷ filter test xs) (filter test xs)) ⊎ R
    by_test true e (inl k) rest = inl (inl k)
    by_test true e (inr k) rest = ⊎_elim (λ r. inl (inr r)) (λ r. inr r) (rest k)
    by_test false e (inl k) rest = inr (f x q.0 k e)
    by_test false e (inr k) rest = rest k

pub any_pick : {X : Type 0} (P Q : X → Type 0) (R : Type 0) → ((x : X) → Q x → P x → R) → (xs : List X) → AllByRecursion Q xs → Any P xs → R
any_pick P Q R f [] q h = absurd h
any_pick P Q R f (x ∷ xs) q (inl h) = f x q.0 h
any_pick P Q R f (x ∷ xs) q (inr h) = any_pick P Q R f xs q.1 h

pub any_there : {X : Type 0} (P : X → Type 0) (xs : List X) → Any P xs → 0 < length xs
any_there P [] h = absurd h
any_there P (x ∷ xs) h = omega arith

pub all_removed : {X : Type 0} (P : X → Type 0) (xs : List X) (i : ℕ) → AllByRecursion P xs → AllByRecursion P (remove xs i)
all_removed P xs i h = All-append P (take i xs) (drop (suc i) xs) (All-take P i xs h) (All-drop P (suc i) xs h)

pub all_both : {X : Type 0} (P Q : X → Type 0) (xs : List X) → AllByRecursion P xs → AllByRecursion Q xs → AllByRecursion (λ x. P x × Q x) xs
all_both P Q [] h k = tt
all_both P Q (x ∷ xs) h k = ((h.0, k.0), all_both P Q xs h.1 k.1)

-- ---- sums
pub sum_removed : {X : Type 0} (f : X → ℕ) (xs : List X) (i : ℕ) (d : X) → i < length xs → sum_by f (remove xs i) + f (get_or xs i d) ≡ sum_by f xs
sum_removed f [] i d h = absurd (omega arith)
sum_removed f (x ∷ xs) zero d h = omega (arith, sum_by-cons f x xs)
sum_removed f (x ∷ xs) (suc i) d h =
    let rest = sum_removed f xs i d (omega arith) in
    omega (arith, sum_by-cons f x xs, sum_by-cons f x (remove xs i))

pub length-least : {X : Type 0} (f : X → ℕ) → ((x : X) → 1 ≤ f x) → (xs : List X) → length xs ≤ sum_by f xs
length-least f one [] = omega arith
length-least f one (x ∷ xs) = let rest = length-least f one xs in omega (arith, one x, sum_by-cons f x xs)

-- where the sum is not above the length every part is one
pub all_one : {X : Type 0} (f : X → ℕ) → ((x : X) → 1 ≤ f x) → (xs : List X) → sum_by f xs ≤ length xs → AllByRecursion (λ x. f x ≡ 1) xs
all_one f one [] h = tt
all_one f one (x ∷ xs) h =
    let least = length-least f one xs in
    let here : f x ≡ 1 = omega (arith, one x, sum_by-cons f x xs) in
    (here, all_one f one xs (omega (arith, one x, sum_by-cons f x xs)))

-- a filter takes at least as much from the sum as from the length
pub sum_kept : {X : Type 0} (f : X → ℕ) → ((x : X) → 1 ≤ f x) → (test : X → Bool) (xs : List X)
    → (sum_by f (filter test xs) + length xs ≤ sum_by f xs + length (filter test xs)) × (sum_by f (filter test xs) ≤ sum_by f xs)
sum_kept f one test [] = (omega arith, omega arith)
sum_kept f one test (x ∷ xs) = by_test (test x) (sum_kept f one test xs)
  where
    by_test : (b : Bool) → (sum_by f (filter test xs) + length xs ≤ sum_by f xs + length (filter test xs)) × (sum_by f (filter test xs) ≤ sum_by f xs)
        → (sum_by f (cond b (x ∷ filter test xs) (filter test xs)) + length (x ∷ xs) ≤ sum_by f (x ∷ xs) + length (cond b (x ∷ filter test xs) (filter test xs)))
        × (sum_by f (cond b (x ∷ filter test xs) (filter test xs)) ≤ sum_by f (x ∷ xs))
    by_test true h =
        let p = h.0 in
        let q = h.1 in
        (omega (arith, sum_by-cons f x xs, sum_by-cons f x (filter test xs)), omega (arith, sum_by-cons f x xs, sum_by-cons f x (filter test xs)))
    by_test false h =
        let p = h.0 in
        let q = h.1 in
        (omega (arith, one x, sum_by-cons f x xs), omega (arith, one x, sum_by-cons f x xs))

-- ---- the leading record
below_there : (ws : List Record) (m : ℕ) → 0 < m → leading_below ws m < m
below_there ws zero h = absurd (omega arith)
below_there ws (suc zero) h = by_test (lt_z (record_at ws 0).low (record_at ws 0).low)
  where
    by_test : (b : Bool) → cond b 0 0 < 1
    by_test true = omega arith
    by_test false = omega arith
below_there ws (suc (suc m)) h = by_test (lt_z (record_at ws (suc m)).low (record_at ws (leading_below ws (suc m))).low) (below_there ws (suc m) (omega arith))
  where
    by_test : (b : Bool) → leading_below ws (suc m) < suc m → cond b (suc m) (leading_below ws (suc m)) < suc (suc m)
    by_test true l = omega arith
    by_test false l = omega arith

lt_true : (a b : ℤ) → lt_z a b ≡ true → a ≤ℤ b
lt_true a b e = grind (arith, ints)

lt_false : (a b : ℤ) → lt_z a b ≡ false → b ≤ℤ a
lt_false a b e = grind (arith, ints)

below_least : (ws : List Record) (m : ℕ) → (k : ℕ) → k < m → (record_at ws (leading_below ws m)).low ≤ℤ (record_at ws k).low
below_least ws zero k h = absurd (omega arith)
below_least ws (suc m) k h = by_test (lt_z (record_at ws m).low (record_at ws (leading_below ws m)).low) refl (below_least ws m)
  where
    by_test : (b : Bool) → lt_z (record_at ws m).low (record_at ws (leading_below ws m)).low ≡ b → ((j : ℕ) → j < m → (record_at ws (leading_below ws m)).low ≤ℤ (record_at ws j).low)
        → (record_at ws (cond b m (leading_below ws m))).low ≤ℤ (record_at ws k).low
    by_test true e least = let t = lt_true (record_at ws m).low (record_at ws (leading_below ws m)).low e in
        below_more (λ j. (record_at ws m).low ≤ℤ (record_at ws j).low) m (λ j l. let s = least j l in omega (arith, ints)) (omega (arith, ints)) k (omega arith)
    by_test false e least = let t = lt_false (record_at ws m).low (record_at ws (leading_below ws m)).low e in
        below_more (λ j. (record_at ws (leading_below ws m)).low ≤ℤ (record_at ws j).low) m least t k (omega arith)

pub leading_there : (ws : List Record) → 0 < length ws → leading_at ws < length ws
unfolding leading_at
leading_there ws h = below_there ws (length ws) h

pub leading-least : (ws : List Record) → AllByRecursion (λ w. (leading ws).low ≤ℤ w.low) ws
unfolding leading_at
leading-least ws = All-from_get_or (λ w. (leading ws).low ≤ℤ w.low) ws nothing (λ k h. below_least ws (length ws) k h)
