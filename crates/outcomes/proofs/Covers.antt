-- A split loses no solution: one of the two boxes has a point system whose component is not greater. Assumes nothing.
-- A table's point systems are read as functions from places to numbers (`rows_by`). To put a number at one place of their rows is to change the function there (`put-rows`), so each system on the way from the low end to the high one is a point system of the box, and has one solution.
use Rattle.std.proofs.Common.{◌≡◌, ℕ, zero, suc, ◌+◌, ◌*◌, ◌/◌, ◌%◌, ◌^◌, ◌<◌, ◌≤◌, Bool, true, false, cond, eqb, ltb, ◌⊎◌, List, [], ◌∷◌, map, set, ℤ, pos, ◌*ℤ◌, ◌≤ℤ◌, ◌<ℤ◌, Ok, sym, refl, ap, ◌∙◌, subst, inl, inr, arith}
use borrow.Author.Differences.{ints}
use Rattle.std.proofs.lemmas.Nat.{div-add-mod', div-mul-add, div_below, mod_below, mul-le}
use Rattle.std.proofs.lemmas.List.FromFn.{get_or-map-range_with_len, length-map-range_with_len}
use Rattle.std.proofs.lemmas.Bool.{ltb-true, ltb-false, eqb-true, eqb-false, eq-eqb, ne_eqb}
use Rattle.std.specs.List.{range_with_len}
use Rattle.algebra.specs.Corner.{Place, coefficient, right_hand, replaced, put, InRow, Inside, times, Moving}
use Rattle.algebra.specs.Ends.{Ends}
use Rattle.algebra.specs.Order.{Within}
use Rattle.algebra.specs.Ring.{◌⊗◌, ◌⩵◌}
use Rattle.algebra.specs.Solving.{Row, Solution, Regular}
use Rattle.algebra.specs.Vectors.{at, scale}
use Rattle.algebra.proofs.Corner.{corner_low}
use Rattle.algebra.proofs.Order.{times_mono, times_strict}
use Rattle.algebra.proofs.Ring.{linear, solve}
use Rattle.systems.specs.Boxes.{Marks, bit, box_of}
use Rattle.systems.specs.Entries.{thin, is_wide}
use Rattle.systems.specs.Points.{Proper, PointIn, SolutionOf, point_rows}
use Rattle.systems.specs.Tables.{Table, places_of, ends_at}
use Rattle.enclosures.specs.Methods.{Solvable, Agreed}
use Rattle.enclosures.specs.Verdicts.{Verdict}
use Rattle.enclosures.specs.PointRows.{place_there}
use Rattle.partition.specs.Boxing.{MarksFit, Free, marked}
use Rattle.partition.proofs.Bits.{bit_kept}
use Rattle.partition.proofs.BoxLaws.{ends_boxed, fixed_once}

-- two tables from one, with the wide entry at place k thin at its low and at its high end and all others as they were
pub record SplitAt (b l h : Table) (k : ℕ) : Type 0 where
  pub low_size : l.size ≡ b.size
  pub high_size : h.size ≡ b.size
  pub there : k < places_of b.size
  pub wide : (ends_at b k).low <ℤ (ends_at b k).high
  pub low_end : ends_at l k ≡ thin (ends_at b k).low
  pub high_end : ends_at h k ≡ thin (ends_at b k).high
  pub low_others : (j : ℕ) → j < places_of b.size → (j ≡ k → ⊥) → ends_at l j ≡ ends_at b j
  pub high_others : (j : ℕ) → j < places_of b.size → (j ≡ k → ⊥) → ends_at h j ≡ ends_at b j

-- a point system inside u has a solution whose component c is at most p c / d
abbrev pub NotAbove : Table → ℕ → List ℤ → ℕ → Type 0
NotAbove u d p c = (Q : PointIn u) × (e : ℕ) × (q : List ℤ) × SolutionOf u Q e q × ((at q c *ℤ pos d) ≤ℤ (at p c *ℤ pos e))

-- ---- lists made by index
map_same : {A : Type 0} (r r' : ℕ → A) (a m : ℕ) → ((x : ℕ) → a ≤ x → x < a + m → r x ≡ r' x) → map r (range_with_len a m) ≡ map r' (range_with_len a m)
map_same r r' a zero h = refl
map_same r r' a (suc m) h = λ i. h a (omega arith) (omega arith) i ∷ map_same r r' (a + 1) m (λ x l u. h x (omega arith) (omega arith)) i

put_map : (s : Place) (z : ℤ) (r r' : ℕ → Row) (a m i p : ℕ) → a + i ≡ p → replaced s z (r p) ≡ r' p → ((x : ℕ) → x < a + m → (x ≡ p → ⊥) → r x ≡ r' x) → put i s z (map r (range_with_len a m)) ≡ map r' (range_with_len a m)
unfolding put
put_map s z r r' a zero i p e here others = refl
put_map s z r r' a (suc m) zero p e here others =
    let same : p ≡ a = omega arith in
    let first : replaced s z (r a) ≡ r' a = subst (λ (q : ℕ). replaced s z (r q) ≡ r' q) same here in
    λ t. first t ∷ map_same r r' (a + 1) m (λ x l u. others x (omega arith) (λ f. omega arith)) t
put_map s z r r' a (suc m) (suc i) p e here others =
    λ t. others a (omega arith) (λ f. omega arith) t ∷ put_map s z r r' (a + 1) m i p (omega arith) here (λ x u n. others x (omega arith) n) t

set-map : (z : ℤ) (r r' : ℕ → ℤ) (a m i p : ℕ) → a + i ≡ p → z ≡ r' p → ((x : ℕ) → x < a + m → (x ≡ p → ⊥) → r x ≡ r' x) → set (map r (range_with_len a m)) i z ≡ map r' (range_with_len a m)
set-map z r r' a zero i p e here others = refl
set-map z r r' a (suc m) zero p e here others =
    let same : p ≡ a = omega arith in
    let first : z ≡ r' a = subst (λ (q : ℕ). z ≡ r' q) same here in
    λ t. first t ∷ map_same r r' (a + 1) m (λ x l u. others x (omega arith) (λ f. omega arith)) t
set-map z r r' a (suc m) (suc i) p e here others =
    λ t. others a (omega arith) (λ f. omega arith) t ∷ set-map z r r' (a + 1) m i p (omega arith) here (λ x u n. others x (omega arith) n) t

inside_map : (s : Place) (r : ℕ → Row) (a m i : ℕ) → i < m → ((x : ℕ) → InRow s (r x)) → Inside i s (map r (range_with_len a m))
inside_map s r a zero i h all = absurd (omega arith)
inside_map s r a (suc m) zero h all = all a
inside_map s r a (suc m) (suc i) h all = inside_map s r (a + 1) m i (omega arith) all

-- ---- rows made by a function of the place
abbrev row_by : ℕ → (ℕ → ℤ) → ℕ → Row
row_by n f i = record { coefficients = map (λ j. f (i * (n + 1) + j)) (range_with_len 0 n); right = f (i * (n + 1) + n) }

abbrev rows_by : ℕ → (ℕ → ℤ) → List Row
rows_by n f = map (row_by n f) (range_with_len 0 n)

row_same : (n : ℕ) (f g : ℕ → ℤ) (i : ℕ) → ((j : ℕ) → j ≤ n → f (i * (n + 1) + j) ≡ g (i * (n + 1) + j)) → row_by n f i ≡ row_by n g i
row_same n f g i h = λ t. record {
  coefficients = map_same (λ j. f (i * (n + 1) + j)) (λ j. g (i * (n + 1) + j)) 0 n (λ j l u. h j (omega arith)) t;
  right = h n (omega arith) t;
}

rows_same : (n : ℕ) (f g : ℕ → ℤ) → ((k : ℕ) → k < places_of n → f k ≡ g k) → rows_by n f ≡ rows_by n g
rows_same n f g h = map_same (row_by n f) (row_by n g) 0 n (λ i l u. row_same n f g i (λ j v. h (i * (n + 1) + j) (place_there n i j (omega arith) v)))

-- ---- multiples
scale-map : (c : ℤ) (f : ℕ → ℤ) (ks : List ℕ) → scale c (map f ks) ≡ map (λ k. c *ℤ f k) ks
unfolding scale
scale-map c f [] = refl
scale-map c f (k ∷ ks) = ap (λ (z : List ℤ). (c *ℤ f k) ∷ z) (scale-map c f ks)

times-rows : (c : ℤ) (n : ℕ) (f : ℕ → ℤ) (is : List ℕ) → times c (map (row_by n f) is) ≡ map (row_by n (λ k. c *ℤ f k)) is
times-rows c n f [] = refl
times-rows c n f (i ∷ is) = λ t. record { coefficients = scale-map c (λ j. f (i * (n + 1) + j)) (range_with_len 0 n) t; right = c *ℤ f (i * (n + 1) + n) } ∷ times-rows c n f is t

-- ---- a place of the rows is a place of the table
record Spot (n j : ℕ) (s : Place) : Type 0 where
  in_row : (f : ℕ → ℤ) (i : ℕ) → InRow s (row_by n f i)
  there : j ≤ n
  puts : (f g : ℕ → ℤ) (z : ℤ) (i : ℕ) → z ≡ g (i * (n + 1) + j) → ((x : ℕ) → (x ≡ i * (n + 1) + j → ⊥) → f x ≡ g x) → replaced s z (row_by n f i) ≡ row_by n g i

spot_coefficient : (n j : ℕ) → j < n → Spot n j (coefficient j)
spot_coefficient n j h = record {
  in_row = λ f i. let l = length-map-range_with_len (λ x. f (i * (n + 1) + x)) 0 n in omega arith;
  there = omega arith;
  puts = λ f g z i here others t. record {
    coefficients = set-map z (λ x. f (i * (n + 1) + x)) (λ x. g (i * (n + 1) + x)) 0 n j j (omega arith) here (λ x u apart. others (i * (n + 1) + x) (λ e. apart (omega arith))) t;
    right = others (i * (n + 1) + n) (λ e. omega arith) t;
  };
}

spot_right : (n j : ℕ) → n ≡ j → Spot n j right_hand
spot_right n j same = record {
  in_row = λ f i. tt;
  there = omega arith;
  puts = λ f g z i here others t. record {
    coefficients = map_same (λ x. f (i * (n + 1) + x)) (λ x. g (i * (n + 1) + x)) 0 n (λ x l u. others (i * (n + 1) + x) (λ e. omega arith)) t;
    right = (here ∙ ap (λ (x : ℕ). g (i * (n + 1) + x)) (sym same)) t;
  };
}

same_row : (n i j x y : ℕ) → j ≤ n → y ≤ n → x * (n + 1) + y ≡ i * (n + 1) + j → x ≡ i
same_row n i j x y h u e = sym (div-mul-add x (n + 1) y (omega arith)) ∙ ap (λ (z : ℕ). z / (n + 1)) e ∙ div-mul-add i (n + 1) j (omega arith)

put-rows : (n i j : ℕ) (s : Place) → Spot n j s → (f g : ℕ → ℤ) (z : ℤ) → z ≡ g (i * (n + 1) + j) → ((x : ℕ) → (x ≡ i * (n + 1) + j → ⊥) → f x ≡ g x) → put i s z (rows_by n f) ≡ rows_by n g
put-rows n i j s spot f g z here others = put_map s z (row_by n f) (row_by n g) 0 n i i (omega arith) (spot.puts f g z i here others)
    (λ x u apart. row_same n f g x (λ y l. others (x * (n + 1) + y) (λ e. apart (same_row n i j x y spot.there l e))))

-- ---- one number changed
abbrev changed : ℕ → ℤ → (ℕ → ℤ) → ℕ → ℤ
changed k z f x = cond (eqb x k) z (f x)

changed_here : (k : ℕ) (z : ℤ) (f : ℕ → ℤ) → z ≡ changed k z f k
changed_here k z f = λ t. cond (sym (eq-eqb k k refl) t) z (f k)

changed_other : (k : ℕ) (z : ℤ) (f : ℕ → ℤ) (x : ℕ) → (x ≡ k → ⊥) → f x ≡ changed k z f x
changed_other k z f x apart = λ t. cond (sym (ne_eqb x k apart) t) z (f x)

-- what holds of the number at k, and of all others
changed_all : (P : ℕ → ℤ → Type 0) (k : ℕ) (z : ℤ) (f : ℕ → ℤ) (x : ℕ) → P k z → ((x ≡ k → ⊥) → P x (f x)) → P x (changed k z f x)
changed_all P k z f x here other = by_test (eqb x k) refl
  where
    by_test : (b : Bool) → eqb x k ≡ b → P x (cond b z (f x))
    by_test true e = subst (λ (y : ℕ). P y z) (sym (eqb-true x k e)) here
    by_test false e = other (eqb-false x k e)

mul-pos : (a b : ℕ) → 0 < a → 0 < b → 0 < a * b
mul-pos a b h u = mul-le 1 1 a b h u

-- ---- point systems by functions
abbrev InTable : Table → ℕ → (ℕ → ℤ) → Type 0
InTable t σ g = (k : ℕ) → k < places_of t.size → Within (pos σ *ℤ (ends_at t k).low) (pos σ *ℤ (ends_at t k).high) (g k)

numbers_at : (n : ℕ) (g : ℕ → ℤ) (k : ℕ) → k < n → at (map g (range_with_len 0 n)) k ≡ g k
numbers_at n g k h = get_or-map-range_with_len g 0 n k k (pos 0) h (omega arith)

abbrev point_of : (t : Table) (σ : ℕ) → 0 < σ → (g : ℕ → ℤ) → InTable t σ g → PointIn t
point_of t σ positive g inside = record {
  scale = σ;
  positive = positive;
  numbers = map g (range_with_len 0 (places_of t.size));
  inside = λ k h. subst (λ (x : ℤ). Within (pos σ *ℤ (ends_at t k).low) (pos σ *ℤ (ends_at t k).high) x) (sym (numbers_at (places_of t.size) g k h)) (inside k h);
}

point_rows_lem : (n m : ℕ) (g : ℕ → ℤ) → places_of n ≡ m → point_rows n (map g (range_with_len 0 m)) ≡ rows_by n g
point_rows_lem n m g e = rows_same n (at (map g (range_with_len 0 m))) g (λ k h. numbers_at m g k (subst (λ (z : ℕ). k < z) e h))

solution_by : (t : Table) (n : ℕ) → t.size ≡ n → (g : ℕ → ℤ) (d : ℕ) (p : List ℤ) → Solution n (rows_by n g) d p → Solution t.size (point_rows t.size (map g (range_with_len 0 (places_of t.size)))) d p
solution_by t n same g d p s =
    subst (λ (rows : List Row). Solution t.size rows d p) (sym (point_rows_lem t.size (places_of t.size) g refl)) (subst (λ (z : ℕ). Solution z (rows_by z g) d p) (sym same) s)

by_solution : (n : ℕ) (g : ℕ → ℤ) (d : ℕ) (p : List ℤ) → Solution n (point_rows n (map g (range_with_len 0 (places_of n)))) d p → Solution n (rows_by n g) d p
by_solution n g d p s = subst (λ (rows : List Row). Solution n rows d p) (point_rows_lem n (places_of n) g refl) s

module _ (v : Table → Verdict) (solvable : Solvable v) (agreed : Agreed v) (b l h : Table) (k : ℕ) (row : List Ends) (proper : Proper b) (ok : v b ≡ Ok row) (split : SplitAt b l h k) (P : PointIn b) (d : ℕ) (p : List ℤ) (s : SolutionOf b P d p) (c : ℕ) where
  abbrev n : ℕ
  n = b.size

  abbrev f : ℕ → ℤ
  f = at P.numbers

  abbrev lo : ℤ
  lo = pos P.scale *ℤ (ends_at b k).low

  abbrev hi : ℤ
  hi = pos P.scale *ℤ (ends_at b k).high

  -- every system inside the box has one solution
  regular_by : (σ : ℕ) → 0 < σ → (g : ℕ → ℤ) → InTable b σ g → Regular n (rows_by n g)
  regular_by σ positive g inside =
      let Q = point_of b σ positive g inside in
      subst (λ (rows : List Row). Regular n rows) (point_rows_lem n (places_of n) g refl)
      (record { some = solvable b row proper ok Q; unique = agreed b row proper ok Q })

  -- a number between the ends, at a scale K
  moved_inside : (K : ℕ) (z : ℤ) → Within (pos K *ℤ lo) (pos K *ℤ hi) z → InTable b (K * P.scale) (changed k z (λ x. pos K *ℤ f x))
  moved_inside K z w x there = changed_all (λ y a. Within (pos (K * P.scale) *ℤ (ends_at b y).low) (pos (K * P.scale) *ℤ (ends_at b y).high) a) k z (λ x. pos K *ℤ f x) x
      (let low = w.low in
      let high = w.high in
      let el = solve 3 (λ K s e. K ⊗ (s ⊗ e) ⩵ (K ⊗ s) ⊗ e) refl (pos K) (pos P.scale) (ends_at b k).low in
      let eh = solve 3 (λ K s e. K ⊗ (s ⊗ e) ⩵ (K ⊗ s) ⊗ e) refl (pos K) (pos P.scale) (ends_at b k).high in
      record { low = omega (arith, linear); high = omega (arith, linear) })
      (λ apart.
      let w' = P.inside x there in
      let low = times_mono (pos K) (pos P.scale *ℤ (ends_at b x).low) (f x) (omega (arith, linear)) w'.low in
      let high = times_mono (pos K) (f x) (pos P.scale *ℤ (ends_at b x).high) (omega (arith, linear)) w'.high in
      let el = solve 3 (λ K s e. K ⊗ (s ⊗ e) ⩵ (K ⊗ s) ⊗ e) refl (pos K) (pos P.scale) (ends_at b x).low in
      let eh = solve 3 (λ K s e. K ⊗ (s ⊗ e) ⩵ (K ⊗ s) ⊗ e) refl (pos K) (pos P.scale) (ends_at b x).high in
      record { low = omega (arith, linear); high = omega (arith, linear) })

  -- the same at the scale of the box's system
  end_inside : (z : ℤ) → Within lo hi z → InTable b P.scale (changed k z f)
  end_inside z w x there = changed_all (λ y a. Within (pos P.scale *ℤ (ends_at b y).low) (pos P.scale *ℤ (ends_at b y).high) a) k z f x w (λ apart. P.inside x there)

  -- a table that is thin at place k, and is the box elsewhere
  thin_inside : (u : Table) (a : ℤ) → u.size ≡ n → ends_at u k ≡ thin a → ((j : ℕ) → j < places_of n → (j ≡ k → ⊥) → ends_at u j ≡ ends_at b j) → InTable u P.scale (changed k (pos P.scale *ℤ a) f)
  thin_inside u a same here others x there = changed_all (λ y z. Within (pos P.scale *ℤ (ends_at u y).low) (pos P.scale *ℤ (ends_at u y).high) z) k (pos P.scale *ℤ a) f x
      (subst (λ (e : Ends). Within (pos P.scale *ℤ e.low) (pos P.scale *ℤ e.high) (pos P.scale *ℤ a)) (sym here) (record { low = omega (arith, linear); high = omega (arith, linear) }))
      (λ apart. let there' : x < places_of n = subst (λ (z : ℕ). x < places_of z) same there in
      subst (λ (e : Ends). Within (pos P.scale *ℤ e.low) (pos P.scale *ℤ e.high) (f x)) (sym (others x there' apart)) (P.inside x there'))

  not_above_lem : (u : Table) (a : ℤ) → u.size ≡ n → ends_at u k ≡ thin a → ((j : ℕ) → j < places_of n → (j ≡ k → ⊥) → ends_at u j ≡ ends_at b j)
      → (e : ℕ) (q : List ℤ) → Solution n (rows_by n (changed k (pos P.scale *ℤ a) f)) e q → (at q c *ℤ pos d) ≤ℤ (at p c *ℤ pos e) → NotAbove u d p c
  not_above_lem u a same here others e q solved least =
      let g = changed k (pos P.scale *ℤ a) f in
      (point_of u P.scale P.positive g (thin_inside u a same here others), e, q, solution_by u n same g e q solved, least)

  module _ (i j : ℕ) (place : Place) (spot : Spot n j place) (is : i * (n + 1) + j ≡ k) (row_there : i < n) where
    put_changed : (z : ℤ) (g : ℕ → ℤ) → put i place z (rows_by n g) ≡ rows_by n (changed k z g)
    put_changed z g = put-rows n i j place spot g (changed k z g) z (changed_here k z g ∙ ap (changed k z g) (sym is)) (λ x apart. changed_other k z g x (λ e. apart (e ∙ sym is)))

    put_same : put i place (f k) (rows_by n f) ≡ rows_by n f
    put_same = put-rows n i j place spot f f (f k) (ap f (sym is)) (λ x apart. refl)

    strict : lo <ℤ hi
    strict = let positive = P.positive in times_strict (pos P.scale) (ends_at b k).low (ends_at b k).high (omega (arith, linear)) split.wide

    moving : Moving n (rows_by n f) i place lo hi
    moving = record {
      inside = inside_map place (row_by n f) 0 n i row_there (spot.in_row f);
      proper = strict;
      stays = λ K z positive w.
          subst (λ (rows : List Row). Regular n rows) (sym (ap (put i place z) (times-rows (pos K) n f (range_with_len 0 n)) ∙ put_changed z (λ x. pos K *ℤ f x)))
          (regular_by (K * P.scale) (mul-pos K P.scale positive P.positive) (changed k z (λ x. pos K *ℤ f x)) (moved_inside K z w));
    }

    end_solved : (z : ℤ) → Within lo hi z → (e : ℕ) × (q : List ℤ) × Solution n (rows_by n (changed k z f)) e q
    end_solved z w = (regular_by P.scale P.positive (changed k z f) (end_inside z w)).some

    put_solved : (z : ℤ) (e : ℕ) (q : List ℤ) → Solution n (rows_by n (changed k z f)) e q → Solution n (put i place z (rows_by n f)) e q
    put_solved z e q solved = subst (λ (rows : List Row). Solution n rows e q) (sym (put_changed z f)) solved

    covered : NotAbove l d p c ⊎ NotAbove h d p c
    covered =
        let above = strict in
        let L = end_solved lo (record { low = omega (arith, linear); high = omega (arith, linear) }) in
        let H = end_solved hi (record { low = omega (arith, linear); high = omega (arith, linear) }) in
        elim (corner_low moving (P.inside k split.there) (put_solved lo L.0 L.1 L.2) (subst (λ (rows : List Row). Solution n rows d p) (sym put_same) s) (put_solved hi H.0 H.1 H.2) c) [
          | inl least ↦ inl (not_above_lem l (ends_at b k).low split.low_size split.low_end split.low_others L.0 L.1 L.2 least)
          | inr least ↦ inr (not_above_lem h (ends_at b k).high split.high_size split.high_end split.high_others H.0 H.1 H.2 least)
        ]

  covered_somewhere : NotAbove l d p c ⊎ NotAbove h d p c
  covered_somewhere = by_place (ltb j n) refl
    where
      i : ℕ
      i = k / (n + 1)

      j : ℕ
      j = k % (n + 1)

      small : j < n + 1
      small = mod_below k (n + 1) (omega arith)

      row_there : i < n
      row_there = div_below k (n + 1) n (omega arith) split.there

      by_place : (t : Bool) → ltb j n ≡ t → NotAbove l d p c ⊎ NotAbove h d p c
      by_place true e = covered i j (coefficient j) (spot_coefficient n j (ltb-true j n e)) (div-add-mod' k (n + 1)) row_there
      by_place false e = let past = ltb-false j n e in covered i j right_hand (spot_right n j (omega arith)) (div-add-mod' k (n + 1)) row_there

pub covers : (v : Table → Verdict) → Solvable v → Agreed v → (b l h : Table) (k : ℕ) (row : List Ends) → Proper b → v b ≡ Ok row → SplitAt b l h k
    → (P : PointIn b) (d : ℕ) (p : List ℤ) → SolutionOf b P d p → (c : ℕ) → NotAbove l d p c ⊎ NotAbove h d p c
covers v solvable agreed b l h k row proper ok split P d p s c = covered_somewhere v solvable agreed b l h k row proper ok split P d p s c

-- ---- the two boxes of a place that may be fixed
box_size : (m : Marks) (t : Table) → (box_of m t).size ≡ t.size
unfolding box_of
box_size m t = refl

wide_ends : (e : Ends) → is_wide e ≡ true → e.low <ℤ e.high
unfolding is_wide
wide_ends e w = grind (arith, ints)

module _ (t : Table) (m : Marks) (k : ℕ) (proper : Proper t) (fit : MarksFit m t) (free : Free m t k) where
  open_end : ends_at (box_of m t) k ≡ ends_at t k
  open_end = ends_boxed m t k free.there ∙ (λ i. cond (free.unfixed i) (thin (cond (bit m.ends k) (ends_at t k).high (ends_at t k).low)) (ends_at t k))

  ends_kept : (high : Bool) (j : ℕ) → (j ≡ k → ⊥) → bit (m.ends + cond high (2 ^ k) 0) j ≡ bit m.ends j
  ends_kept true j apart = bit_kept m.ends k j free.no_end apart
  ends_kept false j apart = let z : m.ends + 0 ≡ m.ends = omega arith in ap (λ (n : ℕ). bit n j) z

  others_kept : (high : Bool) (j : ℕ) → j < places_of (box_of m t).size → (j ≡ k → ⊥) → ends_at (box_of (marked m k high) t) j ≡ ends_at (box_of m t) j
  others_kept high j h apart =
      let there : j < places_of t.size = subst (λ (n : ℕ). j < places_of n) (box_size m t) h in
      ends_boxed (marked m k high) t j there
      ∙ (λ i. cond (bit_kept m.fixed k j free.unfixed apart i) (thin (cond (ends_kept high j apart i) (ends_at t j).high (ends_at t j).low)) (ends_at t j))
      ∙ sym (ends_boxed m t j there)

  split_there : SplitAt (box_of m t) (box_of (marked m k false) t) (box_of (marked m k true) t) k
  split_there = record {
    low_size = box_size (marked m k false) t ∙ sym (box_size m t);
    high_size = box_size (marked m k true) t ∙ sym (box_size m t);
    there = subst (λ (n : ℕ). k < places_of n) (sym (box_size m t)) free.there;
    wide = subst (λ (e : Ends). e.low <ℤ e.high) (sym open_end) (wide_ends (ends_at t k) free.wide);
    low_end = (fixed_once t m k false proper fit free).end ∙ ap (λ (e : Ends). thin e.low) (sym open_end);
    high_end = (fixed_once t m k true proper fit free).end ∙ ap (λ (e : Ends). thin e.high) (sym open_end);
    low_others = others_kept false;
    high_others = others_kept true;
  }

pub split_box : (t : Table) (m : Marks) (k : ℕ) → Proper t → MarksFit m t → Free m t k → SplitAt (box_of m t) (box_of (marked m k false) t) (box_of (marked m k true) t) k
split_box t m k proper fit free = split_there t m k proper fit free
