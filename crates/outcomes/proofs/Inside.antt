-- Point systems inside boxes, midpoints and corners. Assumes nothing.
use Rattle.std.proofs.Common.{◌≡◌, ℕ, zero, suc, ◌+◌, ◌/◌, ◌%◌, ◌^◌, ◌<◌, ◌≤◌, Bool, true, false, cond, eqb, ltb, ◌⊎◌, List, [], ◌∷◌, map, length, get_or, ℤ, pos, ◌+ℤ◌, neg_ℤ, ◌≤ℤ◌, count_by, sym, refl, ap, ◌∙◌, subst, inl, inr, arith, pow_pos}
use lib.ListN.{length-map}
use borrow.Author.Differences.{ints}
use Rattle.std.proofs.lemmas.Nat.{div_below}
use Rattle.std.proofs.lemmas.List.FromFn.{length-map-range_with_len}
use Rattle.std.proofs.lemmas.List.{get_or_past}
use Rattle.std.proofs.lemmas.List.Sums.{sum_by-cons}
use Rattle.std.proofs.lemmas.Bool.{ltb-true, ltb-false, both_ways}
use Rattle.algebra.specs.Ends.{Ends, Ordered, Included, from_to}
use Rattle.algebra.specs.Order.{floor_div}
use Rattle.algebra.specs.Ring.{◌⊕◌, ◌⊗◌, lit, ◌⩵◌}
use Rattle.algebra.specs.Solving.{Solution}
use Rattle.algebra.specs.Vectors.{at}
use Rattle.algebra.proofs.Order.{times_mono, floor_div_low, floor_div_best}
use Rattle.algebra.proofs.Ring.{linear, solve, one-*ℤ}
use Rattle.systems.specs.Boxes.{Marks, bit, box_entry, box_of}
use Rattle.systems.specs.Entries.{thin, is_wide, middle}
use Rattle.systems.specs.Points.{Proper, PointIn, SolutionOf, point_rows}
use Rattle.systems.specs.Tables.{Table, Narrower, Corner, places_of, ends_at, wide_entries, midpoint_of}
use Rattle.partition.specs.Boxing.{MarksFit, Free}
use Rattle.partition.specs.Choosing.{NoneWide, WidePlace}
use Rattle.partition.proofs.BoxLaws.{ends_boxed, box_narrower}

-- ---- entries that are as a proper table has them
record Good (e : Ends) : Type 0 where
  ordered : Ordered e
  above : neg_ℤ (pos 65536) ≤ℤ e.low
  below : e.high ≤ℤ pos 65536

good_zero : Good (thin (pos 0))
good_zero = record { ordered = omega (arith, ints); above = omega (arith, ints); below = omega (arith, ints) }

good_at : (t : Table) → Proper t → (k : ℕ) → Good (ends_at t k)
good_at t proper k = record { ordered = proper.ordered k; above = proper.above k; below = proper.below k }

good_inside : (x y : Ends) → Ordered x → Included x y → Good y → Good x
good_inside x y o i g =
    let a = i.from in
    let b = i.to in
    let c = g.above in
    let d = g.below in
    record { ordered = o; above = omega (arith, ints); below = omega (arith, ints) }

proper_from : (u : Table) → 1 ≤ u.size → u.size ≤ 6 → length u.entries ≡ places_of u.size → ((k : ℕ) → Good (ends_at u k)) → Proper u
proper_from u some few complete good = record {
  some = some;
  few = few;
  complete = complete;
  ordered = λ k. (good k).ordered;
  above = λ k. (good k).above;
  below = λ k. (good k).below;
}

-- ---- boxes
box_size : (m : Marks) (t : Table) → (box_of m t).size ≡ t.size
unfolding box_of
box_size m t = refl

box-length : (m : Marks) (t : Table) → length (box_of m t).entries ≡ places_of t.size
unfolding box_of
box-length m t = length-map-range_with_len (box_entry m t) 0 (places_of t.size)

entry_ordered : (m : Marks) (t : Table) (k : ℕ) → Ordered (ends_at t k) → Ordered (box_entry m t k)
entry_ordered m t k o = by_bit (bit m.fixed k)
  where
    by_bit : (b : Bool) → Ordered (cond b (thin (cond (bit m.ends k) (ends_at t k).high (ends_at t k).low)) (ends_at t k))
    by_bit true = omega (arith, ints)
    by_bit false = o

box_good : (t : Table) (m : Marks) → Proper t → (k : ℕ) → Good (ends_at (box_of m t) k)
box_good t m proper k = by_place (ltb k (places_of t.size)) refl
  where
    by_place : (b : Bool) → ltb k (places_of t.size) ≡ b → Good (ends_at (box_of m t) k)
    by_place true e =
        let there = ltb-true k (places_of t.size) e in
        good_inside (ends_at (box_of m t) k) (ends_at t k) (subst (λ (x : Ends). Ordered x) (sym (ends_boxed m t k there)) (entry_ordered m t k (proper.ordered k))) ((box_narrower t m proper).within k there) (good_at t proper k)
    by_place false e =
        let past = ltb-false k (places_of t.size) e in
        subst (λ (x : Ends). Good x) (sym (get_or_past (box_of m t).entries k (thin (pos 0)) (omega (arith, box-length m t)))) good_zero

pub box_proper : (t : Table) (m : Marks) → Proper t → Proper (box_of m t)
box_proper t m proper = proper_from (box_of m t)
    (subst (λ (n : ℕ). 1 ≤ n) (sym (box_size m t)) proper.some)
    (subst (λ (n : ℕ). n ≤ 6) (sym (box_size m t)) proper.few)
    (box-length m t ∙ ap places_of (sym (box_size m t)))
    (box_good t m proper)

-- ---- midpoints
middle-at : (es : List Ends) (k : ℕ) → get_or (map middle es) k (thin (pos 0)) ≡ middle (get_or es k (thin (pos 0)))
unfolding middle floor_div
middle-at [] k = refl
middle-at (e ∷ es) zero = refl
middle-at (e ∷ es) (suc k) = middle-at es k

middle_ends : (t : Table) (k : ℕ) → ends_at (midpoint_of t) k ≡ middle (ends_at t k)
unfolding midpoint_of
middle_ends t k = middle-at t.entries k

middle_ordered : (e : Ends) → Ordered (middle e)
unfolding middle
middle_ordered e = omega (arith, ints)

middle-included : (e : Ends) → Ordered e → Included (middle e) e
unfolding middle
middle-included e o =
    let z = e.low +ℤ e.high in
    let f = floor_div z 2 in
    let low = floor_div_low z 2 (omega arith) in
    let twice_low = solve 1 (λ x. lit (pos 2) ⊗ x ⩵ x ⊕ x) refl e.low in
    let twice_high = solve 1 (λ x. lit (pos 2) ⊗ x ⩵ x ⊕ x) refl f in
    let best = floor_div_best z 2 e.low (omega arith) (omega (arith, linear)) in
    record { from = best; to = omega (arith, linear) }

middle_inside : (t : Table) → Proper t → (k : ℕ) → Included (ends_at (midpoint_of t) k) (ends_at t k)
middle_inside t proper k = subst (λ (x : Ends). Included x (ends_at t k)) (sym (middle_ends t k)) (middle-included (ends_at t k) (proper.ordered k))

midpoint_good : (t : Table) → Proper t → (k : ℕ) → Good (ends_at (midpoint_of t) k)
midpoint_good t proper k = good_inside (ends_at (midpoint_of t) k) (ends_at t k) (subst (λ (x : Ends). Ordered x) (sym (middle_ends t k)) (middle_ordered (ends_at t k))) (middle_inside t proper k) (good_at t proper k)

midpoint_size : (t : Table) → (midpoint_of t).size ≡ t.size
unfolding midpoint_of
midpoint_size t = refl

midpoint_length : (t : Table) → length (midpoint_of t).entries ≡ length t.entries
unfolding midpoint_of
midpoint_length t = length-map t.entries middle

pub midpoint_proper : (t : Table) → Proper t → Proper (midpoint_of t)
midpoint_proper t proper = proper_from (midpoint_of t)
    (subst (λ (n : ℕ). 1 ≤ n) (sym (midpoint_size t)) proper.some)
    (subst (λ (n : ℕ). n ≤ 6) (sym (midpoint_size t)) proper.few)
    (midpoint_length t ∙ proper.complete ∙ ap places_of (sym (midpoint_size t)))
    (midpoint_good t proper)

pub midpoint_narrower : (t : Table) → Proper t → Narrower (midpoint_of t) t
midpoint_narrower t proper = record { same_size = midpoint_size t; within = λ k h. middle_inside t proper k }

-- ---- point systems
-- a point system inside a narrower table is one inside the wider one, with the same solutions
pub widened : (u t : Table) → Narrower u t → (P : PointIn u) (d : ℕ) (p : List ℤ) → SolutionOf u P d p → (Q : PointIn t) × SolutionOf t Q d p
widened u t n P d p s = (
  record {
    scale = P.scale;
    positive = P.positive;
    numbers = P.numbers;
    inside = λ k h.
        let w = P.inside k (subst (λ (z : ℕ). k < places_of z) (sym n.same_size) h) in
        let from_low = w.low in
        let from_high = w.high in
        let i = n.within k h in
        let low = times_mono (pos P.scale) (ends_at t k).low (ends_at u k).low (omega (arith, linear)) i.from in
        let high = times_mono (pos P.scale) (ends_at u k).high (ends_at t k).high (omega (arith, linear)) i.to in
        record { low = omega (arith, linear); high = omega (arith, linear) };
  },
  subst (λ (z : ℕ). Solution z (point_rows z P.numbers) d p) n.same_size s,
)

lows_at : (es : List Ends) (k : ℕ) → at (map (λ (e : Ends). e.low) es) k ≡ (get_or es k (thin (pos 0))).low
lows_at [] k = refl
lows_at (e ∷ es) zero = refl
lows_at (e ∷ es) (suc k) = lows_at es k

-- the low ends at scale 1
pub some_point : (t : Table) → Proper t → PointIn t
some_point t proper = record {
  scale = 1;
  positive = omega arith;
  numbers = map (λ (e : Ends). e.low) t.entries;
  inside = λ k h.
      let is = lows_at t.entries k in
      let o = proper.ordered k in
      let a = one-*ℤ (ends_at t k).low in
      let b = one-*ℤ (ends_at t k).high in
      record { low = omega (arith, linear); high = omega (arith, linear) };
}

pub narrower_twice : (u t s : Table) → Narrower u t → Narrower t s → Narrower u s
narrower_twice u t s a b = record {
  same_size = a.same_size ∙ b.same_size;
  within = λ k h.
      let i = a.within k (subst (λ (z : ℕ). k < places_of z) (sym b.same_size) h) in
      let j = b.within k h in
      let p = i.from in
      let q = i.to in
      let r = j.from in
      let v = j.to in
      record { from = omega (arith, ints); to = omega (arith, ints) };
}

-- ---- marks
no_bit : (k : ℕ) → bit 0 k ≡ false
no_bit k =
    let room = pow_pos k in
    let small = div_below 0 (2 ^ k) 1 room (omega arith) in
    let none : 0 / 2 ^ k ≡ 0 = omega arith in
    ap (λ (z : ℕ). eqb (z % 2) 1) none

pub same_box : (t : Table) (m : Marks) → Proper t → m.fixed ≡ 0 → Narrower t (box_of m t)
same_box t m proper none = record {
  same_size = sym (box_size m t);
  within = λ k h.
      let there : k < places_of t.size = subst (λ (z : ℕ). k < places_of z) (box_size m t) h in
      let free : bit m.fixed k ≡ false = ap (λ (z : ℕ). bit z k) none ∙ no_bit k in
      let open_entry : box_entry m t k ≡ ends_at t k = λ i. cond (free i) (thin (cond (bit m.ends k) (ends_at t k).high (ends_at t k).low)) (ends_at t k) in
      subst (λ (x : Ends). Included (ends_at t k) x) (sym (ends_boxed m t k there ∙ open_entry)) (record { from = omega (arith, ints); to = omega (arith, ints) });
}

-- ---- counts
count_cons : {A : Type 0} (p : A → Bool) (x : A) (xs : List A) → count_by p (x ∷ xs) ≡ cond (p x) 1 0 + count_by p xs
count_cons p x xs = sum_by-cons (λ y. cond (p y) 1 0) x xs

one_false : (b : Bool) → ◌≡◌ {A = ℕ} (cond b 1 0) 0 → b ≡ false
one_false true h = absurd (omega arith)
one_false false h = refl

none_counted : {A : Type 0} (p : A → Bool) (xs : List A) (d : A) → count_by p xs ≡ 0 → (k : ℕ) → k < length xs → p (get_or xs k d) ≡ false
none_counted p [] d h k l = absurd (omega arith)
none_counted p (x ∷ xs) d h zero l = one_false (p x) (omega (arith, count_cons p x xs))
none_counted p (x ∷ xs) d h (suc k) l = none_counted p xs d (omega (arith, count_cons p x xs)) k (omega arith)

count_none : {A : Type 0} (p : A → Bool) (xs : List A) (d : A) → ((k : ℕ) → k < length xs → p (get_or xs k d) ≡ false) → count_by p xs ≡ 0
count_none p [] d h = refl
count_none p (x ∷ xs) d h =
    let here : ◌≡◌ {A = ℕ} (cond (p x) 1 0) 0 = ap (λ (b : Bool). cond b 1 0) (h 0 (omega arith)) in
    let rest = count_none p xs d (λ k l. h (suc k) (omega arith)) in
    omega (arith, count_cons p x xs)

not_wide : (e : Ends) → Ordered e → is_wide e ≡ false → e ≡ thin e.low
unfolding is_wide
not_wide e o h =
    let least : e.high ≤ℤ e.low = grind (arith, ints) in
    let same : e.high ≡ e.low = omega (arith, ints) in
    λ i. from_to e.low (same i)

thin_not_wide : (z : ℤ) → is_wide (thin z) ≡ false
unfolding is_wide
thin_not_wide z = grind (arith, ints)

none_wide : (u : Table) → wide_entries u ≡ 0 → (k : ℕ) → k < length u.entries → is_wide (ends_at u k) ≡ false
unfolding wide_entries
none_wide u none k h = none_counted is_wide u.entries (thin (pos 0)) none k h

-- a box without a wide entry is a corner of its system
pub thin_corner : (t : Table) (m : Marks) → Proper t → MarksFit m t → wide_entries (box_of m t) ≡ 0 → Corner (box_of m t) t
thin_corner t m proper fit none = record {
  same_size = box_size m t;
  at_an_end = λ k h.
      subst (λ (x : Ends). (x ≡ thin (ends_at t k).low) ⊎ (x ≡ thin (ends_at t k).high)) (sym (ends_boxed m t k h))
      (by_bits k (bit m.fixed k) (bit m.ends k) (ap is_wide (sym (ends_boxed m t k h)) ∙ none_wide (box_of m t) none k (omega (arith, box-length m t))));
}
  where
    by_bits : (k : ℕ) (b c : Bool) → is_wide (cond b (thin (cond c (ends_at t k).high (ends_at t k).low)) (ends_at t k)) ≡ false
        → (cond b (thin (cond c (ends_at t k).high (ends_at t k).low)) (ends_at t k) ≡ thin (ends_at t k).low) ⊎ (cond b (thin (cond c (ends_at t k).high (ends_at t k).low)) (ends_at t k) ≡ thin (ends_at t k).high)
    by_bits k true true w = inr refl
    by_bits k true false w = inl refl
    by_bits k false c w = inl (not_wide (ends_at t k) (proper.ordered k) w)

pub wide_somewhere : (t : Table) → Proper t → NoneWide t → wide_entries t ≡ 0
unfolding wide_entries
wide_somewhere t proper none = count_none is_wide t.entries (thin (pos 0)) (λ k h. none k (subst (λ (n : ℕ). k < n) proper.complete h))

-- a wide place of a box has no mark, and is wide in the system
pub unmarked_wide : (t : Table) (m : Marks) (k : ℕ) → Proper t → MarksFit m t → ((j : ℕ) → bit m.fixed j ≡ false → bit m.ends j ≡ false) → WidePlace (box_of m t) k → Free m t k
unmarked_wide t m k proper fit ends wide = by_bit (bit m.fixed k) refl
  where
    there : k < places_of t.size
    there = subst (λ (z : ℕ). k < places_of z) (box_size m t) wide.there

    entry_wide : is_wide (box_entry m t k) ≡ true
    entry_wide = ap is_wide (sym (ends_boxed m t k there)) ∙ wide.wide

    by_bit : (b : Bool) → bit m.fixed k ≡ b → Free m t k
    by_bit true e =
        let z = cond (bit m.ends k) (ends_at t k).high (ends_at t k).low in
        let shut : box_entry m t k ≡ thin z = λ i. cond (e i) (thin z) (ends_at t k) in
        absurd (both_ways (is_wide (box_entry m t k)) (ap is_wide shut ∙ thin_not_wide z) entry_wide)
    by_bit false e =
        let z = cond (bit m.ends k) (ends_at t k).high (ends_at t k).low in
        let open_entry : box_entry m t k ≡ ends_at t k = λ i. cond (e i) (thin z) (ends_at t k) in
        record { there = there; wide = ap is_wide (sym open_entry) ∙ entry_wide; unfixed = e; no_end = ends k e }
