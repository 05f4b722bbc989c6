-- The laws of boxes. Assumes nothing.
use Rattle.std.proofs.Common.{◌≡◌, ℕ, zero, suc, ◌+◌, ◌-◌, ◌*◌, ◌/◌, ◌%◌, ◌^◌, ◌<◌, ◌≤◌, Bool, true, false, cond, eqb, List, [], ◌∷◌, map, ℤ, pos, count_by, sym, refl, ap, ◌∙◌, subst, mod-lt, zero-lt-suc, pow-suc, div-add-mod', add-one, arith, pow_pos, pow-add, ne_eqb, eqb-true}
use native.Mathlib.Nat.{div-div-eq-div-mul}
use lib.Count.{ones, ones_in, ones_step}
use borrow.Author.Differences.{ints}
use borrow.Author.Tests.{eqb-false}
use Rattle.std.proofs.lemmas.Nat.{div_below, mul-le}
use Rattle.std.proofs.lemmas.List.FromFn.{get_or-map-range_with_len, fill_by_all}
use Rattle.std.proofs.lemmas.List.Sums.{sum_by-cons}
use Rattle.std.specs.List.{range_with_len}
use Rattle.algebra.specs.Ends.{Ends, Ordered, Included}
use Rattle.systems.specs.Boxes.{Marks, bit, fixed_entry, box_entry, box_of}
use Rattle.systems.specs.Entries.{thin, is_wide}
use Rattle.systems.specs.Points.{Proper}
use Rattle.systems.specs.Tables.{Table, places_of, ends_at, wide_entries}
use Rattle.partition.specs.Boxing.{MarksFit, Free, FixedOnce, marked, BoxNarrower, BoxCounts}
use Rattle.partition.proofs.Bits.{even, bit-set, bit_kept}
use Rattle.partition.specs.Choosing.{wide_at}

-- ---- entries of a box
pub ends_boxed : (m : Marks) (t : Table) (k : ℕ) → k < places_of t.size → ends_at (box_of m t) k ≡ box_entry m t k
unfolding box_of
ends_boxed m t k h = get_or-map-range_with_len (box_entry m t) 0 (places_of t.size) k k (thin (pos 0)) h (omega arith)

fixed_included : (m : Marks) (k : ℕ) (e : Ends) → Ordered e → Included (fixed_entry m k e) e
fixed_included m k e o = by_bits (bit m.fixed k) (bit m.ends k)
  where
    by_bits : (b c : Bool) → Included (cond b (thin (cond c e.high e.low)) e) e
    by_bits true true = record { from = o; to = omega (arith, ints) }
    by_bits true false = record { from = omega (arith, ints); to = o }
    by_bits false c = record { from = omega (arith, ints); to = omega (arith, ints) }

same_size : (m : Marks) (t : Table) → (box_of m t).size ≡ t.size
unfolding box_of
same_size m t = refl

pub box_narrower : BoxNarrower
box_narrower t m proper = record {
  same_size = same_size m t;
  within = λ k h. subst (λ (e : Ends). Included e (ends_at t k)) (sym (ends_boxed m t k h)) (fixed_included m k (ends_at t k) (proper.ordered k));
}

-- ---- counts
count_cons : {A : Type 0} (p : A → Bool) (x : A) (xs : List A) → count_by p (x ∷ xs) ≡ cond (p x) 1 0 + count_by p xs
count_cons p x xs = sum_by-cons (λ y. cond (p y) 1 0) x xs

parity : (r : ℕ) → r < 2 → r ≡ cond (eqb r 1) 1 0
parity zero h = refl
parity (suc zero) h = refl
parity (suc (suc r)) h = absurd (omega arith)

ones_none : ones 0 ≡ 0
unfolding ones ones_in
ones_none = refl

bits_counted : (n a m : ℕ) → n / 2 ^ a < 2 ^ m → ones (n / 2 ^ a) ≡ count_by (bit n) (range_with_len a m)
bits_counted n a zero h = let none : n / 2 ^ a ≡ 0 = omega arith in ap ones none ∙ ones_none
bits_counted n a (suc m) h =
    let q = n / 2 ^ a in
    let half : q / 2 ≡ n / 2 ^ (a + 1) = div-div-eq-div-mul n (2 ^ a) 2 ∙ ap (λ p. n / p) (sym (pow-suc 2 a) ∙ ap (λ k. 2 ^ k) (sym (add-one a))) in
    let room : q < 2 ^ m * 2 = subst (λ (p : ℕ). q < p) (pow-suc 2 m) h in
    let small : n / 2 ^ (a + 1) < 2 ^ m = subst (λ (z : ℕ). z < 2 ^ m) half (div_below q 2 (2 ^ m) (omega arith) (omega arith)) in
    let low = parity (q % 2) (mod-lt q (zero-lt-suc 1)) in
    ones_step q ∙ (λ i. low i + (ap ones half ∙ bits_counted n (a + 1) m small) i) ∙ sym (count_cons (bit n) a (range_with_len (a + 1) m))

count_map : {A : Type 0} (p : A → Bool) (f : ℕ → A) (ks : List ℕ) → count_by p (map f ks) ≡ count_by (λ k. p (f k)) ks
count_map p f [] = refl
count_map p f (k ∷ ks) = count_cons p (f k) (map f ks) ∙ ap (λ n. cond (p (f k)) 1 0 + n) (count_map p f ks) ∙ sym (count_cons (λ j. p (f j)) k ks)

count_sum : (p q r : ℕ → Bool) (a m : ℕ) → ((k : ℕ) → k < a + m → cond (p k) 1 0 + cond (q k) 1 0 ≡ cond (r k) 1 0) → count_by p (range_with_len a m) + count_by q (range_with_len a m) ≡ count_by r (range_with_len a m)
count_sum p q r a zero h = refl
count_sum p q r a (suc m) h =
    let here = h a (omega arith) in
    let rest = count_sum p q r (a + 1) m (λ k l. h k (omega arith)) in
    omega (arith, count_cons p a (range_with_len (a + 1) m), count_cons q a (range_with_len (a + 1) m), count_cons r a (range_with_len (a + 1) m))

thin_not_wide : (z : ℤ) → is_wide (thin z) ≡ false
unfolding is_wide
thin_not_wide z = grind (arith, ints)

marked_once : (m : Marks) (t : Table) (k : ℕ) → MarksFit m t → cond (is_wide (box_entry m t k)) 1 0 + cond (bit m.fixed k) 1 0 ≡ cond (wide_at t k) 1 0
marked_once m t k fit = by_bit (bit m.fixed k) (fit.at_wide k)
  where
    by_bit : (b : Bool) → (b ≡ true → wide_at t k ≡ true) → cond (is_wide (cond b (thin (cond (bit m.ends k) (ends_at t k).high (ends_at t k).low)) (ends_at t k))) 1 0 + cond b 1 0 ≡ cond (wide_at t k) 1 0
    by_bit true w = rw (thin_not_wide (cond (bit m.ends k) (ends_at t k).high (ends_at t k).low), w refl) refl
    by_bit false w = omega arith

pub box_counts : BoxCounts
unfolding box_of wide_entries
box_counts t m proper fit =
    let n = places_of t.size in
    let entries : t.entries ≡ map (ends_at t) (range_with_len 0 n) = fill_by_all (ends_at t) t.entries n (thin (pos 0)) proper.complete (λ k h. refl) in
    let whole : count_by is_wide t.entries ≡ count_by (wide_at t) (range_with_len 0 n) = ap (count_by is_wide) entries ∙ count_map is_wide (ends_at t) (range_with_len 0 n) in
    let one : m.fixed / 2 ^ 0 ≡ m.fixed = omega arith in
    let marks : ones m.fixed ≡ count_by (bit m.fixed) (range_with_len 0 n) = ap ones (sym one) ∙ bits_counted m.fixed 0 n (subst (λ (z : ℕ). z < 2 ^ n) (sym one) fit.within) in
    (λ i. count_map is_wide (box_entry m t) (range_with_len 0 n) i + marks i)
    ∙ count_sum (λ k. is_wide (box_entry m t k)) (bit m.fixed) (wide_at t) 0 n (λ k h. marked_once m t k fit) ∙ sym whole

-- ---- one more place is fixed
-- one place of several
none_other : (k a m : ℕ) → k < a → count_by (λ j. eqb j k) (range_with_len a m) ≡ 0
none_other k a zero h = refl
none_other k a (suc m) h =
    let here : eqb a k ≡ false = ne_eqb a k (λ e. omega arith) in
    count_cons (λ j. eqb j k) a (range_with_len (a + 1) m) ∙ (λ i. cond (here i) 1 0 + none_other k (a + 1) m (omega arith) i)

one_other : (k a m : ℕ) → a ≤ k → k < a + m → count_by (λ j. eqb j k) (range_with_len a m) ≡ 1
one_other k a zero h l = absurd (omega arith)
one_other k a (suc m) h l =
    count_cons (λ j. eqb j k) a (range_with_len (a + 1) m)
    ∙ by_test (eqb a k) (λ e. none_other k (a + 1) m (let same = eqb-true a k e in omega arith)) (λ e. one_other k (a + 1) m (after a k h (eqb-false a k e)) (omega arith))
  where
    after : (x y : ℕ) → x ≤ y → (x ≡ y → ⊥) → x + 1 ≤ y
    after x y p q = omega arith

    by_test : (b : Bool) → (b ≡ true → count_by (λ j. eqb j k) (range_with_len (a + 1) m) ≡ 0) → (b ≡ false → count_by (λ j. eqb j k) (range_with_len (a + 1) m) ≡ 1) → cond b 1 0 + count_by (λ j. eqb j k) (range_with_len (a + 1) m) ≡ 1
    by_test true y n = ap (λ z. 1 + z) (y refl)
    by_test false y n = ap (λ z. 0 + z) (n refl)

-- a number below 2 ^ n whose bit k is 0 has room for 2 ^ k
pub room : (x n k : ℕ) → x < 2 ^ n → k < n → bit x k ≡ false → x + 2 ^ k < 2 ^ n
room x n k h l e =
    let d = n - k - 1 in
    let q = x / 2 ^ k in
    let r = x % 2 ^ k in
    let power : 2 ^ n ≡ 2 ^ d * 2 * 2 ^ k = ap (λ z. 2 ^ z) (let z : n ≡ k + suc d = omega arith in z) ∙ pow-add 2 k (suc d) ∙ ap (λ z. 2 ^ k * z) (pow-suc 2 d) ∙ omega arith in
    let small = mod-lt x (pow_pos k) in
    let cut = div-add-mod' x (2 ^ k) in
    let below : q < 2 ^ d * 2 = div_below x (2 ^ k) (2 ^ d * 2) (pow_pos k) (subst (λ (z : ℕ). x < z) power h) in
    let evens = even x k e in
    let two : q + 2 ≤ 2 ^ d * 2 = omega arith in
    let wide = mul-le (q + 2) (2 ^ k) (2 ^ d * 2) (2 ^ k) two (omega arith) in
    let open_up : (q + 2) * 2 ^ k ≡ q * 2 ^ k + 2 ^ k + 2 ^ k = omega arith in
    subst (λ (z : ℕ). x + 2 ^ k < z) (sym power) (omega arith)

module _ (t : Table) (m : Marks) (k : ℕ) (high : Bool) (proper : Proper t) (fit : MarksFit m t) (free : Free m t k) where
  -- the bits of both numbers at the other places are as they were
  fixed_kept : (j : ℕ) → (j ≡ k → ⊥) → bit (marked m k high).fixed j ≡ bit m.fixed j
  fixed_kept j apart = bit_kept m.fixed k j free.unfixed apart

  ends_kept : (j : ℕ) → (j ≡ k → ⊥) → bit (marked m k high).ends j ≡ bit m.ends j
  ends_kept j apart = by_end high
    where
      by_end : (h : Bool) → bit (m.ends + cond h (2 ^ k) 0) j ≡ bit m.ends j
      by_end true = bit_kept m.ends k j free.no_end apart
      by_end false = let z : m.ends + 0 ≡ m.ends = omega arith in ap (λ n. bit n j) z

  end_set : bit (marked m k high).ends k ≡ high
  end_set = by_end high
    where
      by_end : (h : Bool) → bit (m.ends + cond h (2 ^ k) 0) k ≡ h
      by_end true = bit-set m.ends k free.no_end
      by_end false = let z : m.ends + 0 ≡ m.ends = omega arith in ap (λ n. bit n k) z ∙ free.no_end

  entry_fixed : box_entry (marked m k high) t k ≡ thin (cond high (ends_at t k).high (ends_at t k).low)
  entry_fixed = λ i. cond (bit-set m.fixed k free.unfixed i) (thin (cond (end_set i) (ends_at t k).high (ends_at t k).low)) (ends_at t k)

  entry_kept : (j : ℕ) → (j ≡ k → ⊥) → box_entry (marked m k high) t j ≡ box_entry m t j
  entry_kept j apart = λ i. cond (fixed_kept j apart i) (thin (cond (ends_kept j apart i) (ends_at t j).high (ends_at t j).low)) (ends_at t j)

  entry_open : box_entry m t k ≡ ends_at t k
  entry_open = λ i. cond (free.unfixed i) (thin (cond (bit m.ends k) (ends_at t k).high (ends_at t k).low)) (ends_at t k)

  end_included : Included (thin (cond high (ends_at t k).high (ends_at t k).low)) (ends_at t k)
  end_included = by_end high
    where
      by_end : (h : Bool) → Included (thin (cond h (ends_at t k).high (ends_at t k).low)) (ends_at t k)
      by_end true = record { from = proper.ordered k; to = omega (arith, ints) }
      by_end false = record { from = omega (arith, ints); to = proper.ordered k }

  entry_narrower : (j : ℕ) → Included (box_entry (marked m k high) t j) (box_entry m t j)
  entry_narrower j = by_place (eqb j k) refl
    where
      by_place : (b : Bool) → eqb j k ≡ b → Included (box_entry (marked m k high) t j) (box_entry m t j)
      by_place true e =
          let same = eqb-true j k e in
          subst (λ (i : ℕ). Included (box_entry (marked m k high) t i) (box_entry m t i)) (sym same)
          (subst (λ (x : Ends). Included x (box_entry m t k)) (sym entry_fixed) (subst (Included (thin (cond high (ends_at t k).high (ends_at t k).low))) (sym entry_open) end_included))
      by_place false e = subst (λ (x : Ends). Included x (box_entry m t j)) (sym (entry_kept j (eqb-false j k e))) (record { from = omega (arith, ints); to = omega (arith, ints) })

  by_place : (j : ℕ) (b : Bool) → eqb j k ≡ b → bit (marked m k high).fixed j ≡ true → wide_at t j ≡ true
  by_place j true e h = ap (wide_at t) (eqb-true j k e) ∙ free.wide
  by_place j false e h = fit.at_wide j (sym (fixed_kept j (eqb-false j k e)) ∙ h)

  one_less : (j : ℕ) → cond (is_wide (box_entry (marked m k high) t j)) 1 0 + cond (eqb j k) 1 0 ≡ cond (is_wide (box_entry m t j)) 1 0
  one_less j = by_test (eqb j k) refl
    where
      by_test : (b : Bool) → eqb j k ≡ b → cond (is_wide (box_entry (marked m k high) t j)) 1 0 + cond (eqb j k) 1 0 ≡ cond (is_wide (box_entry m t j)) 1 0
      by_test true e =
          let same = eqb-true j k e in
          let now : is_wide (box_entry (marked m k high) t j) ≡ false = ap (λ i. is_wide (box_entry (marked m k high) t i)) same ∙ ap is_wide entry_fixed ∙ thin_not_wide (cond high (ends_at t k).high (ends_at t k).low) in
          let was : is_wide (box_entry m t j) ≡ true = ap (λ i. is_wide (box_entry m t i)) same ∙ ap is_wide entry_open ∙ free.wide in
          (λ i. cond (now i) 1 0 + cond (e i) 1 0) ∙ (λ i. cond (sym was i) 1 0)
      by_test false e = (λ i. cond (is_wide (entry_kept j (eqb-false j k e) i)) 1 0 + cond (e i) 1 0) ∙ omega arith

  fewer : wide_entries (box_of (marked m k high) t) + 1 ≡ wide_entries (box_of m t)
  unfolding box_of wide_entries
  fewer =
      let n = places_of t.size in
      (λ i. count_map is_wide (box_entry (marked m k high) t) (range_with_len 0 n) i + sym (one_other k 0 n (omega arith) (let l = free.there in omega arith)) i)
      ∙ count_sum (λ j. is_wide (box_entry (marked m k high) t j)) (λ j. eqb j k) (λ j. is_wide (box_entry m t j)) 0 n (λ j h. one_less j)
      ∙ sym (count_map is_wide (box_entry m t) (range_with_len 0 n))

  pub fixed_once : FixedOnce m t k high
  fixed_once = record {
    fits = record {
      at_wide = λ j e. by_place j (eqb j k) refl e;
      within = room m.fixed (places_of t.size) k fit.within free.there free.unfixed;
    };
    narrower = record {
      same_size = same_size (marked m k high) t ∙ sym (same_size m t);
      within = λ j h.
          let there : j < places_of t.size = subst (λ (n : ℕ). j < places_of n) (same_size m t) h in
          subst (λ (x : Ends). Included x (ends_at (box_of m t) j)) (sym (ends_boxed (marked m k high) t j there)) (subst (Included (box_entry (marked m k high) t j)) (sym (ends_boxed m t j there)) (entry_narrower j));
    };
    fewer = fewer;
    end = ends_boxed (marked m k high) t k free.there ∙ entry_fixed;
  }
