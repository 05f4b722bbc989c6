-- What every started search keeps, and what follows from it. Assumes nothing.
use Rattle.std.proofs.Common.{◌≡◌, ℕ, zero, suc, ◌+◌, ◌^◌, ◌<◌, ◌≤◌, true, false, ◌⊎◌, List, length, ℤ, pos, ◌*ℤ◌, ◌≤ℤ◌, ◌<ℤ◌, Ok, sum_by, count_by, sym, refl, ap, ⊎_elim, pow-suc, arith, pow_pos, pow_mono, lt-ltb, eq-eqb, eqb-true, leb-true}
use lib.IntN.{*ℤ_comm}
use lib.Signed.{le_z}
use borrow.Author.Differences.{ints}
use Rattle.std.specs.List.{AllByRecursion}
use Rattle.std.proofs.lemmas.Nat.{mul-le}
use Rattle.std.proofs.ByRecursion.{All-get_or}
use Rattle.std.proofs.lemmas.List.Sums.{count_by-le-length}
use Rattle.algebra.specs.Ends.{Ends}
use Rattle.algebra.specs.Vectors.{at}
use Rattle.algebra.proofs.Order.{mono_times, times_strict, cancel-≤}
use Rattle.systems.specs.Boxes.{box_of}
use Rattle.systems.specs.Entries.{is_wide}
use Rattle.systems.specs.Points.{Proper, PointIn, SolutionOf, AtMost}
use Rattle.systems.specs.Tables.{Table, Corner, places_of, wide_entries}
use Rattle.enclosures.specs.Methods.{component_of, Enclosed}
use Rattle.enclosures.specs.Verdicts.{Verdict}
use Rattle.partition.specs.Marking.{marks_of}
use Rattle.outcomes.specs.declared.record.Record.{Record}
use Rattle.outcomes.specs.Searching.{Started, one_more, settled, full}
use Rattle.outcomes.specs.Waiting.{nothing, leading_at, leading}
use Rattle.outcomes.proofs.Covers.{NotAbove}
use Rattle.outcomes.proofs.Entering.{Met, Sound, low_of}
use Rattle.outcomes.proofs.Inside.{thin_corner}
use Rattle.outcomes.proofs.Leaders.{Any, any_pick, any_there, all_both, length-least, all_one, leading_there, leading-least}

-- ---- figures over a positive denominator
scaled_below : (f g x : ℤ) (d : ℕ) → f ≤ℤ g → (g *ℤ pos d) ≤ℤ x → (f *ℤ pos d) ≤ℤ x
scaled_below f g x d h k = let m = mono_times (pos d) f g (omega (arith, ints)) h in omega (arith, ints)

pub scaled_under : (f g x : ℤ) (d : ℕ) → f ≤ℤ g → (g *ℤ pos d) <ℤ x → (f *ℤ pos d) <ℤ x
scaled_under f g x d h k = let m = mono_times (pos d) f g (omega (arith, ints)) h in omega (arith, ints)

pub scaled_strict : (f g x : ℤ) (d : ℕ) → 0 < d → f <ℤ g → (g *ℤ pos d) ≤ℤ x → (f *ℤ pos d) <ℤ x
scaled_strict f g x d p h k =
    let m = times_strict (pos d) f g (omega (arith, ints)) h in
    omega (arith, ints, *ℤ_comm (pos d) f, *ℤ_comm (pos d) g)

scaled_order : (f g x : ℤ) (d : ℕ) → 0 < d → (f *ℤ pos d) ≤ℤ x → x ≤ℤ (g *ℤ pos d) → f ≤ℤ g
scaled_order f g x d p h k = cancel-≤ (pos d) f g (omega (arith, ints)) (omega (arith, ints, *ℤ_comm (pos d) f, *ℤ_comm (pos d) g))

pub above : (w : Record) (f : ℤ) → le_z w.low f ≡ false → f <ℤ w.low
above w f e = by_figures w.low f e
  where
    by_figures : (a b : ℤ) → le_z a b ≡ false → b <ℤ a
    by_figures a b h = grind (arith, ints)

-- ---- powers
pub doubled : (x y : ℕ) → x + 1 ≡ y → 2 ^ x + 2 ^ x ≡ 2 ^ y
doubled x y e = let p = pow-suc 2 x in let q : 2 ^ y ≡ 2 ^ suc x = ap (λ (z : ℕ). 2 ^ z) (let z : y ≡ suc x = omega arith in z) in omega arith

power_one : (x : ℕ) → 2 ^ x ≡ 1 → x ≡ 0
power_one zero e = refl
power_one (suc x) e = absurd (let p = pow-suc 2 x in let q = pow_pos x in omega arith)

pub few_wide : (t : Table) → Proper t → 2 ^ wide_entries t ≤ 2 ^ 42
unfolding wide_entries
few_wide t proper =
    let f = proper.few in
    let most : places_of t.size ≤ 42 = mul-le t.size (t.size + 1) 6 7 f (omega arith) in
    let c = proper.complete in
    pow_mono {i = count_by is_wide t.entries} {j = 42} (let l = count_by-le-length is_wide t.entries in omega arith)

pub one_more_lem : (n : ℕ) → n < 2 ^ 42 → one_more n ≡ n + 1
one_more_lem n h = grind (arith, lt-ltb n 18446744073709551615 (omega arith))

abbrev pub weight : Table → Record → ℕ
weight t w = 2 ^ wide_entries (box_of (marks_of w.marks) t)

pub weight_some : (t : Table) (w : Record) → 1 ≤ weight t w
weight_some t w = pow_pos (wide_entries (box_of (marks_of w.marks) t))

-- ---- what is kept
abbrev pub Spread : Table → ℕ → ℤ → List Record → Type 0
Spread t c f ws = (P : PointIn t) (d : ℕ) (p : List ℤ) → SolutionOf t P d p
    → Any (λ w. NotAbove (box_of (marks_of w.marks) t) d p c) ws ⊎ ((f *ℤ pos d) <ℤ (pos 16384 *ℤ at p c))

module _ (v : Table → Verdict) (t : Table) where
  pub record Held (s : Started) : Type 0 where
    pub inside : s.component < t.size
    -- each record
    pub sound : AllByRecursion (Sound v t s.component s.high) s.waiting
    -- some solution has the high figure
    pub met : Met v t s.component s.high
    -- each solution is above one in a box that waits, or above the high figure
    pub spread : Spread t s.component s.high s.waiting
    -- the boxes are at most as many as corners
    pub few : sum_by (weight t) s.waiting ≤ 2 ^ wide_entries t
    pub counts : s.splits + sum_by (weight t) s.waiting + 1 ≤ 2 ^ wide_entries t + length s.waiting

  pub held_bounded : (s : Started) → Held s → s.splits < 2 ^ wide_entries t
  held_bounded s held = let c = held.counts in let l = length-least (weight t) (weight_some t) s.waiting in omega arith

  pub held_full : (s : Started) → Held s → wide_entries t ≤ 9 → 0 < length s.waiting → full s ≡ true → settled t s ≡ true
  unfolding full settled
  held_full s held small some e =
      let ws = s.waiting in
      let most : 2 ^ wide_entries t ≤ 512 = pow_mono small in
      let many = leb-true 512 (length ws) e in
      let f = held.few in
      let thin = All-get_or (λ w. weight t w ≡ 1) ws (leading_at ws) nothing (leading_there ws some) (all_one (weight t) (weight_some t) ws (omega arith)) in
      eq-eqb (wide_entries (box_of (marks_of (leading ws).marks) t)) 0 (power_one (wide_entries (box_of (marks_of (leading ws).marks) t)) thin)

  -- a search after some splits
  pub record After (s n : Started) (made : ℕ) : Type 0 where
    pub component : n.component ≡ s.component
    pub low : (leading s.waiting).low ≤ℤ (leading n.waiting).low
    pub high : n.high ≤ℤ s.high
    pub splits : n.splits ≡ s.splits + made

  module _ (proper : Proper t) (enclosed : Enclosed v) where
    -- the leading low figure is at most each solution above one in a box that waits
    leads : (s : Started) → Held s → (d : ℕ) (p : List ℤ) → Any (λ w. NotAbove (box_of (marks_of w.marks) t) d p s.component) s.waiting → AtMost (leading s.waiting).low d p s.component
    leads s held d p some =
        let c = s.component in
        let ws = s.waiting in
        any_pick (λ w. NotAbove (box_of (marks_of w.marks) t) d p c) (λ w. Sound v t c s.high w × ((leading ws).low ≤ℤ w.low)) (AtMost (leading ws).low d p c)
        (λ w q n. scaled_below (leading ws).low w.low (pos 16384 *ℤ at p c) d q.1 (low_of v t proper enclosed c s.high w held.inside q.0 d p n))
        ws (all_both (Sound v t c s.high) (λ w. (leading ws).low ≤ℤ w.low) ws held.sound (leading-least ws)) some

    -- records wait, and the leading low figure is at most the high one
    pub held_under : (s : Started) → Held s → (0 < length s.waiting) × ((leading s.waiting).low ≤ℤ s.high)
    held_under s held =
        let m = held.met in
        let d = m.1 in
        let p = m.2 in
        let c = s.component in
        let ws = s.waiting in
        ⊎_elim
        (λ some. (
          any_there (λ w. NotAbove (box_of (marks_of w.marks) t) d p c) ws some,
          scaled_order (leading ws).low s.high (pos 16384 *ℤ at p c) d m.3.positive (leads s held d p some) m.4,
        ))
        (λ strict. absurd (let l = m.4 in omega (arith, ints)))
        (held.spread m.0 d p m.3)

    pub held_low : (s : Started) → Held s → (P : PointIn t) (d : ℕ) (p : List ℤ) → SolutionOf t P d p → AtMost (leading s.waiting).low d p s.component
    held_low s held P d p sol =
        let c = s.component in
        let f = (leading s.waiting).low in
        let x = pos 16384 *ℤ at p c in
        ⊎_elim
        (λ some. leads s held d p some)
        (λ strict. let k = scaled_under f s.high x d (held_under s held).1 strict in omega (arith, ints))
        (held.spread P d p sol)

    pub leading_sound : (s : Started) → Held s → Sound v t s.component s.high (leading s.waiting)
    leading_sound s held = All-get_or (Sound v t s.component s.high) s.waiting (leading_at s.waiting) nothing (leading_there s.waiting (held_under s held).0) held.sound

    pub held_settled : (s : Started) → Held s → settled t s ≡ true
        → (u : Table) × (row : List Ends) × Corner u t × (v u ≡ Ok row) × ((component_of row s.component).low ≡ (leading s.waiting).low) × (s.high ≤ℤ (component_of row s.component).high)
    unfolding settled
    held_settled s held e =
        let w = leading s.waiting in
        let k = leading_sound s held in
        let none = eqb-true (wide_entries (box_of (marks_of w.marks) t)) 0 e in
        (box_of (marks_of w.marks) t, k.row, thin_corner t (marks_of w.marks) proper k.fit none, k.ok, sym k.low, k.thin none)
