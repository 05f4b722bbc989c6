-- What a record that is entered keeps, at a start and at a split. Assumes nothing.
use Rattle.std.proofs.Common.{◌≡◌, ℕ, ◌+◌, ◌^◌, ◌<◌, ◌≤◌, Bool, true, false, cond, not, ◌&&◌, eqb, ltb, List, ℤ, pos, ◌*ℤ◌, ◌≤ℤ◌, Ok, Err, sym, refl, ap, ◌∙◌, subst, arith, lt-ltb, eqb-true}
use borrow.Author.Differences.{ints}
use borrow.Author.Tests.{eqb-false, clash}
use Rattle.std.proofs.lemmas.Nat.{mul-le}
use Rattle.algebra.specs.Ends.{Ends}
use Rattle.algebra.specs.Ring.{◌⊗◌, ◌⩵◌}
use Rattle.algebra.specs.Vectors.{at}
use Rattle.algebra.proofs.Chaining.{ok_value, then_ok}
use Rattle.algebra.proofs.Order.{times_mono, mono_times, cancel-≤}
use Rattle.algebra.proofs.Ring.{linear, solve}
use Rattle.systems.specs.Boxes.{bit, box_of}
use Rattle.systems.specs.Boxes as boxes
use Rattle.systems.specs.Points.{Proper, PointIn, SolutionOf, AtMost, AtLeast}
use Rattle.systems.specs.Tables.{Table, places_of, wide_entries, midpoint_of}
use Rattle.enclosures.specs.Methods.{component_of, Solvable, Enclosed, Narrowing}
use Rattle.enclosures.specs.Verdicts.{Verdict}
use Rattle.partition.specs.declared.marks.End.{End}
use Rattle.partition.specs.declared.marks.Marks.{Marks}
use Rattle.partition.specs.Boxing.{MarksFit, Free, marked}
use Rattle.partition.specs.Choosing.{WidePlace}
use Rattle.partition.specs.Marking.{marks_of, open_at, is_high}
use Rattle.partition.proofs.Bits.{bit-set, bit_kept}
use Rattle.partition.proofs.BoxLaws.{box_narrower, fixed_once}
use Rattle.outcomes.specs.declared.record.Record.{Record}
use Rattle.outcomes.specs.declared.record.Entered.{Entered}
use Rattle.outcomes.specs.Searching.{figures_of, fixing, entered}
use Rattle.outcomes.proofs.Covers.{NotAbove}
use Rattle.outcomes.proofs.Inside.{box_proper, midpoint_proper, midpoint_narrower, widened, some_point, narrower_twice, unmarked_wide}

-- ---- fractions
-- a / g ≤ q / e ≤ p / d
pub cross_low : (g f p q : ℤ) (d e : ℕ) → pos 0 ≤ℤ g → 0 < e → (f *ℤ pos e) ≤ℤ (g *ℤ q) → (q *ℤ pos d) ≤ℤ (p *ℤ pos e) → (f *ℤ pos d) ≤ℤ (g *ℤ p)
cross_low g f p q d e n h a b =
    let x = mono_times (pos d) (f *ℤ pos e) (g *ℤ q) (omega (arith, ints)) a in
    let y = times_mono g (q *ℤ pos d) (p *ℤ pos e) n b in
    let i = solve 3 (λ e f d. e ⊗ (f ⊗ d) ⩵ (f ⊗ e) ⊗ d) refl (pos e) f (pos d) in
    let j = solve 3 (λ g q d. (g ⊗ q) ⊗ d ⩵ g ⊗ (q ⊗ d)) refl g q (pos d) in
    let k = solve 3 (λ g p e. e ⊗ (g ⊗ p) ⩵ g ⊗ (p ⊗ e)) refl g p (pos e) in
    cancel-≤ (pos e) (f *ℤ pos d) (g *ℤ p) (omega (arith, ints)) (omega (arith, linear))

-- u / w ≤ q / e ≤ p / d
pub cross_twice : (u q p : ℤ) (w e d : ℕ) → 0 < e → (u *ℤ pos e) ≤ℤ (q *ℤ pos w) → (q *ℤ pos d) ≤ℤ (p *ℤ pos e) → (u *ℤ pos d) ≤ℤ (p *ℤ pos w)
cross_twice u q p w e d h a b =
    let i = solve 2 (λ q w. q ⊗ w ⩵ w ⊗ q) refl q (pos w) in
    let j = solve 2 (λ p w. p ⊗ w ⩵ w ⊗ p) refl p (pos w) in
    let k = cross_low (pos w) u p q d e (omega (arith, ints)) h (omega (arith, linear)) b in
    omega (arith, linear)

pub figures_ok : (c : ℕ) (o : Verdict) (x : Ends) → figures_of c o ≡ Ok x → (row : List Ends) × (o ≡ Ok row) × (component_of row c ≡ x)
figures_ok c (Ok row) x e = (row, refl, ok_value e)
figures_ok c (Err f) x e = absurd (let z : ◌≡◌ {A = ℕ} 0 1 = cc in omega arith)

-- ---- records
module _ (v : Table → Verdict) (t : Table) where
  abbrev pub box_at : Marks → Table
  box_at m = box_of (marks_of m) t

  -- some point system inside has a solution whose component c is at most the figure
  abbrev pub Met : ℕ → ℤ → Type 0
  Met c f = (P : PointIn t) × (d : ℕ) × (p : List ℤ) × SolutionOf t P d p × AtLeast f d p c

  -- a record keeps this under the high figure f
  pub record Sound (c : ℕ) (f : ℤ) (w : Record) : Type 0 where
    pub fit : MarksFit (marks_of w.marks) t
    pub ends : (j : ℕ) → bit w.marks.fixed j ≡ false → bit w.marks.ends j ≡ false
    pub row : List Ends
    pub ok : v (box_at w.marks) ≡ Ok row
    pub low : w.low ≡ (component_of row c).low
    pub thin : wide_entries (box_at w.marks) ≡ 0 → f ≤ℤ (component_of row c).high

  pub sound_below : (c : ℕ) (f g : ℤ) (w : Record) → g ≤ℤ f → Sound c f w → Sound c g w
  sound_below c f g w h s = record { fit = s.fit; ends = s.ends; row = s.row; ok = s.ok; low = s.low; thin = λ e. let k = s.thin e in omega (arith, ints) }

  -- what is entered for marks m
  pub record EnteredAt (c : ℕ) (m : Marks) (e : Entered) : Type 0 where
    pub marks : e.waiting.marks ≡ m
    pub row : List Ends
    pub ok : v (box_at m) ≡ Ok row
    pub low : e.waiting.low ≡ (component_of row c).low
    pub reaches : e.high ≤ℤ (component_of row c).high
    pub met : Met c e.high

  -- what is entered for the box of a record with one more place fixed
  pub record Child (c : ℕ) (w : Record) (k : ℕ) (high : Bool) (e : Entered) : Type 0 where
    pub marks : marks_of e.waiting.marks ≡ marked (marks_of w.marks) k high
    pub sound : (f : ℤ) → f ≤ℤ e.high → Sound c f e.waiting
    pub rises : w.low ≤ℤ e.waiting.low
    pub fewer : wide_entries (box_at e.waiting.marks) + 1 ≡ wide_entries (box_at w.marks)
    pub met : Met c e.high

  box_size : Proper t → (m : boxes.Marks) → (box_of m t).size ≡ t.size
  box_size proper m = (box_narrower t m proper).same_size

  module _ (proper : Proper t) (enclosed : Enclosed v) where
    -- a record's low figure holds for every solution that its box has a solution below
    pub low_of : (c : ℕ) (f : ℤ) (w : Record) → c < t.size → Sound c f w → (d : ℕ) (p : List ℤ) → NotAbove (box_at w.marks) d p c → AtMost w.low d p c
    low_of c f w h s d p n =
        let b = box_at w.marks in
        let l = (enclosed b s.row (box_proper t (marks_of w.marks) proper) s.ok n.0 n.1 n.2 n.3 c (subst (λ (z : ℕ). c < z) (sym (box_size proper (marks_of w.marks))) h)).0 in
        let k : (w.low *ℤ pos n.1) ≤ℤ (pos 16384 *ℤ at n.2 c) = subst (λ (z : ℤ). (z *ℤ pos n.1) ≤ℤ (pos 16384 *ℤ at n.2 c)) (sym s.low) l in
        cross_low (pos 16384) w.low (at p c) (at n.2 c) d n.1 (omega (arith, ints)) n.3.positive k n.4

  module _ (proper : Proper t) (solvable : Solvable v) (enclosed : Enclosed v) (narrowing : Narrowing v) where
    midpoint_met : (c : ℕ) (m : Marks) (row row' : List Ends) → c < t.size → v (box_at m) ≡ Ok row → v (midpoint_of (box_at m)) ≡ Ok row' → ((component_of row' c).high ≤ℤ (component_of row c).high) × Met c (component_of row' c).high
    midpoint_met c m row row' h ok ok' =
        let b = box_at m in
        let u = midpoint_of b in
        let pb = box_proper t (marks_of m) proper in
        let pu = midpoint_proper b pb in
        let inner = midpoint_narrower b pb in
        let size : u.size ≡ t.size = inner.same_size ∙ box_size proper (marks_of m) in
        let there : c < u.size = subst (λ (z : ℕ). c < z) (sym size) h in
        let n = narrowing u b row pu pb inner ok in
        let same : n.0 ≡ row' = ok_value (sym n.1 ∙ ok') in
        let to : (component_of n.0 c).high ≤ℤ (component_of row c).high = (n.2 c (subst (λ (z : ℕ). c < z) (sym (box_size proper (marks_of m))) h)).to in
        let P = some_point u pu in
        let sol = solvable u row' pu ok' P in
        let above = (enclosed u row' pu ok' P sol.0 sol.1 sol.2 c there).1 in
        let wide = widened u t (narrower_twice u b t inner (box_narrower t (marks_of m) proper)) P sol.0 sol.1 sol.2 in
        (subst (λ (z : List Ends). (component_of z c).high ≤ℤ (component_of row c).high) same to, (wide.0, sol.0, sol.1, wide.1, above))

    pub entered_at : (c : ℕ) (m : Marks) (e : Entered) → c < t.size → entered v t c m ≡ Ok e → EnteredAt c m e
    unfolding entered
    entered_at c m e h q =
        let x = then_ok (figures_of c (v (box_at m))) _ e q in
        let y = then_ok (figures_of c (v (midpoint_of (box_at m)))) _ e x.2 in
        let of_box = figures_ok c (v (box_at m)) x.0 x.1 in
        let of_middle = figures_ok c (v (midpoint_of (box_at m))) y.0 y.1 in
        let w = midpoint_met c m of_box.0 of_middle.0 h of_box.1 of_middle.1 in
        subst (EnteredAt c m) (ok_value y.2) (record {
          marks = refl;
          row = of_box.0;
          ok = of_box.1;
          low = ap (λ (z : Ends). z.low) (sym of_box.2);
          reaches = subst (λ (z : Ends). z.high ≤ℤ (component_of of_box.0 c).high) of_middle.2 w.0;
          met = subst (λ (z : Ends). Met c z.high) of_middle.2 w.1;
        })

    -- one more place is fixed
    few_places : places_of t.size ≤ 42
    few_places = let f = proper.few in mul-le t.size (t.size + 1) 6 7 f (omega arith)

    is_open : (m : boxes.Marks) (k : ℕ) → Free m t k → open_at m k ≡ true
    unfolding open_at
    is_open m k free =
        let a : k < 64 = let l = free.there in omega (arith, few_places) in
        let f : ltb k 64 ≡ true = lt-ltb k 64 a in
        λ i. f i && (not (free.unfixed i) && not (free.no_end i))

    fixing_is : (m : Marks) (k : ℕ) (e : End) → Free (marks_of m) t k → marks_of (fixing m k e) ≡ marked (marks_of m) k (is_high e)
    fixing_is m k e free = ap (λ (b : Bool). cond b (marked (marks_of m) k (is_high e)) (marks_of m)) (is_open (marks_of m) k free)

    marked_ends : (m : boxes.Marks) (k : ℕ) (high : Bool) → Free m t k → ((j : ℕ) → bit m.fixed j ≡ false → bit m.ends j ≡ false)
        → (j : ℕ) → bit (marked m k high).fixed j ≡ false → bit (marked m k high).ends j ≡ false
    marked_ends m k high free ends j e = by_place (eqb j k) refl high
      where
        by_place : (b : Bool) → eqb j k ≡ b → (h : Bool) → bit (m.ends + cond h (2 ^ k) 0) j ≡ false
        by_place true q h = absurd (clash (sym (subst (λ (i : ℕ). bit (m.fixed + 2 ^ k) i ≡ false) (eqb-true j k q) e) ∙ bit-set m.fixed k free.unfixed))
        by_place false q true = bit_kept m.ends k j free.no_end (eqb-false j k q) ∙ ends j (sym (bit_kept m.fixed k j free.unfixed (eqb-false j k q)) ∙ e)
        by_place false q false = let z : m.ends + 0 ≡ m.ends = omega arith in ap (λ (n : ℕ). bit n j) z ∙ ends j (sym (bit_kept m.fixed k j free.unfixed (eqb-false j k q)) ∙ e)

    pub free_place : (c : ℕ) (f : ℤ) (w : Record) (k : ℕ) → Sound c f w → WidePlace (box_at w.marks) k → Free (marks_of w.marks) t k
    free_place c f w k s h = unmarked_wide t (marks_of w.marks) k proper s.fit s.ends h

    pub child : (c : ℕ) (f : ℤ) (w : Record) (k : ℕ) (end : End) (e : Entered) → c < t.size → Sound c f w → WidePlace (box_at w.marks) k
        → entered v t c (fixing w.marks k end) ≡ Ok e → Child c w k (is_high end) e
    child c f w k end e h s wide q =
        let m = marks_of w.marks in
        let free = free_place c f w k s wide in
        let at = entered_at c (fixing w.marks k end) e h q in
        let is = fixing_is w.marks k end free in
        let marks : marks_of e.waiting.marks ≡ marked m k (is_high end) = ap marks_of at.marks ∙ is in
        let once = fixed_once t m k (is_high end) proper s.fit free in
        let ok : v (box_at e.waiting.marks) ≡ Ok at.row = ap (λ (n : Marks). v (box_at n)) at.marks ∙ at.ok in
        let okm : v (box_of (marked m k (is_high end)) t) ≡ Ok at.row = ap (λ (n : boxes.Marks). v (box_of n t)) (sym is) ∙ at.ok in
        let n = narrowing (box_of (marked m k (is_high end)) t) (box_of m t) s.row (box_proper t (marked m k (is_high end)) proper) (box_proper t m proper) once.narrower s.ok in
        let same : n.0 ≡ at.row = ok_value (sym n.1 ∙ okm) in
        let from : (component_of s.row c).low ≤ℤ (component_of at.row c).low = subst (λ (z : List Ends). (component_of s.row c).low ≤ℤ (component_of z c).low) same (n.2 c (subst (λ (z : ℕ). c < z) (sym (box_size proper m)) h)).from in
        record {
          marks = marks;
          sound = λ g below. record {
            fit = subst (λ (z : boxes.Marks). MarksFit z t) (sym marks) once.fits;
            ends = subst (λ (z : boxes.Marks). (j : ℕ) → bit z.fixed j ≡ false → bit z.ends j ≡ false) (sym marks) (marked_ends m k (is_high end) free s.ends);
            row = at.row;
            ok = ok;
            low = at.low;
            thin = λ z. let l = at.reaches in omega (arith, ints);
          };
          rises = let a = s.low in let b = at.low in omega (arith, ints);
          fewer = subst (λ (z : boxes.Marks). wide_entries (box_of z t) + 1 ≡ wide_entries (box_of m t)) (sym marks) once.fewer;
          met = at.met;
        }
