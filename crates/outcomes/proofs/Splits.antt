-- A split keeps what a started search keeps. Assumes nothing.
use Rattle.std.proofs.Common.{◌≡◌, ℕ, ◌+◌, ◌<◌, true, false, List, [], ◌∷◌, ◌++◌, length, ℤ, pos, ◌*ℤ◌, ◌≤ℤ◌, ◌<ℤ◌, Some, None, Ok, Err, sum_by, filter, Option, sym, refl, ap, ◌∙◌, subst, inl, inr, ⊎_elim, arith}
use borrow.Author.Differences.{ints}
use Rattle.std.specs.Int.{int_min}
use Rattle.std.specs.List.{remove, AllByRecursion}
use Rattle.std.proofs.lemmas.List.Edits.{length-remove}
use Rattle.std.proofs.ByRecursion.{All-append, All-get_or, all_kept_by, All-weaker}
use Rattle.std.proofs.lemmas.List.{length-append}
use Rattle.std.proofs.lemmas.Int.{clamps, by_lt_z}
use Rattle.std.proofs.lemmas.List.Sums.{sum_by-append, sum_by-cons}
use Rattle.algebra.specs.Vectors.{at}
use Rattle.algebra.proofs.Chaining.{ok_value, then_ok, guard_ok}
use Rattle.systems.specs.Boxes.{box_of}
use Rattle.systems.specs.Boxes as boxes
use Rattle.systems.specs.Points.{Proper}
use Rattle.systems.specs.Tables.{Table, wide_entries}
use Rattle.enclosures.specs.Methods.{Solvable, Agreed, Enclosed, Narrowing}
use Rattle.enclosures.specs.Verdicts.{Verdict}
use Rattle.partition.specs.declared.marks.End.TheVariants.{Low, High}
use Rattle.partition.specs.Boxing.{marked}
use Rattle.partition.specs.Choosing.{Choice, WidePlace, PlaceWhenSome}
use Rattle.partition.specs.Marking.{marks_of}
use Rattle.outcomes.specs.declared.record.Record.{Record}
use Rattle.outcomes.specs.declared.record.Entered.{Entered}
use Rattle.outcomes.specs.declared.refusal.SearchRefusal.TheVariants as refusal
use Rattle.outcomes.specs.Searching.{Started, fixing, settled, full, entered, replaced, opened_at, place_in, place_by, place_of, split_of}
use Rattle.outcomes.specs.Waiting.{nothing, leading_at, leading, not_above, kept_below}
use Rattle.outcomes.proofs.Covers.{NotAbove, covers, split_box}
use Rattle.outcomes.proofs.Entering.{Met, Sound, sound_below, Child, child, cross_twice, low_of, free_place}
use Rattle.outcomes.proofs.Inside.{box_proper}
use Rattle.outcomes.proofs.Keeping.{Held, After, Spread, weight, weight_some, doubled, few_wide, one_more_lem, scaled_under, scaled_strict, above, held_bounded, held_under, leading_sound}
use Rattle.outcomes.proofs.Leaders.{Any, any_left, any_right, any_removed, any_kept, all_removed, sum_removed, sum_kept, leading_there, leading-least}

-- the lesser of two figures is one of them
lesser : (P : ℤ → Type 0) (x y : ℤ) → P x → P y → P (int_min x y)
lesser P x y p q = by_lt_z x y
    (λ h. subst P (let e : x ≡ int_min x y = omega (arith, ints, clamps) in e) p)
    (λ h. subst P (let e : y ≡ int_min x y = omega (arith, ints, clamps) in e) q)

least_below : (f x y : ℤ) → (int_min (int_min f x) y ≤ℤ f) × (int_min (int_min f x) y ≤ℤ x) × (int_min (int_min f x) y ≤ℤ y)
least_below f x y = omega (arith, ints, clamps)

-- a solution not above one that is not above another
pub below_again : (u : Table) (e : ℕ) (q : List ℤ) (d : ℕ) (p : List ℤ) (c : ℕ) → 0 < e → NotAbove u e q c → (at q c *ℤ pos d) ≤ℤ (at p c *ℤ pos e) → NotAbove u d p c
below_again u e q d p c h n le = (n.0, n.1, n.2, n.3, cross_twice (at n.2 c) (at q c) (at p c) n.1 e d h n.4 le)

-- the list with two records in the place of one
abbrev opened : List Record → Entered → Entered → List Record
opened ws a b = remove ws (leading_at ws) ++ a.waiting ∷ b.waiting ∷ []

counted : (t : Table) (ws : List Record) (a b : Entered) → 0 < length ws → wide_entries (box_of (marks_of a.waiting.marks) t) + 1 ≡ wide_entries (box_of (marks_of (leading ws).marks) t)
    → wide_entries (box_of (marks_of b.waiting.marks) t) + 1 ≡ wide_entries (box_of (marks_of (leading ws).marks) t) → (sum_by (weight t) (opened ws a b) ≡ sum_by (weight t) ws) × (length (opened ws a b) ≡ length ws + 1)
counted t ws a b some fa fb =
    let f = weight t in
    let i = leading_at ws in
    let there = leading_there ws some in
    let x = sum_removed f ws i nothing there in
    let pa = doubled (wide_entries (box_of (marks_of a.waiting.marks) t)) (wide_entries (box_of (marks_of (leading ws).marks) t)) fa in
    let pb = doubled (wide_entries (box_of (marks_of b.waiting.marks) t)) (wide_entries (box_of (marks_of (leading ws).marks) t)) fb in
    let y = sum_by-append f (remove ws i) (a.waiting ∷ b.waiting ∷ []) in
    let z = sum_by-cons f a.waiting (b.waiting ∷ []) in
    let u = sum_by-cons f b.waiting [] in
    let l = length-append (remove ws i) (a.waiting ∷ b.waiting ∷ []) in
    let n = length-remove ws i there in
    (omega arith, omega arith)

module _ (v : Table → Verdict) (t : Table) (proper : Proper t) (solvable : Solvable v) (agreed : Agreed v) (enclosed : Enclosed v) (narrowing : Narrowing v) where
  module _ (s : Started) (held : Held v t s) (k : ℕ) (wide : WidePlace (box_of (marks_of (leading s.waiting).marks) t) k) (a b : Entered)
      (ca : Child v t s.component (leading s.waiting) k false a) (cb : Child v t s.component (leading s.waiting) k true b) where
    -- a solution above one in a waiting box is above one in a box that waits now
    still : (d : ℕ) (p : List ℤ) → Any (λ w. NotAbove (box_of (marks_of w.marks) t) d p s.component) s.waiting → Any (λ w. NotAbove (box_of (marks_of w.marks) t) d p s.component) (opened s.waiting a b)
    still d p some =
        let c = s.component in
        let ws = s.waiting in
        let m = marks_of (leading ws).marks in
        let sound = leading_sound v t proper enclosed s held in
        let free = free_place v t proper solvable enclosed narrowing c s.high (leading ws) k sound wide in
        let pair = a.waiting ∷ b.waiting ∷ [] in
        let near = λ (w : Record). NotAbove (box_of (marks_of w.marks) t) d p c in
        let split = split_box t m k proper sound.fit free in
        ⊎_elim
        (λ n. ⊎_elim
        (λ l. any_right near (remove ws (leading_at ws)) pair (inl (subst (λ (z : boxes.Marks). NotAbove (box_of z t) d p c) (sym ca.marks) (below_again (box_of (marked m k false) t) n.1 n.2 d p c n.3.positive l n.4))))
        (λ h. any_right near (remove ws (leading_at ws)) pair (inr (inl (subst (λ (z : boxes.Marks). NotAbove (box_of z t) d p c) (sym cb.marks) (below_again (box_of (marked m k true) t) n.1 n.2 d p c n.3.positive h n.4)))))
        (covers v solvable agreed (box_of m t) (box_of (marked m k false) t) (box_of (marked m k true) t) k sound.row (box_proper t m proper) sound.ok split n.0 n.1 n.2 n.3 c))
        (λ rest. any_left near (remove ws (leading_at ws)) pair rest)
        (any_removed near ws (leading_at ws) nothing some)

    all_sound : (f : ℤ) → f ≤ℤ s.high → f ≤ℤ a.high → f ≤ℤ b.high → AllByRecursion (Sound v t s.component f) (opened s.waiting a b)
    all_sound f below la lb =
        let c = s.component in
        let ws = s.waiting in
        All-append (Sound v t c f) (remove ws (leading_at ws)) (a.waiting ∷ b.waiting ∷ [])
        (all_removed (Sound v t c f) ws (leading_at ws) (All-weaker (Sound v t c s.high) (Sound v t c f) (λ w q. sound_below v t c s.high f w below q) ws held.sound))
        (ca.sound f la, (cb.sound f lb, tt))

    all_above : AllByRecursion (λ w. (leading s.waiting).low ≤ℤ w.low) (opened s.waiting a b)
    all_above =
        let ws = s.waiting in
        All-append (λ w. (leading ws).low ≤ℤ w.low) (remove ws (leading_at ws)) (a.waiting ∷ b.waiting ∷ [])
        (all_removed (λ w. (leading ws).low ≤ℤ w.low) ws (leading_at ws) (leading-least ws))
        (ca.rises, (cb.rises, tt))

    -- what is dropped is above the high figure
    spread_kept : (f : ℤ) → f ≤ℤ s.high → f ≤ℤ a.high → f ≤ℤ b.high → Spread t s.component f (filter (not_above f) (opened s.waiting a b))
    spread_kept f below la lb P d p sol =
        let c = s.component in
        let near = λ (w : Record). NotAbove (box_of (marks_of w.marks) t) d p c in
        let x = pos 16384 *ℤ at p c in
        ⊎_elim
        (λ some. any_kept (not_above f) near (Sound v t c f) ((f *ℤ pos d) <ℤ x)
        (λ w q n e. scaled_strict f w.low x d sol.positive (above w f e) (low_of v t proper enclosed c f w held.inside q d p n))
        (opened s.waiting a b) (all_sound f below la lb) (still d p some))
        (λ strict. inr (scaled_under f s.high x d below strict))
        (held.spread P d p sol)

    replaced_held : Held v t (replaced s a b)
    unfolding replaced kept_below
    replaced_held =
        let f = int_min (int_min s.high a.high) b.high in
        let l = least_below s.high a.high b.high in
        let c = s.component in
        let ws = s.waiting in
        let counts = counted t ws a b (held_under v t proper enclosed s held).0 ca.fewer cb.fewer in
        let kept = sum_kept (weight t) (weight_some t) (not_above f) (opened ws a b) in
        let bound = held_bounded v t s held in
        let more = one_more_lem s.splits (let w = few_wide t proper in omega arith) in
        let was = held.counts in
        let few = held.few in
        record {
          inside = held.inside;
          sound = all_kept_by (not_above f) (Sound v t c f) (opened ws a b) (all_sound f l.0 l.1 l.2);
          met = lesser (Met v t c) (int_min s.high a.high) b.high (lesser (Met v t c) s.high a.high held.met ca.met) cb.met;
          spread = spread_kept f l.0 l.1 l.2;
          few = let x = kept.1 in let y = counts.0 in omega arith;
          counts = let x = kept.0 in let y = counts.0 in let z = counts.1 in omega arith;
        }

    replaced-after : After v t s (replaced s a b) 1
    unfolding replaced kept_below
    replaced-after =
        let f = int_min (int_min s.high a.high) b.high in
        let l = least_below s.high a.high b.high in
        let ws = s.waiting in
        let next = filter (not_above f) (opened ws a b) in
        let bound = held_bounded v t s held in
        record {
          component = refl;
          low = All-get_or (λ w. (leading ws).low ≤ℤ w.low) next (leading_at next) nothing (leading_there next (held_under v t proper enclosed (replaced s a b) replaced_held).0) (all_kept_by (not_above f) (λ w. (leading ws).low ≤ℤ w.low) (opened ws a b) all_above);
          high = l.0;
          splits = one_more_lem s.splits (let w = few_wide t proper in omega arith);
        }

  -- ---- what a split that is carried out did
  place_ok : (r : Choice) → PlaceWhenSome r → (u : Table) (o : Verdict) (k : ℕ) → place_by r u o ≡ Ok k → WidePlace u k
  place_ok r places u (Ok row) k e = by_answer (r u row) refl e
    where
      by_answer : (o : Option ℕ) → r u row ≡ o → place_in o ≡ Ok k → WidePlace u k
      by_answer (Some j) q h = places u row k (q ∙ ap (λ (n : ℕ). Some n) (ok_value h))
      by_answer None q h = absurd (let z : ◌≡◌ {A = ℕ} 0 1 = cc in omega arith)
  place_ok r places u (Err f) k e = absurd (let z : ◌≡◌ {A = ℕ} 0 1 = cc in omega arith)

  pub split_held : (r : Choice) → PlaceWhenSome r → (s next : Started) → Held v t s → split_of v r t s ≡ Ok next → Held v t next × After v t s next 1
  unfolding split_of opened_at place_of
  split_held r places s next held e =
      let c = s.component in
      let w = leading s.waiting in
      let x = guard_ok (settled t s) refusal.Settled _ next e in
      let y = guard_ok (full s) refusal.Full _ next x.1 in
      let z = then_ok (place_by r (box_of (marks_of w.marks) t) (v (box_of (marks_of w.marks) t))) _ next y.1 in
      let k = z.0 in
      let wide = place_ok r places (box_of (marks_of w.marks) t) (v (box_of (marks_of w.marks) t)) k z.1 in
      let i = then_ok (entered v t c (fixing w.marks k Low)) _ next z.2 in
      let j = then_ok (entered v t c (fixing w.marks k High)) _ next i.2 in
      let sound = leading_sound v t proper enclosed s held in
      let ca = child v t proper solvable enclosed narrowing c s.high w k Low i.0 held.inside sound wide i.1 in
      let cb = child v t proper solvable enclosed narrowing c s.high w k High j.0 held.inside sound wide j.1 in
      subst (λ (n : Started). Held v t n × After v t s n 1) (ok_value j.2)
      (replaced_held s held k wide i.0 j.0 ca cb, replaced-after s held k wide i.0 j.0 ca cb)
