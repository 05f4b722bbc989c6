-- The leading record as the code looks for it. Assumes nothing.
use Rattle.std.proofs.Common.{◌≡◌, ℕ, ◌+◌, ◌<◌, Bool, true, false, cond, List, [], ◌∷◌, ◌++◌, map, length, ℤ, Some, None, Option, sym, refl, ap, ◌∙◌, subst, add-one, append_assoc, arith, length-append}
use lib.Signed.{lt_z}
use borrow.Author.Differences.{ints}
use denote.Param.Members.{Mut}
use denote.Ref.{Bor}
use Rattle.std.proofs.lemmas.Cmp.{int_ranked}
use Rattle.std.proofs.iter.Yields.{gives_Drains}
use Rattle.std.proofs.lemmas.Iterator.{YieldsList}
use Rattle.std.proofs.lemmas.List.{get_or_at}
use Rattle.std.specs.Fn.{CalledAt}
use Rattle.std.specs.Iterator.{KeyTurn, PicksMinByKey}
use Rattle.std.specs.List.{FoldsTo, fold, enumerate_from}
use Rattle.std.specs.Option.{MatchOption}
use Rattle.std.specs.Ordering.{int_cmp, min_by_ordering}
use Rattle.std.specs.declared.cmp.Ordering.{Ordering}
use Rattle.std.specs.declared.cmp.Ordering.TheVariants.{Less, Equal, Greater}
use Rattle.outcomes.specs.declared.record.Record.{Record}
use Rattle.outcomes.proofs.Leaders.{leading_there}
use Rattle.outcomes.specs.Waiting.{nothing, record_at, leading_below, leading_at, leading}

-- the earlier of two items, unless the key of the later one is less
abbrev earlier : {X : Type 0} → (X → ℤ) → X → X → X
earlier key x y = cond (lt_z (key y) (key x)) y x

-- ---- what `min_by_key` picks
picked : {X : Type 0} (a b : ℤ) (x y : X) (o : Ordering) → int_cmp a b ≡ o → min_by_ordering o x y ≡ cond (lt_z b a) y x
picked a b x y Less e = let l = int_ranked a b Less (sym e) in let no : lt_z b a ≡ false = grind (arith, ints) in (λ i. cond (sym no i) y x)
picked a b x y Equal e = let l = int_ranked a b Equal (sym e) in let no : lt_z b a ≡ false = grind (arith, ints) in (λ i. cond (sym no i) y x)
picked a b x y Greater e = let l = int_ranked a b Greater (sym e) in let yes : lt_z b a ≡ true = grind (arith, ints) in (λ i. cond (sym yes i) y x)

module _ {A B F : Type 0} (v : A → B) (key : B → ℤ) (g : Mut F (Bor A × Unit {0}) ℤ) (f : F) (reads : (x : A) (k : ℤ) (q : F) → CalledAt g f x k q → (q ≡ f) × (k ≡ key (v x))) where
  picks : (xs : List A) (p q : (F × ℤ) × A) → p.0.0 ≡ f → p.0.1 ≡ key (v p.1) → FoldsTo {P = (F × ℤ) × A} (KeyTurn min_by_ordering min_by_ordering g int_cmp) p xs q → v q.1 ≡ fold (earlier key) (v p.1) (map v xs)
  picks [] p q a b h = ap (λ (w : (F × ℤ) × A). v w.1) (sym h)
  picks (x ∷ xs) p q a b h =
      let next = h.0 in
      let turn = h.1 in
      let read = reads x turn.0 next.0.0 (subst (λ (z : F). CalledAt g z x turn.0 next.0.0) a turn.2) in
      let one : next.1 ≡ cond (lt_z turn.0 p.0.1) x p.1 = turn.5 ∙ picked p.0.1 turn.0 p.1 x turn.1 turn.3 in
      let best : v next.1 ≡ earlier key (v p.1) (v x) = ap v one ∙ viewed (lt_z turn.0 p.0.1) ∙ (λ i. cond (lt_z (read.1 i) (b i)) (v x) (v p.1)) in
      let its-key : next.0.1 ≡ key (v next.1) = turn.4 ∙ picked p.0.1 turn.0 p.0.1 turn.0 turn.1 turn.3 ∙ keyed (lt_z turn.0 p.0.1) read.1 ∙ sym (ap (λ (z : A). key (v z)) one) in
      picks xs next q read.0 its-key h.2 ∙ ap (λ (w : B). fold (earlier key) w (map v xs)) best
    where
      viewed : (t : Bool) → v (cond t x p.1) ≡ cond t (v x) (v p.1)
      viewed true = refl
      viewed false = refl

      keyed : (t : Bool) {k : ℤ} → k ≡ key (v x) → cond t k p.0.1 ≡ key (v (cond t x p.1))
      keyed true e = e
      keyed false e = b

-- ---- the records with their places
abbrev low_of : ℕ × Record → ℤ
low_of found = found.1.low

led : (ws front rest : List Record) (m : ℕ) → front ++ rest ≡ ws → length front ≡ m → fold (earlier low_of) (leading_below ws m, record_at ws (leading_below ws m)) (enumerate_from m rest) ≡ (leading_at ws, leading ws)
unfolding leading_at
led ws front [] m e l =
    let all : m ≡ length ws = let q = ap length e in omega (arith, length-append front []) in
    (λ i. (leading_below ws (all i), record_at ws (leading_below ws (all i))))
led ws front (x ∷ rest) m e l =
    let here : x ≡ record_at ws m = sym (get_or_at front x rest nothing m l) ∙ ap (λ zs. record_at zs m) e in
    let more : (front ++ x ∷ []) ++ rest ≡ ws = append_assoc front (x ∷ []) rest ∙ e in
    let long : length (front ++ x ∷ []) ≡ m + 1 = omega (arith, length-append front (x ∷ [])) in
    ap (λ w. fold (earlier low_of) w (enumerate_from (m + 1) rest)) (by_test (lt_z x.low (record_at ws b).low) here ∙ next here) ∙ led ws (front ++ x ∷ []) rest (m + 1) more long
  where
    b : ℕ
    b = leading_below ws m

    by_test : (t : Bool) → x ≡ record_at ws m → ◌≡◌ {A = ℕ × Record} (cond t (m, x) (b, record_at ws b)) (cond t m b, record_at ws (cond t m b))
    by_test true h = λ i. (m, h i)
    by_test false h = refl

    next : x ≡ record_at ws m → ◌≡◌ {A = ℕ × Record} (cond (lt_z x.low (record_at ws b).low) m b, record_at ws (cond (lt_z x.low (record_at ws b).low) m b)) (leading_below ws (m + 1), record_at ws (leading_below ws (m + 1)))
    next h = (λ i. (cond (lt_z (h i).low (record_at ws b).low) m b, record_at ws (cond (lt_z (h i).low (record_at ws b).low) m b))) ∙ (λ i. (leading_below ws (sym (add-one m) i), record_at ws (leading_below ws (sym (add-one m) i))))

led_from_first : (w : Record) (ws : List Record) → fold (earlier low_of) (0, w) (enumerate_from 1 ws) ≡ (leading_at (w ∷ ws), leading (w ∷ ws))
led_from_first w ws = ap (λ (p : ℕ × Record). fold (earlier low_of) p (enumerate_from 1 ws)) (first (lt_z w.low w.low)) ∙ led (w ∷ ws) (w ∷ []) ws 1 refl refl
  where
    first : (t : Bool) → ◌≡◌ {A = ℕ × Record} (0, w) (cond t 0 0, record_at (w ∷ ws) (cond t 0 0))
    first true = refl
    first false = refl

-- a place with the record that stands there
abbrev shown : ℕ × Bor Record → ℕ × Record
shown found = (found.0, found.1.now)

-- what is found by the least low figure among the records with their places
pub leader : {S F : Type 0} {steps : S → Option (ℕ × Bor Record) → S → Type 0} (s : S) (f : F) (g : Mut F (Bor (ℕ × Bor Record) × Unit {0}) ℤ) (r : Option (ℕ × Bor Record)) (ws : List Record)
    → ((x : ℕ × Bor Record) (k : ℤ) (q : F) → CalledAt g f x k q → (q ≡ f) × (k ≡ x.1.now.low)) → PicksMinByKey steps g int_cmp s f r → YieldsList steps shown s (enumerate_from 0 ws)
    → MatchOption r (length ws ≡ 0) (λ found. (found.0 < length ws) × (found.0 ≡ leading_at ws) × (found.1.now ≡ leading ws))
leader {steps = steps} s f g None [] reads ran gives = refl
leader {steps = steps} s f g None (w ∷ ws) reads ran gives = absurd (let none = ap length (gives_Drains steps shown [] (enumerate_from 0 (w ∷ ws)) s gives.runs ran) in omega arith)
leader {steps = steps} s f g (Some y) [] reads ran gives = absurd (let some = ap length (gives_Drains steps shown (ran.0 ∷ ran.1) [] s gives.runs ran.5) in omega arith)
leader {steps = steps} s f g (Some y) (w ∷ ws) reads ran gives =
    let x = ran.0 in
    let xs = ran.1 in
    let read = reads x ran.2 ran.3 ran.6 in
    let same : shown x ∷ map shown xs ≡ (0, w) ∷ enumerate_from 1 ws = gives_Drains steps shown (x ∷ xs) (enumerate_from 0 (w ∷ ws)) s gives.runs ran.5 in
    let first : shown x ≡ (0, w) = cc in
    let others : map shown xs ≡ enumerate_from 1 ws = cc in
    let is : shown y ≡ (leading_at (w ∷ ws), leading (w ∷ ws)) = picks shown low_of g f reads xs ((ran.3, ran.2), x) (ran.4, y) read.0 read.1 ran.7 ∙ (λ i. fold (earlier low_of) (first i) (others i)) ∙ led_from_first w ws in
    let place : y.0 ≡ leading_at (w ∷ ws) = ap (λ (found : ℕ × Record). found.0) is in
    let there = leading_there (w ∷ ws) (omega arith) in
    (omega arith, place, ap (λ (found : ℕ × Record). found.1) is)
