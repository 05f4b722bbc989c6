-- Elimination narrows: on working rows within wider ones each step is accepted where it is on the wider ones, and its answer lies within theirs. Assumes nothing.
use Rattle.std.specs.Prelude.{◌≡◌, ℕ, zero, suc, false, List, [], ◌∷◌, drop, pos, Ok, Result, slice_index_or, refl}
use Rattle.std.proofs.Common.{arith, ap, subst, ◌∙◌}
use Rattle.std.proofs.lemmas.Int.{ints}
use Rattle.std.specs.List.{AllByRecursion}
use Rattle.algebra.specs.Chaining.{and_then, each, each_with}
use Rattle.algebra.specs.Ends.{Ends, Ordered, Included, from_to}
use Rattle.algebra.proofs.Chaining.{ok_value, then_ok, guard_ok}
use Rattle.grains.specs.Arithmetic.{product_of, difference_of, quotient_of, contains_zero}
use Rattle.grains.specs.Narrowing.{IntervalOfFigures}
use Rattle.grains.specs.declared.interval.ArithmeticError.{ArithmeticError}
use Rattle.grains.specs.declared.interval.ArithmeticError.TheVariants.{DivisorContainsZero}
use Rattle.grains.proofs.Narrowing.{product_narrows, difference_narrows, quotient_narrows, operations_stay}
use Rattle.enclosures.specs.Elimination.{Row, lead, less_multiple, less_products, reduced_of, solved_of, eliminated}

-- an interval within another
pub record Inner (x y : Ends) : Type 0 where
  pub ordered : Ordered x
  pub included : Included x y

-- intervals within others, one by one; there are as many of them
abbrev pub Nested : List Ends → List Ends → Type 0
Nested [] [] = Unit {0}
Nested [] (y ∷ ys) = ⊥
Nested (x ∷ xs) [] = ⊥
Nested (x ∷ xs) (y ∷ ys) = Inner x y × Nested xs ys

pub record NestedRow (r s : Row) : Type 0 where
  pub coefficients : Nested r.coefficients s.coefficients
  pub right : Inner r.right s.right

-- an accepted step, its answer within a wider one
abbrev pub Within : {A : Type 0} → Result A ArithmeticError → (A → Type 0) → Type 0
Within {A} r P = (x : A) × (r ≡ Ok x) × P x

pub then_within : {A B : Type 0} (r : Result A ArithmeticError) (f : A → Result B ArithmeticError) (P : A → Type 0) (Q : B → Type 0) → Within r P → ((x : A) → P x → Within (f x) Q) → Within (and_then r f) Q
then_within r f P Q w h = let v = h w.0 w.2 in (v.0, ap (λ o. and_then o f) w.1 ∙ v.1, v.2)

pub quotient_within : (a b a' b' r' : Ends) → Inner a a' → Inner b b' → quotient_of a' b' ≡ Ok r' → Within (quotient_of a b) (λ r. Inner r r' × IntervalOfFigures r)
quotient_within a b a' b' r' p q e =
    let n = quotient_narrows a b a' b' r' p.ordered q.ordered p.included q.included e in
    let i = (operations_stay a b n.0 p.ordered q.ordered).2 n.1 in
    (n.0, n.1, (record { ordered = i.0; included = n.2 }, i))

multiple_within : (m a b m' a' b' d' : Ends) → Inner m m' → Inner a a' → Inner b b' → less_multiple m' a' b' ≡ Ok d' → Within (less_multiple m a b) (λ d. Inner d d')
unfolding less_multiple
multiple_within m a b m' a' b' d' im ia ib e =
    let s = then_ok (product_of m' b') (λ p. difference_of a' p) d' e in
    let p = product_narrows m b m' b' s.0 im.ordered ib.ordered im.included ib.included s.1 in
    let op = ((operations_stay m b p.0 im.ordered ib.ordered).0 p.1).0 in
    let d = difference_narrows a p.0 a' s.0 d' ia.ordered op ia.included p.2 s.2 in
    let od = ((operations_stay a p.0 d.0 ia.ordered op).1 d.1).0 in
    (d.0, ap (λ o. and_then o (λ q. difference_of a q)) p.1 ∙ d.1, record { ordered = od; included = d.2 })

multiples_within : (m m' : Ends) (es fs es' fs' ds' : List Ends) → Inner m m' → Nested es es' → Nested fs fs' → each_with (less_multiple m') es' fs' ≡ Ok ds' → Within (each_with (less_multiple m) es fs) (λ ds. Nested ds ds')
multiples_within m m' [] fs [] fs' ds' im ie jf ok = ([], refl, subst (λ (o : List Ends). Nested [] o) (ok_value ok) tt)
multiples_within m m' [] fs (e ∷ es') fs' ds' im ie jf ok = absurd ie
multiples_within m m' (e ∷ es) fs [] fs' ds' im ie jf ok = absurd ie
multiples_within m m' (e ∷ es) [] (e' ∷ es') [] ds' im ie jf ok = ([], refl, subst (λ (o : List Ends). Nested [] o) (ok_value ok) tt)
multiples_within m m' (e ∷ es) [] (e' ∷ es') (f' ∷ fs') ds' im ie jf ok = absurd jf
multiples_within m m' (e ∷ es) (f ∷ fs) (e' ∷ es') [] ds' im ie jf ok = absurd jf
multiples_within m m' (e ∷ es) (f ∷ fs) (e' ∷ es') (f' ∷ fs') ds' im ie jf ok =
    let p = then_ok (less_multiple m' e' f') (λ z. and_then (each_with (less_multiple m') es' fs') (λ zs. Ok (z ∷ zs))) ds' ok in
    let q = then_ok (each_with (less_multiple m') es' fs') (λ zs. Ok (p.0 ∷ zs)) ds' p.2 in
    let first = multiple_within m e f m' e' f' p.0 im ie.0 jf.0 p.1 in
    let rest = multiples_within m m' es fs es' fs' q.0 im ie.1 jf.1 q.1 in (
      first.0 ∷ rest.0,
      ap (λ o. and_then o (λ z. and_then (each_with (less_multiple m) es fs) (λ zs. Ok (z ∷ zs)))) first.1 ∙ ap (λ o. and_then o (λ zs. Ok (first.0 ∷ zs))) rest.1,
      subst (λ (o : List Ends). Nested (first.0 ∷ rest.0) o) (ok_value q.2) (first.2, rest.2),
    )

pub products_within : (b b' : Ends) (es xs es' xs' : List Ends) (d' : Ends) → Inner b b' → Nested es es' → Nested xs xs' → less_products b' es' xs' ≡ Ok d' → Within (less_products b es xs) (λ d. Inner d d')
products_within b b' [] xs [] xs' d' ib ie ix ok = (b, refl, subst (Inner b) (ok_value ok) ib)
products_within b b' [] xs (e' ∷ es') xs' d' ib ie ix ok = absurd ie
products_within b b' (e ∷ es) xs [] xs' d' ib ie ix ok = absurd ie
products_within b b' (e ∷ es) [] (e' ∷ es') [] d' ib ie ix ok = (b, refl, subst (Inner b) (ok_value ok) ib)
products_within b b' (e ∷ es) [] (e' ∷ es') (x' ∷ xs') d' ib ie ix ok = absurd ix
products_within b b' (e ∷ es) (x ∷ xs) (e' ∷ es') [] d' ib ie ix ok = absurd ix
products_within b b' (e ∷ es) (x ∷ xs) (e' ∷ es') (x' ∷ xs') d' ib ie ix ok =
    let p = then_ok (less_multiple e' b' x') (λ c. less_products c es' xs') d' ok in
    then_within (less_multiple e b x) (λ c. less_products c es xs) (λ c. Inner c p.0) (λ d. Inner d d')
    (multiple_within e b x e' b' x' p.0 ie.0 ib ix.0 p.1) (λ c ic. products_within c p.0 es xs es' xs' d' ic ie.1 ix.1 p.2)

-- ---- rows
origin_inner : Inner (from_to (pos 0) (pos 0)) (from_to (pos 0) (pos 0))
origin_inner = record { ordered = omega (arith, ints); included = record { from = omega (arith, ints); to = omega (arith, ints) } }

lead_inner : (es es' : List Ends) → Nested es es' → Inner (slice_index_or es 0 (from_to (pos 0) (pos 0))) (slice_index_or es' 0 (from_to (pos 0) (pos 0)))
lead_inner [] [] n = origin_inner
lead_inner [] (y ∷ ys) n = absurd n
lead_inner (x ∷ xs) [] n = absurd n
lead_inner (x ∷ xs) (y ∷ ys) n = n.0

rest_nested : (es es' : List Ends) → Nested es es' → Nested (drop 1 es) (drop 1 es')
rest_nested [] [] n = tt
rest_nested [] (y ∷ ys) n = absurd n
rest_nested (x ∷ xs) [] n = absurd n
rest_nested (x ∷ xs) (y ∷ ys) n = n.1

reduced_within : (p r p' r' q' : Row) → NestedRow p p' → NestedRow r r' → reduced_of p' r' ≡ Ok q' → Within (reduced_of p r) (λ q. NestedRow q q')
unfolding reduced_of
reduced_within p r p' r' q' np nr ok =
    let first = then_ok (quotient_of (lead r') (lead p')) (λ m. and_then (each_with (less_multiple m) (drop 1 r'.coefficients) (drop 1 p'.coefficients)) (λ cs. and_then (less_multiple m r'.right p'.right) (λ b. Ok (record { coefficients = cs; right = b })))) q' ok in
    let second = then_ok (each_with (less_multiple first.0) (drop 1 r'.coefficients) (drop 1 p'.coefficients)) (λ cs. and_then (less_multiple first.0 r'.right p'.right) (λ b. Ok (record { coefficients = cs; right = b }))) q' first.2 in
    let third = then_ok (less_multiple first.0 r'.right p'.right) (λ b. Ok (record { coefficients = second.0; right = b })) q' second.2 in
    let m = quotient_within (lead r) (lead p) (lead r') (lead p') first.0 (lead_inner r.coefficients r'.coefficients nr.coefficients) (lead_inner p.coefficients p'.coefficients np.coefficients) first.1 in
    let cs = multiples_within m.0 first.0 (drop 1 r.coefficients) (drop 1 p.coefficients) (drop 1 r'.coefficients) (drop 1 p'.coefficients) second.0 m.2.0 (rest_nested r.coefficients r'.coefficients nr.coefficients) (rest_nested p.coefficients p'.coefficients np.coefficients) second.1 in
    let b = multiple_within m.0 r.right p.right first.0 r'.right p'.right third.0 m.2.0 nr.right np.right third.1 in (
      record { coefficients = cs.0; right = b.0 },
      rw (m.1, cs.1, b.1) refl,
      subst (NestedRow (record { coefficients = cs.0; right = b.0 })) (ok_value third.2) (record { coefficients = cs.2; right = b.2 }),
    )

-- rows within others, one by one
abbrev pub NestedRows : List Row → List Row → Type 0
NestedRows [] [] = Unit {0}
NestedRows [] (y ∷ ys) = ⊥
NestedRows (x ∷ xs) [] = ⊥
NestedRows (x ∷ xs) (y ∷ ys) = NestedRow x y × NestedRows xs ys

each_within : (p p' : Row) (rs rs' qs' : List Row) → NestedRow p p' → NestedRows rs rs' → each (reduced_of p') rs' ≡ Ok qs' → Within (each (reduced_of p) rs) (λ qs. NestedRows qs qs')
each_within p p' [] [] qs' np nr ok = ([], refl, subst (λ (o : List Row). NestedRows [] o) (ok_value ok) tt)
each_within p p' [] (r' ∷ rs') qs' np nr ok = absurd nr
each_within p p' (r ∷ rs) [] qs' np nr ok = absurd nr
each_within p p' (r ∷ rs) (r' ∷ rs') qs' np nr ok =
    let f = then_ok (reduced_of p' r') (λ z. and_then (each (reduced_of p') rs') (λ zs. Ok (z ∷ zs))) qs' ok in
    let s = then_ok (each (reduced_of p') rs') (λ zs. Ok (f.0 ∷ zs)) qs' f.2 in
    let first = reduced_within p r p' r' f.0 np nr.0 f.1 in
    let rest = each_within p p' rs rs' s.0 np nr.1 s.1 in
    (first.0 ∷ rest.0, rw (first.1, rest.1) refl, subst (λ (o : List Row). NestedRows (first.0 ∷ rest.0) o) (ok_value s.2) (first.2, rest.2))

still_apart : (x y : Ends) → Inner x y → contains_zero y ≡ false → contains_zero x ≡ false
unfolding contains_zero
still_apart x y i e = grind (arith, ints)

solved_within : (p p' : Row) (xs xs' : List Ends) (z' : Ends) → NestedRow p p' → Nested xs xs' → solved_of p' xs' ≡ Ok z' → Within (solved_of p xs) (λ z. Inner z z' × IntervalOfFigures z)
unfolding solved_of
solved_within p p' xs xs' z' np nx ok =
    let s = then_ok (less_products p'.right (drop 1 p'.coefficients) xs') (λ d. quotient_of d (lead p')) z' ok in
    then_within (less_products p.right (drop 1 p.coefficients) xs) (λ d. quotient_of d (lead p)) (λ d. Inner d s.0) (λ z. Inner z z' × IntervalOfFigures z)
    (products_within p.right p'.right (drop 1 p.coefficients) xs (drop 1 p'.coefficients) xs' s.0 np.right (rest_nested p.coefficients p'.coefficients np.coefficients) nx s.1)
    (λ d id. quotient_within d (lead p) s.0 (lead p') z' id (lead_inner p.coefficients p'.coefficients np.coefficients) s.2)

pub eliminated_within : (n : ℕ) (rs rs' : List Row) (row' : List Ends) → NestedRows rs rs' → eliminated n rs' ≡ Ok row' → Within (eliminated n rs) (λ row. Nested row row' × AllByRecursion IntervalOfFigures row)
unfolding eliminated
eliminated_within zero rs rs' row' nr ok = ([], refl, (subst (λ (o : List Ends). Nested [] o) (ok_value ok) tt, tt))
eliminated_within (suc n) [] [] row' nr ok = ([], refl, (subst (λ (o : List Ends). Nested [] o) (ok_value ok) tt, tt))
eliminated_within (suc n) [] (r' ∷ rs') row' nr ok = absurd nr
eliminated_within (suc n) (r ∷ rs) [] row' nr ok = absurd nr
eliminated_within (suc n) (p ∷ rs) (p' ∷ rs') row' nr ok =
    let guard = guard_ok (contains_zero (lead p')) DivisorContainsZero (and_then (each (reduced_of p') rs') (λ rest. and_then (eliminated n rest) (λ xs. and_then (solved_of p' xs) (λ z. Ok (z ∷ xs))))) row' ok in
    let f = then_ok (each (reduced_of p') rs') (λ rest. and_then (eliminated n rest) (λ xs. and_then (solved_of p' xs) (λ z. Ok (z ∷ xs)))) row' guard.1 in
    let g = then_ok (eliminated n f.0) (λ xs. and_then (solved_of p' xs) (λ z. Ok (z ∷ xs))) row' f.2 in
    let h = then_ok (solved_of p' g.0) (λ z. Ok (z ∷ g.0)) row' g.2 in
    let apart = still_apart (lead p) (lead p') (lead_inner p.coefficients p'.coefficients nr.0.coefficients) guard.0 in
    let rest = each_within p p' rs rs' f.0 nr.0 nr.1 f.1 in
    let xs = eliminated_within n rest.0 f.0 g.0 rest.2 g.1 in
    let z = solved_within p p' xs.0 g.0 h.0 nr.0 xs.2.0 h.1 in
    (z.0 ∷ xs.0, rw (apart, rest.1, xs.1, z.1) refl, (subst (λ (o : List Ends). Nested (z.0 ∷ xs.0) o) (ok_value h.2) (z.2.0, xs.2.0), (z.2.1, xs.2.1)))
