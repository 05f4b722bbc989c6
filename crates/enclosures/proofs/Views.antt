-- Loops that work out answers one after another, as the definitions chain them. Assumes nothing.
use Rattle.std.proofs.Common.{◌≡◌, ℕ, ◌+◌, ◌<◌, ◌≤◌, ◌⊎◌, true, false, cond, List, [], ◌∷◌, ◌++◌, map, length, get_or, take, drop, set, Ok, Err, Result, inl, inr, sym, refl, ap, ◌∙◌, append_assoc, append-nil, arith}
use Rattle.std.proofs.lemmas.List.{drop_more, drop-set-lt, take_more_set, map_push, take_all, drop_all}
use Rattle.algebra.specs.Chaining.{and_then, each, each_with}
use Rattle.algebra.specs.Ends.{Ends}
use Rattle.grains.specs.Arithmetic.{ends_of, contains_zero}
use Rattle.grains.specs.declared.interval.ArithmeticError.{ArithmeticError}
use Rattle.grains.specs.declared.interval.ArithmeticError.TheVariants.{DivisorContainsZero}
use Rattle.grains.specs.declared.interval.Interval.{Interval}
use Rattle.enclosures.specs.declared.line.Line.{Line}
use Rattle.enclosures.specs.Elimination.{lead, less_multiple, less_products, reduced_of, solved_of, eliminated}
use Rattle.enclosures.specs.Working.{viewed}

empty : {X : Type 0} (xs : List X) → length xs ≡ 0 → xs ≡ []
empty [] h = refl
empty (x ∷ xs) h = absurd (omega arith)

-- ---- products that are taken from a start
module _ (b : Ends) (cs xs : List Interval) where
  module _ (c x : Interval) (cs' xs' : List Interval) (coefficient : cs ≡ c ∷ cs') (component : xs ≡ x ∷ xs') where
    turn : less_products b (map ends_of cs) (map ends_of xs) ≡ and_then (less_multiple (ends_of c) b (ends_of x)) (λ d. less_products d (map ends_of cs') (map ends_of xs'))
    turn = λ i. less_products b (map ends_of (coefficient i)) (map ends_of (component i))

    pub products_on : (d : Ends) → Ok d ≡ less_multiple (ends_of c) b (ends_of x) → less_products b (map ends_of cs) (map ends_of xs) ≡ less_products d (map ends_of cs') (map ends_of xs')
    products_on d made = turn ∙ ap (λ r. and_then r (λ y. less_products y (map ends_of cs') (map ends_of xs'))) (sym made)

    pub products_stop : (e : ArithmeticError) → Err e ≡ less_multiple (ends_of c) b (ends_of x) → less_products b (map ends_of cs) (map ends_of xs) ≡ Err e
    products_stop e made = turn ∙ ap (λ r. and_then r (λ y. less_products y (map ends_of cs') (map ends_of xs'))) (sym made)

  pub products_end : (length cs ≡ 0) ⊎ (length xs ≡ 0) → less_products b (map ends_of cs) (map ends_of xs) ≡ Ok b
  products_end (inl none) = ap (λ ys. less_products b (map ends_of ys) (map ends_of xs)) (empty cs none)
  products_end (inr none) = ap (λ ys. less_products b (map ends_of cs) (map ends_of ys)) (empty xs none) ∙ no_component (map ends_of cs)
    where
      no_component : (es : List Ends) → less_products b es [] ≡ Ok b
      no_component [] = refl
      no_component (e ∷ es) = refl

-- ---- answers that are put behind those that stand in front
regrouped : {C E : Type 0} (r : Result (List C) E) (front : List C) (z : C)
    → and_then (and_then r (λ zs. Ok (z ∷ zs))) (λ ys. Ok (front ++ ys)) ≡ and_then r (λ ys. Ok ((front ++ z ∷ []) ++ ys))
regrouped (Ok zs) front z = ap Ok (sym (append_assoc front (z ∷ []) zs))
regrouped (Err e) front z = refl

pub unchained : {A E : Type 0} (r : Result A E) → r ≡ and_then r (λ x. Ok x)
unchained (Ok x) = refl
unchained (Err e) = refl

module _ {A B C E : Type 0} (f : A → B → Result C E) (front : List C) (cs : List A) (ps : List B) where
  module _ (c : A) (p : B) (cs' : List A) (ps' : List B) (first : cs ≡ c ∷ cs') (second : ps ≡ p ∷ ps') where
    pair : and_then (each_with f cs ps) (λ ys. Ok (front ++ ys)) ≡ and_then (and_then (f c p) (λ z. and_then (each_with f cs' ps') (λ zs. Ok (z ∷ zs)))) (λ ys. Ok (front ++ ys))
    pair = λ i. and_then (each_with f (first i) (second i)) (λ ys. Ok (front ++ ys))

    pub pairs_on : (z : C) → Ok z ≡ f c p → and_then (each_with f cs ps) (λ ys. Ok (front ++ ys)) ≡ and_then (each_with f cs' ps') (λ ys. Ok ((front ++ z ∷ []) ++ ys))
    pairs_on z made = pair ∙ ap (λ r. and_then (and_then r (λ z'. and_then (each_with f cs' ps') (λ zs. Ok (z' ∷ zs)))) (λ ys. Ok (front ++ ys))) (sym made) ∙ regrouped (each_with f cs' ps') front z

    pub pairs_stop : (e : E) → Err e ≡ f c p → and_then (each_with f cs ps) (λ ys. Ok (front ++ ys)) ≡ Err e
    pairs_stop e made = pair ∙ ap (λ r. and_then (and_then r (λ z'. and_then (each_with f cs' ps') (λ zs. Ok (z' ∷ zs)))) (λ ys. Ok (front ++ ys))) (sym made)

  pub pairs_end : (length cs ≡ 0) ⊎ (length ps ≡ 0) → and_then (each_with f cs ps) (λ ys. Ok (front ++ ys)) ≡ Ok front
  pairs_end (inl none) = ap (λ zs. and_then (each_with f zs ps) (λ ys. Ok (front ++ ys))) (empty cs none) ∙ ap Ok (append-nil front)
  pairs_end (inr none) = ap (λ zs. and_then (each_with f cs zs) (λ ys. Ok (front ++ ys))) (empty ps none) ∙ alone cs
    where
      alone : (zs : List A) → and_then (each_with f zs []) (λ ys. Ok (front ++ ys)) ≡ Ok front
      alone [] = ap Ok (append-nil front)
      alone (z ∷ zs) = ap Ok (append-nil front)

-- ---- elements that are replaced one by one
module _ {X A C E : Type 0} (f : A → Result C E) (v : X → A) (w : X → C) (now was : List X) (i : ℕ) (x y : X) (h : i < length now) (h' : i < length was) (rest : drop i now ≡ drop i was) where
  element : get_or now i x ≡ get_or was i x
  element = let p = drop_more now i x h in let q = drop_more was i x h' in cc

  turn_at : and_then (each f (map v (drop i was))) (λ ys. Ok (map w (take i now) ++ ys))
      ≡ and_then (and_then (f (v (get_or now i x))) (λ z. and_then (each f (map v (drop (i + 1) was))) (λ zs. Ok (z ∷ zs)))) (λ ys. Ok (map w (take i now) ++ ys))
  turn_at = λ k. and_then (each f (map v ((drop_more was i x h' ∙ ap (λ e. e ∷ drop (i + 1) was) (sym element)) k))) (λ ys. Ok (map w (take i now) ++ ys))

  pub each_on : Ok (w y) ≡ f (v (get_or now i x))
      → and_then (each f (map v (drop i was))) (λ ys. Ok (map w (take i now) ++ ys)) ≡ and_then (each f (map v (drop (i + 1) was))) (λ ys. Ok (map w (take (i + 1) (set now i y)) ++ ys))
  each_on made =
      turn_at ∙ ap (λ r. and_then (and_then r (λ z. and_then (each f (map v (drop (i + 1) was))) (λ zs. Ok (z ∷ zs)))) (λ ys. Ok (map w (take i now) ++ ys))) (sym made)
      ∙ regrouped (each f (map v (drop (i + 1) was))) (map w (take i now)) (w y)
      ∙ ap (λ front. and_then (each f (map v (drop (i + 1) was))) (λ ys. Ok (front ++ ys))) (sym (ap (map w) (take_more_set now i y h) ∙ map_push w (take i now) y))

  pub each_stop : (e : E) → Err e ≡ f (v (get_or now i x)) → and_then (each f (map v (drop i was))) (λ ys. Ok (map w (take i now) ++ ys)) ≡ Err e
  each_stop e made = turn_at ∙ ap (λ r. and_then (and_then r (λ z. and_then (each f (map v (drop (i + 1) was))) (λ zs. Ok (z ∷ zs)))) (λ ys. Ok (map w (take i now) ++ ys))) (sym made)

  pub rest_on : drop (i + 1) (set now i y) ≡ drop (i + 1) was
  rest_on = let p = drop_more now i x h in let q = drop_more was i x h' in let s = drop-set-lt (i + 1) now i y (omega arith) in cc

pub each_end : {X A C E : Type 0} (f : A → Result C E) (v : X → A) (w : X → C) (now was : List X) (i : ℕ) → length was ≤ i → length now ≤ i
    → and_then (each f (map v (drop i was))) (λ ys. Ok (map w (take i now) ++ ys)) ≡ Ok (map w now)
each_end f v w now was i end end' =
    (λ k. and_then (each f (map v (drop_all i was end k))) (λ ys. Ok (map w (take_all i now end' k) ++ ys))) ∙ ap Ok (append-nil (map w now))

-- ---- elimination of lines: the first is the pivot line
pub eliminated_none : (ls : List Line) (xs : List Interval) → length ls ≡ 0 → length ls ≡ length xs → eliminated (length ls) (map viewed ls) ≡ Ok (map ends_of xs)
unfolding eliminated
eliminated_none ls xs none same =
    ap (λ ys. eliminated (length ys) (map viewed ys)) (empty ls none) ∙ ap (λ ys. Ok (map ends_of ys)) (sym (empty xs (sym same ∙ none)))

module _ (ls : List Line) (p : Line) (rest : List Line) (is : ls ≡ p ∷ rest) where
  whole : eliminated (length ls) (map viewed ls)
      ≡ cond (contains_zero (lead (viewed p))) (Err DivisorContainsZero)
      (and_then (each (reduced_of (viewed p)) (map viewed rest)) (λ rows.
      and_then (eliminated (length rest) rows) (λ xs.
      and_then (solved_of (viewed p) xs) (λ x.
      Ok (x ∷ xs)))))
  unfolding eliminated
  whole = ap (λ xs. eliminated (length xs) (map viewed xs)) is

  pub stops-at_pivot : contains_zero (lead (viewed p)) ≡ true → eliminated (length ls) (map viewed ls) ≡ Err DivisorContainsZero
  stops-at_pivot z = whole ∙ rw z refl

  module _ (z : contains_zero (lead (viewed p)) ≡ false) where
    pub stops_in_column : (e : ArithmeticError) → each (reduced_of (viewed p)) (map viewed rest) ≡ Err e → eliminated (length ls) (map viewed ls) ≡ Err e
    stops_in_column e column = whole ∙ rw (z, column) refl

    module _ (cleared : List Line) (same : length cleared ≡ length rest) (column : each (reduced_of (viewed p)) (map viewed rest) ≡ Ok (map viewed cleared)) where
      below : eliminated (length ls) (map viewed ls) ≡ and_then (eliminated (length cleared) (map viewed cleared)) (λ xs. and_then (solved_of (viewed p) xs) (λ x. Ok (x ∷ xs)))
      below = whole ∙ rw (z, column) (ap (λ n. and_then (eliminated n (map viewed cleared)) (λ xs. and_then (solved_of (viewed p) xs) (λ x. Ok (x ∷ xs)))) (sym same))

      pub stops_below : (e : ArithmeticError) → eliminated (length cleared) (map viewed cleared) ≡ Err e → eliminated (length ls) (map viewed ls) ≡ Err e
      stops_below e others = below ∙ rw others refl

      pub stops-at_solution : (xs : List Ends) (e : ArithmeticError) → eliminated (length cleared) (map viewed cleared) ≡ Ok xs → solved_of (viewed p) xs ≡ Err e → eliminated (length ls) (map viewed ls) ≡ Err e
      stops-at_solution xs e others first = below ∙ rw (others, first) refl

      pub solves : (xs : List Ends) (x : Ends) → eliminated (length cleared) (map viewed cleared) ≡ Ok xs → solved_of (viewed p) xs ≡ Ok x → eliminated (length ls) (map viewed ls) ≡ Ok (x ∷ xs)
      solves xs x others first = below ∙ rw (others, first) refl
