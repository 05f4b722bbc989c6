-- One function over a list, as a function of two elements that sees the first. Assumes nothing.
use Rattle.std.proofs.Common.{◌≡◌, List, [], ◌∷◌, Ok, Result, refl}
use Rattle.algebra.specs.Chaining.{and_then, each, each_with}

-- a function of the first of two elements
abbrev pub first : {A B C : Type 0} → (A → C) → A → B → C
first f x y = f x

pub each_with_lem : {A C E : Type 0} (f : A → Result C E) (xs : List A) → each f xs ≡ each_with (first f) xs xs
each_with_lem f [] = refl
each_with_lem f (x ∷ xs) = λ i. and_then (f x) (λ y. and_then (each_with_lem f xs i) (λ ys. Ok (y ∷ ys)))
