-- Results one after another, as `?` chains them in code.
--     and_then r f       f of the value of r, or the error of r
--     Leaves r x o       a call that answered r and left x did what o says: it gave o's error, or x is o's value
--     each f xs          f of each element in turn, or the first error
--     each_with f xs ys  f of the elements side by side, or the first error; it ends with the shorter list
use Rattle.std.specs.Prelude.{◌≡◌, List, [], ◌∷◌, Ok, Err, Result}

abbrev pub and_then : {A B E : Type 0} → Result A E → (A → Result B E) → Result B E
and_then (Ok x) f = f x
and_then (Err e) f = Err e

abbrev pub Leaves : {A E : Type 0} → Result (Unit {0}) E → A → Result A E → Type 0
Leaves (Ok u) x o = o ≡ Ok x
Leaves (Err e) x o = o ≡ Err e

abbrev pub each : {A B E : Type 0} → (A → Result B E) → List A → Result (List B) E
each f [] = Ok []
each f (x ∷ xs) = and_then (f x) (λ y. and_then (each f xs) (λ ys. Ok (y ∷ ys)))

abbrev pub each_with : {A B C E : Type 0} → (A → B → Result C E) → List A → List B → Result (List C) E
each_with f [] ys = Ok []
each_with f (x ∷ xs) [] = Ok []
each_with f (x ∷ xs) (y ∷ ys) = and_then (f x y) (λ z. and_then (each_with f xs ys) (λ zs. Ok (z ∷ zs)))
