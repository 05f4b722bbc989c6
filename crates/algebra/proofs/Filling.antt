-- Loops that fill the front of an array by index. Assumes nothing.
use Rattle.std.proofs.Common.{◌≡◌, ℕ, ◌+◌, ◌-◌, ◌<◌, List, [], ◌∷◌, ◌++◌, map, length, take, set, sym, ap, ◌∙◌, arith}
use Rattle.std.proofs.lemmas.List.{take_more_set, map_push, take-map}
use Rattle.std.proofs.lemmas.List.FromFn.{map-range_with_len_more}
use Rattle.std.specs.List.{range_with_len, between}

pub filled_more : {X Y : Type 0} (v : X → Y) (f : ℕ → Y) (xs : List X) (i : ℕ) (y : X) → i < length xs → v y ≡ f i → map v (take i xs) ≡ map f (range_with_len 0 i) → map v (take (i + 1) (set xs i y)) ≡ map f (range_with_len 0 (i + 1))
filled_more v f xs i y h made front =
    ap (map v) (take_more_set xs i y h) ∙ map_push v (take i xs) y ∙ (λ k. front k ++ made k ∷ []) ∙ sym (map-range_with_len_more f 0 i i (omega arith))

pub between_start : {X : Type 0} (n : ℕ) (xs : List X) → between 0 n xs ≡ take n xs
between_start n xs = let all : n - 0 ≡ n = omega arith in ap (λ m. take m xs) all

pub filled_all : {X Y : Type 0} (v : X → Y) (f : ℕ → Y) (xs : List X) (n : ℕ) → map v (take n xs) ≡ map f (range_with_len 0 n) → between 0 n (map v xs) ≡ map f (range_with_len 0 n)
filled_all v f xs n e = between_start n (map v xs) ∙ take-map v n xs ∙ e
