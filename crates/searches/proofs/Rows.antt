-- What a method's row of six intervals holds. Assumes nothing.
use Rattle.std.proofs.Common.{◌≡◌, ℕ, zero, suc, ◌+◌, List, [], ◌∷◌, ◌++◌, map, length, get_or, take, drop, replicate, pos, Some, None, Ok, Err, Option, sym, refl, ap, ◌∙◌, arith, get_or-drop}
use Rattle.std.proofs.Math.ListN.{get_or-map}
use Rattle.std.specs.Option.{ok_or}
use Rattle.std.specs.Result.{result_unwrap_or}
use Rattle.std.proofs.lemmas.List.{take-map, take_at}
use Rattle.algebra.specs.Ends.{Ends, from_to}
use Rattle.grains.specs.Arithmetic.{ends_of}
use Rattle.grains.specs.declared.interval.Interval.{Interval}
use Rattle.enclosures.specs.Verdicts.{Verdict, six_of}
use Rattle.outcomes.specs.declared.refusal.SearchRefusal.TheVariants.{Settled}
use Rattle.outcomes.specs.Searching.{figures_of, place_in, place_by}
use Rattle.partition.specs.Choosing.{Choice}
use Rattle.systems.specs.Tables.{Table}

-- what follows a list and is all z does not show where z is read past the end
padded : {X : Type 0} (xs ys : List X) (z : X) → ((k : ℕ) → get_or ys k z ≡ z) → (c : ℕ) → get_or (xs ++ ys) c z ≡ get_or xs c z
padded [] ys z h c = h c
padded (x ∷ xs) ys z h zero = refl
padded (x ∷ xs) ys z h (suc c) = padded xs ys z h c

repeated : {X : Type 0} (n : ℕ) (z : X) (k : ℕ) → get_or (replicate n z) k z ≡ z
repeated zero z k = refl
repeated (suc n) z zero = refl
repeated (suc n) z (suc k) = repeated n z k

-- a component that is read from the six
pub component_read : (o : Verdict) (z : Interval) (six : List Interval) (c : ℕ) → ends_of z ≡ from_to (pos 0) (pos 0) → Ok (map ends_of six) ≡ six_of o → Ok (ends_of (get_or six c z)) ≡ figures_of c o
component_read (Ok row) z six c e made =
    let none = from_to (pos 0) (pos 0) in
    let behind = drop (length row) (replicate 6 none) in
    let ends : map ends_of six ≡ row ++ behind = ap (λ r. result_unwrap_or r []) made in
    ap Ok (sym (get_or-map ends_of six c z) ∙ ap (get_or (map ends_of six) c) e ∙ ap (λ xs. get_or xs c none) ends
    ∙ padded row behind none (λ k. get_or-drop (length row) (replicate 6 none) k none ∙ repeated 6 none (length row + k)) c)
component_read (Err f) z six c e made = absurd (let same = made in let z : ◌≡◌ {A = ℕ} 0 1 = cc in omega arith)

-- a place that is answered, and none
pub placed : (o : Option ℕ) → ok_or o Settled ≡ place_in o
placed (Some k) = refl
placed None = refl

-- the first of the six, one for each component, are the row
pub place_read : (r : Choice) (b : Table) (o : Verdict) (six : List Interval) (n : ℕ) → ((row : List Ends) → o ≡ Ok row → length row ≡ n) → Ok (map ends_of six) ≡ six_of o → place_in (r b (map ends_of (take n six))) ≡ place_by r b o
place_read r b (Ok row) six n shaped made =
    let behind = drop (length row) (replicate 6 (from_to (pos 0) (pos 0))) in
    let ends : map ends_of six ≡ row ++ behind = ap (λ r. result_unwrap_or r []) made in
    ap (λ xs. place_in (r b xs)) (sym (take-map ends_of n six) ∙ ap (take n) ends ∙ take_at row behind n (shaped row refl))
place_read r b (Err f) six n shaped made = absurd (let same = made in let z : ◌≡◌ {A = ℕ} 0 1 = cc in omega arith)
