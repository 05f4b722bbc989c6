-- What a table of entries holds after a draft was made new, and after an entry was set. Assumes nothing.
use Rattle.std.proofs.Common.{◌≡◌, ℕ, zero, suc, ◌+◌, ◌*◌, ◌<◌, ◌≤◌, List, [], ◌∷◌, map, length, get_or, take, set, replicate, ℤ, pos, Option, Some, None, Ok, sym, refl, ap, ◌∙◌, arith, length-take}
use lib.ListN.{length-map}
use lib.Seq.{map-set, take-set-lt}
use Rattle.std.proofs.lemmas.Nat.{mul-le}
use Rattle.std.proofs.lemmas.List.{take-replicate, get_or-map, get_or-take}
use Rattle.std.proofs.lemmas.Option.{slice_get-get_or, slice_get_past}
use Rattle.std.specs.List.{slice_get}
use Rattle.std.specs.Option.{option_map, unwrap_or}
use Rattle.algebra.specs.Ends.{Ends}
use Rattle.systems.specs.declared.entry.Entry.{Entry}
use Rattle.systems.specs.Entries.{ends_of, entry_of, thin}
use Rattle.systems.specs.Tables.{Table, places_of, tabled, blank, entry_at, ends_at, size_of, sized, placed}

pub places_few : (n : ℕ) → n ≤ 6 → n * (n + 1) ≤ 42
places_few n h = mul-le n (n + 1) 6 7 h (omega arith)

map_replicate : {A B : Type 0} (f : A → B) (n : ℕ) (x : A) → map f (replicate n x) ≡ replicate n (f x)
map_replicate f zero x = refl
map_replicate f (suc n) x = ap (λ ys. f x ∷ ys) (map_replicate f n x)

pub blank-tabled : (n : ℕ) (e : Entry) → n ≤ 6 → ends_of e ≡ thin (pos 0) → tabled n (replicate 42 e) ≡ blank n
unfolding tabled blank
blank-tabled n e h z =
    let same : take (places_of n) (map ends_of (replicate 42 e)) ≡ replicate (places_of n) (thin (pos 0)) =
    ap (take (places_of n)) (map_replicate ends_of 42 e) ∙ take-replicate (places_of n) 42 (ends_of e) (places_few n h) ∙ ap (replicate (places_of n)) z in
    ap (λ es. record { size = n; entries = es }) same

pub set-tabled : (n : ℕ) (xs : List Entry) (p : ℕ) (e : Entry) → p < places_of n
    → tabled n (set xs p e) ≡ record { size = n; entries = set (tabled n xs).entries p (ends_of e) }
unfolding tabled
set-tabled n xs p e h =
    ap (λ es. record { size = n; entries = es }) (ap (take (places_of n)) (map-set ends_of xs p e) ∙ take-set-lt (places_of n) (map ends_of xs) p (ends_of e) h)

pub entry_tabled : (n : ℕ) (xs : List Entry) (p : ℕ) (e : Entry) → length xs ≡ 42 → n ≤ 6 → p < places_of n → e ≡ get_or xs p e → entry_at (tabled n xs) p ≡ Some (ends_of e)
unfolding tabled entry_at
entry_tabled n xs p e l h q is =
    let few = places_few n h in
    let long : p < length (take (places_of n) (map ends_of xs)) = simp (length-take, length-map) (omega arith) in
    slice_get-get_or (take (places_of n) (map ends_of xs)) p (ends_of e) long
    ∙ ap Some (get_or-take (places_of n) (map ends_of xs) p (ends_of e) q ∙ get_or-map ends_of xs p e (ends_of e) (omega arith) ∙ ap ends_of (sym is))

pub no_entry_tabled : (n : ℕ) (xs : List Entry) (p : ℕ) → length xs ≡ 42 → n ≤ 6 → places_of n ≤ p → entry_at (tabled n xs) p ≡ None
unfolding tabled entry_at
no_entry_tabled n xs p l h q =
    let few = places_few n h in
    slice_get_past (take (places_of n) (map ends_of xs)) p (simp (length-take, length-map) (omega arith))

pub accepted_size : (n : ℕ) → 1 ≤ n → n ≤ 6 → sized n ≡ Ok (blank n)
unfolding sized size_of
accepted_size n p q = grind arith

-- an accepted setting at a place that there is
pub accepted_place : (n : ℕ) (xs : List Entry) (p : ℕ) (a b : ℤ) (e : Entry) → p < places_of n → entry_of a b ≡ Ok (ends_of e) → placed p a b (tabled n xs) ≡ Ok (tabled n (set xs p e))
unfolding placed tabled
accepted_place n xs p a b e h r = at_size (tabled n xs) h ∙ ap Ok (sym (set-tabled n xs p e h))
  where
    at_size : (t : Table) → p < places_of t.size → placed p a b t ≡ Ok (record { size = t.size; entries = set t.entries p (ends_of e) })
    at_size t q = grind arith

-- an entry that is read by its place
pub entry_there : (t : Table) (k : ℕ) (e : Ends) → entry_at t k ≡ Some e → ends_at t k ≡ e
unfolding entry_at
entry_there t k e found = there t.entries k e found
  where
    there : (es : List Ends) (i : ℕ) (x : Ends) → slice_get es i ≡ Some x → get_or es i (thin (pos 0)) ≡ x
    there [] i x f = cc
    there (y ∷ es) zero x f = cc
    there (y ∷ es) (suc i) x f = there es i x f

pub entry_missing : (t : Table) (k : ℕ) → entry_at t k ≡ None → ends_at t k ≡ thin (pos 0)
unfolding entry_at
entry_missing t k found = missing t.entries k found
  where
    missing : (es : List Ends) (i : ℕ) → slice_get es i ≡ None → get_or es i (thin (pos 0)) ≡ thin (pos 0)
    missing [] i f = refl
    missing (y ∷ es) zero f = cc
    missing (y ∷ es) (suc i) f = missing es i f

-- what an answer that may be missing stands for
pub entry_or : (t : Table) (k : ℕ) (o : Option Entry) (z : Entry) → option_map ends_of o ≡ entry_at t k → ends_of z ≡ thin (pos 0) → ends_of (unwrap_or o z) ≡ ends_at t k
entry_or t k (Some e) z found is = sym (entry_there t k (ends_of e) (sym found))
entry_or t k None z found is = is ∙ sym (entry_missing t k (sym found))

-- an entry that is read from the slice of the entries
pub entry_held : (t : Table) (es : List Entry) (k : ℕ) (e : Entry) → map ends_of es ≡ t.entries → k < length es → e ≡ get_or es k e → ends_of e ≡ ends_at t k
entry_held t es k e same below is =
    ap ends_of is ∙ sym (get_or-map ends_of es k e (thin (pos 0)) below) ∙ ap (λ xs. get_or xs k (thin (pos 0))) same
