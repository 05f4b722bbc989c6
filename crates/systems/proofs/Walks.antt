-- Steps of loops over the entries of a system. Assumes nothing.
use Rattle.std.proofs.Common.{◌≡◌, ℕ, ◌+◌, ◌<◌, ◌≤◌, Bool, cond, List, [], ◌∷◌, ◌++◌, map, length, get_or, take, drop, set, pos, count_by, sym, ap, ◌∙◌, arith}
use Rattle.std.specs.List.{range_with_len, sum}
use Rattle.std.proofs.lemmas.List.{take_more_set, map_push, map_more, drop_more, drop-set-lt, take-map, take_at, take_all, get_or-map}
use Rattle.std.proofs.lemmas.List.Sums.{sum-map}
use Rattle.std.proofs.lemmas.Simd.{map-map}
use Rattle.systems.specs.declared.entry.Entry.{Entry}
use Rattle.systems.specs.Boxes.{Marks, box_entry, box_of}
use Rattle.systems.specs.Entries.{ends_of, middle, thin}
use Rattle.systems.specs.Tables.{places_of, ends_at, tabled, midpoint_of}

pub count-map : {A B : Type 0} (p : B → Bool) (f : A → B) (xs : List A) → count_by (λ x. p (f x)) xs ≡ count_by p (map f xs)
count-map {B = B} p f xs =
    let one : B → ℕ = λ y. cond (p y) 1 0 in
    sym (sum-map (λ x. one (f x)) xs) ∙ ap sum (sym (map-map one f xs)) ∙ sum-map one (map f xs)

-- a list is changed in place, element by element: before i it is changed, from i on it is as it was
module _ {A B : Type 0} (f g : A → B) (now was : List A) (i : ℕ) (x y : A) (h : i < length now) (h' : i < length was)
    (rest : drop i now ≡ drop i was) where
  pub same_element : get_or now i x ≡ get_or was i x
  same_element = let a = drop_more now i x h in let b = drop_more was i x h' in cc

  pub changed_front : map f (take i now) ≡ map g (take i was) → f y ≡ g (get_or now i x) → map f (take (i + 1) (set now i y)) ≡ map g (take (i + 1) was)
  changed_front front made =
      ap (map f) (take_more_set now i y h) ∙ map_push f (take i now) y
      ∙ (λ k. front k ++ (made ∙ ap g same_element) k ∷ []) ∙ sym (map_more g was i x h')

  pub changed_rest : drop (i + 1) (set now i y) ≡ drop (i + 1) was
  changed_rest = let a = drop_more now i x h in let b = drop_more was i x h' in let s = drop-set-lt (i + 1) now i y (omega arith) in cc

-- a front that is as long as what it replaces
pub front_whole : {A B : Type 0} (f : A → B) (n i : ℕ) (now rest : List A) (ys : List B) → n ≤ i → length now ≡ n → map f (take i now) ≡ ys → take n (map f (now ++ rest)) ≡ ys
front_whole f n i now rest ys end long front =
    take-map f n (now ++ rest) ∙ ap (map f) (take_at now rest n long) ∙ ap (map f) (sym (take_all i now (omega (arith, end, long)))) ∙ front

-- the midpoint system
pub midpoint_tabled : (n : ℕ) (now was : List Entry) → take (places_of n) (map ends_of now) ≡ map (λ e. middle (ends_of e)) (take (places_of n) was) → tabled n now ≡ midpoint_of (tabled n was)
unfolding tabled midpoint_of
midpoint_tabled n now was e =
    ap (λ es. record { size = n; entries = es })
    (e ∙ sym (map-map middle ends_of (take (places_of n) was)) ∙ ap (map middle) (sym (take-map ends_of (places_of n) was)))

-- a box: the entries that are changed by their places
pub ends_tabled : (n : ℕ) (xs : List Entry) (k : ℕ) (x : Entry) → k < length (take (places_of n) xs) → ends_at (tabled n xs) k ≡ ends_of (get_or (take (places_of n) xs) k x)
unfolding tabled
ends_tabled n xs k x l = ap (λ es. get_or es k (thin (pos 0))) (take-map ends_of (places_of n) xs) ∙ get_or-map ends_of (take (places_of n) xs) k x (thin (pos 0)) l

pub box-tabled : (n : ℕ) (now was : List Entry) (m : Marks) → take (places_of n) (map ends_of now) ≡ map (box_entry m (tabled n was)) (range_with_len 0 (places_of n)) → tabled n now ≡ box_of m (tabled n was)
unfolding tabled box_of
box-tabled n now was m e = ap (λ es. record { size = n; entries = es }) e
