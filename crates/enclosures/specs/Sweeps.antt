-- The steps of a sweep as the code takes them. Assumes nothing.
use Rattle.std.specs.Prelude.{◌≡◌, ℕ, zero, suc, ◌+◌, ◌-◌, ◌<◌, ◌≤◌, List, [], ◌∷◌, ◌++◌, map, length, take, drop, pos, Some, None, Ok, Err, Option, Result, slice_index_or, slice_set, refl}
use Rattle.std.proofs.Common.{arith, add-one, sym, ap, ◌∙◌, length-take, length-set, take-append-drop}
use Rattle.std.proofs.lemmas.List.{drop-take, take-take, get_or-take, get_or-map, drop-map, take-map, take_at, drop_at, length-map, map-set}
use Rattle.std.specs.Option.{option_map, unwrap_or}
use Rattle.std.specs.List.{between, remove}
use Rattle.algebra.specs.Chaining.{and_then}
use Rattle.algebra.specs.Ends.{Ends, from_to}
use Rattle.grains.specs.Arithmetic.{ends_of, common_of, quotient_of}
use Rattle.grains.specs.declared.interval.ArithmeticError.{ArithmeticError}
use Rattle.grains.specs.declared.interval.Interval.{Interval}
use Rattle.systems.specs.Tables.{Table}
use Rattle.enclosures.specs.declared.fault.Fault.{Fault}
use Rattle.enclosures.specs.declared.line.Line.{Line}
use Rattle.enclosures.specs.Elimination.{less_multiple, less_products, row_of}
use Rattle.enclosures.specs.Methods.{component_of}
use Rattle.enclosures.specs.Sweeping.{solved_for, narrowed_at, narrowed_by, swept_from}
use Rattle.enclosures.specs.Verdicts.{Verdict, Encloses}
use Rattle.enclosures.specs.Working.{viewed}
use Rattle.algebra.proofs.Filling.{between_start}

then_then : {A B C E : Type 0} (r : Result A E) (f : A → Result B E) (g : B → Result C E) → and_then r (λ x. and_then (f x) g) ≡ and_then (and_then r f) g
then_then (Ok x) f g = refl
then_then (Err e) f g = refl

pub products_append : (b : Ends) (cs ds xs ys : List Ends) → length cs ≡ length xs → less_products b (cs ++ ds) (xs ++ ys) ≡ and_then (less_products b cs xs) (λ d. less_products d ds ys)
products_append b [] ds [] ys h = refl
products_append b [] ds (x ∷ xs) ys h = absurd (let z : ◌≡◌ {A = ℕ} 0 1 = cc in omega arith)
products_append b (c ∷ cs) ds [] ys h = absurd (let z : ◌≡◌ {A = ℕ} 0 1 = cc in omega arith)
products_append b (c ∷ cs) ds (x ∷ xs) ys h =
    let k : length cs ≡ length xs = cc in
    (λ i. and_then (less_multiple c b x) (λ d. products_append d cs ds xs ys k i)) ∙ then_then (less_multiple c b x) (λ d. less_products d cs xs) (λ d. less_products d ds ys)

-- general statements, which stand for others to use: the first n elements without element i are those before it and those behind it
pub removed_taken : {X : Type 0} (xs : List X) (i n : ℕ) → i < n → remove (take n xs) i ≡ between 0 i xs ++ between (i + 1) n xs
removed_taken xs i n h =
    let front : take i (take n xs) ≡ between 0 i xs = take-take i n xs (omega arith) ∙ sym (between_start i xs) in
    let all : suc i + (n - (i + 1)) ≡ n = omega arith in
    let back : drop (suc i) (take n xs) ≡ between (i + 1) n xs =
    ap (λ m. drop (suc i) (take m xs)) (sym all) ∙ drop-take (suc i) (n - (i + 1)) xs ∙ ap (λ m. take (n - (i + 1)) (drop m xs)) (sym (add-one i)) in
    λ k. front k ++ back k

pub component_taken : (xs : List Interval) (i n : ℕ) (x : Interval) → i < n → n ≤ length xs → component_of (take n (map ends_of xs)) i ≡ ends_of (slice_index_or xs i x)
component_taken xs i n x h l = get_or-take n (map ends_of xs) i (from_to (pos 0) (pos 0)) h ∙ get_or-map ends_of xs i x (from_to (pos 0) (pos 0)) (omega arith)

pub component_seen : (xs : List Interval) (i : ℕ) (x : Interval) → i < length xs → component_of (map ends_of xs) i ≡ ends_of (slice_index_or xs i x)
component_seen xs i x h = get_or-map ends_of xs i x (from_to (pos 0) (pos 0)) h

pub solved_for_viewed : (l : Line) (xs : List Interval) (i : ℕ) (x : Interval) → i < length xs → length l.coefficients.items ≡ length xs
    → solved_for (viewed l) i (map ends_of xs)
    ≡ and_then (less_products (ends_of l.right) (map ends_of (take i l.coefficients.items)) (map ends_of (take i xs))) (λ d.
    and_then (less_products d (map ends_of (drop (i + 1) l.coefficients.items)) (map ends_of (drop (i + 1) xs))) (λ e.
    quotient_of e (ends_of (slice_index_or l.coefficients.items i x))))
unfolding solved_for
solved_for_viewed l xs i x h long =
    let cs = l.coefficients.items in
    let same : length (map ends_of (take i cs)) ≡ length (map ends_of (take i xs)) = simp (length-map, length-take) (omega (arith, long)) in
    (λ k. and_then (less_products (ends_of l.right) (without cs k) (without xs k)) (λ d. quotient_of d (component_seen cs i x (omega (arith, long)) k)))
    ∙ ap (λ r. and_then r (λ d. quotient_of d (ends_of (slice_index_or cs i x)))) (products_append (ends_of l.right) (map ends_of (take i cs)) (map ends_of (drop (i + 1) cs)) (map ends_of (take i xs)) (map ends_of (drop (i + 1) xs)) same)
    ∙ sym (then_then (less_products (ends_of l.right) (map ends_of (take i cs)) (map ends_of (take i xs))) (λ d. less_products d (map ends_of (drop (i + 1) cs)) (map ends_of (drop (i + 1) xs))) (λ d. quotient_of d (ends_of (slice_index_or cs i x))))
  where
    without : (ys : List Interval) → remove (map ends_of ys) i ≡ map ends_of (take i ys) ++ map ends_of (drop (i + 1) ys)
    without ys = λ k. take-map ends_of i ys k ++ (ap (λ m. drop m (map ends_of ys)) (sym (add-one i)) ∙ drop-map ends_of (i + 1) ys) k

-- ---- one component
pub narrowed_ok : (old new r : Interval) (o : Option Interval) (a : Ends) (s : Result Ends ArithmeticError) → a ≡ ends_of old → Ok (ends_of new) ≡ s
    → option_map ends_of o ≡ common_of (ends_of old) (ends_of new) → r ≡ unwrap_or o old → ends_of r ≡ narrowed_by a s
narrowed_ok old new r o a s e f g h = ap ends_of h ∙ ends_or o old ∙ ap (λ z. unwrap_or z (ends_of old)) g ∙ (λ i. narrowed_by (sym e i) (f i))
  where
    ends_or : (p : Option Interval) (d : Interval) → ends_of (unwrap_or p d) ≡ unwrap_or (option_map ends_of p) (ends_of d)
    ends_or None d = refl
    ends_or (Some x) d = refl

pub narrowed_err : (old : Interval) (f : ArithmeticError) (a : Ends) (s : Result Ends ArithmeticError) → a ≡ ends_of old → Err f ≡ s → ends_of old ≡ narrowed_by a s
narrowed_err old f a s e g = λ i. narrowed_by (sym e i) (g i)

-- ---- all components, one after the other
pub swept_more : (t : Table) (n i : ℕ) (row : List Interval) (y : Interval) (l : Line) → i < n → viewed l ≡ row_of t i
    → ends_of y ≡ narrowed_by (component_of (map ends_of row) i) (solved_for (viewed l) i (map ends_of row))
    → swept_from (n - i) i t (map ends_of row) ≡ swept_from (n - (i + 1)) (i + 1) t (map ends_of (slice_set row i y))
unfolding swept_from
swept_more t n i row y l h line made =
    let count : n - i ≡ suc (n - (i + 1)) = omega arith in
    let xs = map ends_of row in
    let made' : ends_of y ≡ narrowed_at t i xs = made ∙ ap (λ r. narrowed_by (component_of xs i) (solved_for r i xs)) line in
    ap (λ m. swept_from m i t xs) count
    ∙ ap (λ z. swept_from (n - (i + 1)) (i + 1) t (slice_set xs i z)) (sym made')
    ∙ ap (swept_from (n - (i + 1)) (i + 1) t) (sym (map-set ends_of row i y))

pub swept_all : (t : Table) (n : ℕ) (xs : List Ends) → swept_from (n - n) n t xs ≡ xs
unfolding swept_from
swept_all t n xs = let none : n - n ≡ 0 = omega arith in ap (λ m. swept_from m n t xs) none

pub swept_long : (more i : ℕ) (t : Table) (xs : List Ends) → length (swept_from more i t xs) ≡ length xs
unfolding swept_from
swept_long zero i t xs = refl
swept_long (suc more) i t xs = swept_long more (i + 1) t (slice_set xs i (narrowed_at t i xs)) ∙ length-set xs i (narrowed_at t i xs)

-- ---- the call: was are the six places before it, mid after the method below, is after the sweep
pub encloses_swept : (o : Verdict) (t : Table) (was mid is : List Interval) → ((row : List Ends) → o ≡ Ok row → length row ≡ t.size) → Encloses (Ok tt) was mid o
    → take t.size (map ends_of is) ≡ swept_from t.size 0 t (take t.size (map ends_of mid)) → drop t.size is ≡ drop t.size mid
    → Encloses (Ok tt) was is (and_then o (λ row. Ok (swept_from t.size 0 t row)))
encloses_swept (Ok row) t was mid is shaped below front rest =
    let n = t.size in
    let long : length row ≡ n = shaped row refl in
    let swept = swept_from n 0 t row in
    let long' : length swept ≡ n = swept_long n 0 t row ∙ long in
    let taken : take n (map ends_of mid) ≡ row = ap (take n) below.1 ∙ take_at row (drop (length row) (map ends_of was)) n long in
    let left : drop n (map ends_of mid) ≡ drop n (map ends_of was) = ap (drop n) below.1 ∙ drop_at row (drop (length row) (map ends_of was)) n long ∙ ap (λ m. drop m (map ends_of was)) long in
    let back : drop n (map ends_of is) ≡ drop (length swept) (map ends_of was) = drop-map ends_of n is ∙ ap (map ends_of) rest ∙ sym (drop-map ends_of n mid) ∙ left ∙ ap (λ m. drop m (map ends_of was)) (sym long') in
    (refl, sym (take-append-drop n (map ends_of is)) ∙ (λ k. (front ∙ ap (swept_from n 0 t) taken) k ++ back k))
encloses_swept (Err f) t was mid is shaped below front rest = absurd (let e = below.0 in let z : ◌≡◌ {A = ℕ} 0 1 = cc in omega arith)

pub encloses_refused : (o : Verdict) (t : Table) (r : Result (Unit {0}) Fault) (e : Fault) (was mid : List Interval) → Encloses (Err e) was mid o → r ≡ Err e → Encloses r was mid (and_then o (λ row. Ok (swept_from t.size 0 t row)))
encloses_refused (Ok row) t r e was mid below same = absurd (let k = below.0 in let z : ◌≡◌ {A = ℕ} 0 1 = cc in omega arith)
encloses_refused (Err f) t r e was mid below same = (same ∙ below.0, below.1)
