-- What is written is read back: `parsed-written`. Assumes nothing.
use Rattle.std.proofs.Common.{◌≡◌, ℕ, ◌+◌, ◌*◌, ◌/◌, ◌%◌, ◌<◌, ◌≤◌, true, false, List, [], ◌∷◌, ◌++◌, map, length, take, drop, set, replicate, ℤ, pos, negsuc, neg_ℤ, ◌≤ℤ◌, Some, None, Ok, Option, sym, refl, ap, ◌∙◌, append_assoc, arith}
use borrow.Author.Differences.{ints}
use lib.ListN.{length-map}
use Rattle.std.proofs.lemmas.List.{take-map, set_at, length_push}
use Rattle.algebra.specs.Chaining.{and_then}
use Rattle.algebra.specs.Ends.{Ends, from_to}
use Rattle.systems.specs.Entries.{ends_of, entry_of, thin}
use Rattle.systems.specs.Tables.{Table, places_of, tabled, table_of, blank, sized, placed}
use Rattle.systems.specs.declared.entry.Entry.{Entry}
use Rattle.systems.specs.declared.system.System.{System}
use Rattle.systems.proofs.Contents.{accepted_size}
use Rattle.jobs.specs.declared.reader.Record.TheVariants.{Size, Entry as EntryRecord}
use Rattle.jobs.specs.declared.reader.Stage.TheVariants.{First, Entries}
use Rattle.jobs.specs.Reading.{byte_at, number_at, twos_complement, marked, rising, record_at, entered, records, parsed}
use Rattle.jobs.specs.Writing.{bits_of, four_bytes, left_out, record_of, records_from, written, ReadsBack}
use Rattle.jobs.proofs.Progress.{left_size, left_entry}
use Rattle.jobs.proofs.Records.{entries_full, record_none}

abbrev zero_ends : Ends
zero_ends = thin (pos 0)

-- four bytes and the number that they mean
bits_back : (z : ℤ) → neg_ℤ (pos 65536) ≤ℤ z → z ≤ℤ pos 65536
    → twos_complement (bits_of z / 16777216 % 256 * 16777216 + bits_of z / 65536 % 256 * 65536 + bits_of z / 256 % 256 * 256 + bits_of z % 256) ≡ z
bits_back (pos n) l h = grind (arith, ints)
bits_back (negsuc n) l h = grind (arith, ints)

-- the record of an entry, and what follows it
module _ (n p : ℕ) (before : Option ℕ) (e : Entry) (rest : List ℕ) (some : left_out (ends_of e) ≡ false) where
  abbrev followed : List ℕ
  followed = record_of p (ends_of e) ++ rest

  spelt : followed ≡ 69 ∷ 78 ∷ p ∷ (four_bytes e.low ++ (four_bytes e.high ++ rest))
  unfolding record_of four_bytes
  spelt = rw some

  record_seen : p < places_of n → rising before p ≡ true → record_at Entries (places_of n) before followed ≡ Ok EntryRecord
  unfolding record_at marked byte_at four_bytes
  record_seen h up = rw spelt (grind arith)

  place_seen : byte_at followed 2 ≡ p
  unfolding byte_at
  place_seen = rw spelt

  low_seen : number_at followed 3 ≡ e.low
  unfolding number_at byte_at four_bytes
  low_seen = rw spelt (bits_back e.low e.above (omega (arith, ints, e.ordered, e.below)))

  high_seen : number_at followed 7 ≡ e.high
  unfolding number_at byte_at four_bytes
  high_seen = rw spelt (bits_back e.high (omega (arith, ints, e.ordered, e.above)) e.below)

  rest_seen : drop 11 followed ≡ rest
  unfolding four_bytes
  rest_seen = rw spelt

-- an entry is accepted at a place that there is
entry_set : (n p : ℕ) (es : List Ends) (e : Entry) → p < places_of n → left_out (ends_of e) ≡ false
    → entered (record { size = n; entries = es }) p e.low e.high ≡ Ok (record { size = n; entries = set es p (ends_of e) })
unfolding entered placed entry_of left_out
entry_set n p es e h some =
    let o = e.ordered in
    let a = e.above in
    let b = e.below in
    grind (arith, ints)

zero_ends_lem : (e : Ends) → left_out e ≡ true → e ≡ zero_ends
unfolding left_out
zero_ends_lem e h =
    let l : e.low ≡ pos 0 = grind (arith, ints) in
    let r : e.high ≡ pos 0 = grind (arith, ints) in
    λ i. from_to (l i) (r i)

-- the records of the entries from a place on, behind a table that is blank there
abbrev Back : ℕ → List Ends → Option ℕ → List Entry → Type 0
Back n front before es =
    records (record { size = n; entries = front ++ replicate (length es) zero_ends }) before 0 (records_from (length front) (map ends_of es) ++ 90 ∷ 90 ∷ [])
    ≡ Ok (record { size = n; entries = front ++ map ends_of es })

module _ (n : ℕ) (front : List Ends) (before : Option ℕ) (e : Entry) (es : List Entry) where
  abbrev ahead : Ends → Table
  ahead x = record { size = n; entries = front ++ x ∷ replicate (length es) zero_ends }

  abbrev later : List ℕ
  later = records_from (length front + 1) (map ends_of es) ++ 90 ∷ 90 ∷ []

  next_back : (x : Ends) → Back n (front ++ x ∷ []) before es → records (ahead x) before 0 later ≡ Ok (record { size = n; entries = front ++ x ∷ map ends_of es })
  next_back x ih =
      let one = sym (append_assoc front (x ∷ []) (replicate (length es) zero_ends)) in
      let long = sym (length_push front x) in
      (λ i. records (record { size = n; entries = one i }) before 0 (records_from (long i) (map ends_of es) ++ 90 ∷ 90 ∷ []))
      ∙ ih ∙ ap (λ xs. Ok (record { size = n; entries = xs })) (append_assoc front (x ∷ []) (map ends_of es))

  opened : records_from (length front) (map ends_of (e ∷ es)) ++ 90 ∷ 90 ∷ [] ≡ record_of (length front) (ends_of e) ++ later
  unfolding records_from
  opened = append_assoc (record_of (length front) (ends_of e)) (records_from (length front + 1) (map ends_of es)) (90 ∷ 90 ∷ [])

  left_out_back : left_out (ends_of e) ≡ true → Back n (front ++ zero_ends ∷ []) before es → Back n front before (e ∷ es)
  left_out_back none ih =
      ap (records (ahead zero_ends) before 0) (opened ∙ ap (λ bs. bs ++ later) (record_none (length front) (ends_of e) none))
      ∙ next_back zero_ends ih ∙ ap (λ x. Ok (record { size = n; entries = front ++ x ∷ map ends_of es })) (sym (zero_ends_lem (ends_of e) none))

  record_back : left_out (ends_of e) ≡ false → length front < places_of n → rising before (length front) ≡ true
      → records (ahead (ends_of e)) (Some (length front)) 0 later ≡ Ok (record { size = n; entries = front ++ map ends_of (e ∷ es) }) → Back n front before (e ∷ es)
  record_back some h up ih =
      let p = place_seen n (length front) before e later some in
      let l = low_seen n (length front) before e later some in
      let r = high_seen n (length front) before e later some in
      let d = rest_seen n (length front) before e later some in
      let s = entry_set n (length front) (ahead zero_ends).entries e h some ∙ ap (λ xs. Ok (record { size = n; entries = xs })) (set_at front zero_ends (replicate (length es) zero_ends) (ends_of e) (length front) refl) in
      ap (records (ahead zero_ends) before 0) opened
      ∙ left_entry (ahead zero_ends) before (record_of (length front) (ends_of e) ++ later) (record_seen n (length front) before e later some h up)
      ∙ (λ i. and_then (entered (ahead zero_ends) (p i) (l i) (r i)) (λ u. records u (Some (p i)) 0 (d i)))
      ∙ ap (λ o. and_then o (λ u. records u (Some (length front)) 0 later)) s
      ∙ ih

-- all records
entries_back : (n : ℕ) (front : List Ends) (before : Option ℕ) (es : List Entry) → length front + length es ≡ places_of n → ((k : ℕ) → length front ≤ k → rising before k ≡ true) → Back n front before es
unfolding records record_at marked byte_at records_from rising
entries_back n front before [] full up = refl
entries_back n front before (e ∷ es) full up =
    (elim (left_out (ends_of e)) as (λ o. left_out (ends_of e) ≡ o → Back n front before (e ∷ es)) [
      | true ↦ λ none. left_out_back n front before e es none
          (entries_back n (front ++ zero_ends ∷ []) before es (on zero_ends) (λ k h. up k (let l = length_push front zero_ends in omega arith)))
      | false ↦ λ some. record_back n front before e es some (omega arith) (up (length front) (omega arith))
          (next_back n front (Some (length front)) e es (ends_of e)
          (entries_back n (front ++ ends_of e ∷ []) (Some (length front)) es (on (ends_of e)) (λ k h. let l = length_push front (ends_of e) in grind arith)))
    ]) refl
  where
    on : (x : Ends) → length (front ++ x ∷ []) + length es ≡ places_of n
    on x = let l = length_push front x in omega arith

size_seen : (n : ℕ) (rest : List ℕ) → record_at First 0 None (83 ∷ 90 ∷ n ∷ rest) ≡ Ok Size
unfolding record_at marked byte_at
size_seen n rest = grind arith

size_back : (n : ℕ) (rest : List ℕ) → parsed (83 ∷ 90 ∷ n ∷ rest) ≡ and_then (sized n) (λ t. records t None 0 rest)
unfolding byte_at
size_back n rest = left_size (blank n) 0 None (83 ∷ 90 ∷ n ∷ rest) (size_seen n rest)

pub parsed-written : (s : System) → ReadsBack (table_of s)
unfolding written tabled blank rising
parsed-written s =
    let held = s.draft in
    let n = held.size.rows in
    let es = take (places_of n) held.entries in
    let same : take (places_of n) (map ends_of held.entries) ≡ map ends_of es = take-map ends_of (places_of n) held.entries in
    let full : length es ≡ places_of n = sym (length-map es ends_of) ∙ ap length (sym same) ∙ entries_full s in
    let whole = entries_back n [] None es (omega arith) (λ k h. refl) in
    size_back n (records_from 0 (take (places_of n) (map ends_of held.entries)) ++ 90 ∷ 90 ∷ [])
    ∙ ap (λ o. and_then o (λ t. records t None 0 (records_from 0 (take (places_of n) (map ends_of held.entries)) ++ 90 ∷ 90 ∷ []))) (accepted_size n held.size.some held.size.few)
    ∙ (λ i. records (record { size = n; entries = replicate (sym full i) zero_ends }) None 0 (records_from 0 (same i) ++ 90 ∷ 90 ∷ []))
    ∙ whole ∙ ap (λ xs. Ok (record { size = n; entries = xs })) (sym same)
