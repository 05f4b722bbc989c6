-- What is read is what would be written: `written-parsed`. Assumes nothing.
use Rattle.std.proofs.Common.{◌≡◌, ℕ, zero, suc, ◌+◌, ◌-◌, ◌*◌, ◌/◌, ◌%◌, ◌<◌, ◌≤◌, true, false, cond, ltb, List, [], ◌∷◌, ◌++◌, length, get_or, drop, set, replicate, ℤ, pos, negsuc, ◌-ℤ◌, Some, None, Ok, Err, Option, Result, sym, refl, ap, ◌∙◌, append_assoc, add-zero, arith, length-append, length-drop, ltb-true}
use borrow.Author.Differences.{ints}
use Rattle.std.proofs.lemmas.List.{set_at, length_push, drop_all, drop_more, get_or-drop, length-replicate, replicate-append-replicate}
use Rattle.algebra.specs.Chaining.{and_then}
use Rattle.algebra.specs.Ends.{Ends, from_to}
use Rattle.systems.specs.Entries.{entry_of, thin}
use Rattle.systems.specs.Tables.{Table, places_of, blank, size_of, sized, placed}
use Rattle.systems.specs.declared.refusal.Refusal.{Refusal}
use Rattle.jobs.specs.declared.reader.Record.{Record}
use Rattle.jobs.specs.declared.reader.Record.TheVariants.{Size, Entry as EntryRecord, End}
use Rattle.jobs.specs.declared.reader.Stage.TheVariants.{First, Entries}
use Rattle.jobs.specs.Reading.{byte_at, number_at, twos_complement, marked, rising, record_at, entered, records, parsed}
use Rattle.jobs.specs.Writing.{bits_of, four_bytes, left_out, record_of, records_from, written}
use Rattle.jobs.proofs.Progress.{at_size, at_entry, at_end, left_refused, left_entry, left_end}
use Rattle.jobs.proofs.Records.{records-append}

abbrev zero_ends : Ends
zero_ends = thin (pos 0)

-- each element is a byte
abbrev Small : List ℕ → Type 0
Small bytes = (k : ℕ) → get_or bytes k 0 < 256

small_on : (k : ℕ) (bytes : List ℕ) → Small bytes → Small (drop k bytes)
small_on k bytes small i = rw (get_or-drop k bytes i 0) (small (k + i))

-- the bytes from position i on, one by one
abbrev reads : ℕ → ℕ → List ℕ → List ℕ
reads zero i bytes = []
reads (suc k) i bytes = byte_at bytes i ∷ reads k (i + 1) bytes

spelt_out : (k i : ℕ) (bytes : List ℕ) → i + k ≤ length bytes → drop i bytes ≡ reads k i bytes ++ drop (i + k) bytes
unfolding byte_at
spelt_out zero i bytes h = rw add-zero
spelt_out (suc k) i bytes h =
    let on : i + 1 + k ≡ i + suc k = omega arith in
    drop_more bytes i 0 (omega arith) ∙ ap (λ bs. get_or bytes i 0 ∷ bs) (spelt_out k (i + 1) bytes (omega arith) ∙ ap (λ j. reads k (i + 1) bytes ++ drop j bytes) on)

-- four bytes and the number that they mean
bits_again : (m : ℕ) → m < 4294967296 → bits_of (twos_complement m) ≡ m
bits_again m h = elim (ltb m 2147483648) as (λ o. ltb m 2147483648 ≡ o → bits_of (cond o (pos m) (pos m -ℤ pos 4294967296)) ≡ m) [
  | true ↦ λ e. refl
  | false ↦ λ e. let is : pos m -ℤ pos 4294967296 ≡ negsuc (4294967295 - m) = omega (arith, ints) in ap bits_of is ∙ omega arith
] refl

digits : (a b c d : ℕ) → a < 256 → b < 256 → c < 256 → d < 256 → (s : ℕ) → s ≡ a * 16777216 + b * 65536 + c * 256 + d
    → (s / 16777216 % 256) ∷ (s / 65536 % 256) ∷ (s / 256 % 256) ∷ (s % 256) ∷ [] ≡ a ∷ b ∷ c ∷ d ∷ []
digits a b c d ha hb hc hd s e =
    let one : s / 16777216 % 256 ≡ a = omega arith in
    let two : s / 65536 % 256 ≡ b = omega arith in
    let three : s / 256 % 256 ≡ c = omega arith in
    let four : s % 256 ≡ d = omega arith in
    λ i. one i ∷ two i ∷ three i ∷ four i ∷ []

four_again : (bytes : List ℕ) (i : ℕ) → Small bytes → four_bytes (number_at bytes i) ≡ byte_at bytes i ∷ byte_at bytes (i + 1) ∷ byte_at bytes (i + 2) ∷ byte_at bytes (i + 3) ∷ []
unfolding four_bytes number_at byte_at
four_again bytes i small =
    let a = small i in
    let b = small (i + 1) in
    let c = small (i + 2) in
    let d = small (i + 3) in
    let same = bits_again (get_or bytes i 0 * 16777216 + get_or bytes (i + 1) 0 * 65536 + get_or bytes (i + 2) 0 * 256 + get_or bytes (i + 3) 0) (omega arith) in
    digits (get_or bytes i 0) (get_or bytes (i + 1) 0) (get_or bytes (i + 2) 0) (get_or bytes (i + 3) 0) a b c d (bits_of (number_at bytes i)) same

-- what stands where a record is recognised
module _ (places : ℕ) (before : Option ℕ) (bytes : List ℕ) where
  size_marked : record_at First places before bytes ≡ Ok Size → (byte_at bytes 0 ≡ 83) × (byte_at bytes 1 ≡ 90)
  unfolding record_at marked
  size_marked r = (grind arith, grind arith)

  entry_marked : record_at Entries places before bytes ≡ Ok EntryRecord → (byte_at bytes 0 ≡ 69) × (byte_at bytes 1 ≡ 78)
  unfolding record_at marked
  entry_marked r = (grind arith, grind arith)

  entry_placed : record_at Entries places before bytes ≡ Ok EntryRecord → (byte_at bytes 2 < places) × (rising before (byte_at bytes 2) ≡ true)
  unfolding record_at
  entry_placed r = (grind arith, grind arith)

  end_marked : record_at Entries places before bytes ≡ Ok End → (byte_at bytes 0 ≡ 90) × (byte_at bytes 1 ≡ 90)
  unfolding record_at marked
  end_marked r = (grind arith, grind arith)

-- an entry's record is spelt as the writer spells it
entry_again : (places : ℕ) (before : Option ℕ) (bytes : List ℕ) → Small bytes → record_at Entries places before bytes ≡ Ok EntryRecord
    → left_out (from_to (number_at bytes 3) (number_at bytes 7)) ≡ false
    → bytes ≡ record_of (byte_at bytes 2) (from_to (number_at bytes 3) (number_at bytes 7)) ++ drop 11 bytes
unfolding record_of
entry_again places before bytes small r some =
    let long = (at_entry Entries places before bytes r).1 in
    let mark = entry_marked places before bytes r in
    let one = mark.0 in
    let two = mark.1 in
    let low = sym (four_again bytes 3 small) in
    let high = sym (four_again bytes 7 small) in
    spelt_out 11 0 bytes (omega arith)
    ∙ (λ i. one i ∷ two i ∷ byte_at bytes 2 ∷ ((low i ++ high i) ++ drop 11 bytes))
    ∙ ap (λ o. cond o [] (69 ∷ 78 ∷ byte_at bytes 2 ∷ (four_bytes (number_at bytes 3) ++ four_bytes (number_at bytes 7))) ++ drop 11 bytes) (sym some)

-- what an accepted entry leaves
entered_is : (t : Table) (p : ℕ) (a b : ℤ) (v : Table) → entered t p a b ≡ Ok v
    → (left_out (from_to a b) ≡ false) × (v ≡ record { size = t.size; entries = set t.entries p (from_to a b) })
unfolding entered placed entry_of left_out
entered_is t p a b v r = (grind arith, grind arith)

-- entries [0, 0] have no records
blank-records : (p d : ℕ) → records_from p (replicate d zero_ends) ≡ []
unfolding records_from record_of left_out
blank-records p zero = refl
blank-records p (suc d) = blank-records (p + 1) d

-- a table that was read behind the entries of front, and the records that it was read from
record Again (n : ℕ) (front : List Ends) (bytes : List ℕ) (u : Table) : Type 0 where
  es : List Ends
  table : u ≡ record { size = n; entries = front ++ es }
  job : bytes ≡ records_from (length front) es ++ 90 ∷ 90 ∷ []

-- the end mark
end_again : (n m : ℕ) (front : List Ends) (before : Option ℕ) (bytes : List ℕ) (u : Table) → record_at Entries (places_of n) before bytes ≡ Ok End
    → records (record { size = n; entries = front ++ replicate m zero_ends }) before 0 bytes ≡ Ok u → Again n front bytes u
end_again n m front before bytes u r made =
    let t : Table = record { size = n; entries = front ++ replicate m zero_ends } in
    let done = left_end t before bytes r in
    let long = (at_end Entries (places_of n) before bytes r).1 in
    let mark = end_marked (places_of n) before bytes r in
    let one = mark.0 in
    let two = mark.1 in
    record {
      es = replicate m zero_ends;
      table = cc;
      job = spelt_out 2 0 bytes (omega arith) ∙ (λ i. one i ∷ two i ∷ drop_all 2 bytes (omega arith) i) ∙ ap (λ bs. bs ++ 90 ∷ 90 ∷ []) (sym (blank-records (length front) m));
    }

-- an entry's record, behind entries [0, 0] that have none
module _ (n m d m' : ℕ) (front : List Ends) (e : Ends) (full : m ≡ d + suc m') where
  abbrev blanks : List Ends
  blanks = replicate d zero_ends

  abbrev fronted : List Ends
  fronted = (front ++ blanks) ++ e ∷ []

  long_blanks : length (front ++ blanks) ≡ length front + d
  long_blanks = simp (length-append, length-replicate)

  long_fronted : length fronted ≡ length front + d + 1
  long_fronted = length_push (front ++ blanks) e ∙ ap (λ k. k + 1) long_blanks

  set_fronted : set (front ++ replicate m zero_ends) (length front + d) e ≡ fronted ++ replicate m' zero_ends
  set_fronted =
      let split : replicate m zero_ends ≡ blanks ++ replicate (suc m') zero_ends = ap (λ k. replicate k zero_ends) full ∙ sym (replicate-append-replicate d (suc m') zero_ends) in
      ap (λ xs. set xs (length front + d) e) (ap (λ xs. front ++ xs) split ∙ sym (append_assoc front blanks (zero_ends ∷ replicate m' zero_ends)))
      ∙ set_at (front ++ blanks) zero_ends (replicate m' zero_ends) e (length front + d) long_blanks
      ∙ sym (append_assoc (front ++ blanks) (e ∷ []) (replicate m' zero_ends))

  all_fronted : (es : List Ends) → fronted ++ es ≡ front ++ (blanks ++ e ∷ es)
  all_fronted es = append_assoc (front ++ blanks) (e ∷ []) es ∙ append_assoc front blanks (e ∷ es)

  records_fronted : (es : List Ends) → records_from (length front) (blanks ++ e ∷ es) ≡ record_of (length front + d) e ++ records_from (length front + d + 1) es
  unfolding records_from
  records_fronted es =
      records-append (length front) blanks (e ∷ es)
      ∙ (λ i. blank-records (length front) d i ++ records_from (length front + length-replicate d zero_ends i) (e ∷ es))

  again_fronted : (bytes : List ℕ) (u : Table) → bytes ≡ record_of (length front + d) e ++ drop 11 bytes → Again n fronted (drop 11 bytes) u → Again n front bytes u
  again_fronted bytes u here a =
      let job = a.job in
      record {
        es = blanks ++ e ∷ a.es;
        table = a.table ∙ ap (λ xs. record { size = n; entries = xs }) (all_fronted a.es);
        job = here ∙ ap (λ bs. record_of (length front + d) e ++ bs) (job ∙ ap (λ k. records_from k a.es ++ 90 ∷ 90 ∷ []) long_fronted)
            ∙ sym (append_assoc (record_of (length front + d) e) (records_from (length front + d + 1) a.es) (90 ∷ 90 ∷ []))
            ∙ ap (λ bs. bs ++ 90 ∷ 90 ∷ []) (sym (records_fronted a.es));
      }

-- one record after another
module _ (n m : ℕ) (front : List Ends) (before : Option ℕ) (bytes : List ℕ) (u : Table) (small : Small bytes) (full : length front + m ≡ places_of n)
    (up : (k : ℕ) → rising before k ≡ true → length front ≤ k) (made : records (record { size = n; entries = front ++ replicate m zero_ends }) before 0 bytes ≡ Ok u) where
  abbrev far : Table
  far = record { size = n; entries = front ++ replicate m zero_ends }

  abbrev here : Ends
  here = from_to (number_at bytes 3) (number_at bytes 7)

  abbrev Rest : Type 0
  Rest = (m' : ℕ) (front' : List Ends) (before' : Option ℕ) → length front' + m' ≡ places_of n → ((k : ℕ) → rising before' k ≡ true → length front' ≤ k)
      → records (record { size = n; entries = front' ++ replicate m' zero_ends }) before' 0 (drop 11 bytes) ≡ Ok u → Again n front' (drop 11 bytes) u

  goes_on : record_at Entries (places_of n) before bytes ≡ Ok EntryRecord → (o : Result Table Refusal) → entered far (byte_at bytes 2) (number_at bytes 3) (number_at bytes 7) ≡ o
      → and_then o (λ w. records w (Some (byte_at bytes 2)) 0 (drop 11 bytes)) ≡ Ok u
  goes_on r o e = ap (λ o. and_then o (λ w. records w (Some (byte_at bytes 2)) 0 (drop 11 bytes))) (sym e) ∙ sym (left_entry far before bytes r) ∙ made

  -- an entry that was accepted at place q, d places behind front
  entry_step : (q d m' : ℕ) (v : Table) → byte_at bytes 2 ≡ q → length front + d ≡ q → m ≡ d + suc m' → record_at Entries (places_of n) before bytes ≡ Ok EntryRecord
      → entered far (byte_at bytes 2) (number_at bytes 3) (number_at bytes 7) ≡ Ok v → records v (Some (byte_at bytes 2)) 0 (drop 11 bytes) ≡ Ok u → Rest → Again n front bytes u
  unfolding rising
  entry_step q d m' v place at split r set_here goes rest =
      let is = entered_is far (byte_at bytes 2) (number_at bytes 3) (number_at bytes 7) v set_here in
      let table : v ≡ record { size = n; entries = fronted n m d m' front here split ++ replicate m' zero_ends } =
      is.1 ∙ ap (λ xs. record { size = n; entries = xs }) (ap (λ k. set (front ++ replicate m zero_ends) k here) (place ∙ sym at) ∙ set_fronted n m d m' front here split) in
      let long = long_fronted n m d m' front here split in
      again_fronted n m d m' front here split bytes u
      (entry_again (places_of n) before bytes small r is.0 ∙ ap (λ k. record_of k here ++ drop 11 bytes) (place ∙ sym at))
      (rest m' (fronted n m d m' front here split) (Some q) (omega arith) (λ k h. omega (arith, ltb-true q k h)) ((λ i. records (sym table i) (Some (sym place i)) 0 (drop 11 bytes)) ∙ goes))

  entry_met : record_at Entries (places_of n) before bytes ≡ Ok EntryRecord → (o : Result Table Refusal) → entered far (byte_at bytes 2) (number_at bytes 3) (number_at bytes 7) ≡ o → Rest → Again n front bytes u
  entry_met r (Err x) e rest = absurd (let g = goes_on r (Err x) e in let z : ◌≡◌ {A = ℕ} 0 1 = cc in omega arith)
  entry_met r (Ok v) e rest =
      let spot = entry_placed (places_of n) before bytes r in
      let low = up (byte_at bytes 2) spot.1 in
      let below = spot.0 in
      entry_step (byte_at bytes 2) (byte_at bytes 2 - length front) (m - (byte_at bytes 2 - length front) - 1) v refl (omega arith) (omega arith) r e (goes_on r (Ok v) e) rest

  step : (11 ≤ length bytes → Rest) → Again n front bytes u
  step rest =
      (elim (record_at Entries (places_of n) before bytes) as (λ o. record_at Entries (places_of n) before bytes ≡ o → Again n front bytes u) [
        | Err x ↦ λ r. absurd (let e = left_refused Entries far before bytes x refl r in let z : ◌≡◌ {A = ℕ} 0 1 = cc in omega arith)
        | Ok Size ↦ λ r. absurd (let e = (at_size Entries (places_of n) before bytes r).0 in let z : ◌≡◌ {A = ℕ} 0 1 = cc in omega arith)
        | Ok End ↦ λ r. end_again n m front before bytes u r made
        | Ok EntryRecord ↦ λ r. entry_met r (entered far (byte_at bytes 2) (number_at bytes 3) (number_at bytes 7)) refl (rest (at_entry Entries (places_of n) before bytes r).1)
      ]) refl

-- all records; fuel bounds the bytes that are left
entries_again : (fuel n m : ℕ) (front : List Ends) (before : Option ℕ) (bytes : List ℕ) (u : Table) → length bytes ≤ fuel → Small bytes → length front + m ≡ places_of n
    → ((k : ℕ) → rising before k ≡ true → length front ≤ k) → records (record { size = n; entries = front ++ replicate m zero_ends }) before 0 bytes ≡ Ok u → Again n front bytes u
entries_again zero n m front before bytes u few small full up made = step n m front before bytes u small full up made (λ long. absurd (omega arith))
entries_again (suc fuel) n m front before bytes u few small full up made =
    step n m front before bytes u small full up made (λ long m' front' before' full' up' made'.
    entries_again fuel n m' front' before' (drop 11 bytes) u (simp length-drop (omega arith)) (small_on 11 bytes small) full' up' made')

-- the size record
sized_is : (n : ℕ) (t : Table) → sized n ≡ Ok t → t ≡ blank n
unfolding sized size_of
sized_is n t e = grind arith

size_again : (bytes : List ℕ) (u t : Table) → Small bytes → record_at First 0 None bytes ≡ Ok Size → sized (byte_at bytes 2) ≡ Ok t → records t None 0 (drop 3 bytes) ≡ Ok u → bytes ≡ written u
unfolding written blank
size_again bytes u t small r made goes =
    let n = byte_at bytes 2 in
    let long = (at_size First 0 None bytes r).1 in
    let mark = size_marked 0 None bytes r in
    let one = mark.0 in
    let two = mark.1 in
    let blanked = ap (λ w. records w None 0 (drop 3 bytes)) (sym (sized_is n t made)) ∙ goes in
    let again = entries_again (length (drop 3 bytes)) n (places_of n) [] None (drop 3 bytes) u (omega arith) (small_on 3 bytes small) (omega arith) (λ k h. omega arith) blanked in
    let job = again.job in
    spelt_out 3 0 bytes (omega arith) ∙ (λ i. one i ∷ two i ∷ n ∷ job i) ∙ ap written (sym again.table)

pub written-parsed : (bytes : List ℕ) (u : Table) → Small bytes → parsed bytes ≡ Ok u → bytes ≡ written u
unfolding parsed
written-parsed bytes u small made =
    (elim (record_at First 0 None bytes) as (λ o. record_at First 0 None bytes ≡ o → bytes ≡ written u) [
      | Err x ↦ λ r. absurd (let e = ap (λ o. and_then o after) (sym r) ∙ made in let z : ◌≡◌ {A = ℕ} 0 1 = cc in omega arith)
      | Ok EntryRecord ↦ λ r. absurd (let e = (at_entry First 0 None bytes r).0 in let z : ◌≡◌ {A = ℕ} 0 1 = cc in omega arith)
      | Ok End ↦ λ r. absurd (let e = (at_end First 0 None bytes r).0 in let z : ◌≡◌ {A = ℕ} 0 1 = cc in omega arith)
      | Ok Size ↦ λ r. by_size r (sized (byte_at bytes 2)) refl
    ]) refl
  where
    after : Record → Result Table Refusal
    after r = and_then (sized (byte_at bytes 2)) (λ t. records t None 0 (drop 3 bytes))

    by_size : record_at First 0 None bytes ≡ Ok Size → (o : Result Table Refusal) → sized (byte_at bytes 2) ≡ o → bytes ≡ written u
    by_size r (Err x) e = absurd (let g = ap (λ o. and_then o (λ t. records t None 0 (drop 3 bytes))) (sym e) ∙ ap (λ o. and_then o after) (sym r) ∙ made in let z : ◌≡◌ {A = ℕ} 0 1 = cc in omega arith)
    by_size r (Ok t) e = size_again bytes u t small r e (ap (λ o. and_then o (λ w. records w None 0 (drop 3 bytes))) (sym e) ∙ ap (λ o. and_then o after) (sym r) ∙ made)
