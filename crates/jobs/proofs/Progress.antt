-- What each record leaves to be read: the reader's steps keep what the job means. Assumes nothing.
use Rattle.std.proofs.Common.{◌≡◌, ℕ, zero, suc, ◌+◌, ◌<◌, ◌≤◌, true, false, List, [], ◌∷◌, length, drop, is_ok, Some, None, Ok, Err, Option, Result, sym, refl, ap, ◌∙◌, arith, length-drop, drop-drop}
use Rattle.algebra.specs.Chaining.{and_then}
use Rattle.systems.specs.Tables.{Table, Changed, drafted, places_of, sized}
use Rattle.systems.specs.declared.draft.Draft.{Draft}
use Rattle.systems.specs.declared.refusal.Refusal.{Refusal}
use Rattle.systems.specs.declared.refusal.Refusal.TheVariants.{JobEndsEarly}
use Rattle.jobs.specs.declared.reader.Reader.{Reader}
use Rattle.jobs.specs.declared.reader.Record.{Record}
use Rattle.jobs.specs.declared.reader.Record.TheVariants.{Size, Entry, End}
use Rattle.jobs.specs.declared.reader.Stage.{Stage}
use Rattle.jobs.specs.declared.reader.Stage.TheVariants.{First, Entries, Ended}
use Rattle.jobs.specs.Reading.{byte_at, number_at, record_at, entered, records, parsed}
use Rattle.jobs.specs.Walking.{Entered, Onward, Stands, Walked, has_ended, left, remaining}
use Rattle.jobs.proofs.Bytes.{byte_on, number_on}

-- ---- which record stands where
module _ (stage : Stage) (places : ℕ) (before : Option ℕ) (bytes : List ℕ) where
  pub at_size : record_at stage places before bytes ≡ Ok Size → (stage ≡ First) × (3 ≤ length bytes)
  unfolding record_at
  at_size e = (grind arith, grind arith)

  pub at_entry : record_at stage places before bytes ≡ Ok Entry → (stage ≡ Entries) × (11 ≤ length bytes)
  unfolding record_at
  at_entry e = (grind arith, grind arith)

  pub at_end : record_at stage places before bytes ≡ Ok End → (stage ≡ Entries) × (length bytes ≡ 2)
  unfolding record_at
  at_end e = (grind arith, grind arith)

-- no record stands at the end of the bytes
none_left : (stage : Stage) (places : ℕ) (before : Option ℕ) → record_at stage places before [] ≡ Err JobEndsEarly
unfolding record_at
none_left stage places before = refl

-- before the first record there is neither a number of places nor a place before
first_alike : (places : ℕ) (before : Option ℕ) (bytes : List ℕ) → record_at First 0 None bytes ≡ record_at First places before bytes
unfolding record_at
first_alike places before bytes = refl

-- ---- what is left
-- bytes of a record that was read are passed over
skipped : (t : Table) (before : Option ℕ) (k : ℕ) (bytes : List ℕ) → records t before k bytes ≡ records t before 0 (drop k bytes)
unfolding records
skipped t before zero bytes = refl
skipped t before (suc k) [] = refl
skipped t before (suc k) (b ∷ bytes) = skipped t before k bytes

-- a refusal of the record in front is the refusal of what is left
pub left_refused : (stage : Stage) (t : Table) (before : Option ℕ) (bytes : List ℕ) (e : Refusal) → has_ended stage ≡ false
    → record_at stage (places_of t.size) before bytes ≡ Err e → left stage t before bytes ≡ Err e
unfolding parsed records
left_refused First t before bytes e still r = rw (first_alike (places_of t.size) before bytes ∙ r)
left_refused Entries t before [] e still r = let n = none_left Entries (places_of t.size) before in cc
left_refused Entries t before (b ∷ bytes) e still r = rw r
left_refused Ended t before bytes e still r = absurd (let k : ◌≡◌ {A = ℕ} 0 1 = cc in omega arith)

-- what is left where a size, an entry or the end mark stands in front
pub left_size : (t : Table) (places : ℕ) (before : Option ℕ) (bytes : List ℕ) → record_at First places before bytes ≡ Ok Size
    → left First t before bytes ≡ and_then (sized (byte_at bytes 2)) (λ u. records u None 0 (drop 3 bytes))
unfolding parsed
left_size t places before bytes r = rw (first_alike places before bytes ∙ r)

pub left_entry : (t : Table) (before : Option ℕ) (bytes : List ℕ) → record_at Entries (places_of t.size) before bytes ≡ Ok Entry
    → left Entries t before bytes
    ≡ and_then (entered t (byte_at bytes 2) (number_at bytes 3) (number_at bytes 7)) (λ u. records u (Some (byte_at bytes 2)) 0 (drop 11 bytes))
unfolding records
left_entry t before [] r =
    let n = none_left Entries (places_of t.size) before in
    absurd (let k : ◌≡◌ {A = ℕ} 0 1 = cc in omega arith)
left_entry t before (b ∷ bytes) r =
    rw r (λ i. and_then (entered t (byte_at (b ∷ bytes) 2) (number_at (b ∷ bytes) 3) (number_at (b ∷ bytes) 7))
    (λ u. skipped u (Some (byte_at (b ∷ bytes) 2)) 10 bytes i))

pub left_end : (t : Table) (before : Option ℕ) (bytes : List ℕ) → record_at Entries (places_of t.size) before bytes ≡ Ok End
    → left Entries t before bytes ≡ Ok t
unfolding records
left_end t before [] r =
    let n = none_left Entries (places_of t.size) before in
    absurd (let k : ◌≡◌ {A = ℕ} 0 1 = cc in omega arith)
left_end t before (b ∷ bytes) r = rw r

-- behind the end mark the table read so far is the answer
left_ended : (stage : Stage) (t : Table) (before : Option ℕ) (bytes : List ℕ) → has_ended stage ≡ true → left stage t before bytes ≡ Ok t
left_ended First t before bytes e = absurd (let k : ◌≡◌ {A = ℕ} 0 1 = cc in omega arith)
left_ended Entries t before bytes e = absurd (let k : ◌≡◌ {A = ℕ} 0 1 = cc in omega arith)
left_ended Ended t before bytes e = refl

-- ---- the reader
-- the record in front of the reader
abbrev pub front : Reader → Table → Result Record Refusal
front r t = record_at r.stage (places_of t.size) r.previous (drop r.at r.job.now)

pub refused : (was : Reader) (t : Table) (e : Refusal) → has_ended was.stage ≡ false → front was t ≡ Err e → remaining was t ≡ Err e
unfolding remaining
refused was t e still f = left_refused was.stage t was.previous (drop was.at was.job.now) e still f

pub ended : (r : Reader) (t : Table) → has_ended r.stage ≡ true → remaining r t ≡ Ok t
unfolding remaining
ended r t e = left_ended r.stage t r.previous (drop r.at r.job.now) e

-- the record in front lies within the job
module _ (was : Reader) (t : Table) (within : was.at ≤ length was.job.now) where
  pub size_fits : front was t ≡ Ok Size → was.at + 3 ≤ length was.job.now
  size_fits f =
      let k = at_size was.stage (places_of t.size) was.previous (drop was.at was.job.now) f in
      omega (arith, length-drop was.at was.job.now)

  pub entry_fits : front was t ≡ Ok Entry → was.at + 11 ≤ length was.job.now
  entry_fits f =
      let k = at_entry was.stage (places_of t.size) was.previous (drop was.at was.job.now) f in
      omega (arith, length-drop was.at was.job.now)

  pub end_fits : front was t ≡ Ok End → was.at + 2 ≤ length was.job.now
  end_fits f =
      let k = at_end was.stage (places_of t.size) was.previous (drop was.at was.job.now) f in
      omega (arith, length-drop was.at was.job.now)

-- what is left at the reader, by the positions in the whole job
module _ (was : Reader) (t : Table) where
  abbrev rest : List ℕ
  rest = drop was.at was.job.now

  size_here : front was t ≡ Ok Size
      → remaining was t ≡ and_then (sized (byte_at was.job.now (was.at + 2))) (λ u. records u None 0 (drop 3 rest))
  unfolding remaining
  size_here f =
      let s = (at_size was.stage (places_of t.size) was.previous rest f).0 in
      (λ i. left (s i) t was.previous rest)
      ∙ left_size t (places_of t.size) was.previous rest (rw s at f)
      ∙ (λ i. and_then (sized (byte_on was.job.now was.at 2 i)) (λ u. records u None 0 (drop 3 rest)))

  entry_here : front was t ≡ Ok Entry
      → remaining was t
      ≡ and_then (entered t (byte_at was.job.now (was.at + 2)) (number_at was.job.now (was.at + 3)) (number_at was.job.now (was.at + 7)))
      (λ u. records u (Some (byte_at was.job.now (was.at + 2))) 0 (drop 11 rest))
  unfolding remaining
  entry_here f =
      let s = (at_entry was.stage (places_of t.size) was.previous rest f).0 in
      let p = byte_on was.job.now was.at 2 in
      let a = number_on was.job.now was.at 3 in
      let b = number_on was.job.now was.at 7 in
      (λ i. left (s i) t was.previous rest)
      ∙ left_entry t was.previous rest (rw s at f)
      ∙ (λ i. and_then (entered t (p i) (a i) (b i)) (λ u. records u (Some (p i)) 0 (drop 11 rest)))

  end_here : front was t ≡ Ok End → remaining was t ≡ Ok t
  unfolding remaining
  end_here f =
      let s = (at_end was.stage (places_of t.size) was.previous rest f).0 in
      (λ i. left (s i) t was.previous rest) ∙ left_end t was.previous rest (rw s at f)

-- a step from one reader to another
module _ (was is : Reader) where
  pub stands_onward : (k : ℕ) (before : Option ℕ) → 0 < k → was.at + k ≤ length was.job.now → Stands was is k before → Onward was is
  stands_onward k before some fits s = record { same = s.same; further = omega arith; within = omega arith }

  stands_left : (k : ℕ) (before : Option ℕ) (t : Table) → Stands was is k before
      → records t before 0 (drop k (drop was.at was.job.now)) ≡ remaining is t
  unfolding remaining
  stands_left k before t s =
      let a = s.at in
      let b = s.stage in
      let c = s.same in
      let d = s.previous in
      ap (records t before 0) (drop-drop k was.at was.job.now) ∙ sym (λ i. left (b i) t (d i) (drop (a i) (c i)))

  pub size_walked : (r : Result (Unit {0}) Refusal) (d d' : Draft) → front was (drafted d) ≡ Ok Size
      → Changed r d d' (sized (byte_at was.job.now (was.at + 2))) → (is_ok r ≡ true → Stands was is 3 None)
      → Walked r (remaining was (drafted d)) (remaining is (drafted d'))
  size_walked (Ok u) d d' f done s =
      let h = size_here was (drafted d) f in
      rw done at h ∙ stands_left 3 None (drafted d') (s refl)
  size_walked (Err e) d d' f done s =
      let h = size_here was (drafted d) f in
      rw done.0 at h

  pub entry_walked : (r : Result (Unit {0}) Refusal) (t t' : Table) → front was t ≡ Ok Entry
      → Entered r t' (entered t (byte_at was.job.now (was.at + 2)) (number_at was.job.now (was.at + 3)) (number_at was.job.now (was.at + 7)))
      → (is_ok r ≡ true → Stands was is 11 (Some (byte_at was.job.now (was.at + 2))))
      → Walked r (remaining was t) (remaining is t')
  entry_walked (Ok u) t t' f done s =
      let h = entry_here was t f in
      rw done at h ∙ stands_left 11 (Some (byte_at was.job.now (was.at + 2))) t' (s refl)
  entry_walked (Err e) t t' f done s =
      let h = entry_here was t f in
      rw done at h

pub end_walked : (was is : Reader) (t : Table) → front was t ≡ Ok End → is.stage ≡ Ended → remaining was t ≡ remaining is t
end_walked was is t f e = end_here was t f ∙ sym (ended is t (ap has_ended e))
