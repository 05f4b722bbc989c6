-- The records of entries one after another, and bytes written over a list. Assumes nothing.
use Rattle.std.proofs.Common.{◌≡◌, ℕ, suc, ◌+◌, ◌-◌, ◌*◌, ◌^◌, ◌<◌, ◌≤◌, true, false, cond, List, [], ◌∷◌, ◌++◌, map, length, get_or, take, drop, ℤ, pos, negsuc, Ok, Err, sym, refl, ap, ◌∙◌, append_assoc, add-zero, zero-add, arith, length-append, length-take, length-drop, drop-drop, count_by, not, to_z-of_z, w32, to_z, of_z}
use lib.ListN.{length-map}
use lib.Signed.{mag}
use borrow.Rule.Slice.PartMut.{put_mid}
use Rattle.std.proofs.lemmas.List.Sums.{sum_by-cons, count_by-le-length}
use Rattle.std.proofs.lemmas.List.{append-nil, take_more, take-append-drop, take_at, take_all, get_or-map}
use Rattle.std.proofs.lemmas.Slice.{drop-append-drop}
use Rattle.algebra.specs.Ends.{Ends}
use Rattle.systems.specs.Entries.{ends_of}
use Rattle.systems.specs.Tables.{Table, places_of, table_of}
use Rattle.systems.specs.declared.entry.Entry.{Entry}
use Rattle.systems.specs.declared.refusal.Refusal.TheVariants.{BufferTooShort}
use Rattle.systems.specs.declared.system.System.{System}
use Rattle.systems.proofs.Contents.{places_few}
use Rattle.systems.proofs.Tabled.{table_proper, entries_long}
use Rattle.jobs.specs.declared.writer.Writer.{Writer}
use Rattle.jobs.specs.Laying.{Room, Wrote}
use Rattle.jobs.specs.Writing.{bits_of, four_bytes, left_out, full_record, record_of, records_from, written, overwritten, Writes}

-- ---- records
-- a record has none or eleven bytes, whatever the place
pub record_length : (p : ℕ) (e : Ends) → length (record_of p e) ≡ cond (left_out e) 0 11
unfolding record_of four_bytes
record_length p e = elim (left_out e) as (λ v. length (cond v [] (69 ∷ 78 ∷ p ∷ (four_bytes e.low ++ four_bytes e.high))) ≡ cond v 0 11) [ true ↦ refl | false ↦ refl ]

pub record_none : (p : ℕ) (e : Ends) → left_out e ≡ true → record_of p e ≡ []
unfolding record_of
record_none p e h = rw h

pub record_full : (p : ℕ) (e : Ends) → left_out e ≡ false → record_of p e ≡ full_record p e
unfolding record_of
record_full p e h = rw h refl

pub records-append : (p : ℕ) (xs ys : List Ends) → records_from p (xs ++ ys) ≡ records_from p xs ++ records_from (p + length xs) ys
unfolding records_from
records-append p [] ys = rw add-zero
records-append p (x ∷ xs) ys =
    let on : p + 1 + length xs ≡ p + suc (length xs) = omega arith in
    ap (λ bs. record_of p x ++ bs) (records-append (p + 1) xs ys ∙ ap (λ k. records_from (p + 1) xs ++ records_from k ys) on)
    ∙ sym (append_assoc (record_of p x) (records_from (p + 1) xs) (records_from (p + suc (length xs)) ys))

record_alone : (p : ℕ) (e : Ends) → records_from p (e ∷ []) ≡ record_of p e
unfolding records_from
record_alone p e = append-nil (record_of p e)

-- one more entry adds its record
records_more : (es : List Ends) (k : ℕ) (d : Ends) → k < length es → records_from 0 (take (k + 1) es) ≡ records_from 0 (take k es) ++ record_of k (get_or es k d)
records_more es k d h =
    let here : 0 + length (take k es) ≡ k = simp length-take (omega arith) in
    ap (records_from 0) (take_more es k d h) ∙ records-append 0 (take k es) (get_or es k d ∷ [])
    ∙ ap (λ p. records_from 0 (take k es) ++ records_from p (get_or es k d ∷ [])) here
    ∙ ap (λ bs. records_from 0 (take k es) ++ bs) (record_alone k (get_or es k d))

pub records_within : (es : List Ends) (k : ℕ) → length (records_from 0 (take k es)) ≤ length (records_from 0 es)
records_within es k =
    let split : records_from 0 es ≡ records_from 0 (take k es) ++ records_from (0 + length (take k es)) (drop k es) =
    ap (records_from 0) (sym (take-append-drop k es)) ∙ records-append 0 (take k es) (drop k es) in
    rw split (simp length-append (omega arith))

-- eleven bytes for each entry that has a record
pub records-length : (p : ℕ) (es : List Ends) → length (records_from p es) ≡ 11 * count_by (λ e. not (left_out e)) es
unfolding records_from
records-length p [] = refl
records-length p (e ∷ es) =
    let here = record_length p e in
    let rest = records-length (p + 1) es in
    let more = sum_by-cons (λ x. cond (not (left_out x)) 1 0) e es in
    simp length-append (grind arith)

pub records-few : (p : ℕ) (es : List Ends) → length (records_from p es) ≤ 11 * length es
records-few p es = omega (arith, records-length p es, count_by-le-length (λ e. not (left_out e)) es)

-- ---- the entries of a system
pub places_small : (s : System) → places_of (table_of s).size ≤ 42
places_small s = places_few (table_of s).size (table_proper s).few

pub entries_full : (s : System) → length (table_of s).entries ≡ places_of (table_of s).size
entries_full s = (table_proper s).complete

-- a slice of a system's entries has at most 42
pub entries_few : (s : System) (es : List Entry) → map ends_of es ≡ (table_of s).entries → length es ≤ 42
entries_few s es same = let few = places_small s in let long = entries_long s es same in omega arith

-- ---- writing over
pub overwritten_none : (was : List ℕ) (at : ℕ) → overwritten was at [] ≡ was
unfolding overwritten
overwritten_none was at = rw add-zero (take-append-drop at was)

pub overwritten_front : (was bytes : List ℕ) → overwritten was 0 bytes ≡ bytes ++ drop (length bytes) was
unfolding overwritten
overwritten_front was bytes = rw zero-add

pub overwritten_long : (was : List ℕ) (at : ℕ) (bytes : List ℕ) → at + length bytes ≤ length was → length (overwritten was at bytes) ≡ length was
unfolding overwritten
overwritten_long was at bytes h = simp (length-append, length-take, length-drop) (omega arith)

pub overwritten_more : (was : List ℕ) (at : ℕ) (a b : List ℕ) → at + length a + length b ≤ length was → overwritten (overwritten was at a) (at + length a) b ≡ overwritten was at (a ++ b)
unfolding overwritten
overwritten_more was at a b h =
    let front = take at was ++ a in
    let long : length front ≡ at + length a = simp (length-append, length-take) (omega arith) in
    let whole : overwritten was at a ≡ front ++ drop (at + length a) was = sym (append_assoc (take at was) a (drop (at + length a) was)) in
    let taken = ap (take (at + length a)) whole ∙ take_at front (drop (at + length a) was) (at + length a) long in
    let left = ap (drop (at + length a + length b)) whole ∙ drop-append-drop (at + length a) was front (at + length a + length b) (omega arith) long in
    let sum : at + length a + length b ≡ at + length (a ++ b) = simp length-append (omega arith) in
    (λ i. taken i ++ (b ++ left i)) ∙ append_assoc (take at was) a (b ++ drop (at + length a + length b) was)
    ∙ ap (λ bs. take at was ++ bs) (sym (append_assoc a b (drop (at + length a + length b) was)))
    ∙ ap (λ k. take at was ++ ((a ++ b) ++ drop k was)) sum

-- pieces one after the other
pub wrote_none : (w : Writer) → Wrote w w []
wrote_none w = record { same = refl; end = rw add-zero refl; stands = sym (overwritten_none w.buffer.now w.at) }

module _ (was mid : Writer) (front : List ℕ) (first : Wrote was mid front) where
  pub room_on : (back : List ℕ) → Room was (front ++ back) → Room mid back
  room_on back room =
      let sum = length-append front back in
      let whole = ap length first.stands ∙ overwritten_long was.buffer.now was.at front (omega (arith, room)) in
      omega (arith, room, first.end)

  pub wrote_on : (is : Writer) (back : List ℕ) → Room was (front ++ back) → Wrote mid is back → Wrote was is (front ++ back)
  wrote_on is back room second =
      let sum = length-append front back in
      let on : was.at + length front + length back ≤ length was.buffer.now = omega (arith, room) in
      record {
        same = second.same ∙ first.same;
        end = simp length-append (omega (arith, first.end, second.end));
        stands = second.stands ∙ (λ i. overwritten (first.stands i) (first.end i) back) ∙ overwritten_more was.buffer.now was.at front back on;
      }

pub room_front : (w : Writer) (front back : List ℕ) → Room w (front ++ back) → Room w front
room_front w front back room = let sum = length-append front back in omega (arith, room)

-- a job piece by piece: SZ, the size, the records, ZZ
module _ (start : Writer) (t : Table) where
  abbrev records : List ℕ
  records = records_from 0 t.entries

  module _ (marked : Writer) (first : Wrote start marked (83 ∷ 90 ∷ [])) (room : Room start (written t)) where
    size_on : Room marked (t.size ∷ (records ++ 90 ∷ 90 ∷ []))
    unfolding written
    size_on = room_on start marked (83 ∷ 90 ∷ []) first (t.size ∷ (records ++ 90 ∷ 90 ∷ [])) room

    pub size_room : Room marked (t.size ∷ [])
    size_room = room_front marked (t.size ∷ []) (records ++ 90 ∷ 90 ∷ []) size_on

    module _ (sized : Writer) (second : Wrote marked sized (t.size ∷ [])) where
      records_on : Room sized (records ++ 90 ∷ 90 ∷ [])
      records_on = room_on marked sized (t.size ∷ []) second (records ++ 90 ∷ 90 ∷ []) size_on

      pub records_room : Room sized records
      records_room = room_front sized records (90 ∷ 90 ∷ []) records_on

      module _ (filled : Writer) (third : Wrote sized filled records) where
        pub end_room : Room filled (90 ∷ 90 ∷ [])
        end_room = room_on sized filled records third (90 ∷ 90 ∷ []) records_on

        pub job_wrote : (done : Writer) → Wrote filled done (90 ∷ 90 ∷ []) → Wrote start done (written t)
        unfolding written
        job_wrote done fourth =
            wrote_on start marked (83 ∷ 90 ∷ []) first done (t.size ∷ (records ++ 90 ∷ 90 ∷ [])) room
            (wrote_on marked sized (t.size ∷ []) second done (records ++ 90 ∷ 90 ∷ []) size_on
            (wrote_on sized filled records third done (90 ∷ 90 ∷ []) records_on fourth))

-- the bits of a number are the machine's
pub bits_machine : (z : ℤ) → bits_of z ≡ of_z w32 z
bits_machine (pos n) = refl
bits_machine (negsuc n) = refl

-- the bytes of an end, as the code hands it over
pub bytes_handed : (z x : ℤ) (bs : List ℕ) → mag x < 2 ^ 31 → x ≡ z → bs ≡ four_bytes (to_z w32 (of_z w32 x)) → bs ≡ four_bytes z
bytes_handed z x bs m e made = made ∙ ap four_bytes (to_z-of_z {w = w32} (record { sfits = m }) ∙ e)

-- a copy into a part of a slice writes over it
pub put_over : (was : List ℕ) (at : ℕ) (bytes copied : List ℕ) → copied ≡ bytes → put_mid at (at + length bytes - at) was copied ≡ overwritten was at bytes
unfolding overwritten
put_over was at bytes copied e =
    let long : at + length bytes - at ≡ length bytes = omega arith in
    (λ i. take at was ++ (e i ++ drop (long i) (drop at was))) ∙ ap (λ bs. take at was ++ (bytes ++ bs)) (drop-drop (length bytes) at was)

-- ---- the walk over the entries of a system
-- the records of the entries before place k
abbrev pub passed : List Entry → ℕ → List ℕ
passed es k = records_from 0 (take k (map ends_of es))

pub passed_more : (es : List Entry) (k : ℕ) (e : Entry) → k < length es → e ≡ get_or es k e → passed es (k + 1) ≡ passed es k ++ record_of k (ends_of e)
passed_more es k e h is =
    records_more (map ends_of es) k (ends_of e) (simp length-map h)
    ∙ ap (λ x. passed es k ++ record_of k x) (get_or-map ends_of es k e (ends_of e) h ∙ ap ends_of (sym is))

pub passed_all : (es : List Entry) (k : ℕ) → length es ≤ k → passed es k ≡ records_from 0 (map ends_of es)
passed_all es k h = ap (records_from 0) (take_all k (map ends_of es) (simp length-map h))

pub written-length : (t : Table) → length (written t) ≡ 5 + length (records_from 0 t.entries)
unfolding written
written-length t = simp length-append (omega arith)

pub written_short : (s : System) → length (written (table_of s)) ≤ 467
written_short s =
    let full = entries_full s in
    let few = places_small s in
    omega (arith, written-length (table_of s), records-few 0 (table_of s).entries)

-- ---- what the writer answers
pub writes_refused : (was bytes : List ℕ) → length was < length bytes → Writes (Err BufferTooShort) was was bytes
writes_refused was bytes h = record { answer = grind arith; buffer = grind arith }

pub writes_done : (was is bytes : List ℕ) (n : ℕ) → length bytes ≤ length was → n ≡ length bytes → is ≡ bytes ++ drop (length bytes) was → Writes (Ok n) was is bytes
writes_done was is bytes n h e made = record { answer = grind arith; buffer = grind arith }
