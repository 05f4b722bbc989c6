-- What a draft or a system holds: its size n, and its n × (n + 1) entries by place, row by row, each row with its n matrix entries and then its right-hand entry.
use Rattle.std.specs.Prelude.{◌≡◌, ℕ, ◌+◌, ◌*◌, ◌<◌, cond, ◌&&◌, ◌⊎◌, List, map, take, replicate, ℤ, pos, Ok, Err, count_by, Option, Result, nat_le, nat_lt, slice_index_or, slice_set}
use Rattle.std.specs.List.{slice_get}
use Rattle.algebra.specs.Chaining.{and_then}
use Rattle.algebra.specs.Ends.{Ends, Included}
use Rattle.systems.specs.declared.draft.Draft.{Draft}
use Rattle.systems.specs.declared.entry.Entry.{Entry}
use Rattle.systems.specs.declared.refusal.Refusal.{Refusal}
use Rattle.systems.specs.declared.refusal.Refusal.TheVariants.{SizeOutOfRange, PlaceOutOfRange}
use Rattle.systems.specs.declared.system.System.{System}
use Rattle.systems.specs.Entries.{ends_of, entry_of, is_wide, middle, thin}

pub record Table : Type 0 where
  pub size : ℕ
  pub entries : List Ends

-- the number of places
abbrev pub places_of : ℕ → ℕ
places_of n = n * (n + 1)

-- a table from a size and the entries at the front of a list
unfoldable pub tabled : ℕ → List Entry → Table
tabled n xs = record { size = n; entries = take (places_of n) (map ends_of xs) }

abbrev pub drafted : Draft → Table
drafted d = tabled d.size.rows d.entries

abbrev pub table_of : System → Table
table_of s = drafted s.draft

-- size n, every entry [0, 0]
unfoldable pub blank : ℕ → Table
blank n = record { size = n; entries = replicate (places_of n) (thin (pos 0)) }

-- n, if it is a size
unfoldable pub size_of : ℕ → Result ℕ Refusal
size_of n = cond (nat_le 1 n && nat_le n 6) (Ok n) (Err SizeOutOfRange)

-- a new table at size n
unfoldable pub sized : ℕ → Result Table Refusal
sized n = and_then (size_of n) (λ m. Ok (blank m))

-- the table with the entry from a to b at a place: first the place is looked at, then the ends
unfoldable pub placed : ℕ → ℤ → ℤ → Table → Result Table Refusal
placed p a b t = cond (nat_lt p (places_of t.size))
    (and_then (entry_of a b) (λ e. Ok (record { size = t.size; entries = slice_set t.entries p e })))
    (Err PlaceOutOfRange)

-- a call that answered r and left the draft d as d' did what the answer o says: at a table the draft holds that table now, at a refusal it is as it was
abbrev pub Changed : Result (Unit {0}) Refusal → Draft → Draft → Result Table Refusal → Type 0
Changed (Ok u) d d' o = o ≡ Ok (drafted d')
Changed (Err e) d d' o = (o ≡ Err e) × (d' ≡ d)

-- the entry at a place, if there is one
unfoldable pub entry_at : Table → ℕ → Option Ends
entry_at t k = slice_get t.entries k

-- how many entries are wide
unfoldable pub wide_entries : Table → ℕ
wide_entries t = count_by is_wide t.entries

-- every entry thin at its midpoint
unfoldable pub midpoint_of : Table → Table
midpoint_of t = record { size = t.size; entries = map middle t.entries }

-- the entry at place k, read as [0, 0] past the end
abbrev pub ends_at : Table → ℕ → Ends
ends_at t k = slice_index_or t.entries k (thin (pos 0))

-- one table is narrower than another: the sizes agree, and each entry lies within the other's
pub record Narrower (t s : Table) : Type 0 where
  pub same_size : t.size ≡ s.size
  pub within : (k : ℕ) → k < places_of s.size → Included (ends_at t k) (ends_at s k)

-- a corner of a table: each entry is thin at one of its two ends
pub record Corner (t s : Table) : Type 0 where
  pub same_size : t.size ≡ s.size
  pub at_an_end : (k : ℕ) → k < places_of s.size → (ends_at t k ≡ thin (ends_at s k).low) ⊎ (ends_at t k ≡ thin (ends_at s k).high)
