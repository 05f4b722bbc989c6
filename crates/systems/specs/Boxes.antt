-- Boxes: a system with some of its entries fixed at one of their ends. Which, is told by the bits of two numbers, one bit for each place.
use Rattle.std.specs.Prelude.{ℕ, ◌/◌, ◌%◌, ◌^◌, Bool, cond, map, ◌==◌}
use Rattle.std.specs.List.{range_with_len}
use Rattle.algebra.specs.Ends.{Ends}
use Rattle.systems.specs.Entries.{thin}
use Rattle.systems.specs.Tables.{Table, places_of, ends_at}

-- whether bit k of a number is 1
abbrev pub bit : ℕ → ℕ → Bool
bit m k = m / 2 ^ k % 2 == 1

-- the marks of a box: bit k of `fixed` says that the entry at place k is fixed, and bit k of `ends` that it is fixed at its high end
pub record Marks : Type 0 where
  pub fixed : ℕ
  pub ends : ℕ

-- an entry at place k under marks
abbrev pub fixed_entry : Marks → ℕ → Ends → Ends
fixed_entry m k e = cond (bit m.fixed k) (thin (cond (bit m.ends k) e.high e.low)) e

abbrev pub box_entry : Marks → Table → ℕ → Ends
box_entry m t k = fixed_entry m k (ends_at t k)

unfoldable pub box_of : Marks → Table → Table
box_of m t = record { size = t.size; entries = map (box_entry m t) (range_with_len 0 (places_of t.size)) }
