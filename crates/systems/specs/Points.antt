-- Systems of plain numbers inside an interval system, and their rational solutions.
use Rattle.std.specs.Prelude.{◌≡◌, ℕ, ◌+◌, ◌*◌, ◌<◌, ◌≤◌, List, map, length, ℤ, pos, ◌*ℤ◌, neg_ℤ, ◌≤ℤ◌}
use Rattle.std.specs.List.{range_with_len}
use Rattle.algebra.specs.Ends.{Ordered}
use Rattle.algebra.specs.Order.{Within}
use Rattle.algebra.specs.Solving.{Row, Solution}
use Rattle.algebra.specs.Vectors.{at}
use Rattle.systems.specs.Tables.{Table, places_of, ends_at}

-- what every system's table keeps: a size from 1 to 6, an entry for each place, ends in order and from -65536 to 65536
pub record Proper (t : Table) : Type 0 where
  pub some : 1 ≤ t.size
  pub few : t.size ≤ 6
  pub complete : length t.entries ≡ places_of t.size
  pub ordered : (k : ℕ) → Ordered (ends_at t k)
  pub above : (k : ℕ) → neg_ℤ (pos 65536) ≤ℤ (ends_at t k).low
  pub below : (k : ℕ) → (ends_at t k).high ≤ℤ pos 65536

-- a point system inside a table: a positive whole scale, and for each place a whole number between scale × low end and scale × high end
pub record PointIn (t : Table) : Type 0 where
  pub scale : ℕ
  pub positive : 0 < scale
  pub numbers : List ℤ
  pub inside : (k : ℕ) → k < places_of t.size → Within (pos scale *ℤ (ends_at t k).low) (pos scale *ℤ (ends_at t k).high) (at numbers k)

-- its row i, counted from 0, of n matrix numbers and a right-hand number
abbrev pub point_row : ℕ → List ℤ → ℕ → Row
point_row n numbers i = record { coefficients = map (λ j. at numbers (i * (n + 1) + j)) (range_with_len 0 n); right = at numbers (i * (n + 1) + n) }

abbrev pub point_rows : ℕ → List ℤ → List Row
point_rows n numbers = map (point_row n numbers) (range_with_len 0 n)

-- a rational solution of a point system: a positive whole d and whole numbers p, with in every row the sum of matrix number j × p j equal to the right-hand number × d.
-- Component j is p j / d
abbrev pub SolutionOf : (t : Table) → PointIn t → ℕ → List ℤ → Type 0
SolutionOf t P d p = Solution t.size (point_rows t.size P.numbers) d p

-- a figure in grains is at most, or at least, component j of p / d
abbrev pub AtMost : ℤ → ℕ → List ℤ → ℕ → Type 0
AtMost f d p j = (f *ℤ pos d) ≤ℤ (pos 16384 *ℤ at p j)

abbrev pub AtLeast : ℤ → ℕ → List ℤ → ℕ → Type 0
AtLeast f d p j = (pos 16384 *ℤ at p j) ≤ℤ (f *ℤ pos d)
