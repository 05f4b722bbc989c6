-- What an enclosure method owes, over its meaning: a function from tables to verdicts.
use Rattle.std.specs.Prelude.{◌≡◌, ℕ, ◌<◌, List, length, ℤ, pos, Ok, slice_index_or}
use Rattle.algebra.specs.Ends.{Ends, Included, from_to}
use Rattle.algebra.specs.Solving.{Agree}
use Rattle.grains.specs.Narrowing.{IntervalOfFigures}
use Rattle.systems.specs.Points.{Proper, PointIn, SolutionOf, AtMost, AtLeast}
use Rattle.systems.specs.Tables.{Table, Narrower}
use Rattle.enclosures.specs.Verdicts.{Verdict}

-- component j of a row, counted from 0
abbrev pub component_of : List Ends → ℕ → Ends
component_of row j = slice_index_or row j (from_to (pos 0) (pos 0))

-- a row has an interval inside the span for each component
pub record RowFor (n : ℕ) (row : List Ends) : Type 0 where
  pub complete : length row ≡ n
  pub intervals : (j : ℕ) → j < n → IntervalOfFigures (component_of row j)

abbrev pub Shaped : (Table → Verdict) → Type 0
Shaped v = (t : Table) (row : List Ends) → Proper t → v t ≡ Ok row → RowFor t.size row

-- every point system inside an accepted system has a rational solution
abbrev pub Solvable : (Table → Verdict) → Type 0
Solvable v = (t : Table) (row : List Ends) → Proper t → v t ≡ Ok row → (P : PointIn t) → (d : ℕ) × (p : List ℤ) × SolutionOf t P d p

-- all rational solutions of one point system inside it have equal components
abbrev pub Agreed : (Table → Verdict) → Type 0
Agreed v = (t : Table) (row : List Ends) → Proper t → v t ≡ Ok row → (P : PointIn t) (d : ℕ) (p : List ℤ) (d' : ℕ) (p' : List ℤ)
    → SolutionOf t P d p → SolutionOf t P d' p' → Agree d p d' p'

-- each component of each of them lies in its interval of the row, ends included
abbrev pub Enclosed : (Table → Verdict) → Type 0
Enclosed v = (t : Table) (row : List Ends) → Proper t → v t ≡ Ok row → (P : PointIn t) (d : ℕ) (p : List ℤ)
    → SolutionOf t P d p → (j : ℕ) → j < t.size → AtMost (component_of row j).low d p j × AtLeast (component_of row j).high d p j

-- a system narrower than it is accepted too, and each interval of its row lies within the wider one's
abbrev pub Narrowing : (Table → Verdict) → Type 0
Narrowing v = (t s : Table) (row : List Ends) → Proper t → Proper s → Narrower t s → v s ≡ Ok row
    → (row' : List Ends) × (v t ≡ Ok row') × ((j : ℕ) → j < s.size → Included (component_of row' j) (component_of row j))
