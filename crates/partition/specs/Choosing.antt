-- Which entry a search fixes next.
use Rattle.std.specs.Prelude.{◌≡◌, ℕ, zero, suc, ◌+◌, ◌%◌, ◌<◌, Bool, true, false, cond, List, ℤ, pos, ◌-ℤ◌, ◌*ℤ◌, ◌≤ℤ◌, ◌<ℤ◌, Some, None, Option, int_lt, nat_lt}
use Rattle.algebra.specs.Ends.{Ends}
use Rattle.enclosures.specs.Methods.{component_of}
use Rattle.enclosures.specs.RowSums.{magnitude}
use Rattle.systems.specs.Entries.{is_wide}
use Rattle.systems.specs.Tables.{Table, places_of, ends_at}

-- what a rule answers: none, or a place, as a function of a table and a row
abbrev pub Choice : Type 0
Choice = Table → List Ends → Option ℕ

abbrev pub wide_at : Table → ℕ → Bool
wide_at t k = is_wide (ends_at t k)

-- no entry of the table is wide
abbrev pub NoneWide : Table → Type 0
NoneWide t = (k : ℕ) → k < places_of t.size → wide_at t k ≡ false

-- a rule answers none exactly when no entry is wide, and otherwise the place of a wide entry, for every row
abbrev pub NoneWhenThin : Choice → Type 0
NoneWhenThin f = (t : Table) (row : List Ends) → NoneWide t → f t row ≡ None

abbrev pub ThinWhenNone : Choice → Type 0
ThinWhenNone f = (t : Table) (row : List Ends) → f t row ≡ None → NoneWide t

pub record WidePlace (t : Table) (k : ℕ) : Type 0 where
  pub there : k < places_of t.size
  pub wide : wide_at t k ≡ true

abbrev pub PlaceWhenSome : Choice → Type 0
PlaceWhenSome f = (t : Table) (row : List Ends) (k : ℕ) → f t row ≡ Some k → WidePlace t k

-- ---- the built rules
unfoldable pub width : Ends → ℤ
width e = e.high -ℤ e.low

-- what one unit of width at a place weighs: the magnitude of its component's interval for a matrix entry, one in grains for a right-hand entry. A row's missing interval counts as [0, 0]
abbrev pub leverage : ℕ → List Ends → ℕ → ℤ
leverage n row k = cond (nat_lt (k % (n + 1)) n) (magnitude (component_of row (k % (n + 1)))) (pos 16384)

abbrev pub width_at : Table → List Ends → ℕ → ℤ
width_at t row k = width (ends_at t k)

abbrev pub weight_at : Table → List Ends → ℕ → ℤ
weight_at t row k = width (ends_at t k) *ℤ leverage t.size row k

-- the place to keep: the new place m where it is wide and outweighs the best one so far
abbrev pub better : (ℕ → Bool) → (ℕ → ℤ) → Option ℕ → ℕ → Option ℕ
better wide w None m = cond (wide m) (Some m) None
better wide w (Some k) m = cond (wide m) (cond (int_lt (w k) (w m)) (Some m) (Some k)) (Some k)

-- the place of the greatest weight among the wide places below m, the lowest among equals
abbrev pub best_below : (ℕ → Bool) → (ℕ → ℤ) → ℕ → Option ℕ
best_below wide w zero = None
best_below wide w (suc m) = better wide w (best_below wide w m) m

unfoldable pub widest_of : Choice
widest_of t row = best_below (wide_at t) (width_at t row) (places_of t.size)

unfoldable pub heaviest_of : Choice
heaviest_of t row = best_below (wide_at t) (weight_at t row) (places_of t.size)

-- place k has the greatest weight of all wide places below m, and of those below k none has as much
pub record Greatest (wide : ℕ → Bool) (w : ℕ → ℤ) (m k : ℕ) : Type 0 where
  pub there : k < m
  pub chosen : wide k ≡ true
  pub most : (j : ℕ) → j < m → wide j ≡ true → w j ≤ℤ w k
  pub first : (j : ℕ) → j < k → wide j ≡ true → w j <ℤ w k

abbrev pub WidestGreatest : Type 0
WidestGreatest = (t : Table) (row : List Ends) (k : ℕ) → widest_of t row ≡ Some k → Greatest (wide_at t) (width_at t row) (places_of t.size) k

abbrev pub HeaviestGreatest : Type 0
HeaviestGreatest = (t : Table) (row : List Ends) (k : ℕ) → heaviest_of t row ≡ Some k → Greatest (wide_at t) (weight_at t row) (places_of t.size) k
