-- Figures of a search worked out by hand; 16384 grains make one.
use Rattle.std.specs.Prelude.{◌≡◌, true, false, List, [], ◌∷◌, pos, None}
use Rattle.algebra.specs.Ends.{from_to}
use Rattle.systems.specs.Tables.{Table}
use Rattle.enclosures.specs.Elimination.{elimination_of}
use Rattle.partition.specs.Choosing.{widest_of}
use Rattle.outcomes.specs.Searching.{Call, start, split, Answer, refused, reading, State, step}
use Rattle.outcomes.specs.declared.refusal.SearchRefusal.TheVariants.{Settled}

-- [2, 4] with the right side [1, 3]
abbrev pub one_wide_row : Table
one_wide_row = record { size = 1; entries = from_to (pos 2) (pos 4) ∷ from_to (pos 1) (pos 3) ∷ [] }

-- what calls answer one after the other, in a search of that system by elimination and the widest entry
abbrev pub answered : List Call → State → List Answer
answered [] s = []
answered (c ∷ cs) s = let done = step elimination_of widest_of one_wide_row c s in done.0 ∷ answered cs done.1

pub record Searched : Type 0 where
  -- a start, two splits after which it is settled, and a third, which is refused
  pub searched : answered (start 1 ∷ split ∷ split ∷ split ∷ []) None
      ≡ reading (record { low = pos 4096; high = pos 10923; waiting = 1; splits = 0; settled = false })
      ∷ reading (record { low = pos 4096; high = pos 8192; waiting = 2; splits = 1; settled = false })
      ∷ reading (record { low = pos 4096; high = pos 4096; waiting = 1; splits = 2; settled = true })
      ∷ refused Settled ∷ []
