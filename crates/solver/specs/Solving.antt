-- What is searched for in a job's system.
use Rattle.std.specs.Prelude.{ℕ, Ok, Err, Result}
use Rattle.enclosures.specs.Elimination.{elimination_of}
use Rattle.enclosures.specs.Sweeping.{sweep_of}
use Rattle.outcomes.specs.declared.reading.Report.{Report}
use Rattle.outcomes.specs.declared.refusal.SearchRefusal.{SearchRefusal}
use Rattle.searches.specs.Lowest.{solved_of}
use Rattle.partition.specs.Choosing.{widest_of}
use Rattle.systems.specs.declared.refusal.Refusal.{Refusal}
use Rattle.systems.specs.declared.system.System.{System}
use Rattle.systems.specs.Tables.{Table, table_of}

abbrev pub table_in : Result System Refusal → Result Table Refusal
table_in (Ok s) = Ok (table_of s)
table_in (Err e) = Err e

-- component c of a system, counted from 1, by elimination under one sweep, the widest entry and budget b
unfoldable pub found_for : Table → ℕ → ℕ → Result Report SearchRefusal
found_for t c b = solved_of (sweep_of elimination_of) widest_of t c b
