-- The components so far are narrowed, and the rest of the sweep is still to come.
use Rattle.std.proofs.Common.{◌≡◌, ◌-◌, map}
use Rattle.grains.specs.Arithmetic.{ends_of}
use Rattle.systems.specs.Tables.{table_of}
use Rattle.enclosures.specs.Sweeping.{swept_from}
use Rattle.enclosures.proofs.sweep.narrow_all.Given as goal

abbrev pub invariant-loop-i : goal.invariant-loop-i
invariant-loop-i l =
    swept_from (table_of l.system).size 0 (table_of l.system) (map ends_of l.initial.row)
    ≡ swept_from ((table_of l.system).size - l.i) l.i (table_of l.system) (map ends_of l.row)
