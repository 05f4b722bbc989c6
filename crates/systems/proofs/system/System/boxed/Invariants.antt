use Rattle.std.proofs.Common.{◌≡◌, map, take, drop}
use Rattle.std.specs.List.{range_with_len}
use Rattle.systems.specs.Boxes.{box_entry}
use Rattle.systems.specs.Entries.{ends_of}
use Rattle.systems.specs.Tables.{table_of}
use Rattle.systems.proofs.system.System.boxed.Given as goal

abbrev pub invariant-loop-place : goal.invariant-loop-place
invariant-loop-place l =
    (map ends_of (take l.place l.entry-items) ≡ map (box_entry (record { fixed = l.fixed; ends = l.ends }) (table_of l.self)) (range_with_len 0 l.place))
    × (drop l.place l.entry-items ≡ drop l.place l.initial.entry-items)
