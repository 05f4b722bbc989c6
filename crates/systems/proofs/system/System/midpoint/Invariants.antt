use Rattle.std.proofs.Common.{◌≡◌, map, take, drop}
use Rattle.systems.specs.Entries.{ends_of, middle}
use Rattle.systems.proofs.system.System.midpoint.Given as goal

abbrev pub invariant-loop-entry : goal.invariant-loop-entry
invariant-loop-entry l =
    (map ends_of (take l.entry-index l.entry-items) ≡ map (λ e. middle (ends_of e)) (take l.entry-index l.initial.entry-items))
    × (drop l.entry-index l.entry-items ≡ drop l.entry-index l.initial.entry-items)
