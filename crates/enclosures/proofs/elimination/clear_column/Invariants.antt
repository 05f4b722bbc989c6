-- The lines so far are reduced, and the others are as they were.
use Rattle.std.proofs.Common.{◌≡◌, ◌++◌, map, take, drop, Ok}
use Rattle.algebra.specs.Chaining.{and_then, each}
use Rattle.enclosures.specs.Elimination.{reduced_of}
use Rattle.enclosures.specs.Working.{viewed}
use Rattle.enclosures.proofs.elimination.clear_column.Given as goal

abbrev pub invariant-loop-line : goal.invariant-loop-line
invariant-loop-line l =
    (each (reduced_of (viewed l.pivot)) (map viewed l.initial.lines)
    ≡ and_then (each (reduced_of (viewed l.pivot)) (map viewed (drop l.line-index l.initial.lines))) (λ ys. Ok (map viewed (take l.line-index l.lines) ++ ys)))
    × (drop l.line-index l.lines ≡ drop l.line-index l.initial.lines)
