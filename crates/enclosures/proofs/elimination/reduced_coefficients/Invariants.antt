-- The answers so far stand in front of those to come, and there is room for these.
use Rattle.std.proofs.Common.{◌≡◌, ◌+◌, ◌≤◌, ◌++◌, map, length, Ok}
use Rattle.algebra.specs.Chaining.{and_then, each_with}
use Rattle.grains.specs.Arithmetic.{ends_of}
use Rattle.enclosures.specs.Elimination.{less_multiple}
use Rattle.enclosures.proofs.elimination.reduced_coefficients.Given as goal

abbrev pub invariant-loop-old : goal.invariant-loop-old
invariant-loop-old l =
    (goal.iterator-loop-old).can_next l.old-iterator
    × (goal.iterator-loop-old).is_finite l.old-iterator
    × (each_with (less_multiple (ends_of l.m)) (map ends_of l.line) (map ends_of l.pivot)
    ≡ and_then (each_with (less_multiple (ends_of l.m)) (map ends_of l.old-iterator.a.rest.now) (map ends_of l.old-iterator.b.rest.now)) (λ ys. Ok (map ends_of l.coefficients.items ++ ys)))
    × (length l.coefficients.items + length l.old-iterator.a.rest.now ≤ 6)
