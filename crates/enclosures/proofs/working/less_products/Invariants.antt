-- What is left of the coefficients and the components gives the same from here on.
use Rattle.std.proofs.Common.{◌≡◌, map}
use Rattle.grains.specs.Arithmetic.{ends_of}
use Rattle.enclosures.specs.Elimination.{less_products}
use Rattle.enclosures.proofs.working.less_products.Given as goal

abbrev pub invariant-loop-coefficient : goal.invariant-loop-coefficient
invariant-loop-coefficient l =
    (goal.iterator-loop-coefficient).can_next l.coefficient-iterator
    × (goal.iterator-loop-coefficient).is_finite l.coefficient-iterator
    × (less_products (ends_of l.initial.rest) (map ends_of l.coefficients) (map ends_of l.components)
    ≡ less_products (ends_of l.rest) (map ends_of l.coefficient-iterator.a.rest.now) (map ends_of l.coefficient-iterator.b.rest.now))
