-- What a unit of width weighs, in a row that may be too short. Assumes nothing.
use Rattle.std.proofs.Common.{◌≡◌, ℕ, ◌+◌, ◌%◌, ◌<◌, List, map, get_or, pos, sym, refl, ap, ◌∙◌, lt-ltb}
use Rattle.std.proofs.Math.ListN.{get_or-map}
use Rattle.algebra.specs.Ends.{from_to}
use Rattle.grains.specs.Arithmetic.{ends_of}
use Rattle.grains.specs.declared.interval.Interval.{Interval}
use Rattle.enclosures.specs.Methods.{component_of}
use Rattle.enclosures.specs.RowSums.{magnitude}
use Rattle.partition.specs.Choosing.{leverage}

module _ (n k : ℕ) (row : List Interval) (below : k % (n + 1) < n) where
  of_component : leverage n (map ends_of row) k ≡ magnitude (component_of (map ends_of row) (k % (n + 1)))
  of_component = rw (lt-ltb (k % (n + 1)) n below) refl

  pub leverage_read : (none : Interval) → ends_of none ≡ from_to (pos 0) (pos 0) → leverage n (map ends_of row) k ≡ magnitude (ends_of (get_or row (k % (n + 1)) none))
  leverage_read none zero = of_component ∙ ap magnitude (ap (get_or (map ends_of row) (k % (n + 1))) (sym zero) ∙ get_or-map ends_of row (k % (n + 1)) none)
