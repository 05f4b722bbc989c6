-- The two ends of an interval as plain integers, and how two intervals lie.
--     from_to a b          the interval from a to b
--     Ordered x            the low end is at most the high one
--     Included x y         x lies within y, ends included
use Rattle.std.specs.Prelude.{ℤ, ◌≤ℤ◌}

pub record Ends : Type 0 where
  pub low : ℤ
  pub high : ℤ

abbrev pub from_to : ℤ → ℤ → Ends
from_to a b = record { low = a; high = b }

abbrev pub Ordered : Ends → Type 0
Ordered x = x.low ≤ℤ x.high

pub record Included (x y : Ends) : Type 0 where
  pub from : y.low ≤ℤ x.low
  pub to : x.high ≤ℤ y.high
