-- What a method answers: a fault, or a row with an interval for each component.
use Rattle.std.specs.Prelude.{◌≡◌, List, ◌++◌, map, length, drop, replicate, pos, Ok, Err, Result}
use Rattle.algebra.specs.Ends.{Ends, from_to}
use Rattle.grains.specs.declared.interval.ArithmeticError.{ArithmeticError}
use Rattle.grains.specs.declared.interval.ArithmeticError.TheVariants.{DivisorContainsZero, OutsideSpan}
use Rattle.grains.specs.declared.interval.Interval.{Interval}
use Rattle.grains.specs.Arithmetic.{ends_of}
use Rattle.enclosures.specs.declared.fault.Fault.{Fault}

abbrev pub Verdict : Type 0
Verdict = Result (List Ends) Fault

abbrev pub fault_of : ArithmeticError → Fault
fault_of DivisorContainsZero = record { number = 6 }
fault_of OutsideSpan = record { number = 7 }

-- the fault of the first failing step, or the row
abbrev pub verdict_of : Result (List Ends) ArithmeticError → Verdict
verdict_of (Ok row) = Ok row
verdict_of (Err e) = Err (fault_of e)

-- a call that answered r, with the six places at was before it and at is after it, did what the verdict says:
-- at a row the row stands in the first places and the others are as they were, at a fault it is answered and all are as they were
abbrev pub Encloses : Result (Unit {0}) Fault → List Interval → List Interval → Verdict → Type 0
Encloses r was is (Ok row) = (r ≡ Ok tt) × (map ends_of is ≡ row ++ drop (length row) (map ends_of was))
Encloses r was is (Err fault) = (r ≡ Err fault) × (is ≡ was)

-- six intervals, the row of a verdict and [0, 0] in the places behind it; or its fault
abbrev pub six_of : Verdict → Verdict
six_of (Ok row) = Ok (row ++ drop (length row) (replicate 6 (from_to (pos 0) (pos 0))))
six_of (Err fault) = Err fault
