-- What the operations on intervals answer, over the integers. 16384 grains make one; the span runs from -2147483648 to 2147483648 grains, ends included.
-- Each word stays shut but where a proof opens it by name.
use Rattle.std.specs.Prelude.{Bool, cond, ◌&&◌, ℤ, pos, ◌-ℤ◌, ◌*ℤ◌, neg_ℤ, ◌≤ℤ◌, Some, None, Ok, Err, Option, Result, int_le}
use Rattle.std.specs.Int.{int_min, int_max}
use Rattle.std.specs.Result.{result_ok}
use Rattle.algebra.specs.Ends.{Ends, from_to}
use Rattle.algebra.specs.Order.{floor_quot, ceil_quot}
use Rattle.grains.specs.declared.interval.Interval.{Interval}
use Rattle.grains.specs.declared.interval.ArithmeticError.{ArithmeticError}
use Rattle.grains.specs.declared.interval.ArithmeticError.TheVariants.{DivisorContainsZero, OutsideSpan}

-- a number in the span
pub record Figure (z : ℤ) : Type 0 where
  pub above : neg_ℤ (pos 2147483648) ≤ℤ z
  pub below : z ≤ℤ pos 2147483648

abbrev pub ends_of : Interval → Ends
ends_of x = from_to x.low x.high

-- what an answer says of the ends
abbrev pub answer_of : Result Interval ArithmeticError → Result Ends ArithmeticError
answer_of (Ok x) = Ok (ends_of x)
answer_of (Err e) = Err e

-- the ends, where both are in the span
unfoldable pub in_span : ℤ → ℤ → Result Ends ArithmeticError
in_span a b = cond (int_le (neg_ℤ (pos 2147483648)) a && int_le b (pos 2147483648)) (Ok (from_to a b)) (Err OutsideSpan)

-- the ends, where they are in order and in the span
unfoldable pub interval_of : ℤ → ℤ → Option Ends
interval_of a b = cond (int_le a b) (result_ok (in_span a b)) None

unfoldable pub times : ℤ → ℤ → ℤ
times a b = a *ℤ b

unfoldable pub least_of : ℤ → ℤ → ℤ → ℤ → ℤ
least_of a b c d = int_min (int_min a b) (int_min c d)

unfoldable pub greatest_of : ℤ → ℤ → ℤ → ℤ → ℤ
greatest_of a b c d = int_max (int_max a b) (int_max c d)

-- the least and the greatest of the four products of ends
unfoldable pub least_product : Ends → Ends → ℤ
least_product x y = least_of (times x.low y.low) (times x.low y.high) (times x.high y.low) (times x.high y.high)

unfoldable pub greatest_product : Ends → Ends → ℤ
greatest_product x y = greatest_of (times x.low y.low) (times x.low y.high) (times x.high y.low) (times x.high y.high)

unfoldable pub product_of : Ends → Ends → Result Ends ArithmeticError
product_of x y = in_span (floor_quot (least_product x y) (pos 16384)) (ceil_quot (greatest_product x y) (pos 16384))

unfoldable pub difference_of : Ends → Ends → Result Ends ArithmeticError
difference_of x y = in_span (x.low -ℤ y.high) (x.high -ℤ y.low)

unfoldable pub contains_zero : Ends → Bool
contains_zero x = int_le x.low (pos 0) && int_le (pos 0) x.high

-- end * 16384 / divisor's end, rounded down and rounded up
unfoldable pub quotient_down : ℤ → ℤ → ℤ
quotient_down a b = floor_quot (times a (pos 16384)) b

unfoldable pub quotient_up : ℤ → ℤ → ℤ
quotient_up a b = ceil_quot (times a (pos 16384)) b

-- the least of the four quotients of ends, rounded down, and the greatest, rounded up
unfoldable pub least_quotient : Ends → Ends → ℤ
least_quotient x y = least_of (quotient_down x.low y.low) (quotient_down x.low y.high) (quotient_down x.high y.low) (quotient_down x.high y.high)

unfoldable pub greatest_quotient : Ends → Ends → ℤ
greatest_quotient x y = greatest_of (quotient_up x.low y.low) (quotient_up x.low y.high) (quotient_up x.high y.low) (quotient_up x.high y.high)

unfoldable pub quotient_of : Ends → Ends → Result Ends ArithmeticError
quotient_of x y = cond (contains_zero y) (Err DivisorContainsZero) (in_span (least_quotient x y) (greatest_quotient x y))

-- the common part
unfoldable pub common_of : Ends → Ends → Option Ends
common_of x y = cond (int_le (int_max x.low y.low) (int_min x.high y.high))
    (Some (from_to (int_max x.low y.low) (int_min x.high y.high))) None
