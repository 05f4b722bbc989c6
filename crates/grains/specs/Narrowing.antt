-- What holds of every answer of an operation on intervals: on narrower intervals the answer is narrower, and an answer is an interval of figures.
use Rattle.std.specs.Prelude.{◌≡◌, Some, Ok}
use Rattle.algebra.specs.Ends.{Ends, Ordered, Included}
use Rattle.grains.specs.Arithmetic.{Figure, product_of, difference_of, quotient_of, common_of}

-- Let a lie within a' and b within b'. If the product of a' and b' has an answer, then so has the product of a and b, and it lies within the former.
abbrev pub ProductNarrows : Type 0
ProductNarrows = (a b a' b' r' : Ends) → Ordered a → Ordered b → Included a a' → Included b b'
    → product_of a' b' ≡ Ok r' → (r : Ends) × (product_of a b ≡ Ok r) × Included r r'

-- The same of the difference.
abbrev pub DifferenceNarrows : Type 0
DifferenceNarrows = (a b a' b' r' : Ends) → Ordered a → Ordered b → Included a a' → Included b b'
    → difference_of a' b' ≡ Ok r' → (r : Ends) × (difference_of a b ≡ Ok r) × Included r r'

-- The same of the quotient: a part of a divisor without 0 is without 0 too.
abbrev pub QuotientNarrows : Type 0
QuotientNarrows = (a b a' b' r' : Ends) → Ordered a → Ordered b → Included a a' → Included b b'
    → quotient_of a' b' ≡ Ok r' → (r : Ends) × (quotient_of a b ≡ Ok r) × Included r r'

-- If a and b have a common part, then so have a' and b', and the former lies within the latter.
abbrev pub CommonNarrows : Type 0
CommonNarrows = (a b a' b' r : Ends) → Included a a' → Included b b'
    → common_of a b ≡ Some r → (r' : Ends) × (common_of a' b' ≡ Some r') × Included r r'

-- r is an interval of figures: its low end is at most its high end, and both are in the span.
abbrev pub IntervalOfFigures : Ends → Type 0
IntervalOfFigures r = Ordered r × Figure r.low × Figure r.high

-- The answer of a product, a difference or a quotient of two intervals is an interval of figures, and a common part has its ends in order.
abbrev pub OperationsStayIntervals : Type 0
OperationsStayIntervals = (x y r : Ends) → Ordered x → Ordered y
    → (product_of x y ≡ Ok r → IntervalOfFigures r)
    × (difference_of x y ≡ Ok r → IntervalOfFigures r)
    × (quotient_of x y ≡ Ok r → IntervalOfFigures r)
    × (common_of x y ≡ Some r → Ordered r)
