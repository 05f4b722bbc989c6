-- Points of intervals, and containment: the answer of an operation contains what the operation makes of the points of its operands.
-- A point is a rational number, an integer a over a natural t.
use Rattle.std.specs.Prelude.{◌≡◌, ℕ, zero, suc, ◌*◌, ◌<◌, false, ℤ, pos, negsuc, ◌-ℤ◌, ◌*ℤ◌, ◌≤ℤ◌, Some, Ok, ◌≢◌, unsigned_abs}
use Rattle.algebra.specs.Ends.{Ends}
use Rattle.grains.specs.Arithmetic.{contains_zero, product_of, difference_of, quotient_of, common_of}

-- The number a / t lies in x, at 16384 grains to one: low / 16384 ≤ a / t ≤ high / 16384, multiplied out. It says so where t is above 0.
pub record Lies (a : ℤ) (t : ℕ) (x : Ends) : Type 0 where
  pub from : (x.low *ℤ pos t) ≤ℤ (pos 16384 *ℤ a)
  pub to : (pos 16384 *ℤ a) ≤ℤ (x.high *ℤ pos t)

-- 1, 0 or -1
abbrev pub sign : ℤ → ℤ
sign (pos zero) = pos 0
sign (pos (suc n)) = pos 1
sign (negsuc n) = negsuc 0

-- a / t in x and b / u in y: the product's answer contains (a b) / (t u).
abbrev pub ProductHolds : Type 0
ProductHolds = (a b : ℤ) (t u : ℕ) (x y r : Ends) → Lies a t x → Lies b u y → product_of x y ≡ Ok r → Lies (a *ℤ b) (t * u) r

-- The difference's answer contains a / t - b / u = (a u - b t) / (t u).
abbrev pub DifferenceHolds : Type 0
DifferenceHolds = (a b : ℤ) (t u : ℕ) (x y r : Ends) → Lies a t x → Lies b u y → difference_of x y ≡ Ok r → Lies (a *ℤ pos u -ℤ b *ℤ pos t) (t * u) r

-- A point of an interval that does not contain 0 is not 0.
abbrev pub DivisorApart : Type 0
DivisorApart = (b : ℤ) (u : ℕ) (y : Ends) → 0 < u → Lies b u y → contains_zero y ≡ false → b ≢ pos 0

-- The quotient's answer contains (a / t) / (b / u) = (± a u) / (t |b|), with the sign of b.
abbrev pub QuotientHolds : Type 0
QuotientHolds = (a b : ℤ) (t u : ℕ) (x y r : Ends) → 0 < u → Lies a t x → Lies b u y → quotient_of x y ≡ Ok r → Lies (sign b *ℤ a *ℤ pos u) (t * unsigned_abs b) r

-- A point of both intervals lies in their common part, so there is one.
abbrev pub CommonHolds : Type 0
CommonHolds = (a : ℤ) (t : ℕ) (x y : Ends) → Lies a t x → Lies a t y → 0 < t → (r : Ends) × (common_of x y ≡ Some r) × Lies a t r
