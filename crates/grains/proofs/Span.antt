-- What an accepted answer says of its ends, and the least and the greatest of four. Assumes nothing.
use Rattle.std.proofs.Common.{◌≡◌, ℕ, Bool, true, false, cond, ◌&&◌, ◌⊎◌, ℤ, pos, neg_ℤ, ◌≤ℤ◌, ◌<ℤ◌, Some, Ok, Err, Result, sym, refl, inl, inr, arith}
use lib.Signed.{le_z}
use borrow.Author.Differences.{ints}
use Rattle.std.specs.Int.{int_min, int_max}
use Rattle.std.proofs.lemmas.Int.{clamps, by_lt_z}
use Rattle.algebra.specs.Ends.{Ends, from_to, Ordered, Included}
use Rattle.grains.specs.declared.interval.ArithmeticError.{ArithmeticError}
use Rattle.grains.specs.declared.interval.ArithmeticError.TheVariants.{DivisorContainsZero}
use Rattle.grains.specs.Arithmetic.{in_span, least_of, greatest_of, contains_zero, least_quotient, greatest_quotient, quotient_of, common_of}

-- ---- the span

pub record Spanned (a b : ℤ) : Type 0 where
  pub above : neg_ℤ (pos 2147483648) ≤ℤ a
  pub below : b ≤ℤ pos 2147483648

pub span_out : (a b : ℤ) (r : Ends) → in_span a b ≡ Ok r → Spanned a b
unfolding in_span
span_out a b r e = record { above = grind (arith, ints); below = grind (arith, ints) }

pub span_is : (a b : ℤ) (r : Ends) → in_span a b ≡ Ok r → from_to a b ≡ r
unfolding in_span
span_is a b r e = grind arith

span_in : (a b : ℤ) → Spanned a b → in_span a b ≡ Ok (from_to a b)
unfolding in_span
span_in a b h = grind (arith, ints)

-- narrower ends are in the span where wider ones are
pub narrower : (a b a' b' : ℤ) (r' : Ends) → a' ≤ℤ a → b ≤ℤ b' → in_span a' b' ≡ Ok r' → (r : Ends) × (in_span a b ≡ Ok r) × Included r r'
narrower a b a' b' r' p q e =
    let s = span_out a' b' r' e in
    let i : Included (from_to a b) (from_to a' b') = record { from = p; to = q } in
    (from_to a b, span_in a b (record { above = omega (arith, ints); below = omega (arith, ints) }), rw (span_is a' b' r' e) at i)

-- ---- the common part

pub common_out : (x y r : Ends) → common_of x y ≡ Some r → int_max x.low y.low ≤ℤ int_min x.high y.high
unfolding common_of
common_out x y r e = grind (arith, ints)

pub common_is : (x y r : Ends) → common_of x y ≡ Some r → from_to (int_max x.low y.low) (int_min x.high y.high) ≡ r
unfolding common_of
common_is x y r e = grind arith

pub common_in : (x y : Ends) → int_max x.low y.low ≤ℤ int_min x.high y.high → common_of x y ≡ Some (from_to (int_max x.low y.low) (int_min x.high y.high))
unfolding common_of
common_in x y h = grind (arith, ints)

-- ---- the least and the greatest of four

pub least_in : (m a b c d : ℤ) → m ≤ℤ a → m ≤ℤ b → m ≤ℤ c → m ≤ℤ d → m ≤ℤ least_of a b c d
unfolding least_of
least_in m a b c d p q r s = omega (arith, ints, clamps)

pub greatest_in : (m a b c d : ℤ) → a ≤ℤ m → b ≤ℤ m → c ≤ℤ m → d ≤ℤ m → greatest_of a b c d ≤ℤ m
unfolding greatest_of
greatest_in m a b c d p q r s = omega (arith, ints, clamps)

pub record Below (m a b c d : ℤ) : Type 0 where
  pub first : m ≤ℤ a
  pub second : m ≤ℤ b
  pub third : m ≤ℤ c
  pub fourth : m ≤ℤ d

pub record Above (m a b c d : ℤ) : Type 0 where
  pub first : a ≤ℤ m
  pub second : b ≤ℤ m
  pub third : c ≤ℤ m
  pub fourth : d ≤ℤ m

pub least_out : (a b c d : ℤ) → Below (least_of a b c d) a b c d
unfolding least_of
least_out a b c d = record { first = omega (arith, ints, clamps); second = omega (arith, ints, clamps); third = omega (arith, ints, clamps); fourth = omega (arith, ints, clamps) }

pub greatest_out : (a b c d : ℤ) → Above (greatest_of a b c d) a b c d
unfolding greatest_of
greatest_out a b c d = record { first = omega (arith, ints, clamps); second = omega (arith, ints, clamps); third = omega (arith, ints, clamps); fourth = omega (arith, ints, clamps) }

-- ---- the divisor

-- one that does not contain 0 lies above 0 or below 0
pub sides : (y : Ends) → Ordered y → contains_zero y ≡ false → (pos 0 <ℤ y.low) ⊎ (y.high <ℤ pos 0)
unfolding contains_zero
sides y o h = by_lt_z (pos 0) y.low inl (λ l. by_lt_z y.high (pos 0) inr (λ k. absurd (both (le_z y.low (pos 0)) (le_z (pos 0) y.high) (sym (omega (arith, ints))) (sym (omega (arith, ints))) h)))
  where
    both : (s t : Bool) → s ≡ true → t ≡ true → (s && t) ≡ false → ⊥
    both true true p q e = let z : ◌≡◌ {A = ℕ} 0 1 = cc in omega arith
    both true false p q e = let z : ◌≡◌ {A = ℕ} 0 1 = cc in omega arith
    both false t p q e = let z : ◌≡◌ {A = ℕ} 0 1 = cc in omega arith

-- an accepted quotient's divisor does not contain 0, and its ends are in the span
pub record Divided (x y r : Ends) : Type 0 where
  pub apart : contains_zero y ≡ false
  pub spans : in_span (least_quotient x y) (greatest_quotient x y) ≡ Ok r

-- `quotient_of` at its test z and at what `in_span` answered
cases : (z : Bool) (o : Result Ends ArithmeticError) (r : Ends) → cond z (Err DivisorContainsZero) o ≡ Ok r → (z ≡ false) × (o ≡ Ok r)
cases true o r e = absurd (let k : ◌≡◌ {A = ℕ} 0 1 = cc in omega arith)
cases false o r e = (refl, e)

accepts : (z : Bool) (o : Result Ends ArithmeticError) (r : Ends) → z ≡ false → o ≡ Ok r → cond z (Err DivisorContainsZero) o ≡ Ok r
accepts z o r p q = cc

pub divided : (x y r : Ends) → quotient_of x y ≡ Ok r → Divided x y r
unfolding quotient_of
divided x y r e = let c = cases (contains_zero y) (in_span (least_quotient x y) (greatest_quotient x y)) r e in record { apart = c.0; spans = c.1 }

pub divides : (x y r : Ends) → Divided x y r → quotient_of x y ≡ Ok r
unfolding quotient_of
divides x y r v = accepts (contains_zero y) (in_span (least_quotient x y) (greatest_quotient x y)) r v.apart v.spans
