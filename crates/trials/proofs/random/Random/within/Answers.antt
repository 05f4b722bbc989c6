use Rattle.std.proofs.Common.{◌≡◌, ◌≤◌, ℕ, ℤ, pos, negsuc, ◌+ℤ◌, ◌-ℤ◌, ◌≤ℤ◌, FitsSigned, to_z, of_z, w32, w64, unsigned_abs, refl, ap, ◌∙◌, arith}
use borrow.Author.Differences.{ints}
use Rattle.std.proofs.lemmas.Int.{to_z-of_z}
use Rattle.trials.specs.Draws.{state_of, drawn}
use Rattle.trials.proofs.random.Random.within.Goals as goal

-- a number that is not negative is its own absolute value
own_size : (a : ℤ) → pos 0 ≤ℤ a → pos (unsigned_abs a) ≡ a
own_size (pos n) h = refl
own_size (negsuc n) h = absurd (omega (arith, ints))

-- a step of at most the distance does not lead past the high end
stays_below : (low high : ℤ) (step : ℕ) → low ≤ℤ high → step ≤ unsigned_abs (high -ℤ low) → (low +ℤ pos step) ≤ℤ high
stays_below low high step ordered short = let size = own_size (high -ℤ low) (omega (arith, ints)) in omega (arith, ints)

-- the distance of two ends, whose casts change nothing
distance : (c : goal.After-from-2) → c.abs_diff.result ≡ unsigned_abs (c.args.high -ℤ c.args.low)
distance c = rw (to_z-of_z w32 c.args.low c.ranges.low) at (rw (to_z-of_z w32 c.args.high c.ranges.high) at c.abs_diff.ensures)

short : (c : goal.After-from-2) → c.up_to-step.result ≤ unsigned_abs (c.args.high -ℤ c.args.low)
short c = rw (distance c) at c.up_to-step.ensures.within

abbrev summed : (c : goal.After-from-2) → ℤ
summed c = to_z w64 (of_z w64 c.from.result) +ℤ to_z w64 (of_z w64 c.from-2.result)

sum_is : (c : goal.After-from-2) → summed c ≡ c.args.low +ℤ pos c.up_to-step.result
sum_is c = let a = c.from.ensures in let b = c.from-2.ensures in let low_is = to_z-of_z w32 c.args.low c.ranges.low in omega (arith, ints)

sum_below : (c : goal.After-from-2) → summed c ≤ℤ c.args.high
sum_below c = rw (sum_is c) (stays_below c.args.low c.args.high c.up_to-step.result c.requires (short c))

sum_fits : (c : goal.After-from-2) → FitsSigned w32 (summed c)
sum_fits c = let low = c.ranges.low in let high = c.ranges.high in let is = sum_is c in let below = sum_below c in omega (arith, ints)

-- a sum in range, whose casts change nothing
as_it_is : (s : ℤ) → FitsSigned w32 s → to_z w32 (of_z w32 (to_z w64 (of_z w64 s))) ≡ s
as_it_is s fits = omega (arith, ints)

pub overflow_add-result : goal.overflow_add-result
overflow_add-result c = let a = c.abs_diff.ensures in let b = c.from.ensures in let d = c.from-2.ensures in omega (arith, ints)

pub overflow_cast-result : goal.overflow_cast-result
overflow_cast-result c = let fits = sum_fits c in omega (arith, ints)

pub returns-clause-value : goal.returns-clause-value
returns-clause-value c = as_it_is (summed c) (sum_fits c) ∙ sum_is c ∙ ap (λ n. c.args.low +ℤ pos n) (c.up_to-step.ensures.value ∙ ap (drawn (state_of c.up_to-step.new.self)) (distance c))

pub returns-clause-above : goal.returns-clause-above
returns-clause-above c = let as_is = as_it_is (summed c) (sum_fits c) in let is = sum_is c in omega (arith, ints)

pub returns-clause-below : goal.returns-clause-below
returns-clause-below c = let as_is = as_it_is (summed c) (sum_fits c) in let below = sum_below c in omega (arith, ints)
