use Rattle.std.proofs.Common.{◌≡◌, to_z, of_z, w32, ◌∙◌}
use Rattle.std.proofs.lemmas.Int.{to_z-of_z}
use Rattle.std.specs.Int.{int_min, int_max}
use Rattle.trials.specs.Draws.{state_of, number_between}
use Rattle.trials.proofs.random.Random.between.Goals as goal

-- the ends in order, whose casts change nothing
low_is : (c : goal.After-within) → to_z w32 (of_z w32 c.min.result) ≡ int_min c.args.one c.args.other
low_is c =
    let one = to_z-of_z w32 c.args.one c.ranges.one in
    let other = to_z-of_z w32 c.args.other c.ranges.other in
    to_z-of_z w32 c.min.result (record { sfits = c.min.type_inv }) ∙ c.min.ensures.value ∙ (λ i. int_min (one i) (other i))

high_is : (c : goal.After-within) → to_z w32 (of_z w32 c.max.result) ≡ int_max c.args.one c.args.other
high_is c =
    let one = to_z-of_z w32 c.args.one c.ranges.one in
    let other = to_z-of_z w32 c.args.other c.ranges.other in
    to_z-of_z w32 c.max.result (record { sfits = c.max.type_inv }) ∙ c.max.ensures.value ∙ (λ i. int_max (one i) (other i))

number_is : (c : goal.After-within) → to_z w32 (of_z w32 c.within.result) ≡ c.within.result
number_is c = to_z-of_z w32 c.within.result (record { sfits = c.within.type_inv })

pub returns-clause-value : goal.returns-clause-value
returns-clause-value c = number_is c ∙ c.within.ensures.value ∙ (λ i. number_between (state_of c.within.new.self) (low_is c i) (high_is c i))

pub returns-clause-above : goal.returns-clause-above
returns-clause-above c = rw (number_is c, ← low_is c) c.within.ensures.above

pub returns-clause-below : goal.returns-clause-below
returns-clause-below c = rw (number_is c, ← high_is c) c.within.ensures.below
