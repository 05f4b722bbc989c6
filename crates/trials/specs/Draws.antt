-- The numbers of the generator, whose state is below 2 ^ 64.
use Rattle.std.specs.Prelude.{ℕ, ◌+◌, ◌*◌, ◌/◌, ◌%◌, ◌^◌, ℤ, pos, ◌+ℤ◌, ◌-ℤ◌, unsigned_abs}
use Rattle.trials.specs.declared.random.Random.{Random}

abbrev pub state_of : Random → ℕ
state_of r = r.state

-- the state after a state
abbrev pub next : ℕ → ℕ
next s = (s * 6364136223846793005 + 1442695040888963407) % 2 ^ 64

-- the number from 0 to `most` that a state gives, by its upper 31 bits
abbrev pub drawn : ℕ → ℕ → ℕ
drawn s most = s / 2 ^ 33 % (most + 1)

-- the number from low to high that a state gives
abbrev pub number_between : ℕ → ℤ → ℤ → ℤ
number_between s low high = low +ℤ pos (drawn s (unsigned_abs (high -ℤ low)))
