-- Counting promises that were not kept.
use Rattle.std.specs.Prelude.{ℕ, ◌+◌, Bool, ◌||◌, cond, ◌==◌}
use Rattle.trials.specs.declared.violations.Violations.{Violations}

abbrev pub violations_of : Violations → ℕ
violations_of v = v.count

-- the count after one more promise was looked at; at 2 ^ 32 - 1 it stays
abbrev pub looked_at : Bool → ℕ → ℕ
looked_at kept n = cond (kept || n == 4294967295) n (n + 1)
