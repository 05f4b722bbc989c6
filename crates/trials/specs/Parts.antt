-- Which part of a system a place stands in: each row has its matrix entries, then its right-hand entry.
use Rattle.std.specs.Prelude.{ℕ, ◌+◌, ◌/◌, ◌%◌, cond, ◌==◌}
use Rattle.trials.specs.declared.part.Part.{Part}
use Rattle.trials.specs.declared.part.Part.TheVariants.{Diagonal, Beside, Right}

abbrev pub part_of : ℕ → ℕ → Part
part_of n k = cond (k % (n + 1) == n) Right (cond (k % (n + 1) == k / (n + 1)) Diagonal Beside)
