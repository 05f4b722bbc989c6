-- The marks of a half. Assumes nothing.
use Rattle.std.proofs.Common.{◌≡◌, ℕ, ap}
use Rattle.partition.specs.Marking.{marks_of, fixed_at}
use Rattle.partition.specs.declared.marks.End.{End}
use Rattle.partition.specs.declared.marks.Marks.{Marks}
use Rattle.systems.specs.Boxes as plain
use Rattle.outcomes.specs.Searching.{fixing}

-- one more place is fixed
pub fixes : (l m : Marks) (k : ℕ) (e : End) → marks_of l ≡ fixed_at (marks_of m) k e → l ≡ fixing m k e
fixes l m k e is = ap (λ (n : plain.Marks). let x : Marks = record { fixed = n.fixed; ends = n.ends } in x) is
