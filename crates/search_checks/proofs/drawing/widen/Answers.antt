use Rattle.std.proofs.Common.{◌+◌, arith}
use Rattle.std.proofs.lemmas.Nat.{mul-le}
use Rattle.systems.specs.Tables.{tabled}
use Rattle.search_checks.proofs.drawing.widen.Goals as goal

pub overflow_sub-places : goal.overflow_sub-places
unfolding tabled
overflow_sub-places c = let size = c.args.draft.now.size in omega (arith, mul-le 1 2 size.rows (size.rows + 1) size.some (omega (arith, size.some)), c.places.ensures)

pub overflow_cast-places : goal.overflow_cast-places
unfolding tabled
overflow_cast-places c = let size = c.args.draft.now.size in omega (arith, mul-le size.rows (size.rows + 1) 6 7 size.few (omega (arith, size.few)), c.places.ensures)
