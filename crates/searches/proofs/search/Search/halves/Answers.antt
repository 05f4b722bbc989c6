use Rattle.std.proofs.Common.{rules}
use Rattle.partition.specs.declared.marks.End.TheVariants.{Low, High}
use Rattle.outcomes.specs.Searching.{settled, full, place_of, opened_at, split_of}
use Rattle.searches.proofs.Fixing.{fixes}
use Rattle.searches.proofs.search.Search.halves.Goals as goal

pub returns-in_err-low-clause-outcome : goal.returns-in_err-low-clause-outcome
unfolding settled full place_of opened_at split_of
returns-in_err-low-clause-outcome g c = let low = fixes c.fix.result c.leading.result.marks c.in_ok-place.place Low c.fix.ensures in search rules

pub returns-in_err-high-clause-outcome : goal.returns-in_err-high-clause-outcome
unfolding settled full place_of opened_at split_of
returns-in_err-high-clause-outcome g c =
    let low = fixes c.fix.result c.leading.result.marks c.in_ok-place.place Low c.fix.ensures in
    let high = fixes c.fix-2.result c.leading.result.marks c.in_ok-place.place High c.fix-2.ensures in
    search rules

pub returns-clause-outcome : goal.returns-clause-outcome
unfolding settled full place_of opened_at split_of
returns-clause-outcome g c =
    let low = fixes c.fix.result c.leading.result.marks c.in_ok-place.place Low c.fix.ensures in
    let high = fixes c.fix-2.result c.leading.result.marks c.in_ok-place.place High c.fix-2.ensures in
    search rules
