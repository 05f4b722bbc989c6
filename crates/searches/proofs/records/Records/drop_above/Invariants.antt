use Rattle.std.proofs.lemmas.List.Filters.{FiltersInPlace}
use Rattle.outcomes.specs.Waiting.{not_above}
use Rattle.searches.proofs.records.Records.drop_above.Given as goal

abbrev pub invariant-loop-place : goal.invariant-loop-place
invariant-loop-place l = FiltersInPlace (not_above l.high) l.initial.self-inside.items.items l.self-inside.items.items l.count l.place
