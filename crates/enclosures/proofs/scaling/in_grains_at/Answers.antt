use Rattle.std.proofs.Common.{ap, ◌∙◌}
use Rattle.enclosures.specs.Elimination.{in_grains}
use Rattle.enclosures.proofs.scaling.in_grains_at.Goals as goal

pub returns : goal.returns
returns c = c.in_grains.ensures ∙ ap in_grains c.entry_or_zero.ensures
