use Rattle.std.proofs.Common.{◌∙◌, subst}
use Rattle.algebra.proofs.Chaining.{ok_value}
use Rattle.systems.specs.Tables.{Table}
use Rattle.searches.specs.Lowest.{NeverBelow}
use Rattle.hostcall.proofs.answer.answer.Goals as goal

pub returns-clause-holds : goal.returns-clause-holds
returns-clause-holds c t read = subst (λ (u : Table). NeverBelow u c.args.component c.in_ok-report.report.reading.low) (ok_value (c.in_ok-system.ensures ∙ read)) c.in_ok-report.ensures.holds
