use Rattle.std.proofs.Common.{ap, ◌∙◌}
use Rattle.systems.specs.Entries.{ends_of}
use Rattle.systems.specs.Tables.{table_of}
use Rattle.systems.proofs.Contents.{entry_or}
use Rattle.systems.proofs.system.System.entry_or_zero.Goals as goal

pub returns : goal.returns
returns c = ap ends_of c.unwrap_or.ensures ∙ entry_or (table_of c.args.self.now) c.args.place c.entry.result c.zero.result c.entry.ensures c.zero.ensures
