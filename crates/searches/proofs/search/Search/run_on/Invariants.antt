use Rattle.std.proofs.Common.{◌≡◌, Some}
use Rattle.systems.specs.Tables.{table_of}
use Rattle.searches.specs.States.{started_from, SameParts}
use Rattle.searches.proofs.Running.{Runs}
use Rattle.searches.proofs.search.Search.run_on.Given as goal

abbrev pub invariant-loop-made : goal.invariant-loop-made
invariant-loop-made g l = record {
  holds : l.self.progress ≡ Some l.current;
  same : SameParts l.initial.self l.self;
  runs : Runs (g.M.Enclosure.meaning l.initial.self.method) (g.R.Rule.answer l.initial.self.rule) (table_of l.initial.self.system) l.budget l.made (started_from l.initial.current l.initial.self.waiting) (started_from l.current l.self.waiting);
}
