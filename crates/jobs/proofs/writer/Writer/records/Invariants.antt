-- The records of the entries that were passed are written.
use Rattle.jobs.specs.Laying.{Wrote}
use Rattle.jobs.proofs.Records.{passed}
use Rattle.jobs.proofs.writer.Writer.records.Given as goal

abbrev pub invariant-loop-place : goal.invariant-loop-place
invariant-loop-place l = Wrote l.initial.self l.self (passed l.entry-items l.place)
