-- Each turn keeps what the whole job means, and the reader within the job; it reads on, so that less is left.
use Rattle.std.proofs.Common.{◌≡◌, ◌-◌, ◌≤◌, length}
use Rattle.systems.specs.Tables.{drafted}
use Rattle.jobs.specs.Reading.{parsed}
use Rattle.jobs.specs.Walking.{remaining}
use Rattle.jobs.proofs.reader.read.Given as goal

abbrev pub invariant-loop-reader : goal.invariant-loop-reader
invariant-loop-reader l = (parsed l.initial.job ≡ remaining l.reader (drafted l.fresh)) × (l.reader.job.now ≡ l.initial.job) × (l.reader.at ≤ length l.initial.job)

abbrev pub decreases-loop-reader : goal.decreases-loop-reader
decreases-loop-reader l = length l.initial.job - l.reader.at
