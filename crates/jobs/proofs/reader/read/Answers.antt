use Rattle.std.proofs.Common.{sym, refl, ◌∙◌, arith}
use Rattle.systems.specs.Tables.{drafted}
use Rattle.jobs.specs.Walking.{remaining}
use Rattle.jobs.proofs.WrittenAgain.{written-parsed}
use Rattle.jobs.proofs.Progress.{ended}
use Rattle.jobs.proofs.reader.read.Goals as goal

pub loop-reader-init : goal.loop-reader-init
unfolding remaining
loop-reader-init c = (refl, refl, omega arith)

pub returns : goal.returns
returns c =
    let made = c.loop-reader.invariant.0 ∙ ended c.loop-reader.reader (drafted c.loop-reader.fresh) (sym c.loop-reader-test.ensures) in
    record { value = made; written_again = written-parsed c.args.job.now (drafted c.loop-reader.fresh) (λ k. let f = c.type_inv.job k in omega arith) made }
