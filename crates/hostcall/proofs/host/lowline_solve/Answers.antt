use Rattle.std.proofs.Common.{length, drop}
use Rattle.hostcall.proofs.Asking.{asked_read}
use Rattle.hostcall.proofs.Frames.{low_first}
use Rattle.hostcall.proofs.host.lowline_solve.Goals as goal

pub returns-in-Ok-clause-holds : goal.returns-in-Ok-clause-holds
returns-in-Ok-clause-holds c z =
    let was = c.args.out.now in
    let x = c.in-Ok.report in
    let done = c.in-Ok.ensures in
    let read = asked_read c.args.job.now c.args.component c.args.budget (length was) x done.value in
    (read.0, x.reading.low, read.1, low_first x c.put_report.new.out (drop 40 was) c.put_report.ensures, done.holds read.0 read.1)
