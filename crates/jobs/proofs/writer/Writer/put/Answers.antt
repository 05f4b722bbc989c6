use Rattle.std.proofs.Common.{refl}
use Rattle.jobs.proofs.Records.{put_over}
use Rattle.jobs.proofs.writer.Writer.put.Goals as goal

pub returns : goal.returns
returns c = record { same = refl; end = refl; stands = put_over c.args.self.now.buffer.now c.args.self.now.at c.args.bytes.now c.copy_from_slice.new.self c.copy_from_slice.ensures.after }
