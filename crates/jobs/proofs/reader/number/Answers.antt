use Rattle.std.proofs.Common.{◌∙◌, arith, to_z-of_z, w32}
use Rattle.jobs.proofs.Bytes.{number_is}
use Rattle.jobs.proofs.reader.number.Goals as goal

pub returns : goal.returns
returns c =
    to_z-of_z {w = w32} (record { sfits = c.from_be_bytes.type_inv }) ∙ c.from_be_bytes.ensures
    ∙ number_is c.args.job.now c.args.at (λ k. let f = c.type_inv.job k in omega arith)
