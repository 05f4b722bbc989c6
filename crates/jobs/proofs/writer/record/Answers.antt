use Rattle.std.proofs.Common.{◌∷◌, [], slice_index}
use Rattle.jobs.specs.Writing.{four_bytes}
use Rattle.jobs.proofs.Records.{bytes_handed}
use Rattle.jobs.proofs.writer.record.Goals as goal

pub returns : goal.returns
unfolding four_bytes
returns c =
    let low = bytes_handed c.args.entry.low c.low.result c.four_bytes.result c.low.type_inv c.low.ensures c.four_bytes.ensures in
    let high = bytes_handed c.args.entry.high c.high.result c.four_bytes-2.result c.high.type_inv c.high.ensures c.four_bytes-2.ensures in
    λ i. 69 ∷ 78 ∷ c.args.place
    ∷ slice_index (low i) 0 ∷ slice_index (low i) 1 ∷ slice_index (low i) 2 ∷ slice_index (low i) 3
    ∷ slice_index (high i) 0 ∷ slice_index (high i) 1 ∷ slice_index (high i) 2 ∷ slice_index (high i) 3 ∷ []
