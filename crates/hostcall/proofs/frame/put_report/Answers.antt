use Rattle.std.proofs.Common.{◌≡◌, length, ap, ◌∙◌, rules}
use Rattle.hostcall.proofs.Frames.{framed_long}
use Rattle.hostcall.proofs.frame.put_report.Goals as goal

pub copy_from_slice-requires : goal.copy_from_slice-requires
copy_from_slice-requires c =
    let long : length c.as_flattened.result.now ≡ 40 = ap length (c.as_flattened.ensures.value ∙ c.parts.ensures) ∙ framed_long c.args.report in
    search (rules, long)
