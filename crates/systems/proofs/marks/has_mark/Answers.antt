use Rattle.std.proofs.Common.{◌≡◌, ◌∙◌, false, nat_lt, sym, rules}
use Rattle.systems.proofs.Bits.{no_bit}
use Rattle.systems.proofs.marks.has_mark.Goals as goal

pub returns-else-place-lt64 : goal.returns-else-place-lt64
returns-else-place-lt64 c =
    let far : nat_lt c.args.place 64 ≡ false = search rules in
    far ∙ sym (no_bit c.args.marks c.args.place c.ranges.marks.fits c.if-place-lt64.false)
