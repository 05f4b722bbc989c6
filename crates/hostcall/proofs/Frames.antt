-- Forty bytes, in parts of eight. Assumes nothing.
use Rattle.std.proofs.Common.{◌≡◌, ℕ, List, ◌++◌, length, take, ℤ, pos, negsuc, refl, ap, ◌∙◌, w64, of_z}
use Rattle.std.proofs.lemmas.List.{append_assoc, take_at}
use Rattle.outcomes.specs.declared.reading.Report.{Report}
use Rattle.outcomes.specs.Refusals.{stop_number}
use Rattle.hostcall.specs.Calling.{bits64, eight_bytes, framed}

pub bits_machine : (z : ℤ) → bits64 z ≡ of_z w64 z
bits_machine (pos n) = refl
bits_machine (negsuc n) = refl

pub eight_long : (n : ℕ) → length (eight_bytes n) ≡ 8
unfolding eight_bytes
eight_long n = refl

pub framed_long : (x : Report) → length (framed x) ≡ 40
unfolding framed eight_bytes
framed_long x = refl

-- the low figure stands first
pub low_first : (x : Report) (is rest : List ℕ) → is ≡ framed x ++ rest → take 8 is ≡ eight_bytes (bits64 x.reading.low)
unfolding framed
low_first x is rest e =
    let a = eight_bytes (bits64 x.reading.low) in
    let more = eight_bytes (bits64 x.reading.high) ++ (eight_bytes x.reading.waiting ++ (eight_bytes x.reading.splits ++ eight_bytes (stop_number x.stop))) in
    ap (take 8) (e ∙ append_assoc a more rest) ∙ take_at a (more ++ rest) 8 (eight_long (bits64 x.reading.low))
