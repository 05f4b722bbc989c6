-- The number of each refusal.
use Rattle.std.specs.Prelude.{ℕ, List, ◌++◌, codes, decimal}
use Rattle.systems.specs.declared.refusal.Refusal.{Refusal}
use Rattle.systems.specs.declared.refusal.Refusal.TheVariants.{SizeOutOfRange, PlaceOutOfRange, EndOutOfRange, EndsOutOfOrder, JobEndsEarly, MarkNotAllowed, PlaceNotRising, EntryIsZero, BytesAfterEnd, BufferTooShort}

abbrev pub number_of : Refusal → ℕ
number_of SizeOutOfRange = 1
number_of PlaceOutOfRange = 2
number_of EndOutOfRange = 3
number_of EndsOutOfOrder = 4
number_of JobEndsEarly = 9
number_of MarkNotAllowed = 10
number_of PlaceNotRising = 11
number_of EntryIsZero = 12
number_of BytesAfterEnd = 13
number_of BufferTooShort = 14

-- a refusal as text: the word and the number
abbrev pub refused_text : ℕ → List ℕ
refused_text n = codes "refused " ++ decimal n
