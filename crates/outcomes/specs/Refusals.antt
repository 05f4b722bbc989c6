-- The number of each refusal of a search, and of each way a run ends.
use Rattle.std.specs.Prelude.{ℕ}
use Rattle.outcomes.specs.declared.refusal.SearchRefusal.{SearchRefusal}
use Rattle.outcomes.specs.declared.refusal.SearchRefusal.TheVariants as refusal
use Rattle.outcomes.specs.declared.reading.Stop.{Stop}
use Rattle.outcomes.specs.declared.reading.Stop.TheVariants as stop

abbrev pub number_of : SearchRefusal → ℕ
number_of refusal.ComponentOutOfRange = 5
number_of refusal.NotStarted = 21
number_of refusal.AlreadyStarted = 22
number_of refusal.Settled = 23
number_of refusal.Full = 24
number_of (refusal.ByMethod fault) = fault.number

abbrev pub stop_number : Stop → ℕ
stop_number stop.Settled = 1
stop_number stop.Full = 2
stop_number stop.Budget = 3
