-- What is written of a refusal of a search, and of why a run ended.
use Rattle.std.specs.Prelude.{ℕ, List, ◌∷◌, ◌++◌, codes}
use Rattle.systems.specs.Refusals.{refused_text}
use Rattle.outcomes.specs.declared.reading.Stop.{Stop}
use Rattle.outcomes.specs.declared.reading.Stop.TheVariants as stop
use Rattle.outcomes.specs.declared.refusal.SearchRefusal.{SearchRefusal}
use Rattle.outcomes.specs.Refusals.{number_of}

-- two texts with a space between
abbrev pub spaced : List ℕ → List ℕ → List ℕ
spaced a b = a ++ (32 ∷ b)

abbrev pub refusal_text : SearchRefusal → List ℕ
refusal_text e = refused_text (number_of e)

abbrev pub stop_word : Stop → List ℕ
stop_word stop.Settled = codes "settled"
stop_word stop.Full = codes "full"
stop_word stop.Budget = codes "budget"
