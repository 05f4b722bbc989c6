-- What follows for a search that is started, run and read, from the calls' contracts alone. Assumes nothing.
use Rattle.std.proofs.Common.{◌≡◌, ℕ, ◌+◌, ◌-◌, [], ◌∷◌, Some, None, Option, sym, refl, subst, arith}
use Rattle.systems.specs.Points.{AtMost}
use Rattle.systems.specs.Tables.{Table}
use Rattle.enclosures.specs.Verdicts.{Verdict}
use Rattle.partition.specs.Choosing.{Choice}
use Rattle.outcomes.specs.declared.reading.Reading.{Reading}
use Rattle.outcomes.specs.declared.reading.Report.{Report}
use Rattle.searches.specs.Lowest.{NeverBelow}
use Rattle.outcomes.specs.Promise.{History, Reached, Kept}
use Rattle.outcomes.specs.Searching.{State, Answer, reading, report, start, run, step}

-- its low figure is one that the component is never below
pub solved_holds : (v : Table → Verdict) (r : Choice) (t : Table) (c b : ℕ) (x y : Reading) (z : Report) (st st' : State) → ◌≡◌ {A = Answer × State} (reading x, st) (step v r t (start c) None)
    → ◌≡◌ {A = Answer × State} (report z, st') (step v r t (run b) st) → ((h : History) → Reached v r t h st' → Kept v r t h y) → NeverBelow t c y.low
solved_holds v r t c b x y z st st' started ran promise P d p s =
    let kept = promise ((run b, report z) ∷ (start c, reading x) ∷ []) (st, (None, refl, sym started), sym ran) in
    let chosen : c ≡ kept.component + 1 = some_value kept.chosen in
    let place : kept.component ≡ c - 1 = omega arith in
    subst (λ (j : ℕ). AtMost y.low d p j) place (kept.low_holds P d p s)
  where
    some_value : {k n : ℕ} → ◌≡◌ {A = Option ℕ} (Some k) (Some n) → k ≡ n
    some_value e = cc
