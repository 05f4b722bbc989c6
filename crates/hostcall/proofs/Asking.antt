-- What a call comes to. Assumes nothing.
use Rattle.std.proofs.Common.{◌≡◌, ℕ, cond, leb, List, Ok, Err, Result, refl, arith}
use Rattle.algebra.specs.Chaining.{and_then}
use Rattle.systems.specs.declared.refusal.Refusal.{Refusal}
use Rattle.systems.specs.Tables.{Table}
use Rattle.jobs.specs.Reading.{parsed}
use Rattle.outcomes.specs.declared.reading.Report.{Report}
use Rattle.solver.specs.Solving.{found_for}
use Rattle.hostcall.specs.Calling.{numbered, searched, asked_of}

-- a call that is carried out has read a system
pub asked_read : (job : List ℕ) (c b room : ℕ) (x : Report) → asked_of job c b room ≡ Ok x → (t : Table) × (parsed job ≡ Ok t)
unfolding asked_of
asked_read job c b room x p = by_job (parsed job) refl p
  where
    by_job : (o : Result Table Refusal) → parsed job ≡ o → and_then (numbered o) (λ t. cond (leb 40 room) (searched (found_for t c b)) (Err 14)) ≡ Ok x → (t : Table) × (parsed job ≡ Ok t)
    by_job (Ok t) q e = (t, q)
    by_job (Err d) q e = absurd (let z : ◌≡◌ {A = ℕ} 0 1 = cc in omega arith)
