-- One division for a system of one row.
use Rattle.std.specs.Prelude.{cond, [], ◌∷◌, Ok, Err, ◌==◌}
use Rattle.algebra.specs.Chaining.{and_then}
use Rattle.grains.specs.Arithmetic.{quotient_of}
use Rattle.systems.specs.Tables.{Table, ends_at}
use Rattle.enclosures.specs.Elimination.{in_grains}
use Rattle.enclosures.specs.Verdicts.{Verdict, verdict_of}

unfoldable pub division_of : Table → Verdict
division_of t = cond (t.size == 1) (verdict_of (and_then (quotient_of (in_grains (ends_at t 1)) (in_grains (ends_at t 0))) (λ x. Ok (x ∷ [])))) (Err (record { number = 101 }))
