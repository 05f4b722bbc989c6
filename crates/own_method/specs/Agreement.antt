-- What division owes: where it accepts a system, elimination gives the same row, and a narrower system has the same size. Assumes nothing.
use Rattle.std.specs.Prelude.{◌≡◌, ℕ, ◌<◌, Bool, true, false, cond, List, [], ◌∷◌, length, Ok, Err, Result, ◌==◌, slice_set, refl}
use Rattle.std.proofs.Common.{arith, sym, ap, ◌∙◌, eq-eqb, eqb-true}
use Rattle.algebra.specs.Chaining.{and_then}
use Rattle.algebra.specs.Ends.{Ends}
use Rattle.grains.specs.Arithmetic.{ends_of, contains_zero, in_span, least_quotient, greatest_quotient, quotient_of}
use Rattle.grains.specs.declared.interval.ArithmeticError.{ArithmeticError}
use Rattle.grains.specs.declared.interval.ArithmeticError.TheVariants.{DivisorContainsZero}
use Rattle.grains.specs.declared.interval.Interval.{Interval}
use Rattle.systems.specs.Tables.{Table, ends_at}
use Rattle.enclosures.specs.Elimination.{in_grains, solved_of, eliminated, row_of, elimination_of}
use Rattle.enclosures.specs.Methods as methods
use Rattle.enclosures.specs.Methods.{Shaped, Solvable, Agreed, Enclosed}
use Rattle.enclosures.specs.Verdicts.{Verdict, verdict_of, fault_of, Encloses}
use Rattle.enclosures.specs.Bounds.{solvable_from, agreed_from, enclosed_from}
use Rattle.enclosures.specs.Narrowing.{elimination_shaped, elimination_narrows}
use Rattle.enclosures.specs.PointRows.{elimination_bounds}
use Rattle.own_method.specs.Division.{division_of}

-- a quotient tests its divisor itself
tested : (b a : Ends) → cond (contains_zero a) (Err DivisorContainsZero) (and_then (quotient_of b a) (λ x. Ok (x ∷ []))) ≡ and_then (quotient_of b a) (λ x. Ok (x ∷ []))
unfolding quotient_of
tested b a = by_test (contains_zero a) (in_span (least_quotient b a) (greatest_quotient b a))
  where
    by_test : (z : Bool) (o : Result Ends ArithmeticError) → cond z (Err DivisorContainsZero) (and_then (cond z (Err DivisorContainsZero) o) (λ x. Ok (x ∷ []))) ≡ and_then (cond z (Err DivisorContainsZero) o) (λ x. Ok (x ∷ []))
    by_test true o = refl
    by_test false o = refl

at_size_one : (es : List Ends) → division_of (record { size = 1; entries = es }) ≡ elimination_of (record { size = 1; entries = es })
unfolding division_of elimination_of eliminated row_of solved_of
at_size_one es = ap verdict_of (sym (tested (in_grains (ends_at (record { size = 1; entries = es }) 1)) (in_grains (ends_at (record { size = 1; entries = es }) 0))))

agrees : (t : Table) → t.size ≡ 1 → division_of t ≡ elimination_of t
agrees t e =
    let same : t ≡ record { size = 1; entries = t.entries } = λ i. record { size = e i; entries = t.entries } in
    ap division_of same ∙ at_size_one t.entries ∙ ap elimination_of (sym same)

accepted_size : (t : Table) (row : List Ends) → division_of t ≡ Ok row → t.size ≡ 1
unfolding division_of
accepted_size t row e = eqb-true t.size 1 (by_test (t.size == 1) (verdict_of (and_then (quotient_of (in_grains (ends_at t 1)) (in_grains (ends_at t 0))) (λ x. Ok (x ∷ [])))) e)
  where
    by_test : (z : Bool) (o : Verdict) → cond z o (Err (record { number = 101 })) ≡ Ok row → z ≡ true
    by_test true o h = refl
    by_test false o h = absurd (let z : ◌≡◌ {A = ℕ} 0 1 = cc in omega arith)

by_elimination : (t : Table) (row : List Ends) → division_of t ≡ Ok row → elimination_of t ≡ Ok row
by_elimination t row e = sym (agrees t (accepted_size t row e)) ∙ e

pub division_shaped : Shaped division_of
division_shaped t row proper e = elimination_shaped t row proper (by_elimination t row e)

pub division_solvable : Solvable division_of
division_solvable t row proper e = solvable_from elimination_of elimination_bounds t row proper (by_elimination t row e)

pub division_agreed : Agreed division_of
division_agreed t row proper e = agreed_from elimination_of elimination_bounds t row proper (by_elimination t row e)

pub division_enclosed : Enclosed division_of
division_enclosed t row proper e = enclosed_from elimination_of elimination_bounds t row proper (by_elimination t row e)

pub division_narrows : methods.Narrowing division_of
division_narrows t s row proper proper' narrower e =
    let n = elimination_narrows t s row proper proper' narrower (by_elimination s row e) in
    (n.0, agrees t (narrower.same_size ∙ accepted_size s row e) ∙ n.1, n.2)

-- ---- what the call answers
pub divides : (t : Table) (q : Ends) → t.size ≡ 1 → quotient_of (in_grains (ends_at t 1)) (in_grains (ends_at t 0)) ≡ Ok q → division_of t ≡ Ok (q ∷ [])
unfolding division_of
divides t q one ok = rw (eq-eqb t.size 1 one, ok) refl

pub stops : (t : Table) (e : ArithmeticError) → t.size ≡ 1 → quotient_of (in_grains (ends_at t 1)) (in_grains (ends_at t 0)) ≡ Err e → division_of t ≡ Err (fault_of e)
unfolding division_of
stops t e one ok = rw (eq-eqb t.size 1 one, ok) refl

pub other_size : (t : Table) → (t.size == 1) ≡ false → division_of t ≡ Err (record { number = 101 })
unfolding division_of
other_size t e = rw e refl

pub encloses_one : (v : Verdict) (was : List Interval) (x : Interval) → 0 < length was → v ≡ Ok (ends_of x ∷ []) → Encloses (Ok tt) was (slice_set was 0 x) v
encloses_one v [] x h e = absurd (omega arith)
encloses_one v (w ∷ was) x h e = rw e (refl, refl)
