use Rattle.std.proofs.Common.{◌≡◌, ◌<◌, false, eqb, length, Ok, Err, sym, refl, ap, ◌∙◌, rules}
use Rattle.std.proofs.lemmas.Result.{err_from_is_err_and}
use Rattle.grains.specs.Arithmetic.{ends_of, quotient_of}
use Rattle.systems.specs.Tables.{ends_at, table_of}
use Rattle.enclosures.specs.Elimination.{in_grains}
use Rattle.enclosures.proofs.Enclosing.{encloses_fault}
use Rattle.own_method.specs.Division.{division_of}
use Rattle.own_method.specs.Agreement.{divides, stops, other_size, encloses_one}
use Rattle.own_method.proofs.DivisionEnclosure.enclose.Goals as goal

pub returns-then-size-ne1 : goal.returns-then-size-ne1
returns-then-size-ne1 c =
    let t = table_of c.args.system.now in
    let other : eqb t.size 1 ≡ false = search rules in
    encloses_fault (division_of t) (record { number = 101 }) (Err (record { number = 101 })) c.args.row.now (other_size t other) refl

pub returns : goal.returns
returns c =
    let t = table_of c.args.system.now in
    let one : t.size ≡ 1 = search rules in
    let some : 0 < length c.args.row.now = search rules in
    let q : quotient_of (in_grains (ends_at t 1)) (in_grains (ends_at t 0)) ≡ Ok (ends_of c.in_ok-row.field-0) = search rules in
    encloses_one (division_of t) c.args.row.now c.in_ok-row.field-0 some (divides t (ends_of c.in_ok-row.field-0) one q)

pub returns-in_err-row : goal.returns-in_err-row
returns-in_err-row c =
    let t = table_of c.args.system.now in
    let one : t.size ≡ 1 = search rules in
    let q : quotient_of (in_grains (ends_at t 1)) (in_grains (ends_at t 0)) ≡ Err c.in_err-row.field-0.0 = search rules in
    let r = err_from_is_err_and c.from_residual.result c.from_residual.ensures.1 in
    encloses_fault (division_of t) r.0 c.from_residual.result c.args.row.now (stops t c.in_err-row.field-0.0 one q ∙ ap Err (sym r.2)) r.1
