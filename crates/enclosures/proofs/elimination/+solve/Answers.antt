use Rattle.std.proofs.Common.{◌≡◌, ◌∷◌, map, length, true, false, sym, rules}
use Rattle.std.proofs.lemmas.Result.{err_from_is_err_and}
use Rattle.grains.specs.Arithmetic.{ends_of, contains_zero}
use Rattle.enclosures.specs.Elimination.{lead}
use Rattle.enclosures.specs.Working.{viewed}
use Rattle.enclosures.proofs.Views.{eliminated_none, stops-at_pivot, stops_in_column, stops_below, stops-at_solution, solves}
use Rattle.enclosures.proofs.elimination.+solve.Goals as goal

pub returns-in_default : goal.returns-in_default
returns-in_default t c = eliminated_none c.args.lines.now c.args.components.now c.in_default.ensures.cases c.requires

pub returns-then-contains_zero : goal.returns-then-contains_zero
returns-then-contains_zero t c =
    let is : c.args.lines.now ≡ c.in-Some.pivot.now ∷ c.in-Some.rest.now = search rules in
    let z : contains_zero (lead (viewed c.in-Some.pivot.now)) ≡ true = search rules in
    stops-at_pivot c.args.lines.now c.in-Some.pivot.now c.in-Some.rest.now is z

pub returns-in_err-clear_column : goal.returns-in_err-clear_column
returns-in_err-clear_column t c =
    let p = c.in-Some.pivot.now in
    let is : c.args.lines.now ≡ p ∷ c.in-Some.rest.now = search rules in
    let z : contains_zero (lead (viewed p)) ≡ false = search rules in
    let column = rw c.in_err-clear_column.was at c.clear_column.ensures in
    let q = err_from_is_err_and c.from_residual.result c.from_residual.ensures.1 in
    rw (q.1, q.2) (stops_in_column c.args.lines.now p c.in-Some.rest.now is z _ column)

pub returns-in_err-solve : goal.returns-in_err-solve
returns-in_err-solve t c =
    let p = c.in-Some.pivot.now in
    let is : c.args.lines.now ≡ p ∷ c.in-Some.rest.now = search rules in
    let z : contains_zero (lead (viewed p)) ≡ false = search rules in
    let column = rw c.in_ok-clear_column.was at c.clear_column.ensures in
    let others = rw c.in_err-solve.was at c.solve.ensures in
    let same : length c.clear_column.new.lines ≡ length c.in-Some.rest.now = search rules in
    let q = err_from_is_err_and c.from_residual-in_err-solve.result c.from_residual-in_err-solve.ensures.1 in
    rw (q.1, q.2) (stops_below c.args.lines.now p c.in-Some.rest.now is z c.clear_column.new.lines same column _ others)

pub returns-in_err-component : goal.returns-in_err-component
returns-in_err-component t c =
    let p = c.in-Some.pivot.now in
    let is : c.args.lines.now ≡ p ∷ c.in-Some.rest.now = search rules in
    let z : contains_zero (lead (viewed p)) ≡ false = search rules in
    let column = rw c.in_ok-clear_column.was at c.clear_column.ensures in
    let others = rw c.in_ok-solve.was at c.solve.ensures in
    let same : length c.clear_column.new.lines ≡ length c.in-Some.rest.now = search rules in
    let q = err_from_is_err_and c.from_residual-in_err-component.result c.from_residual-in_err-component.ensures.1 in
    rw (q.1, q.2) (stops-at_solution c.args.lines.now p c.in-Some.rest.now is z c.clear_column.new.lines same column (map ends_of c.solve.new.components) _ others (sym c.in_err-component.ensures))

pub returns : goal.returns
returns t c =
    let p = c.in-Some.pivot.now in
    let is : c.args.lines.now ≡ p ∷ c.in-Some.rest.now = search rules in
    let z : contains_zero (lead (viewed p)) ≡ false = search rules in
    let column = rw c.in_ok-clear_column.was at c.clear_column.ensures in
    let others = rw c.in_ok-solve.was at c.solve.ensures in
    let same : length c.clear_column.new.lines ≡ length c.in-Some.rest.now = search rules in
    solves c.args.lines.now p c.in-Some.rest.now is z c.clear_column.new.lines same column (map ends_of c.solve.new.components) (ends_of c.in_ok-component.field-0) others (sym c.in_ok-component.ensures)
