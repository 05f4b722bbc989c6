use Rattle.std.proofs.Common.{◌≡◌, Ok, Err, sym, ap, ◌∙◌, rules}
use Rattle.algebra.specs.Chaining.{and_then}
use Rattle.systems.specs.Tables.{blank, sized}
use Rattle.systems.proofs.draft.Draft.renew.Goals as goal

pub returns-in_err-new : goal.returns-in_err-new
unfolding sized
returns-in_err-new c =
    let refused : sized c.args.size ≡ Err c.in_err-new.field-0.0 = ap (λ n. and_then n (λ m. Ok (blank m))) (sym c.in_err-new.ensures) in
    search rules

pub returns : goal.returns
unfolding sized
returns c = ap (λ n. and_then n (λ m. Ok (blank m))) (sym c.in_ok-new.ensures) ∙ ap Ok (sym c.blank.ensures)
