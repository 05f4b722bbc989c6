use Rattle.std.proofs.Common.{map, sym, ap, ◌∙◌}
use Rattle.grains.specs.Arithmetic.{ends_of}
use Rattle.enclosures.specs.Methods.{component_of}
use Rattle.enclosures.specs.Sweeping.{solved_for}
use Rattle.enclosures.specs.Working.{viewed}
use Rattle.enclosures.specs.Sweeps.{component_seen, narrowed_ok, narrowed_err}
use Rattle.enclosures.proofs.sweep.narrowed.Goals as goal

pub returns-in-Ok : goal.returns-in-Ok
returns-in-Ok c =
    let xs = c.args.components.now in
    let i = c.args.i in
    let x = c.index-components-i.result in
    narrowed_ok x c.in-Ok.new c.unwrap_or.result c.common.result (component_of (map ends_of xs) i) (solved_for (viewed c.args.line.now) i (map ends_of xs))
    (component_seen xs i x c.requires.below ∙ ap ends_of (sym c.index-components-i.is)) c.in-Ok.ensures c.common.ensures c.unwrap_or.ensures

pub returns-in-Err : goal.returns-in-Err
returns-in-Err c =
    let xs = c.args.components.now in
    let i = c.args.i in
    let x = c.index-components-i.result in
    narrowed_err x _ (component_of (map ends_of xs) i) (solved_for (viewed c.args.line.now) i (map ends_of xs)) (component_seen xs i x c.requires.below ∙ ap ends_of (sym c.index-components-i.is)) c.in-Err.ensures
