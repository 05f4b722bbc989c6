use Rattle.std.proofs.Common.{rules, arith}
use Rattle.systems.specs.Tables.{table_of}
use Rattle.enclosures.proofs.Rows.{row_fits, row_read, row_long}
use Rattle.enclosures.proofs.equation.Equation.coefficients.Goals as goal

pub slice_bounds-result-end : goal.slice_bounds-result-end
slice_bounds-result-end c =
    let self = c.args.self.now in
    let fits = row_fits self.system.now c.entries.result.now self.row c.size-n.result c.entries.ensures c.size-n.ensures.value self.there in
    search rules

pub returns : goal.returns
returns c =
    let self = c.args.self.now in
    let t = table_of self.system.now in
    let read = row_read self.system.now c.entries.result.now self.row c.size-n.result c.entries.ensures c.size-n.ensures.value self.there in
    let long = row_long t self.row t.size _ read in
    record { few = omega (arith, long, c.size-n.ensures.few, c.size-n.ensures.value); value = read }
