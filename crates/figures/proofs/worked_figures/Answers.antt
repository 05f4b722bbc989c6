-- Each figure is computed.
use Rattle.std.proofs.Common.{refl}
use Rattle.algebra.specs.Order.{floor_div, ceil_div, floor_quot, ceil_quot}
use Rattle.algebra.specs.Vectors.{sum}
use Rattle.grains.specs.Arithmetic.{in_span, times, least_of, greatest_of, least_product, greatest_product, product_of, difference_of, contains_zero, common_of, quotient_down, quotient_up, least_quotient, greatest_quotient, quotient_of}
use Rattle.systems.specs.Entries.{middle}
use Rattle.enclosures.specs.Elimination.{less_multiple, reduced_of, solved_of, eliminated, row_of, elimination_of}
use Rattle.enclosures.specs.RowSums.{magnitude, mignitude, excess_of, bound_of, greatest_bound, row_sums_of}
use Rattle.enclosures.specs.Sweeping.{solved_for, swept_from, sweep_of}
use Rattle.figures.proofs.worked_figures.Goals as goal

pub returns : goal.returns
unfolding floor_div ceil_div floor_quot ceil_quot in_span times least_of greatest_of least_product greatest_product product_of difference_of contains_zero common_of quotient_down quotient_up least_quotient greatest_quotient quotient_of middle less_multiple reduced_of solved_of eliminated row_of elimination_of sum magnitude mignitude excess_of bound_of greatest_bound row_sums_of solved_for swept_from sweep_of
returns c = record {
  midpoint = refl;
  third = refl;
  minus_third = refl;
  wide_quotient = refl;
  pivot_with_zero = refl;
  greatest_right_side = refl;
  strong_coupling = refl;
  stronger_coupling = refl;
  two_unknowns = refl;
  not_outweighed = refl;
  outweighed = refl;
  swept = refl;
}
