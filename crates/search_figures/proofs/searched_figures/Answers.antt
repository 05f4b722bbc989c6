-- Each figure is computed.
use Rattle.std.proofs.Common.{refl}
use Rattle.algebra.specs.Order.{floor_div, ceil_div, floor_quot, ceil_quot}
use Rattle.algebra.specs.Vectors.{sum}
use Rattle.grains.specs.Arithmetic.{in_span, times, least_of, greatest_of, least_product, greatest_product, product_of, difference_of, contains_zero, common_of, quotient_down, quotient_up, least_quotient, greatest_quotient, quotient_of}
use Rattle.systems.specs.Entries.{middle}
use Rattle.enclosures.specs.Elimination.{less_multiple, reduced_of, solved_of, eliminated, row_of, elimination_of}
use Rattle.enclosures.specs.RowSums.{magnitude, mignitude, excess_of, bound_of, greatest_bound, row_sums_of}
use Rattle.enclosures.specs.Sweeping.{solved_for, swept_from, sweep_of}
use Rattle.systems.specs.Entries.{is_wide}
use Rattle.systems.specs.Boxes.{box_of}
use Rattle.systems.specs.Tables.{wide_entries, midpoint_of}
use Rattle.partition.specs.Choosing.{width, widest_of}
use Rattle.partition.specs.Marking.{open_at}
use Rattle.outcomes.specs.Searching.{settled, full, reading_of, entered, start_of, replaced, opened_at, place_of, split_of}
use Rattle.outcomes.specs.Waiting.{leading_at, kept_below}
use Rattle.search_figures.proofs.searched_figures.Goals as goal

pub returns : goal.returns
unfolding floor_div ceil_div floor_quot ceil_quot in_span times least_of greatest_of least_product greatest_product product_of difference_of contains_zero common_of quotient_down quotient_up least_quotient greatest_quotient quotient_of middle less_multiple reduced_of solved_of eliminated row_of elimination_of sum magnitude mignitude excess_of bound_of greatest_bound row_sums_of solved_for swept_from sweep_of is_wide box_of wide_entries midpoint_of width widest_of open_at leading_at kept_below settled full reading_of entered start_of replaced opened_at place_of split_of
returns c = record { searched = refl }
