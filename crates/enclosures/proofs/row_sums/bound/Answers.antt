use Rattle.std.proofs.Common.{◌≡◌, ℤ, pos, ◌-ℤ◌, ◌*ℤ◌, neg_ℤ, ◌<ℤ◌, sym, ap, ◌∙◌, arith}
use mir.Syntax.{w64}
use mir.Val.{SFits}
use borrow.Author.Differences.{ints}
use Rattle.algebra.specs.Order.{Within, ceil_quot}
use Rattle.grains.proofs.Sizes.{back}
use Rattle.systems.specs.Tables.{table_of}
use Rattle.enclosures.specs.RowSums.{magnitude}
use Rattle.enclosures.specs.Excess.{bound_refused, bound_made}
use Rattle.enclosures.specs.Roundings.{rounded_up, rounded_small}
use Rattle.enclosures.proofs.row_sums.bound.Goals as goal
use Rattle.enclosures.proofs.row_sums.bound.Goals.{After-div_euclid}

-- the answer is the negative of a quotient that is small
negative_fits : (q : ℤ) → Within (pos 0) (pos 1073741824) (neg_ℤ q) → SFits w64 (pos 0 -ℤ back q)
negative_fits q small = omega (arith, ints)

negative_back : (q : ℤ) → Within (pos 0) (pos 1073741824) (neg_ℤ q) → back (pos 0 -ℤ back q) ≡ neg_ℤ q
negative_back q small = omega (arith, ints)

divisor : (g : ℤ) → Within (neg_ℤ (pos 393216)) (pos 65536) g → pos 0 <ℤ g → Within (pos 1) (pos 65536) g
divisor g within positive = record { low = omega (arith, ints); high = within.high }

module _ (c : After-div_euclid) where
  abbrev m : ℤ
  m = c.magnitude-size.result

  abbrev g : ℤ
  g = c.excess-g.result

  numerator : back (pos 0 -ℤ back (back m *ℤ pos 16384)) ≡ neg_ℤ (m *ℤ pos 16384)
  numerator = omega (arith, ints, c.magnitude-size.ensures.small)

  positive : pos 0 <ℤ g
  positive = omega (arith, ints)

  small : Within (pos 0) (pos 1073741824) (neg_ℤ c.div_euclid.result)
  small =
      rounded_small m g c.div_euclid.result (back (pos 0 -ℤ back (back m *ℤ pos 16384))) (back g)
      c.magnitude-size.ensures.small (divisor g c.excess-g.ensures.small positive) numerator (omega (arith, ints)) c.div_euclid.ensures

  rounded : back (pos 0 -ℤ back c.div_euclid.result) ≡ ceil_quot (m *ℤ pos 16384) g
  rounded =
      negative_back c.div_euclid.result small
      ∙ rounded_up m g c.div_euclid.result (back (pos 0 -ℤ back (back m *ℤ pos 16384))) (back g)
      c.magnitude-size.ensures.small (divisor g c.excess-g.ensures.small positive) numerator (omega (arith, ints)) c.div_euclid.ensures

pub returns-then-g-lt-LEAST : goal.returns-then-g-lt-LEAST
returns-then-g-lt-LEAST c =
    let e = c.args.equation.now in
    sym (bound_refused (table_of e.system.now) e.row (let g = c.excess-g.ensures.value in omega (arith, ints)))

pub overflow_sub-result : goal.overflow_sub-result
overflow_sub-result c = negative_fits c.div_euclid.result (small c)

pub invariant_of-result : goal.invariant_of-result
invariant_of-result c = record { within = rw (negative_back c.div_euclid.result (small c)) (small c) }

pub returns : goal.returns
returns c =
    let e = c.args.equation.now in
    sym (bound_made (table_of e.system.now) e.row _ _ _ c.excess-g.ensures.value (c.magnitude-size.ensures.value ∙ ap magnitude c.right.ensures) (positive c.before) (rounded c.before))
