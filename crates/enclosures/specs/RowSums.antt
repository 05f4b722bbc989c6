-- Bounds on all components at once, from the sums along the rows.
use Rattle.std.specs.Prelude.{ℕ, ◌+◌, ◌*◌, cond, map, replicate, ℤ, pos, ◌-ℤ◌, ◌*ℤ◌, neg_ℤ, Ok, Err, fold, Result, ◌==◌, int_lt, unsigned_abs}
use Rattle.std.specs.List.{range_with_len}
use Rattle.std.specs.Int.{int_min, int_max}
use Rattle.algebra.specs.Chaining.{and_then, each}
use Rattle.algebra.specs.Ends.{Ends, from_to}
use Rattle.algebra.specs.Order.{ceil_quot}
use Rattle.algebra.specs.Vectors.{sum}
use Rattle.grains.specs.Arithmetic.{contains_zero}
use Rattle.systems.specs.Tables.{Table, ends_at}
use Rattle.enclosures.specs.declared.fault.Fault.{Fault}
use Rattle.enclosures.specs.Verdicts.{Verdict}

abbrev pub absolute : ℤ → ℤ
absolute z = pos (unsigned_abs z)

-- the greatest absolute value in an interval
unfoldable pub magnitude : Ends → ℤ
magnitude e = int_max (absolute e.low) (absolute e.high)

-- the least absolute value in an interval
unfoldable pub mignitude : Ends → ℤ
mignitude e = cond (contains_zero e) (pos 0) (int_min (absolute e.low) (absolute e.high))

-- entry j of row i of a table, both counted from 0: the matrix entries, and then the right-hand entry
abbrev pub entry_in : Table → ℕ → ℕ → Ends
entry_in t i j = ends_at t (i * (t.size + 1) + j)

-- the magnitude of entry j of row i, unless that is the diagonal entry
abbrev pub besides : Table → ℕ → ℕ → ℤ
besides t i j = cond (j == i) (pos 0) (magnitude (entry_in t i j))

-- g of row i: the mignitude of its diagonal entry less the sum of the magnitudes of its other matrix entries
unfoldable pub excess_of : Table → ℕ → ℤ
excess_of t i = mignitude (entry_in t i i) -ℤ sum (map (besides t i) (range_with_len 0 t.size))

-- magnitude of the right-hand entry × 16384 / g, rounded up; where g is below 1, fault 8
unfoldable pub bound_of : Table → ℕ → Result ℤ Fault
bound_of t i = cond (int_lt (excess_of t i) (pos 1)) (Err (record { number = 8 })) (Ok (ceil_quot (magnitude (entry_in t i t.size) *ℤ pos 16384) (excess_of t i)))

-- α: the greatest of the rows' bounds
unfoldable pub greatest_bound : Table → Result ℤ Fault
greatest_bound t = and_then (each (bound_of t) (range_with_len 0 t.size)) (λ bounds. Ok (fold int_max (pos 0) bounds))

-- [-α, α] for every component
unfoldable pub row_sums_of : Table → Verdict
row_sums_of t = and_then (greatest_bound t) (λ a. Ok (replicate t.size (from_to (neg_ℤ a) a)))
