-- Figures worked out by hand. `negsuc n` is -(n + 1); 16384 grains make one.
use Rattle.std.specs.Prelude.{◌≡◌, [], ◌∷◌, ℤ, pos, negsuc, Ok, Err}
use Rattle.algebra.specs.Ends.{Ends, from_to}
use Rattle.grains.specs.Arithmetic.{quotient_of}
use Rattle.systems.specs.Entries.{thin, middle}
use Rattle.systems.specs.Tables.{Table}
use Rattle.enclosures.specs.Elimination.{in_grains, elimination_of}
use Rattle.enclosures.specs.RowSums.{row_sums_of}
use Rattle.enclosures.specs.Sweeping.{sweep_of}

-- a system of one row, and one of two
abbrev pub one_row : Ends → Ends → Table
one_row a b = record { size = 1; entries = a ∷ b ∷ [] }

abbrev pub two_rows : Ends → Ends → Ends → Ends → Ends → Ends → Table
two_rows a b r c d s = record { size = 2; entries = a ∷ b ∷ r ∷ c ∷ d ∷ s ∷ [] }

-- 1, c / c, 1 with the right side 1, 0
abbrev pub coupled : ℤ → Table
coupled c = two_rows (thin (pos 1)) (thin c) (thin (pos 1)) (thin c) (thin (pos 1)) (thin (pos 0))

-- [2, 4], [-2, 1] / [-1, 2], [2, 4] with the right side [-2, 2] twice
abbrev pub wide_rows : Table
wide_rows = two_rows (from_to (pos 2) (pos 4)) (from_to (negsuc 1) (pos 1)) (from_to (negsuc 1) (pos 2)) (from_to (negsuc 0) (pos 2)) (from_to (pos 2) (pos 4)) (from_to (negsuc 1) (pos 2))

-- 4, 1 / 1, 4 with the right side 5, 5
abbrev pub even_rows : Table
even_rows = two_rows (thin (pos 4)) (thin (pos 1)) (thin (pos 5)) (thin (pos 1)) (thin (pos 4)) (thin (pos 5))

pub record Worked : Type 0 where
  -- the midpoint of [-3, 0] is -2
  pub midpoint : middle (from_to (negsuc 2) (pos 0)) ≡ thin (negsuc 1)
  -- 1 over 3, and -1 over 3
  pub third : quotient_of (in_grains (thin (pos 1))) (in_grains (thin (pos 3))) ≡ Ok (from_to (pos 5461) (pos 5462))
  pub minus_third : quotient_of (in_grains (thin (negsuc 0))) (in_grains (thin (pos 3))) ≡ Ok (from_to (negsuc 5461) (negsuc 5460))
  -- [1, 3] over [2, 4]
  pub wide_quotient : quotient_of (in_grains (from_to (pos 1) (pos 3))) (in_grains (from_to (pos 2) (pos 4))) ≡ Ok (from_to (pos 4096) (pos 24576))
  -- elimination of one row: the matrix [0, 1] is refused with 6, and the matrix 1 gives the right side
  pub pivot_with_zero : elimination_of (one_row (from_to (pos 0) (pos 1)) (thin (pos 1))) ≡ Err (record { number = 6 })
  pub greatest_right_side : elimination_of (one_row (thin (pos 1)) (thin (pos 65536))) ≡ Ok (thin (pos 1073741824) ∷ [])
  -- a coupling of 362 is accepted, one of 363 leaves the span
  pub strong_coupling : elimination_of (coupled (pos 362)) ≡ Ok (from_to (negsuc 267) (pos 94) ∷ from_to (pos 45) (pos 46) ∷ [])
  pub stronger_coupling : elimination_of (coupled (pos 363)) ≡ Err (record { number = 7 })
  -- wide rows
  pub two_unknowns : elimination_of wide_rows ≡ Ok (from_to (negsuc 81919) (pos 81920) ∷ from_to (negsuc 65535) (pos 65536) ∷ [])
  -- row sums refuse them: in the first, 2 does not outweigh 2
  pub not_outweighed : row_sums_of wide_rows ≡ Err (record { number = 8 })
  -- row sums of even rows: 5 × 16384 over 3, rounded up; one sweep narrows both components
  pub outweighed : row_sums_of even_rows ≡ Ok (from_to (negsuc 27306) (pos 27307) ∷ from_to (negsuc 27306) (pos 27307) ∷ [])
  pub swept : sweep_of row_sums_of even_rows ≡ Ok (from_to (pos 13653) (pos 27307) ∷ from_to (pos 13653) (pos 17067) ∷ [])
