-- From the solved lines to the caller's row. Assumes nothing.
use Rattle.std.proofs.Common.{◌≡◌, List, ◌++◌, map, length, drop, Ok, Err, Result, sym, refl, ap, ◌∙◌}
use lib.ListN.{length-map}
use Rattle.std.proofs.lemmas.List.{map-append, drop-map}
use Rattle.std.proofs.lemmas.List.FromFn.{length-map-range_with_len}
use Rattle.std.specs.List.{range_with_len}
use Rattle.grains.specs.Arithmetic.{ends_of}
use Rattle.grains.specs.declared.interval.ArithmeticError.{ArithmeticError}
use Rattle.grains.specs.declared.interval.Interval.{Interval}
use Rattle.systems.specs.Tables.{Table}
use Rattle.enclosures.specs.declared.fault.Fault.{Fault}
use Rattle.enclosures.specs.declared.line.Line.{Line}
use Rattle.enclosures.specs.Elimination.{eliminated, row_of, elimination_of}
use Rattle.enclosures.specs.Verdicts.{Verdict, verdict_of, fault_of, Encloses}
use Rattle.enclosures.specs.Working.{viewed}

module _ (t : Table) (ls : List Line) (read : map viewed ls ≡ map (row_of t) (range_with_len 0 t.size)) where
  walked : eliminated (length ls) (map viewed ls) ≡ eliminated t.size (map (row_of t) (range_with_len 0 t.size))
  walked =
      let many : length ls ≡ t.size = sym (length-map ls viewed) ∙ ap length read ∙ length-map-range_with_len (row_of t) 0 t.size in
      λ i. eliminated (many i) (read i)

  pub verdict_row : (xs : List Interval) → eliminated (length ls) (map viewed ls) ≡ Ok (map ends_of xs) → elimination_of t ≡ Ok (map ends_of xs)
  unfolding elimination_of
  verdict_row xs e = ap verdict_of (sym walked ∙ e)

  pub verdict_fault : (f : ArithmeticError) → eliminated (length ls) (map viewed ls) ≡ Err f → elimination_of t ≡ Err (fault_of f)
  unfolding elimination_of
  verdict_fault f e = ap verdict_of (sym walked ∙ e)

pub encloses_row : (v : Verdict) (xs was row : List Interval) → v ≡ Ok (map ends_of xs) → row ≡ xs ++ drop (length xs) was → Encloses (Ok tt) was row v
encloses_row v xs was row e made =
    rw e (
      refl,
      ap (map ends_of) made ∙ map-append ends_of xs (drop (length xs) was)
          ∙ ap (λ r. map ends_of xs ++ r) (sym (drop-map ends_of (length xs) was) ∙ ap (λ m. drop m (map ends_of was)) (sym (length-map xs ends_of))),
    )

pub encloses_fault : (v : Verdict) (f : Fault) (r : Result (Unit {0}) Fault) (was : List Interval) → v ≡ Err f → r ≡ Err f → Encloses r was was v
encloses_fault v f r was e a = rw e (a, refl)
