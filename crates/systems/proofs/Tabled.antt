-- The table of every system is proper. Assumes nothing.
use Rattle.std.proofs.Common.{◌≡◌, ℕ, zero, suc, List, [], ◌∷◌, map, get_or, take, pos, neg_ℤ, ◌≤ℤ◌, ◌∙◌, sym, ap, length, arith, length-take}
use lib.ListN.{length-map}
use borrow.Author.Differences.{ints}
use Rattle.algebra.specs.Ends.{Ends, Ordered}
use Rattle.systems.specs.declared.entry.Entry.{Entry}
use Rattle.systems.specs.declared.system.System.{System}
use Rattle.systems.specs.Entries.{ends_of, thin}
use Rattle.systems.specs.Points.{Proper}
use Rattle.systems.specs.Tables.{places_of, tabled, table_of}
use Rattle.systems.proofs.Contents.{places_few}

-- ends as an entry has them
record Good (e : Ends) : Type 0 where
  ordered : Ordered e
  above : neg_ℤ (pos 65536) ≤ℤ e.low
  below : e.high ≤ℤ pos 65536

good_entry : (e : Entry) → Good (ends_of e)
good_entry e = record { ordered = e.ordered; above = e.above; below = e.below }

good_zero : Good (thin (pos 0))
good_zero = record { ordered = omega (arith, ints); above = omega (arith, ints); below = omega (arith, ints) }

good_at : (m : ℕ) (xs : List Entry) (k : ℕ) → Good (get_or (take m (map ends_of xs)) k (thin (pos 0)))
good_at zero xs k = good_zero
good_at (suc m) [] k = good_zero
good_at (suc m) (x ∷ xs) zero = good_entry x
good_at (suc m) (x ∷ xs) (suc k) = good_at m xs k

pub table_proper : (s : System) → Proper (table_of s)
unfolding tabled
table_proper s =
    let held = s.draft in
    let few = places_few held.size.rows held.size.few in
    record {
      some = held.size.some;
      few = held.size.few;
      complete = length-take (places_of held.size.rows) (map ends_of held.entries) ∙ simp length-map (omega (arith, held.full));
      ordered = λ k. (good_at (places_of held.size.rows) held.entries k).ordered;
      above = λ k. (good_at (places_of held.size.rows) held.entries k).above;
      below = λ k. (good_at (places_of held.size.rows) held.entries k).below;
    }

-- a slice of a system's entries has one for each place
pub entries_long : (s : System) (es : List Entry) → map ends_of es ≡ (table_of s).entries → length es ≡ places_of (table_of s).size
entries_long s es same = sym (length-map es ends_of) ∙ ap length same ∙ (table_proper s).complete
