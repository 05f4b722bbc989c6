-- What an open place is. Assumes nothing.
use Rattle.std.proofs.Common.{◌≡◌, ℕ, ◌+◌, ◌^◌, ◌<◌, Bool, true, false, not, ◌&&◌, ltb, refl, ltb-true}
use borrow.Author.Tests.{clash}
use Rattle.systems.specs.Boxes.{Marks, bit}
use Rattle.partition.specs.Marking.{open_at}
use Rattle.partition.proofs.BoxLaws.{room}

pub record Open (m : Marks) (k : ℕ) : Type 0 where
  pub there : k < 64
  pub unfixed : bit m.fixed k ≡ false
  pub no_end : bit m.ends k ≡ false

pub open_place : (m : Marks) (k : ℕ) → open_at m k ≡ true → Open m k
unfolding open_at
open_place m k e = by_tests (ltb k 64) (bit m.fixed k) (bit m.ends k) refl refl refl e
  where
    by_tests : (a b c : Bool) → ltb k 64 ≡ a → bit m.fixed k ≡ b → bit m.ends k ≡ c → (a && (not b && not c)) ≡ true → Open m k
    by_tests true false false p q r h = record { there = ltb-true k 64 p; unfixed = q; no_end = r }
    by_tests true false true p q r h = absurd (clash h)
    by_tests true true c p q r h = absurd (clash h)
    by_tests false b c p q r h = absurd (clash h)

-- both numbers have room for the bit of an open place
pub fixed_room : (m : Marks) (k : ℕ) → Open m k → m.fixed < 2 ^ 64 → m.fixed + 2 ^ k < 2 ^ 64
fixed_room m k o h = room m.fixed 64 k h o.there o.unfixed

pub ends_room : (m : Marks) (k : ℕ) → Open m k → m.ends < 2 ^ 64 → m.ends + 2 ^ k < 2 ^ 64
ends_room m k o h = room m.ends 64 k h o.there o.no_end
