-- The best place so far in a scan, as the code keeps it.
use Rattle.std.specs.Prelude.{◌≡◌, ℕ, cond, ℤ, Some, None, Option, int_lt}
use Rattle.partition.specs.declared.rules.Best.{Best}

abbrev pub heavier_of : Option Best → ℕ → ℤ → Option Best
heavier_of None p w = Some (record { place = p; weight = w })
heavier_of (Some b) p w = cond (int_lt b.weight w) (Some (record { place = p; weight = w })) (Some b)

-- a best place with its weight is the place that a definition gives
abbrev pub Keeps : (ℕ → ℤ) → Option Best → Option ℕ → Type 0
Keeps w None None = Unit {0}
Keeps w None (Some k) = ⊥
Keeps w (Some b) None = ⊥
Keeps w (Some b) (Some k) = (b.place ≡ k) × (b.weight ≡ w k)
