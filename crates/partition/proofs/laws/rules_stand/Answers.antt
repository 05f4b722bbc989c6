use Rattle.systems.specs.Tables.{places_of}
use Rattle.partition.specs.Choosing.{wide_at, width_at, weight_at, widest_of, heaviest_of}
use Rattle.partition.proofs.Scans.{greatest_below}
use Rattle.partition.proofs.laws.rules_stand.Goals as goal

pub returns : goal.returns
unfolding widest_of heaviest_of
returns c = record {
  widest = λ t row k e. greatest_below (wide_at t) (width_at t row) (places_of t.size) k e;
  heaviest = λ t row k e. greatest_below (wide_at t) (weight_at t row) (places_of t.size) k e;
}
