use Rattle.partition.proofs.BoxLaws.{box_narrower, box_counts, fixed_once}
use Rattle.partition.proofs.laws.boxes_stand.Goals as goal

pub returns : goal.returns
returns c = record { narrower = box_narrower; counts = box_counts; fixing = λ t m k high proper fit free. fixed_once t m k high proper fit free }
