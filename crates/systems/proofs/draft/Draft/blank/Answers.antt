use Rattle.systems.proofs.Contents.{blank-tabled}
use Rattle.systems.proofs.draft.Draft.blank.Goals as goal

pub returns : goal.returns
returns c = blank-tabled c.args.size.rows c.zero.result c.args.size.few c.zero.ensures
