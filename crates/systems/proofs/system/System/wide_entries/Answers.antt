use Rattle.std.proofs.Common.{◌≡◌, ◌∙◌, count_by, ap, rules}
use Rattle.systems.specs.Entries.{ends_of, is_wide}
use Rattle.systems.specs.Tables.{wide_entries}
use Rattle.systems.proofs.Walks.{count-map}
use Rattle.systems.proofs.system.System.wide_entries.Goals as goal

pub returns : goal.returns
unfolding wide_entries
returns c =
    let xs = c.entries.result.now in
    let counted : c.count.result ≡ count_by (λ x. is_wide (ends_of x)) xs = search rules in
    counted ∙ count-map is_wide ends_of xs ∙ ap (count_by is_wide) c.entries.ensures
