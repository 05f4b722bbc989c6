use Rattle.std.proofs.Common.{◌≡◌, ◌∙◌, ap, sym, rules}
use Rattle.std.proofs.lemmas.Option.{gets, slice_get-map}
use Rattle.std.specs.List.{slice_get}
use Rattle.std.specs.Option.{option_map}
use Rattle.systems.specs.Entries.{ends_of}
use Rattle.systems.specs.Tables.{entry_at}
use Rattle.systems.proofs.draft.Draft.entry.Goals as goal

pub returns : goal.returns
unfolding entry_at
returns c =
    let xs = c.entries.result.now in
    let got : c.copied.result ≡ slice_get xs c.args.place = search (rules, gets) in
    ap (option_map ends_of) got ∙ sym (slice_get-map ends_of xs c.args.place) ∙ ap (λ es. slice_get es c.args.place) c.entries.ensures
