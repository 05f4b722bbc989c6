use Rattle.std.proofs.Common.{◌≡◌, map, take, sym, ap, ◌∙◌, rules}
use Rattle.std.proofs.lemmas.List.{take-map}
use Rattle.systems.specs.Entries.{ends_of}
use Rattle.systems.specs.Tables.{places_of, tabled}
use Rattle.systems.proofs.draft.Draft.entries.Goals as goal

pub returns : goal.returns
unfolding tabled
returns c =
    let d = c.args.self.now in
    let front : _ ≡ take (places_of d.size.rows) d.entries = search rules in
    ap (map ends_of) front ∙ sym (take-map ends_of (places_of d.size.rows) d.entries)
