use Rattle.std.proofs.Common.{◌≡◌, Ok, arith, rules}
use Rattle.systems.specs.Entries.{ends_of, entry_of}
use Rattle.systems.proofs.Contents.{accepted_place}
use Rattle.systems.proofs.draft.Draft.set.Goals as goal

pub returns : goal.returns
returns c =
    let d = c.args.self.now in
    let e = c.in_ok-entry.entry in
    let made : entry_of c.args.low c.args.high ≡ Ok (ends_of e) = search rules in
    accepted_place d.size.rows d.entries c.args.place c.args.low c.args.high e (omega arith) made
