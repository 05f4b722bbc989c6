-- The record in front is what `next` answered; what it leaves is what is left behind it.
use Rattle.std.proofs.Common.{◌≡◌, ◌+◌, Some, None, Ok, Err, refl, arith, rules}
use Rattle.systems.specs.Tables.{drafted}
use Rattle.jobs.specs.declared.reader.Record.TheVariants.{Size, Entry, End}
use Rattle.jobs.specs.Reading.{byte_at}
use Rattle.jobs.proofs.Progress.{front, refused, size_fits, entry_fits, end_fits, stands_onward, size_walked, entry_walked, end_walked}
use Rattle.jobs.proofs.reader.Reader.record.Goals as goal

pub returns-in_err-next : goal.returns-in_err-next
returns-in_err-next c =
    let was = c.in_err-next.was in
    let f : front c.args.self.now (drafted c.args.draft.now) ≡ Err c.in_err-next.field-0.0 = cc in
    let k = refused c.args.self.now (drafted c.args.draft.now) c.in_err-next.field-0.0 c.requires.open f in
    search rules

pub size-requires : goal.size-requires
size-requires c =
    let was = c.in_ok-next.was in
    let f : front c.args.self.now (drafted c.args.draft.now) ≡ Ok Size = cc in
    size_fits c.args.self.now (drafted c.args.draft.now) c.requires.within f

pub entry-requires : goal.entry-requires
entry-requires c =
    let was = c.in_ok-next.was in
    let f : front c.args.self.now (drafted c.args.draft.now) ≡ Ok Entry = cc in
    entry_fits c.args.self.now (drafted c.args.draft.now) c.requires.within f

pub returns-in-Size : goal.returns-in-Size
returns-in-Size c =
    let was = c.in_ok-next.was in
    let f : front c.args.self.now (drafted c.args.draft.now) ≡ Ok Size = cc in
    let fits = size_fits c.args.self.now (drafted c.args.draft.now) c.requires.within f in
    record {
      walked = size_walked c.args.self.now c.size.new.self c.size.result c.args.draft.now c.size.new.draft f
          c.size.ensures.read c.size.ensures.walked;
      onward = λ ok. stands_onward c.args.self.now c.size.new.self 3 None (omega arith) fits (c.size.ensures.walked ok);
    }

pub returns-in-Entry : goal.returns-in-Entry
returns-in-Entry c =
    let was = c.in_ok-next.was in
    let f : front c.args.self.now (drafted c.args.draft.now) ≡ Ok Entry = cc in
    let fits = entry_fits c.args.self.now (drafted c.args.draft.now) c.requires.within f in
    record {
      walked = entry_walked c.args.self.now c.entry.new.self c.entry.result (drafted c.args.draft.now) (drafted c.entry.new.draft) f
          c.entry.ensures.read c.entry.ensures.walked;
      onward = λ ok. stands_onward c.args.self.now c.entry.new.self 11 (Some (byte_at c.args.self.now.job.now (c.args.self.now.at + 2)))
          (omega arith) fits (c.entry.ensures.walked ok);
    }

pub returns-in-End : goal.returns-in-End
returns-in-End c =
    let was = c.in_ok-next.was in
    let f : front c.args.self.now (drafted c.args.draft.now) ≡ Ok End = cc in
    let fits = end_fits c.args.self.now (drafted c.args.draft.now) c.requires.within f in
    record {
      walked = end_walked c.args.self.now _ (drafted c.args.draft.now) f refl;
      onward = λ ok. record { same = refl; further = omega arith; within = fits };
    }
