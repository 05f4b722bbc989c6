use Rattle.std.proofs.Common.{◌+◌, map, length, sym, ap, ◌∙◌, subst, ℕ, List, arith}
use Rattle.systems.specs.Entries.{ends_of}
use Rattle.jobs.specs.Laying.{Room, Wrote}
use Rattle.jobs.specs.Writing.{record_of, records_from}
use Rattle.jobs.proofs.Records.{records_within, entries_few, wrote_none, wrote_on, room_on, passed, passed_more, passed_all}
use Rattle.jobs.proofs.writer.Writer.records.Goals as goal

pub overflow_cast-place : goal.overflow_cast-place
overflow_cast-place c = let few = entries_few c.args.system.now _ c.entries-entry-items.ensures in omega arith

pub record-requires : goal.record-requires
record-requires c =
    let es = c.entries-entry-items.result.now in
    let k = c.loop-place.place in
    let more = passed_more es k c.entry-item.result c.loop-place-test.true c.entry-item.is in
    let whole = ap (λ xs. length (records_from 0 xs)) c.entries-entry-items.ensures in
    let room : Room c.args.self.now (passed es (k + 1)) = omega (arith, c.requires, records_within (map ends_of es) (k + 1)) in
    room_on c.args.self.now c.loop-place.self (passed es k) c.loop-place.invariant (record_of k (ends_of c.entry-item.result)) (subst (Room c.args.self.now) more room)

pub loop-place-init : goal.loop-place-init
unfolding records_from
loop-place-init c = wrote_none c.args.self.now

pub loop-place-preserved : goal.loop-place-preserved
loop-place-preserved c =
    let es = c.entries-entry-items.result.now in
    let k = c.loop-place.place in
    let more = passed_more es k c.entry-item.result c.loop-place-test.true c.entry-item.is in
    let whole = ap (λ xs. length (records_from 0 xs)) c.entries-entry-items.ensures in
    let room : Room c.args.self.now (passed es (k + 1)) = omega (arith, c.requires, records_within (map ends_of es) (k + 1)) in
    subst (λ (bs : List ℕ). Wrote c.args.self.now c.record.new.self bs) (sym more)
    (wrote_on c.args.self.now c.loop-place.self (passed es k) c.loop-place.invariant c.record.new.self (record_of k (ends_of c.entry-item.result)) (subst (Room c.args.self.now) more room) c.record.ensures)

pub returns : goal.returns
returns c =
    let es = c.entries-entry-items.result.now in
    let all = passed_all es c.loop-place.place c.loop-place-test.false ∙ ap (records_from 0) c.entries-entry-items.ensures in
    subst (λ (bs : List ℕ). Wrote c.args.self.now c.loop-place.self bs) all c.loop-place.invariant
