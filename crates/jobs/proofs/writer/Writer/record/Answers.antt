use Rattle.std.proofs.Common.{ℕ, List, length, sym, refl, ap, ◌∙◌, subst, arith}
use Rattle.systems.specs.Entries.{ends_of}
use Rattle.jobs.proofs.Records.{record_none, record_full, overwritten_none}
use Rattle.jobs.specs.Laying.{Wrote}
use Rattle.jobs.specs.Writing.{overwritten}
use Rattle.jobs.proofs.writer.Writer.record.Goals as goal

pub put-requires : goal.put-requires
put-requires c =
    let made = c.record.ensures ∙ sym (record_full c.args.place (ends_of c.args.entry) (sym c.if-not-is_left_out.ensures)) in
    omega (arith, c.requires, ap length made)

pub returns-then-not-is_left_out : goal.returns-then-not-is_left_out
returns-then-not-is_left_out c =
    let made = c.record.ensures ∙ sym (record_full c.args.place (ends_of c.args.entry) (sym c.if-not-is_left_out.ensures)) in
    subst (λ (bs : List ℕ). Wrote c.args.self.now c.put.new.self bs) made c.put.ensures

pub returns-else-not-is_left_out : goal.returns-else-not-is_left_out
returns-else-not-is_left_out c =
    let none = record_none c.args.place (ends_of c.args.entry) (sym c.if-not-is_left_out.ensures) in
    record {
      same = refl;
      end = let l = ap length none in omega arith;
      stands = sym (ap (overwritten c.args.self.now.buffer.now c.args.self.now.at) none ∙ overwritten_none c.args.self.now.buffer.now c.args.self.now.at);
    }
