use Rattle.std.proofs.Common.{◌≡◌, ℕ, [], ◌∷◌, sym, ◌∙◌, subst, arith}
use Rattle.systems.specs.Tables.{table_of}
use Rattle.jobs.specs.Laying.{Room, Wrote}
use Rattle.jobs.specs.Writing.{written}
use Rattle.jobs.proofs.Records.{written_short, overwritten_front, written-length, size_room, records_room, end_room, job_wrote, writes_refused, writes_done}
use Rattle.jobs.proofs.ReadBack.{parsed-written}
use Rattle.jobs.proofs.writer.write.Goals as goal

pub returns-then-buffer-length : goal.returns-then-buffer-length
returns-then-buffer-length c =
    let t = table_of c.args.system.now in
    record { value = writes_refused c.args.buffer.now (written t) (omega arith); short = written_short c.args.system.now; read_back = parsed-written c.args.system.now }

pub put-requires : goal.put-requires
put-requires c = omega (arith, written-length (table_of c.args.system.now))

pub put-requires-2 : goal.put-requires-2
put-requires-2 c =
    let t = table_of c.args.system.now in
    subst (λ (n : ℕ). Room c.put.new.self (n ∷ [])) (sym c.size.ensures.value) (size_room _ t c.put.new.self c.put.ensures (omega arith))

pub records-requires : goal.records-requires
records-requires c =
    let t = table_of c.args.system.now in
    let second = subst (λ (n : ℕ). Wrote c.put.new.self c.put-2.new.self (n ∷ [])) c.size.ensures.value c.put-2.ensures in
    records_room _ t c.put.new.self c.put.ensures (omega arith) c.put-2.new.self second

pub put-requires-3 : goal.put-requires-3
put-requires-3 c =
    let t = table_of c.args.system.now in
    let second = subst (λ (n : ℕ). Wrote c.put.new.self c.put-2.new.self (n ∷ [])) c.size.ensures.value c.put-2.ensures in
    end_room _ t c.put.new.self c.put.ensures (omega arith) c.put-2.new.self second c.records.new.self c.records.ensures

pub returns : goal.returns
returns c =
    let t = table_of c.args.system.now in
    let second = subst (λ (n : ℕ). Wrote c.put.new.self c.put-2.new.self (n ∷ [])) c.size.ensures.value c.put-2.ensures in
    let wrote = job_wrote _ t c.put.new.self c.put.ensures (omega arith) c.put-2.new.self second c.records.new.self c.records.ensures c.put-3.new.self c.put-3.ensures in
    let back : c.buffer-1.given.0 ≡ c.put-3.new.self.buffer.now = c.buffer-1.given.1.1 (sym wrote.same) in
    let made = back ∙ wrote.stands ∙ overwritten_front c.args.buffer.now (written t) in
    record {
      value = writes_done c.args.buffer.now _ (written t) c.job_length-length.result (omega arith) c.job_length-length.ensures made;
      short = written_short c.args.system.now;
      read_back = parsed-written c.args.system.now;
    }
