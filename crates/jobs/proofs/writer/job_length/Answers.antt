use Rattle.std.proofs.Common.{◌≡◌, ◌∙◌, count_by, not, ap, arith, rules}
use Rattle.systems.specs.Entries.{ends_of}
use Rattle.systems.specs.Tables.{table_of}
use Rattle.systems.proofs.Walks.{count-map}
use Rattle.jobs.specs.Writing.{left_out}
use Rattle.jobs.proofs.Records.{records-length, written-length}
use Rattle.jobs.proofs.writer.job_length.Goals as goal

pub returns : goal.returns
returns c =
    let t = table_of c.args.system.now in
    let es = c.entries.result.now in
    let counted : c.count-records.result ≡ count_by (λ e. not (left_out (ends_of e))) es = search rules in
    let all = counted ∙ count-map (λ e. not (left_out e)) ends_of es ∙ ap (count_by (λ e. not (left_out e))) c.entries.ensures in
    omega (arith, all, records-length 0 t.entries, written-length t)
