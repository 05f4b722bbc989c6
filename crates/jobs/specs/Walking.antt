-- How a walk over a job goes on, record by record.
use Rattle.std.specs.Prelude.{◌≡◌, ℕ, ◌+◌, ◌<◌, ◌≤◌, Bool, true, false, List, length, drop, Ok, Err, Option, Result}
use Rattle.systems.specs.Tables.{Table}
use Rattle.systems.specs.declared.refusal.Refusal.{Refusal}
use Rattle.jobs.specs.declared.reader.Reader.{Reader}
use Rattle.jobs.specs.declared.reader.Stage.{Stage}
use Rattle.jobs.specs.declared.reader.Stage.TheVariants.{First, Entries, Ended}
use Rattle.jobs.specs.Reading.{records, parsed}

-- the reader stands that many bytes on in the same job, among the entries, behind the place before
pub record Stands (was is : Reader) (bytes : ℕ) (before : Option ℕ) : Type 0 where
  pub same : is.job.now ≡ was.job.now
  pub at : is.at ≡ was.at + bytes
  pub stage : is.stage ≡ Entries
  pub previous : is.previous ≡ before

-- an entry that answered r and left the table t: it is what the definition o says
abbrev pub Entered : Result (Unit {0}) Refusal → Table → Result Table Refusal → Type 0
Entered (Ok u) t o = o ≡ Ok t
Entered (Err e) t o = o ≡ Err e

-- what the rest of a job means, with what was read so far
abbrev pub left : Stage → Table → Option ℕ → List ℕ → Result Table Refusal
left First t before bytes = parsed bytes
left Entries t before bytes = records t before 0 bytes
left Ended t before bytes = Ok t

unfoldable pub remaining : Reader → Table → Result Table Refusal
remaining r t = left r.stage t r.previous (drop r.at r.job.now)

abbrev pub has_ended : Stage → Bool
has_ended First = false
has_ended Entries = false
has_ended Ended = true

-- a step that answered r: what was left means what is left now, or it is the refusal
abbrev pub Walked : Result (Unit {0}) Refusal → Result Table Refusal → Result Table Refusal → Type 0
Walked (Ok u) was is = was ≡ is
Walked (Err e) was is = was ≡ Err e

-- the reader stands further on in the same job
pub record Onward (was is : Reader) : Type 0 where
  pub same : is.job.now ≡ was.job.now
  pub further : was.at < is.at
  pub within : is.at ≤ length was.job.now
