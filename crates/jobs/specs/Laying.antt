-- How a writer of jobs goes on, piece by piece.
use Rattle.std.specs.Prelude.{◌≡◌, ℕ, ◌+◌, ◌≤◌, List, length}
use Rattle.jobs.specs.declared.writer.Writer.{Writer}
use Rattle.jobs.specs.Writing.{overwritten}

-- there is room for the bytes from where the writer stands
abbrev pub Room : Writer → List ℕ → Type 0
Room w bytes = w.at + length bytes ≤ length w.buffer.now

-- the writer stands behind the bytes, which it wrote over the same buffer
pub record Wrote (was is : Writer) (bytes : List ℕ) : Type 0 where
  pub same : is.buffer.ghost_name ≡ was.buffer.ghost_name
  pub end : is.at ≡ was.at + length bytes
  pub stands : is.buffer.now ≡ overwritten was.buffer.now was.at bytes
