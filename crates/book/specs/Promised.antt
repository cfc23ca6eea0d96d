-- The contracts of the calls: what each does, that it leads on every history, and what it promises of its answer after every history.
use Rattle.std.specs.Prelude.{ℕ, ◌<◌, List, length, is_ok, Result}
use Rattle.refusal.specs.declared.Refusal.{Refusal}
use Rattle.memory.specs.Mem.{Knocked}
use Rattle.tally.specs.Tally.{write, read, mend, sweep, knock}
use Rattle.tally.specs.Promises.{ReadPromise, MendPromise, SweepPromise}
use Rattle.book.specs.Model.{BookModel, setting, cell, rows_of}
use Rattle.book.specs.Calls.{Wrote, Looked, Mended, Swept, Leads, ProperRead, answered}

pub record WriteCall {U : Type 0} (b b' : BookModel) (r : ℕ) (bytes : List ℕ) (x : Result U Refusal) : Type 0 where
  pub done : Wrote b b' r bytes x
  pub history : Leads (write r bytes) b b'

-- `before` and `after` are the buffer to be filled
pub record ReadCall (b : BookModel) (r : ℕ) (before after : List ℕ) (x : Result ℕ Refusal) : Type 0 where
  pub done : Looked b r before after x
  pub history : Leads (read r (length before)) b b
  pub promise : ProperRead b r before → ReadPromise (setting b) r (cell b) (answered b after x)

pub record MendCall (b b' : BookModel) (r : ℕ) (x : Result ℕ Refusal) : Type 0 where
  pub done : Mended b b' r x
  pub history : Leads (mend r) b b'
  pub promise : r < rows_of b → MendPromise (setting b) r (cell b) (is_ok x)

pub record SweepCall (b b' : BookModel) (accepted refused turned : ℕ) : Type 0 where
  pub done : Swept b b' accepted refused turned
  pub history : Leads sweep b b'
  pub promise : SweepPromise (setting b) (cell b) refused

pub record KnockCall {U : Type 0} (b b' : BookModel) (from len : ℕ) (x : Result U Refusal) : Type 0 where
  pub done : Knocked b.memory b'.memory from len x
  pub history : Leads (knock from len) b b'
