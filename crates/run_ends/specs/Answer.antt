-- What a run of a program answers, and that it gave the answer. Each program says which answers are
-- its own.
use Rattle.std.specs.Prelude.{◌≡◌, ℕ, List, Option}
use Rattle.cfg_io.specs.Told.{AppendsPrefix}

-- An exit status, and what goes to standard output and to standard error.
pub record Answer (Status : Type 0) : Type 0 where
  pub status : Status
  pub output : List ℕ
  pub error : List ℕ

-- A run that ended in this way gave an answer: its status is the answer's, and standard output and
-- standard error took the texts of it.
pub record GivesAnswer {Status : Type 0} (IsAnswer : Answer Status → Type 0) (end : Status)
    (Output Error : List ℕ → Type 0) : Type 0 where
  pub answer : Answer Status
  pub is_answer : IsAnswer answer
  pub status : end ≡ answer.status
  pub output : Output answer.output
  pub error : Error answer.error

-- A run whose writing failed: standard output grew by a part, from its front, of the text of an
-- answer with this status.
pub record GivesAnswerPart {Status : Type 0} (IsAnswer : Answer Status → Type 0) (done : Status)
    (old new : Option (List ℕ)) : Type 0 where
  pub answer : Answer Status
  pub is_answer : IsAnswer answer
  pub status : answer.status ≡ done
  pub output : AppendsPrefix old answer.output new
