-- A desk and a sink over a reader and a writer: what these have left and hold, where they say so. A real file, standard
-- input and standard output don't.
use Rattle.std.specs.Prelude.{ℕ, Bool, List, Option}

-- whether a book is open, what its file and the script's reader have left, and how many calls have failed
pub record PipeDeskState : Type 0 where
  pub is_open : Bool
  pub file : Option (List ℕ)
  pub script : Option (List ℕ)
  pub faults : ℕ

-- what the writer holds, and how many calls have failed
pub record PipeSinkState : Type 0 where
  pub writer : Option (List ℕ)
  pub faults : ℕ
