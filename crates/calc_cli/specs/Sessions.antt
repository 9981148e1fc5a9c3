-- The session that a workbook and its watchers show, and its answers to lines.
use Rattle.std.specs.Prelude.{◌≡◌, ℕ, List, Result, IfOk}
use Rattle.std.specs.declared.alloc.AllocError.{AllocError}
use Rattle.calc_cli.specs.Output.{Answer, Session}
use Rattle.calc_cli.specs.declared.replies.Reply.{Reply}
use Rattle.calc_watch.specs.Reports.{Watched}
use Rattle.workbook.specs.Workbook.{State, stale_of}

pub record SessionState : Type 0 where
  pub workbook : State
  pub watchers : List Watched
  pub stock : ℕ

abbrev pub session_of : SessionState → Session
session_of state = record {
  book = state.workbook.book;
  stale = stale_of state.workbook;
  watchers = state.watchers;
  stock = state.stock;
}

-- where memory sufficed, the reply and the session after it are those of the answer
abbrev pub Replies : Result Reply AllocError → Session → Answer → Type 0
Replies result session answer = IfOk result (λ (reply : Reply). answer ≡ record { session = session; text = reply.text.items; refused = reply.refused })
