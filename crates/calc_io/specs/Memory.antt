-- Desks and sinks in memory, as their users see them.
use Rattle.std.specs.Prelude.{◌≡◌, ℕ, List, length, take, min, Contains}
use Rattle.calc_io.specs.Desk.{Books}
use Rattle.calc_io.specs.Faults.{one_more}

-- a desk: its books by name, what is left of the open one and of the script, and how many calls have failed
pub record DeskState : Type 0 where
  pub books : Books
  pub book_left : List ℕ
  pub script_left : List ℕ
  pub faults : ℕ

-- a sink: what was written, how many more bytes it takes, and how many calls have failed
pub record SinkState : Type 0 where
  pub written : List ℕ
  pub room : ℕ
  pub faults : ℕ

-- the front of what is left went to the front of a buffer: as much as is left and as there is place for, but at most
-- so many bytes
pub record IsRead (left : List ℕ) (most : ℕ) (buf : List ℕ) (count : ℕ) : Type 0 where
  pub as_many : count ≡ min (min (length left) (length buf)) most
  pub moved : take count buf ≡ take count left

-- a plan of failures: the numbers of the calls that fail, how many calls were made, and the most bytes that one moves
pub record Plan : Type 0 where
  pub failing : List ℕ
  pub calls : ℕ
  pub piece : ℕ

-- the next call fails
abbrev pub FailsNext : Plan → Type 0
FailsNext plan = Contains plan.failing (one_more plan.calls)

-- the plan after one more call
abbrev pub after_call : Plan → Plan
after_call plan = record plan { calls = one_more plan.calls }

-- a desk with such a plan
pub record PlannedDesk : Type 0 where
  pub books : Books
  pub book_left : List ℕ
  pub script_left : List ℕ
  pub faults : ℕ
  pub plan : Plan

-- a sink with such a plan
pub record PlannedSink : Type 0 where
  pub written : List ℕ
  pub room : ℕ
  pub faults : ℕ
  pub plan : Plan

-- the desk after a call that failed
abbrev pub desk_after_failure : PlannedDesk → PlannedDesk
desk_after_failure desk = record desk { plan = after_call desk.plan; faults = one_more desk.faults }

-- the sink after a call that failed
abbrev pub sink_after_failure : PlannedSink → PlannedSink
sink_after_failure sink = record sink { plan = after_call sink.plan; faults = one_more sink.faults }
