-- What holds of the Board machine on every schedule, that is, for every list of events.
use Rattle.std.specs.Prelude.{◌≡◌, ℕ, ◌<◌, ◌≤◌, ◌==◌, ◌++◌, true, length, List, count_by}
use Rattle.work_board.specs.Counts.{times, once_below}
use Rattle.work_board.specs.BoardMachine.{Machine, Event, opened, after, event, worker_at, all_drawn, gather, one_thread}
use Rattle.work_board.specs.Views.{IsDrawEnd}
use Rattle.work_board.specs.declared.pass_view.PassView.{PassView}

-- the machine after some events
abbrev pub run : ℕ → ℕ → List Event → Machine
run units workers events = after units events (opened workers)

-- the numbers below `next` are drawn, each once by all workers together, and no other number
abbrev pub DrawsOnce : Type 0
DrawsOnce =
    (units workers : ℕ) (events : List Event) (x : ℕ)
    → times x (all_drawn (run units workers events)) ≡ once_below x (run units workers events).next

-- no number at or above `units` is drawn
abbrev pub DrawsBelow : Type 0
DrawsBelow = (units workers : ℕ) (events : List Event) → (run units workers events).next ≤ units

-- where a worker is closed, all units are drawn
abbrev pub ClosedAtEnd : Type 0
ClosedAtEnd =
    (units workers : ℕ) (events : List Event) (w : ℕ)
    → w < length (run units workers events).workers
    → (worker_at (run units workers events).workers w).closed ≡ true
    → (run units workers events).next ≡ units

-- a bit has one first marker at most
abbrev pub MarksOnce : Type 0
MarksOnce =
    (units workers : ℕ) (events : List Event) (bit : ℕ)
    → count_by (λ marker. marker.0 == bit) (run units workers events).markers ≤ 1

-- and keeps it
abbrev pub MarkersStay : Type 0
MarkersStay =
    (units : ℕ) (e : Event) (m : Machine)
    → (new : List (ℕ × ℕ)) × ((event units e m).markers ≡ m.markers ++ new)

-- the joined lists of a board's passes hold what the machine's workers drew
abbrev pub DrawnAlike : Type 0
DrawnAlike =
    (units workers : ℕ) (events : List Event) (view : PassView) (end : IsDrawEnd units view)
    → (run units workers events).next ≡ end.bound
    → (x : ℕ) → times x view.listed ≡ times x (all_drawn (run units workers events))

-- f of numbers that are each drawn once, whoever drew them, is what one thread makes of the units
abbrev pub GathersOnce : Type 0 → Type 0
GathersOnce A =
    (blank : A) (f : ℕ → A) (units : ℕ) (numbers : List ℕ)
    → ((x : ℕ) → times x numbers ≡ once_below x units)
    → gather blank f units numbers ≡ one_thread f units

abbrev pub GathersRun : Type 0 → Type 0
GathersRun A =
    (blank : A) (f : ℕ → A) (units workers : ℕ) (events : List Event)
    → (run units workers events).next ≡ units
    → gather blank f units (all_drawn (run units workers events)) ≡ one_thread f units
