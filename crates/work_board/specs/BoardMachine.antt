-- The Board machine: what workers do on a draw board and a mark board, one event after the other.
use Rattle.std.specs.Prelude.{ℕ, ◌+◌, ◌==◌, ltb, Bool, true, false, List, [], ◌∷◌, ◌++◌, map, filter, replicate, fold, flat_map, slice_set, slice_index_or, if◌then◌else◌, Option, Some, None}
use Rattle.std.specs.List.{list_any, range_with_len}

-- the numbers that a worker drew, and whether a draw has told it that none is left
pub record Worker : Type 0 where
  pub drawn : List ℕ
  pub closed : Bool

-- the next number, the workers, and each marked bit with the worker that marked it first
pub record Machine : Type 0 where
  pub next : ℕ
  pub workers : List Worker
  pub markers : List (ℕ × ℕ)

pub data Event : Type 0 where
  Draw : ℕ → Event
  Mark : ℕ → ℕ → Event

abbrev pub fresh : Worker
fresh = record { drawn = []; closed = false }

-- at first no number is drawn and no bit is marked
abbrev pub opened : ℕ → Machine
opened workers = record { next = 0; workers = replicate workers fresh; markers = [] }

-- a worker that there isn't counts as closed
abbrev pub worker_at : List Worker → ℕ → Worker
worker_at workers w = slice_index_or workers w (record { drawn = []; closed = true })

-- what a draw answers where it finds this number next
abbrev pub answer : ℕ → ℕ → Option ℕ
answer units next = if ltb next units then Some next else None

-- and what it makes of the worker
abbrev pub after_draw : ℕ → ℕ → Worker → Worker
after_draw units next worker =
    if ltb next units
    then record { drawn = worker.drawn ++ next ∷ []; closed = worker.closed }
    else record { drawn = worker.drawn; closed = true }

abbrev pub draw : ℕ → ℕ → Machine → Machine
draw units w m =
    let worker = worker_at m.workers w in
    if worker.closed
    then m
    else record {
      next = if ltb m.next units then m.next + 1 else m.next;
      workers = slice_set m.workers w (after_draw units m.next worker);
      markers = m.markers;
    }

abbrev pub is_marked : List (ℕ × ℕ) → ℕ → Bool
is_marked markers bit = list_any (λ marker. marker.0 == bit) markers

abbrev pub mark : ℕ → ℕ → Machine → Machine
mark w bit m =
    if is_marked m.markers bit
    then m
    else record { next = m.next; workers = m.workers; markers = m.markers ++ (bit, w) ∷ [] }

-- the bits whose first marker a worker is
abbrev pub marked_by : ℕ → Machine → List ℕ
marked_by w m = map (λ marker. marker.0) (filter (λ marker. marker.1 == w) m.markers)

abbrev pub event : ℕ → Event → Machine → Machine
event units (Draw w) m = draw units w m
event units (Mark w bit) m = mark w bit m

abbrev pub after : ℕ → List Event → Machine → Machine
after units events m = fold (λ m e. event units e m) m events

-- all numbers that workers drew
abbrev pub all_drawn : Machine → List ℕ
all_drawn m = flat_map (λ worker. worker.drawn) m.workers

-- f of each of the numbers stands at the place of that number, and `blank` at any other
abbrev pub gather : {A : Type 0} → A → (ℕ → A) → ℕ → List ℕ → List A
gather blank f units numbers =
    fold (λ results k. slice_set results k (f k)) (replicate units blank) numbers

-- what one thread makes of the units
abbrev pub one_thread : {A : Type 0} → (ℕ → A) → ℕ → List A
one_thread f units = map f (range_with_len 0 units)
