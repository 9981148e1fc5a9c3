-- What contracts say of the boards' passes: whose they are, and which event a draw or a mark is.
use Rattle.std.specs.Prelude.{◌≡◌, ℕ, ltb, not, Bool, Option}
use Rattle.work_board.specs.declared.pass_view.PassView.{PassView}
use Rattle.work_board.specs.declared.draw_pass.DrawPass.{DrawPass}
use Rattle.work_board.specs.declared.draw_pass.DrawBoard.{DrawBoard}
use Rattle.work_board.specs.declared.mark_pass.MarkPass.{MarkPass}
use Rattle.work_board.specs.declared.mark_pass.MarkBoard.{MarkBoard}
use Rattle.work_board.specs.BoardMachine.{Machine, Worker, answer, after_draw, is_marked, mark, marked_by}
use Rattle.work_board.specs.Views.{nones}

abbrev pub view_of : DrawPass → PassView
view_of pass = pass.seat.me.0

-- the pass came from this board
abbrev pub IsPassOf : DrawBoard → DrawPass → Type 0
IsPassOf board pass =
    (pass.seat.table_id ≡ board.table.shared.table_id) × ((view_of pass).size ≡ board.units)

-- the pass as a worker of the Board machine
abbrev pub worker_of : PassView → Worker
worker_of v = record { drawn = v.listed; closed = ltb 0 (nones v) }

-- a draw is the machine's event at some next number: that is what the one atomic step found
abbrev pub IsDraw : ℕ → PassView → Option ℕ → PassView → Type 0
IsDraw units old result new =
    (next : ℕ) × (result ≡ answer units next)
    × (worker_of new ≡ after_draw units next (worker_of old))

abbrev pub mark_view : MarkPass → PassView
mark_view pass = pass.seat.me.0

abbrev pub IsMarkPassOf : MarkBoard → MarkPass → Type 0
IsMarkPassOf board pass =
    (pass.seat.table_id ≡ board.table.shared.table_id) × ((mark_view pass).size ≡ board.bits)

-- a mark is the machine's event of some worker, whose bits are those that the pass lists
abbrev pub IsMark : ℕ → PassView → Bool → PassView → Type 0
IsMark bit old result new =
    (m : Machine) × (w : ℕ) × (result ≡ not (is_marked m.markers bit))
    × (marked_by w m ≡ old.listed) × (marked_by w (mark w bit m) ≡ new.listed)
