use Rattle.std.proofs.Common.{◌≡◌, ◌+◌, ◌-◌, ℕ, max, ◌++◌, sym, ap, subst, ◌∙◌, arith}
use Rattle.calc_addr.specs.Places.{IsRows, Rows}
use Rattle.cell_runs.specs.CellLists.{cells_of, first_number, number_of}
use Rattle.dirty_spread.specs.Sweeping.{IsSwept}
use Rattle.dirty_spread.proofs.Sweeps.{lie_before, swept_more, swept_over}
use Rattle.dirty_spread.proofs.union.push_runs.Goals as goal
use Rattle.dirty_spread.proofs.union.push_runs.Goals.{then-first-last+in_ok-push, else-first-last}

abbrev last_number : Rows → ℕ
last_number run = number_of run.sheet run.col run.last

pub push-requires : goal.push-requires
push-requires c =
    let run : Rows = c.run-item.result in
    let rows : IsRows run = subst IsRows c.run.view_is c.run.invariant in
    let first : c.max-first.result ≡ max (first_number run) c.loop-run.next = c.max-first.ensures ∙ ap (λ n. max n c.loop-run.next) c.first_number-begin.ensures in
    let last : c.number-last.result ≡ last_number run = c.number-last.ensures ∙ ap last_number c.run.view_is in
    let part : c.rows_from.result ≡ record run { first = run.first + (c.max-first.result - first_number run) } = c.rows_from.ensures ∙ ap (λ n. record run { first = run.first + (c.max-first.result - n) }) c.first_number-begin.ensures in
    lie_before c.args.runs.now c.requires.sorted c.loop-run.run-index c.loop-run.next c.loop-run.cells c.loop-run.invariant run c.loop-run-test.true c.run-item.is rows
    c.max-first.result first (omega (arith, last)) c.rows_from.result part

pub loop-run-preserved : goal.loop-run-preserved
loop-run-preserved c =
    let run : Rows = c.run-item.result in
    let rows : IsRows run = subst IsRows c.run.view_is c.run.invariant in
    let first : c.max-first.result ≡ max (first_number run) c.loop-run.next = c.max-first.ensures ∙ ap (λ n. max n c.loop-run.next) c.first_number-begin.ensures in
    let last : c.number-last.result ≡ last_number run = c.number-last.ensures ∙ ap last_number c.run.view_is in
    elim c.if-first-last.branch [
      | then-first-last+in_ok-push w ↦
          let part : w.rows_from.result ≡ record run { first = run.first + (c.max-first.result - first_number run) } = w.rows_from.ensures ∙ ap (λ n. record run { first = run.first + (c.max-first.result - n) }) c.first_number-begin.ensures in
          let more : IsSwept c.args.runs.now (c.loop-run.run-index + 1) (last_number run + 1) (c.loop-run.cells ++ cells_of w.rows_from.result) =
          swept_more c.args.runs.now c.requires.sorted c.loop-run.run-index c.loop-run.next c.loop-run.cells c.loop-run.invariant run c.loop-run-test.true c.run-item.is rows
          c.max-first.result first (omega (arith, last, w.if-first-last.true)) w.rows_from.result part in
          let next : last_number run + 1 ≡ c.if-first-last.next = ap (λ n. n + 1) (sym last) ∙ sym w.next-is in
          let cells : c.loop-run.cells ++ cells_of w.rows_from.result ≡ c.if-first-last.cells = sym w.in_ok-push.ensures.ok ∙ sym w.cells-is in
          subst (λ n. IsSwept c.args.runs.now (c.loop-run.run-index + 1) n c.if-first-last.cells) next
          (subst (λ ps. IsSwept c.args.runs.now (c.loop-run.run-index + 1) (last_number run + 1) ps) cells more)
      | else-first-last w ↦
          let over : IsSwept c.args.runs.now (c.loop-run.run-index + 1) c.loop-run.next c.loop-run.cells =
          swept_over c.args.runs.now c.requires.sorted c.loop-run.run-index c.loop-run.next c.loop-run.cells c.loop-run.invariant run c.loop-run-test.true c.run-item.is rows (omega (arith, last, first, w.if-first-last.false, rows.in_order)) in
          subst (λ n. IsSwept c.args.runs.now (c.loop-run.run-index + 1) n c.if-first-last.cells) (sym w.next-is)
          (subst (λ ps. IsSwept c.args.runs.now (c.loop-run.run-index + 1) c.loop-run.next ps) (sym w.cells-is) over)
    ]
