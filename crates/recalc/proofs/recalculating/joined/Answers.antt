use Rattle.std.proofs.Common.{◌≡◌, ◌||◌, ◌++◌, ap, sym, ◌∙◌}
use Rattle.std.proofs.lemmas.List.Folds.{list_any-append}
use Rattle.std.proofs.lemmas.Result.{IfOk-weaker}
use Rattle.calc_addr.specs.Places.{Place}
use Rattle.run_unions.specs.Unions.{AreUnion, is_in}
use Rattle.dirty_spread.specs.Marking.{is_in_any}
use Rattle.dirty_spread.specs.Waves.{has}
use Rattle.recalc.proofs.Listed.{runs_have, union_has}
use Rattle.recalc.proofs.recalculating.joined.Goals as goal

pub returns-clause-cells : goal.returns-clause-cells
returns-clause-cells c =
    IfOk-weaker c.union_of_runs.result (AreUnion c.extend_from_slice-2.new.self.items) (λ cells. (q : Place) → has cells q ≡ (has c.args.one.now q || has c.args.other.now q)) (λ cells union q.
    union_has c.extend_from_slice-2.new.self.items cells union q
    ∙ ap (is_in_any q) c.in_ok-extend_from_slice-2.ensures.items
    ∙ list_any-append (is_in q) c.extend_from_slice.new.self.items c.runs-2.result.now
    ∙ ap (λ runs. is_in_any q runs || is_in_any q c.runs-2.result.now) (c.in_ok-extend_from_slice.ensures.items ∙ ap (λ runs. runs ++ c.runs.result.now) c.new-runs.ensures.items)
    ∙ ap (λ b. b || is_in_any q c.runs-2.result.now) (sym (runs_have c.runs.result.now q) ∙ ap (λ cells. has cells q) c.runs.ensures)
    ∙ ap (λ b. has c.args.one.now q || b) (sym (runs_have c.runs-2.result.now q) ∙ ap (λ cells. has cells q) c.runs-2.ensures)) c.union_of_runs.ensures
