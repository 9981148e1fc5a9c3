use Rattle.std.proofs.Common.{◌≡◌, ◌+◌, ◌++◌, ◌∷◌, [], length, arith, sym, ap, subst, ◌∙◌}
use Rattle.std.proofs.lemmas.Grind.{flat_map-append}
use Rattle.std.proofs.lemmas.List.{length-append, append-nil}
use Rattle.calc_addr.specs.Places.{IsRows}
use Rattle.cell_runs.specs.CellLists.{all_cells, cells_of, LieBefore, IsList}
use Rattle.cell_runs.proofs.Numbers.{length-cells}
use Rattle.cell_runs.proofs.Indexed.{index-total, index-push}
use Rattle.cell_runs.proofs.cells.CellRuns.append.Goals as goal

pub overflow_add-self : goal.overflow_add-self
overflow_add-self c =
    let v = c.self.inside in
    omega (arith, c.self.invariant.counted, index-total 0 0 v.runs.items v.places.items c.self.invariant.indexed (omega arith) (omega arith), c.count.ensures)

pub invariant_of-self-2 : goal.invariant_of-self-2
invariant_of-self-2 c =
    let rs = c.self.inside.runs.items in
    let ss = c.self.inside.places.items in
    let run = c.args.run in
    let rows : IsRows run = subst IsRows c.run.view_is c.run.invariant in
    let before = subst (λ v. LieBefore v run) (sym c.self.view_is) c.requires in
    let pushed = index-push 0 0 rs ss run c.self.inside.len c.self.invariant.indexed (omega arith) rows before (omega (arith, c.self.invariant.counted)) in
    let runs : c.push_reserved.new.self.items ≡ rs ++ run ∷ [] = c.push_reserved.ensures.items ∙ ap (λ v. v ++ run ∷ []) c.reserve.ensures.items in
    let cells : all_cells (rs ++ run ∷ []) ≡ all_cells rs ++ cells_of run = flat_map-append cells_of rs (run ∷ []) ∙ ap (λ v. all_cells rs ++ v) (append-nil (cells_of run)) in
    let len : c.self.inside.len + c.count.result ≡ length (all_cells (rs ++ run ∷ [])) =
    omega (arith, c.self.invariant.counted, c.count.ensures, ap length cells, length-append (all_cells rs) (cells_of run), length-cells run) in
    subst (λ v. IsList v c.push.new.self.items (c.self.inside.len + c.count.result)) (sym runs)
    (subst (λ v. IsList (rs ++ run ∷ []) v (c.self.inside.len + c.count.result)) (sym c.in_ok-push.ensures.items) (record { indexed = pushed; counted = len }))
