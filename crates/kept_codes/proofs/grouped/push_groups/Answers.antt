use Rattle.std.proofs.Common.{◌≡◌, ℕ, suc, ◌∷◌, ◌++◌, drop, sym, ap, subst, ◌∙◌}
use Rattle.std.specs.List.{AllPairs}
use Rattle.std.proofs.Math.Seq.{drop-cons}
use Rattle.calc_addr.specs.Places.{IsBefore}
use Rattle.run_tables.specs.Rows.{AreRows}
use Rattle.formula_groups.specs.declared.group.Group.{Group}
use Rattle.cell_runs.specs.CellLists.{LieBefore}
use Rattle.kept_codes.specs.FormulaCells.{cells_of_groups}
use Rattle.kept_codes.proofs.FormulaRows.{behind_all}
use Rattle.kept_codes.proofs.grouped.push_groups.Goals as goal

pub push-requires : goal.push-requires
push-requires c =
    let g : Group = c.group-item.result in
    let i : ℕ = c.loop-group.group-index in
    let gs = c.args.groups.now in
    let parted : drop i gs ≡ g ∷ drop (suc i) gs = drop-cons gs i g c.loop-group-test.true ∙ ap (λ (h : Group). h ∷ drop (suc i) gs) (sym c.group-item.is) in
    subst (LieBefore c.loop-group.out) (sym c.rows_in.ensures)
    (behind_all c.loop-group.out c.args.number g (drop (suc i) gs) (subst (λ (h : Group). AreRows h.first h.last) (sym c.group-item.is) (c.requires.rows i g c.loop-group-test.true)).in_order
    (subst (λ hs. AllPairs IsBefore (c.loop-group.out ++ cells_of_groups c.args.number hs)) parted
    (subst (λ ps. AllPairs IsBefore ps) (sym c.loop-group.invariant) c.requires.in_order)))
