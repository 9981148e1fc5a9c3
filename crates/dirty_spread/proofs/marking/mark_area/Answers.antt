use Rattle.std.proofs.Common.{◌≡◌, ◌<◌, ℕ, ◌+◌, ◌&&◌, ◌||◌, ◌⊎◌, Bool, true, false, List, take, length, get_or, sym, ap, subst, ◌∙◌, ⊎_elim, inl, inr}
use Rattle.std.specs.List.{Contains}
use Rattle.std.proofs.lemmas.Bool.{and_from, and_parts, or_cases}
use Rattle.std.proofs.lemmas.List.{take_all}
use Rattle.std.proofs.lemmas.List.Folds.{list_any_at, list_any_more}
use Rattle.calc_addr.specs.Places.{Place, Rectangle, Rows, covers}
use Rattle.cell_runs.specs.CellLists.{all_cells}
use Rattle.run_unions.specs.Unions.{is_in}
use Rattle.dirty_spread.specs.Marking.{IsFormulaIn, Marks, is_in_any}
use Rattle.dirty_spread.proofs.Cells.{in_runs, runs_in}
use Rattle.dirty_spread.proofs.Stepping.{marked_as, marked_then, none_marked}
use Rattle.dirty_spread.proofs.marking.mark_area.Goals as goal
use Rattle.dirty_spread.proofs.marking.mark_area.Goals.{in-Some+in_ok-mark_run, in_default}

module _ (cells : List Place) (area : Rectangle) (runs : List Rows) (are : all_cells runs ≡ cells) (i : ℕ) (run : Rows) (within : i < length runs) (at : run ≡ get_or runs i run) where
  abbrev IsDone : ℕ → Place → Type 0
  IsDone n q = (is_in_any q (take n runs) ≡ true) × (covers area q ≡ true)

  held : (q : Place) → is_in q run ≡ true → Contains cells q
  held q h = subst (λ cs. Contains cs q) are (in_runs runs q (list_any_at (is_in q) runs i run within (subst (λ (r : Rows). is_in q r ≡ true) at h)))

  one_more : (q : Place) → is_in_any q (take (i + 1) runs) ≡ true → (is_in_any q (take i runs) ≡ true) ⊎ (is_in q run ≡ true)
  one_more q h =
      or_cases (is_in_any q (take i runs)) (is_in q run)
      (sym (list_any_more (is_in q) runs i run within ∙ ap (λ (r : Rows). is_in_any q (take i runs) || is_in q r) (sym at)) ∙ h)

  module _ {old mid : List Bool} {x y : List Rows} (done : Marks cells (IsDone i) (IsFormulaIn cells area) old mid x y) where
    more_part : {new : List Bool} {z : List Rows} (part : Rows) → ((q : Place) → is_in q part ≡ (is_in q run && covers area q)) → Marks cells (λ q. is_in q part ≡ true) (λ q. is_in q part ≡ true) mid new y z → Marks cells (IsDone (i + 1)) (IsFormulaIn cells area) old new x z
    more_part part is marks =
        marked_as cells
        (λ q h. ⊎_elim (λ (e : is_in_any q (take i runs) ≡ true). inl (e, h.1)) (λ (e : is_in q run ≡ true). inr (is q ∙ and_from (is_in q run) (covers area q) e h.1)) (one_more q h.0))
        (λ q h. h)
        (marked_then cells done
        (marked_as cells (λ q h. h) (λ q h. let parts = and_parts (is_in q run) (covers area q) (sym (is q) ∙ h) in (held q parts.0, parts.1)) marks))

    more_none : ((q : Place) → (is_in q run && covers area q) ≡ false) → Marks cells (IsDone (i + 1)) (IsFormulaIn cells area) old mid x y
    more_none none =
        marked_as cells
        (λ q h. ⊎_elim (λ (e : is_in_any q (take i runs) ≡ true). (e, h.1)) (λ (e : is_in q run ≡ true). let both = and_from (is_in q run) (covers area q) e h.1 in let no_one = none q in absurd (cc)) (one_more q h.0))
        (λ q h. h)
        done

pub loop-run-init : goal.loop-run-init
loop-run-init c = marked_as c.args.formulas.now (λ q h. cc) (λ q h. h) (none_marked c.args.formulas.now (IsFormulaIn c.args.formulas.now c.args.area.now) c.args.marks.now c.args.found.now.items)

pub mark_run-requires-clause-formulas : goal.mark_run-requires-clause-formulas
mark_run-requires-clause-formulas c = λ q h.
    held c.args.formulas.now c.args.area.now c.runs-run-items.result.now c.runs-run-items.ensures c.loop-run.run-index c.run-item.result c.loop-run-test.true c.run-item.is q
    (and_parts (is_in q c.run-item.result) (covers c.args.area.now q) (sym (c.in-Some.ensures.some q) ∙ h)).0

pub loop-run-preserved : goal.loop-run-preserved
loop-run-preserved c =
    let cells = c.args.formulas.now in
    let area = c.args.area.now in
    let runs = c.runs-run-items.result.now in
    let i = c.loop-run.run-index in
    let run = c.run-item.result in
    elim c.match-part_in.branch [
      | in-Some+in_ok-mark_run w ↦
          subst (λ ms. Marks cells (IsDone cells area runs c.runs-run-items.ensures i run c.loop-run-test.true c.run-item.is (i + 1)) (IsFormulaIn cells area) c.args.marks.now ms c.args.found.now.items c.match-part_in.found.items) (sym w.marks-is)
          (subst (λ fs. Marks cells (IsDone cells area runs c.runs-run-items.ensures i run c.loop-run-test.true c.run-item.is (i + 1)) (IsFormulaIn cells area) c.args.marks.now w.mark_run.new.marks c.args.found.now.items fs.items) (sym w.found-is)
          (more_part cells area runs c.runs-run-items.ensures i run c.loop-run-test.true c.run-item.is c.loop-run.invariant w.in-Some.part w.in-Some.ensures.some w.in_ok-mark_run.ensures))
      | in_default w ↦
          subst (λ ms. Marks cells (IsDone cells area runs c.runs-run-items.ensures i run c.loop-run-test.true c.run-item.is (i + 1)) (IsFormulaIn cells area) c.args.marks.now ms c.args.found.now.items c.match-part_in.found.items) (sym w.marks-is)
          (subst (λ fs. Marks cells (IsDone cells area runs c.runs-run-items.ensures i run c.loop-run-test.true c.run-item.is (i + 1)) (IsFormulaIn cells area) c.args.marks.now c.loop-run.marks c.args.found.now.items fs.items) (sym w.found-is)
          (more_none cells area runs c.runs-run-items.ensures i run c.loop-run-test.true c.run-item.is c.loop-run.invariant w.in_default.ensures.none))
    ]

pub returns : goal.returns
returns c =
    let runs = c.runs-run-items.result.now in
    marked_as c.args.formulas.now
    (λ q h. (ap (is_in_any q) (take_all c.loop-run.run-index runs c.loop-run-test.false) ∙ runs_in runs q (subst (λ cs. Contains cs q) (sym c.runs-run-items.ensures) h.0), h.1))
    (λ q h. h)
    c.loop-run.invariant
