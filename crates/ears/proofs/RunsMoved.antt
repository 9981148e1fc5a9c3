-- A run whose rows go together lies in the sheet where its last row does.
use Rattle.std.proofs.Common.{◌≡◌, ℕ, ◌+◌, ◌-◌, ◌≤◌, true, false, cond, Some, None, refl, ap, ◌∙◌, arith}
use Rattle.std.specs.Prelude.{◌==◌, option_map}
use Rattle.std.specs.Option.{ForSome}
use Rattle.std.proofs.lemmas.Bool.Decides.{nat_tests}
use Rattle.calc_addr.specs.declared.cell.TheConstants.{LAST_ROW}
use Rattle.calc_addr.specs.Places.{IsRows, Place, Rows}
use Rattle.ears.specs.declared.row_edit.Change.{Change}
use Rattle.ears.specs.declared.row_edit.Change.TheVariants.{Insertion, Deletion}
use Rattle.ears.specs.declared.row_edit.RowEdit.{RowEdit}
use Rattle.calc_addr.specs.Shifts.{is_deleted, row_after_deletion}
use Rattle.ears.specs.RowEdits.{IsRowEdit, first_cell, place_by, row_by, run_after}

-- the cells of the edited sheet go with their rows
pub place_by_row : (change : Change) (sheet place count : ℕ) (q : Place) → (q.sheet == sheet) ≡ true → place_by change sheet place count q ≡ option_map (λ row. record q { row = row }) (row_by change place count q.row)
place_by_row Insertion sheet place count q here = rw here refl
place_by_row Deletion sheet place count q here = rw here (elim (is_deleted place count q.row) as (λ b. cond b None (Some (record q { row = row_after_deletion place count q.row })) ≡ option_map (λ row. record q { row = row }) (cond b None (Some (row_after_deletion place count q.row)))) [ true ↦ refl | false ↦ refl ])

pub run_by_row : (edit : RowEdit) (run : Rows) (row : ℕ) → (run.sheet == edit.sheet) ≡ true → row_by edit.change edit.place edit.count run.first ≡ Some row → run_after edit run ≡ Some (record run { first = row; last = row + (run.last - run.first) })
run_by_row edit run row here is = ap (option_map _) (place_by_row edit.change edit.sheet edit.place edit.count (first_cell run) here ∙ ap (option_map _) is)

row_from : (change : Change) (place count row to : ℕ) → 1 ≤ place → 1 ≤ row → row_by change place count row ≡ Some to → 1 ≤ to
row_from Insertion place count row to low at_least is = grind (arith, nat_tests)
row_from Deletion place count row to low at_least is = grind (arith, nat_tests)

pub stays_rows : (edit : RowEdit) (run : Rows) (row : ℕ) → IsRowEdit edit → IsRows run → (run.sheet == edit.sheet) ≡ true → row_by edit.change edit.place edit.count run.first ≡ Some row → ForSome (run_after edit run) (λ r. r.last ≤ LAST_ROW)
    → IsRows (record run { first = row; last = row + (run.last - run.first) })
stays_rows edit run row shift rows here is stays = record {
  sheet_in = rows.sheet_in;
  col_from = rows.col_from;
  col_to = rows.col_to;
  from = row_from edit.change edit.place edit.count run.first row shift.from rows.from is;
  in_order = omega arith;
  to = stays _ (run_by_row edit run row here is);
}
