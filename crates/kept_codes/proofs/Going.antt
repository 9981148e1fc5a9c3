-- A cell that stays with a change of rows goes to a cell.
use Rattle.std.proofs.Common.{◌≡◌, ◌==◌, true, false, cond, refl, arith}
use Rattle.std.proofs.lemmas.Bool.Decides.{Decides-eqb, nat_tests}
use Rattle.calc_addr.specs.Places.{IsPlace, Place}
use Rattle.calc_addr.specs.Shifts.{place_after_deletion, place_after_insertion}
use Rattle.calc_model.specs.declared.change.Change.{Change}
use Rattle.calc_model.specs.declared.change.Change.TheVariants.{Stays, Moves, Inserted, Deleted}
use Rattle.calc_model.specs.Changes.{IsChange}
use Rattle.kept_codes.specs.RowChanges.{IsRowChange, StaysIn, goes}

pub is_change : (change : Change) → IsRowChange change → IsChange change
is_change (Inserted sheet place count) rows = rows
is_change (Deleted sheet place count) rows = rows
is_change Stays rows = absurd rows
is_change (Moves cols by) rows = absurd rows

-- a cell that stays goes to a cell
pub place_goes : (change : Change) → IsChange change → (q : Place) → IsPlace q → StaysIn change q → IsPlace (goes change q)
place_goes (Inserted sheet place count) rows q is stays =
    elim (q.sheet == sheet) as (λ b. (q.sheet == sheet) ≡ b → IsPlace (cond b (place_after_insertion place count q) q)) [
      | true ↦ λ on. record {
        sheet_in = is.sheet_in;
        col_from = is.col_from;
        col_to = is.col_to;
        row_from = grind (arith, nat_tests, is.row_from);
        row_to = stays ((Decides-eqb q.sheet sheet).0 on);
      }
      | false ↦ λ _. is
    ] refl
place_goes (Deleted sheet place count) rows q is stays =
    elim (q.sheet == sheet) as (λ b. (q.sheet == sheet) ≡ b → IsPlace (cond b (place_after_deletion place count q) q)) [
      | true ↦ λ on.
          let out = stays ((Decides-eqb q.sheet sheet).0 on) in
          record {
            sheet_in = is.sheet_in;
            col_from = is.col_from;
            col_to = is.col_to;
            row_from = grind (arith, nat_tests, is.row_from, rows.from, out);
            row_to = grind (arith, nat_tests, is.row_to);
          }
      | false ↦ λ _. is
    ] refl
place_goes Stays rows q is stays = is
place_goes (Moves cols by) rows q is stays = is
