-- The column of a command that asks for one is one of a sheet, and its groups and blocks lie in it.
use Rattle.std.proofs.Common.{◌≡◌, ◌<◌, ◌+◌, ◌&&◌, ◌++◌, ℕ, zero, suc, nat_le, true, List, [], ◌∷◌, length, map, drop, sym, ap, ◌∙◌, append_assoc, arith}
use Rattle.std.specs.Prelude.{slice_index_or}
use Rattle.std.proofs.lemmas.Bool.{and_parts, leb-true}
use Rattle.std.proofs.lemmas.List.{at_drop_more}
use Rattle.calc_addr.specs.declared.cell.TheConstants.{LAST_COL, LAST_SHEET}
use Rattle.calc_addr.specs.Places.{IsRows, Rows}
use Rattle.calc_script.specs.Commands.{is_column}
use Rattle.cell_columns.specs.ColumnRuns.{AllLie, IsSheetColumn}

pub sheet_column : (sheet col : ℕ) → is_column sheet col ≡ true → IsSheetColumn sheet col
sheet_column sheet col h =
    let parts = and_parts (nat_le sheet LAST_SHEET) (nat_le 1 col && nat_le col LAST_COL) h in
    let ends = and_parts (nat_le 1 col) (nat_le col LAST_COL) parts.1 in
    record { sheet_in = leb-true _ _ parts.0; from = leb-true _ _ ends.0; to = leb-true _ _ ends.1 }

-- what lies at a place of a list of which all lie in their column
pub lies_at : {X : Type 0} (rows : X → Rows) (items : List X) (i : ℕ) (d : X) → AllLie (map rows items) → i < length items → IsRows (rows (slice_index_or items i d))
lies_at rows (x ∷ items) zero d all h = all 0 (rows d) (omega arith)
lies_at rows (x ∷ items) (suc i) d all h = lies_at rows items i d (λ k e g. all (suc k) e (omega (arith, g))) (omega (arith, h))
lies_at rows [] i d all h = absurd (omega (arith, h))

-- one line more behind those so far
pub put_line : {X : Type 0} (lines : List X → List ℕ) (line : X → List ℕ) → ((x : X) (xs : List X) → lines (x ∷ xs) ≡ line x ++ lines xs) → (items : List X) (i : ℕ) (d : X) (so_far text all : List ℕ) → i < length items → text ≡ so_far ++ line (slice_index_or items i d) → so_far ++ lines (drop i items) ≡ all → text ++ lines (drop (i + 1) items) ≡ all
put_line lines line steps items i d so_far text all h is whole =
    let x = slice_index_or items i d in
    ap (λ t. t ++ lines (drop (i + 1) items)) is
    ∙ append_assoc so_far (line x) (lines (drop (i + 1) items))
    ∙ ap (λ t. so_far ++ t) (sym (at_drop_more lines items i d h ∙ steps x (drop (i + 1) items)))
    ∙ whole
