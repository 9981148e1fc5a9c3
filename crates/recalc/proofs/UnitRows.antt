-- Which code rows have: that of their group.
use Rattle.std.proofs.Common.{◌≡◌, true, ◌≤◌, ◌<◌, ℕ, zero, suc, ◌+◌, ◌-◌, ◌*◌, ◌==◌, List, [], ◌∷◌, map, length, get_or, slice_get, Option, Some, None, sym, ap, subst, ◌∙◌, arith}
use Rattle.std.proofs.lemmas.Bool.Decides.{Decides-eqb, nat_tests}
use Rattle.std.proofs.lemmas.Bool.{false≢true}
use Rattle.std.proofs.lemmas.Option.{get_or_from_slice_get}
use Rattle.calc_addr.specs.declared.cell.TheConstants.{LAST_COL, LAST_ROW, LAST_SHEET}
use Rattle.std.specs.Prelude.{IsSome}
use Rattle.calc_addr.specs.Places.{Place, Rows}
use Rattle.run_unions.specs.Unions.{is_in}
use Rattle.recalc.specs.Units.{cell_at}
use Rattle.formula_code.specs.Coded.{code_in_row, code_of, number_of}
use Rattle.formula_groups.specs.declared.group.Group.{Group}
use Rattle.formula_groups.specs.GroupRows.{GroupRows, columns_of}
use Rattle.formula_groups.specs.Groups.{a_group, groups_of}
use Rattle.run_tables.specs.Runs.{Rises, Run, entry, runs_of}
use Rattle.run_tables.proofs.Entries.{entries-row, entries-runs, entry-in, entry-past}
use Rattle.run_tables.proofs.RunLists.{runs-rise}
use Rattle.std.specs.List.{Contains}
use Rattle.std.proofs.lemmas.List.{length-map}
use Rattle.recalc.specs.CodedUnits.{AreColumns}

rises_from : (p : ℕ) (t : List (Run ℕ)) (g : Group) (k : ℕ) → Rises p t → k < length (map a_group t) → get_or (map a_group t) k g ≡ g → p ≤ g.first
rises_from p [] g k rise within at = absurd (omega (arith, within))
rises_from p (x ∷ t) g zero rise within at = subst (λ (v : Group). p ≤ v.first) at rise.0
rises_from p (x ∷ t) g (suc k) rise within at = omega (arith, rise.0, rise.1, rises_from (x.last + 1) t g k rise.2 (omega (arith, within)) at)

entry_there : (p q : ℕ) (t : List (Run ℕ)) (g : Group) (k : ℕ) → Rises p t → k < length (map a_group t) → get_or (map a_group t) k g ≡ g → g.first ≤ q → q ≤ g.last → entry q t ≡ Some g.code
entry_there p q [] g k rise within at low high = absurd (omega (arith, within))
entry_there p q (x ∷ t) g zero rise within at low high =
    entry-in q x t (omega (arith, ap (λ (v : Group). v.first) at, low)) (omega (arith, ap (λ (v : Group). v.last) at, high)) ∙ ap (λ (v : Group). Some v.code) at
entry_there p q (x ∷ t) g (suc k) rise within at low high =
    entry-past q x t (omega (arith, low, rises_from (x.last + 1) t g k rise.2 (omega (arith, within)) at))
    ∙ entry_there (x.last + 1) q t g k rise.2 (omega (arith, within)) at low high

-- a row of a group has its code
pub code_there : (s : List (Option ℕ)) (g : Group) (row : ℕ) → length s ≡ LAST_ROW → Contains (groups_of s) g → 1 ≤ row → row ≤ LAST_ROW → g.first ≤ row → row ≤ g.last → code_in_row s row ≡ Some g.code
code_there s g row size (k, within, at) from to low high =
    let t : List (Run ℕ) = runs_of (λ k l. k == l) s in
    get_or_from_slice_get s (row - 1) (entry row t) None (ap (λ xs. slice_get xs (row - 1)) (sym (entries-runs (λ k l. k == l) Decides-eqb LAST_ROW s size)) ∙ entries-row LAST_ROW row t from to)
    ∙ entry_there 1 row t g k (runs-rise (λ k l. k == l) Decides-eqb 1 s) within at low high

-- the codes of a column
pub codes_at : (groups : List GroupRows) (n : ℕ) (x : GroupRows) → n < length groups → x ≡ get_or groups n x → get_or (columns_of groups) n [] ≡ x.entries
codes_at [] n x within at = absurd (omega (arith, within))
codes_at (g ∷ gs) zero x within at = ap (λ (v : GroupRows). v.entries) (sym at)
codes_at (g ∷ gs) (suc n) x within at = codes_at gs n x (omega (arith, within)) at

-- the code of a cell by the codes of its column
pub code_by : (groups : List GroupRows) (n : ℕ) (x : GroupRows) (q : Place) → n ≡ number_of q.sheet q.col → n < length groups → x ≡ get_or groups n x → code_of (columns_of groups) q ≡ code_in_row x.entries q.row
code_by groups n x q number within at =
    ap (λ column. code_in_row column q.row) (ap (λ (m : ℕ). get_or (columns_of groups) m []) (sym number) ∙ codes_at groups n x within at)

-- all rows of a column of all columns
pub whole_column : (groups : List GroupRows) (n : ℕ) (x : GroupRows) → AreColumns (columns_of groups) → n < length groups → x ≡ get_or groups n x → length x.entries ≡ LAST_ROW
whole_column groups n x all within at = ap length (sym (codes_at groups n x within at)) ∙ all.all_rows n (omega (arith, within, length-map groups (λ (g : GroupRows). g.entries)))

-- the number of a column as it is calculated
pub number_is : (all s c sheet col : ℕ) → all ≡ LAST_COL → s ≡ sheet → c ≡ col → 1 ≤ col → all * s + c - 1 ≡ number_of sheet col
number_is all s c sheet col few is_sheet is_col from = ap (λ (v : ℕ). v * s + c - 1) few ∙ last
  where
    last : LAST_COL * s + c - 1 ≡ number_of sheet col
    last = omega (arith, is_sheet, is_col, from)

-- a column of a sheet is among all
pub among : (groups : List GroupRows) (n sheet col : ℕ) → AreColumns (columns_of groups) → n ≡ number_of sheet col → sheet ≤ LAST_SHEET → 1 ≤ col → col ≤ LAST_COL → n < length groups
among groups n sheet col all is in_sheets from to = omega (arith, all.all_columns, length-map groups (λ (g : GroupRows). g.entries), is, in_sheets, from, to)

-- a row of a run lies in it
pub row_in : (run : Rows) (row : ℕ) → run.first ≤ row → row ≤ run.last → is_in (cell_at run row) run ≡ true
row_in run row low high = grind (arith, nat_tests, low, high)

pub no_code : (o : Option ℕ) → o ≡ None → IsSome o → ⊥
no_code None e some = absurd (false≢true some)
no_code (Some id) e some = cc
