-- Stored values by cell, once a run of a column got others.
use Rattle.std.proofs.Common.{◌≡◌, ◌≤◌, ◌<◌, ℕ, zero, suc, ◌+◌, ◌-◌, true, false, List, [], ◌∷◌, ◌++◌, take, drop, length, Option, None, cond, refl, sym, ap, ◌∙◌, arith}
use Rattle.std.specs.Prelude.{get_or, slice_get}
use Rattle.std.specs.List.{All}
use Rattle.std.proofs.lemmas.List.{get_or_append_left}
use Rattle.std.proofs.lemmas.Option.{slice_get-get_or}
use Rattle.calc_addr.specs.declared.cell.TheConstants.{LAST_ROW}
use Rattle.calc_addr.specs.Places.{IsPlace, IsRows, Place, Rows}
use Rattle.calc_model.specs.declared.value.Value.{Value}
use Rattle.calc_model.specs.declared.value.Value.TheVariants as value
use Rattle.calc_model.specs.Books.{is_place}
use Rattle.calc_model.specs.UsedCells.{is_used}
use Rattle.run_unions.specs.Unions.{is_in}
use Rattle.value_column.specs.Sheets.{IsSet, cell_values, column_place, shown_at, shown_in}
use Rattle.value_column.specs.ValueRows.{ValueRows, run_set}
use Rattle.formula_results.specs.Results.{SetsRun, result_of, results_of}
use Rattle.formula_results.proofs.StoredValues.{IsInRun, cell_row, in_run, in_run_so, is_place_of, kept_beside, place_is, row_in, true_not_false, used_result}

-- values that are set from the first row on
from_first : (vs s : List Value) → run_set 0 vs s ≡ vs ++ drop (length vs) s
from_first vs s = ap (λ t. t ++ (vs ++ drop (0 + length vs) s)) (none s) ∙ ap (λ n. vs ++ drop n s) (same (length vs))
  where
    none : (s : List Value) → take 0 s ≡ []
    none [] = refl
    none (x ∷ s) = refl

    same : (n : ℕ) → 0 + n ≡ n
    same n = omega arith

-- values that are set behind one row more
one_more : (a : ℕ) (x : Value) (vs s : List Value) → run_set (suc a) vs (x ∷ s) ≡ x ∷ run_set a vs s
one_more a x vs s = ap (λ n. take (suc a) (x ∷ s) ++ (vs ++ drop n (x ∷ s))) (next a (length vs))
  where
    next : (a n : ℕ) → suc a + n ≡ suc (a + n)
    next a n = omega arith

behind : (j : ℕ) (vs s : List Value) → length vs ≤ length s → length vs ≤ j → get_or (vs ++ drop (length vs) s) j value.Blank ≡ get_or s j value.Blank
behind j [] [] h past = refl
behind j [] (x ∷ s) h past = refl
behind j (v ∷ vs) [] h past = absurd (omega (arith, h))
behind zero (v ∷ vs) (x ∷ s) h past = absurd (omega (arith, past))
behind (suc j) (v ∷ vs) (x ∷ s) h past = behind j vs s (omega (arith, h)) (omega (arith, past))

-- what a row shows of rows of which some were set, and what another shows
set_at : (a j : ℕ) (vs s : List Value) → a ≤ length s → a ≤ j → j < a + length vs → get_or (run_set a vs s) j value.Blank ≡ get_or vs (j - a) value.Blank
set_at zero j vs s h from to =
    ap (λ t. get_or t j value.Blank) (from_first vs s) ∙ get_or_append_left vs (drop (length vs) s) value.Blank j (omega (arith, to)) ∙ ap (λ n. get_or vs n value.Blank) (same j)
  where
    same : (j : ℕ) → j ≡ j - 0
    same j = omega arith
set_at (suc a) j vs [] h from to = absurd (omega (arith, h))
set_at (suc a) zero vs (x ∷ s) h from to = absurd (omega (arith, from))
set_at (suc a) (suc j) vs (x ∷ s) h from to = ap (λ t. get_or t (suc j) value.Blank) (one_more a x vs s) ∙ set_at a j vs s (omega (arith, h)) (omega (arith, from)) (omega (arith, to)) ∙ ap (λ n. get_or vs n value.Blank) (less j a)
  where
    less : (j a : ℕ) → j - a ≡ suc j - suc a
    less j a = omega arith

kept_at : (a j : ℕ) (vs s : List Value) → a + length vs ≤ length s → (a ≤ j → a + length vs ≤ j) → get_or (run_set a vs s) j value.Blank ≡ get_or s j value.Blank
kept_at zero j vs s h out = ap (λ t. get_or t j value.Blank) (from_first vs s) ∙ behind j vs s (omega (arith, h)) (omega (arith, out (omega arith)))
kept_at (suc a) j vs [] h out = absurd (omega (arith, h))
kept_at (suc a) zero vs (x ∷ s) h out = ap (λ t. get_or t 0 value.Blank) (one_more a x vs s)
kept_at (suc a) (suc j) vs (x ∷ s) h out = ap (λ t. get_or t (suc j) value.Blank) (one_more a x vs s) ∙ kept_at a j vs s (omega (arith, h)) (λ from. omega (arith, out (omega (arith, from))))

module _ (old new : List (Option ValueRows)) (run : Rows) (values : List Value) where
  abbrev start : ℕ
  start = column_place run.sheet run.col

  abbrev rows_now : List Value
  rows_now = run_set (run.first - 1) values (shown_in old start)

  module _ (rows : IsRows run) (all : length (shown_in old start) ≡ LAST_ROW) (size : length values ≡ run.last + 1 - run.first) (used : All (λ v. is_used v ≡ true) values) (sets : IsSet old new start rows_now) where
    in_it : (q : Place) → IsInRun run q → result_of (cell_values new q) ≡ slice_get values (q.row - run.first)
    in_it q is =
        let there : q.row - run.first < length values = omega (arith, size, is.from, is.to) in
        let row : q.row - 1 - (run.first - 1) ≡ q.row - run.first = omega (arith, rows.from, is.from) in
        let shows : cell_values new q ≡ get_or values (q.row - run.first) value.Blank =
        cell_row new q ∙ ap (λ s. row_in (shown_at new (column_place s q.col)) q.row) is.sheet ∙ ap (λ c. row_in (shown_at new (column_place run.sheet c)) q.row) is.col ∙ ap (λ o. row_in o q.row) sets.here
        ∙ set_at (run.first - 1) (q.row - 1) values (shown_in old start) (omega (arith, all, rows.in_order, rows.to)) (omega (arith, is.from)) (omega (arith, size, is.from, is.to, rows.from))
        ∙ ap (λ n. get_or values n value.Blank) row in
        ap result_of shows ∙ used_result (get_or values (q.row - run.first) value.Blank) (used (q.row - run.first) value.Blank there) ∙ sym (slice_get-get_or values (q.row - run.first) value.Blank there)

    outside : (q : Place) → IsPlace q → (IsInRun run q → ⊥) → cell_values new q ≡ cell_values old q
    outside =
        kept_beside old new run rows
        (λ row some out. ap (λ o. row_in o row) sets.here ∙ kept_at (run.first - 1) (row - 1) values (shown_in old start) (omega (arith, all, size, rows.from, rows.in_order, rows.to)) (λ from. let past = out (omega (arith, from, some)) in omega (arith, past, size, rows.from, rows.in_order)))
        sets.others

    pub run_results : SetsRun (results_of old) (results_of new) run values
    unfolding results_of
    run_results q =
        elim (is_in q run) as (λ b. is_in q run ≡ b → cond (is_place q) (result_of (cell_values new q)) None ≡ cond b (slice_get values (q.row - run.first)) (cond (is_place q) (result_of (cell_values old q)) None)) [
          | true ↦ λ is. ap (λ b. cond b (result_of (cell_values new q)) None) (in_place q (in_run run q is)) ∙ in_it q (in_run run q is)
          | false ↦ λ is_not. elim (is_place q) as (λ b. is_place q ≡ b → cond b (result_of (cell_values new q)) None ≡ cond b (result_of (cell_values old q)) None) [
            | true ↦ λ at. ap result_of (outside q (is_place_of q at) (λ h. true_not_false (is_in q run) (in_run_so run q h) is_not))
            | false ↦ λ _. refl
          ] refl
        ] refl
      where
        in_place : (q : Place) → IsInRun run q → is_place q ≡ true
        in_place q is = place_is q (record {
          sheet_in = omega (arith, is.sheet, rows.sheet_in);
          col_from = omega (arith, is.col, rows.col_from);
          col_to = omega (arith, is.col, rows.col_to);
          row_from = omega (arith, is.from, rows.from);
          row_to = omega (arith, is.to, rows.to);
        })
