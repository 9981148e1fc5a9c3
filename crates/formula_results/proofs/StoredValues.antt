-- Stored values by cell: which cells show something else once the rows of a run were edited.
use Rattle.std.proofs.Common.{◌≡◌, ◌≢◌, ◌≤◌, ◌<◌, ℕ, zero, suc, ◌+◌, ◌-◌, ◌*◌, ◌==◌, nat_lt, Bool, true, false, List, [], ◌∷◌, replicate, length, Option, Some, None, cond, refl, sym, ap, ◌∙◌, arith, ◌⊎◌, inl, inr}
use Rattle.std.specs.Prelude.{Result, Ok, Err, OnOk}
use Rattle.std.specs.Option.{option_map, unwrap_or}
use Rattle.std.proofs.lemmas.Bool.Decides.{nat_tests}
use Rattle.std.proofs.Math.ListN.{get_or}
use Rattle.calc_addr.specs.declared.cell.TheConstants.{LAST_ROW}
use Rattle.calc_addr.specs.Places.{IsPlace, IsRows, Place, Rows}
use Rattle.calc_model.specs.declared.value.Seen.{Seen}
use Rattle.calc_model.specs.declared.value.Seen.TheVariants as seen
use Rattle.calc_model.specs.ValueTexts.{lent}
use Rattle.calc_model.specs.declared.value.Value.{Value}
use Rattle.calc_model.specs.declared.value.Value.TheVariants as value
use Rattle.calc_model.specs.Books.{is_place}
use Rattle.calc_model.specs.UsedCells.{is_used}
use Rattle.run_tables.specs.Rows.{rows_set, spliced}
use Rattle.run_unions.specs.Unions.{is_in}
use Rattle.value_column.specs.Sheets.{row_value, IsEdited, ShowsSame, cell_values, column_place, shown_at, shown_in}
use Rattle.value_column.specs.ValueRows.{ValueRows, no_values}
use Rattle.formula_results.specs.Results.{Clears, SameResults, result_of, results_of}

pub true_not_false : (b : Bool) → b ≡ true → b ≡ false → ⊥
true_not_false true h k = cc
true_not_false false h k = cc

pub nat_eq_or : (m n : ℕ) → (m ≡ n) ⊎ (m ≢ n)
nat_eq_or m n = elim (m == n) as (λ b. (m == n) ≡ b → (m ≡ n) ⊎ (m ≢ n)) [
  | true ↦ λ e. inl (grind (arith, nat_tests))
  | false ↦ λ e. inr (λ is. true_not_false (m == n) (grind (arith, nat_tests)) e)
] refl

-- what a row of a column shows, by the list of its rows
abbrev pub row_in : Option (List Value) → ℕ → Value
row_in o row = get_or (unwrap_or o no_values) (row - 1) value.Blank

-- a value that isn't blank is a result
pub used_result : (v : Value) → is_used v ≡ true → result_of v ≡ Some v
used_result (value.Number n) h = refl
used_result (value.Words t) h = refl
used_result (value.Bad f) h = refl
used_result value.Blank h = cc

blank_at : (n i : ℕ) → get_or (replicate n value.Blank) i value.Blank ≡ value.Blank
blank_at zero i = refl
blank_at (suc n) zero = refl
blank_at (suc n) (suc i) = blank_at n i

none_either_way : (o : Option Value) (b : Bool) → o ≡ None → cond b o None ≡ o
none_either_way o true e = refl
none_either_way o false e = sym e

pub not_below : (m n : ℕ) → (n ≤ m → ⊥) → m < n
not_below m n h = elim (nat_lt m n) as (λ b. nat_lt m n ≡ b → m < n) [
  | true ↦ λ e. grind (arith, nat_tests)
  | false ↦ λ e. absurd (h (grind (arith, nat_tests)))
] refl

row_blank : (i : ℕ) → get_or no_values i value.Blank ≡ value.Blank
unfolding no_values
row_blank i = blank_at LAST_ROW i

by_column : (o : Option ValueRows) (row : ℕ) → row_value o row ≡ row_in (option_map (λ c. c.values) o) row
by_column None row = sym (row_blank (row - 1))
by_column (Some c) row = refl

-- what a cell shows, by the list of its column's rows
pub cell_row : (sheets : List (Option ValueRows)) (q : Place) → cell_values sheets q ≡ row_in (shown_at sheets (column_place q.sheet q.col)) q.row
unfolding cell_values
cell_row sheets q = by_column (get_or sheets (column_place q.sheet q.col) None) q.row

pub same_results : (old new : List (Option ValueRows)) → ShowsSame old new → SameResults (results_of old) (results_of new)
unfolding results_of
same_results old new same q =
    ap (λ v. cond (is_place q) (result_of v) None) (cell_row new q ∙ ap (λ o. row_in o q.row) (same (column_place q.sheet q.col)) ∙ sym (cell_row old q))

-- places of columns are apart where the columns are
pub column_of_place : (s t c d : ℕ) → 1 ≤ c → c ≤ 1024 → 1 ≤ d → d ≤ 1024 → s * 1024 + (c - 1) ≡ t * 1024 + (d - 1) → (s ≡ t) × (c ≡ d)
column_of_place s t c d c1 c2 d1 d2 e = (omega (arith, c1, c2, d1, d2, e), omega (arith, c1, c2, d1, d2, e))

pub is_place_of : (q : Place) → is_place q ≡ true → IsPlace q
is_place_of q h = record { sheet_in = grind (arith, nat_tests); col_from = grind (arith, nat_tests); col_to = grind (arith, nat_tests); row_from = grind (arith, nat_tests); row_to = grind (arith, nat_tests) }

pub place_is : (q : Place) → IsPlace q → is_place q ≡ true
place_is q h = grind (arith, nat_tests)

-- what a row shows of rows of which some were made blank
blank_in : (s : List Value) (a b n j : ℕ) → b ≡ a + n → b ≤ length s → a ≤ j → j < b → get_or (spliced a b n value.Blank s) j value.Blank ≡ value.Blank
blank_in s zero zero n j e h from to = absurd (omega (arith, to))
blank_in s zero (suc b) zero j e h from to = absurd (omega (arith, e))
blank_in s zero (suc b) (suc n) zero e h from to = refl
blank_in [] zero (suc b) (suc n) (suc j) e h from to = absurd (omega (arith, h))
blank_in (x ∷ s) zero (suc b) (suc n) (suc j) e h from to = blank_in s zero b n j (omega (arith, e)) (omega (arith, h)) (omega arith) (omega (arith, to))
blank_in [] (suc a) b n j e h from to = absurd (omega (arith, h, e))
blank_in (x ∷ s) (suc a) zero n j e h from to = absurd (omega (arith, e))
blank_in (x ∷ s) (suc a) (suc b) n zero e h from to = absurd (omega (arith, from))
blank_in (x ∷ s) (suc a) (suc b) n (suc j) e h from to = blank_in s a b n j (omega (arith, e)) (omega (arith, h)) (omega (arith, from)) (omega (arith, to))

kept_out : (s : List Value) (a b n j : ℕ) → b ≡ a + n → b ≤ length s → (a ≤ j → b ≤ j) → get_or (spliced a b n value.Blank s) j value.Blank ≡ get_or s j value.Blank
kept_out s zero zero zero j e h out = refl
kept_out s zero zero (suc n) j e h out = absurd (omega (arith, e))
kept_out s zero (suc b) zero j e h out = absurd (omega (arith, e))
kept_out s zero (suc b) (suc n) zero e h out = absurd (omega (arith, out (omega arith)))
kept_out [] zero (suc b) (suc n) (suc j) e h out = absurd (omega (arith, h))
kept_out (x ∷ s) zero (suc b) (suc n) (suc j) e h out = kept_out s zero b n j (omega (arith, e)) (omega (arith, h)) (λ _. omega (arith, out (omega arith)))
kept_out [] (suc a) b n j e h out = absurd (omega (arith, h, e))
kept_out (x ∷ s) (suc a) zero n j e h out = absurd (omega (arith, e))
kept_out (x ∷ s) (suc a) (suc b) n zero e h out = refl
kept_out (x ∷ s) (suc a) (suc b) n (suc j) e h out = kept_out s a b n j (omega (arith, e)) (omega (arith, h)) (λ from. omega (arith, out (omega (arith, from))))

-- what it is to be in a run
pub record IsInRun (run : Rows) (q : Place) : Type 0 where
  pub sheet : q.sheet ≡ run.sheet
  pub col : q.col ≡ run.col
  pub from : run.first ≤ q.row
  pub to : q.row ≤ run.last

pub in_run : (run : Rows) (q : Place) → is_in q run ≡ true → IsInRun run q
in_run run q h = record { sheet = grind (arith, nat_tests); col = grind (arith, nat_tests); from = grind (arith, nat_tests); to = grind (arith, nat_tests) }

pub in_run_so : (run : Rows) (q : Place) → IsInRun run q → is_in q run ≡ true
in_run_so run q h = grind (arith, nat_tests, h.sheet, h.col, h.from, h.to)

-- where a run's column shows in its other rows what it did, so do all other cells
pub kept_beside : (old new : List (Option ValueRows)) (run : Rows) → IsRows run → ((row : ℕ) → 1 ≤ row → (run.first ≤ row → run.last < row) → row_in (shown_at new (column_place run.sheet run.col)) row ≡ row_in (shown_at old (column_place run.sheet run.col)) row) → ((p : ℕ) → p ≢ column_place run.sheet run.col → get_or new p None ≡ get_or old p None) → (q : Place) → IsPlace q → (IsInRun run q → ⊥) → cell_values new q ≡ cell_values old q
kept_beside old new run rows kept others q at apart =
    elim (nat_eq_or (column_place q.sheet q.col) (column_place run.sheet run.col)) [
      | inl same ↦
          let column = column_of_place q.sheet run.sheet q.col run.col at.col_from at.col_to rows.col_from rows.col_to same in
          cell_row new q
          ∙ ap (λ p. row_in (shown_at new p) q.row) same
          ∙ kept q.row at.row_from (λ from. not_below run.last q.row (λ to. apart (record { sheet = column.0; col = column.1; from = from; to = to })))
          ∙ sym (cell_row old q ∙ ap (λ p. row_in (shown_at old p) q.row) same)
      | inr other ↦ cell_row new q ∙ ap (λ c. row_in (option_map (λ c. c.values) c) q.row) (others (column_place q.sheet q.col) other) ∙ sym (cell_row old q)
    ]

module _ (old new : List (Option ValueRows)) (run : Rows) where
  abbrev start : ℕ
  start = column_place run.sheet run.col

  abbrev count : ℕ
  count = run.last + 1 - run.first

  abbrev cleared : List Value → List Value
  cleared s = rows_set (run.first - 1) count value.Blank s

  module _ (rows : IsRows run) (all : length (shown_in old start) ≡ LAST_ROW) (edited : IsEdited old new start cleared) where
    within : (s : List Value) → shown_at old start ≡ Some s → run.first - 1 + count ≤ length s
    within s e = let size : length s ≡ LAST_ROW = sym (ap (λ o. length (unwrap_or o no_values)) e) ∙ all in omega (arith, size, rows.from, rows.in_order, rows.to)

    -- a row of the column after it, by what the column showed
    blank_here : (o : Option (List Value)) (row : ℕ) → shown_at old start ≡ o → run.first ≤ row → row ≤ run.last → row_in (option_map cleared o) row ≡ value.Blank
    blank_here None row e from to = row_blank (row - 1)
    blank_here (Some s) row e from to = blank_in s (run.first - 1) (run.first - 1 + count) count (row - 1) refl (within s e) (omega (arith, from)) (omega (arith, from, to, rows.from))

    kept_here : (o : Option (List Value)) (row : ℕ) → shown_at old start ≡ o → 1 ≤ row → (run.first ≤ row → run.last < row) → row_in (option_map cleared o) row ≡ row_in o row
    kept_here None row e some out = refl
    kept_here (Some s) row e some out = kept_out s (run.first - 1) (run.first - 1 + count) count (row - 1) refl (within s e) (λ from. let past = out (omega (arith, from, some)) in omega (arith, past, rows.from, rows.in_order))

    cell_now : (q : Place) → column_place q.sheet q.col ≡ start → cell_values new q ≡ row_in (option_map cleared (shown_at old start)) q.row
    cell_now q same = cell_row new q ∙ ap (λ p. row_in (shown_at new p) q.row) same ∙ ap (λ o. row_in o q.row) edited.here

    in_it : (q : Place) → IsInRun run q → cell_values new q ≡ value.Blank
    in_it q is = cell_now q (ap (λ s. column_place s q.col) is.sheet ∙ ap (λ c. column_place run.sheet c) is.col) ∙ blank_here (shown_at old start) q.row refl is.from is.to

    outside : (q : Place) → IsPlace q → (IsInRun run q → ⊥) → cell_values new q ≡ cell_values old q
    outside =
        kept_beside old new run rows
        (λ row some out. ap (λ o. row_in o row) edited.here ∙ kept_here (shown_at old start) row refl some out) edited.others

    pub clear_results : Clears (results_of old) (results_of new) run
    unfolding results_of
    clear_results q =
        elim (is_in q run) as (λ b. is_in q run ≡ b → cond (is_place q) (result_of (cell_values new q)) None ≡ cond b None (cond (is_place q) (result_of (cell_values old q)) None)) [
          | true ↦ λ is. ap (λ v. cond (is_place q) (result_of v) None) (in_it q (in_run run q is)) ∙ none_either_way None (is_place q) refl
          | false ↦ λ is_not. elim (is_place q) as (λ b. is_place q ≡ b → cond b (result_of (cell_values new q)) None ≡ cond b (result_of (cell_values old q)) None) [
            | true ↦ λ at. ap result_of (outside q (is_place_of q at) (λ h. true_not_false (is_in q run) (in_run_so run q h) is_not))
            | false ↦ λ _. refl
          ] refl
        ] refl

-- what follows from two facts on success
pub on_both : {T E : Type 0} {P Q R : Type 0} (result : Result T E) → (P → Q → R) → OnOk result P → OnOk result Q → OnOk result R
on_both (Ok value) f p q = f p q
on_both (Err fault) f p q = tt

pub no_results : (q : Place) → results_of [] q ≡ None
unfolding results_of
no_results q = ap (λ v. cond (is_place q) (result_of v) None) (cell_row [] q ∙ row_blank (q.row - 1)) ∙ none_either_way None (is_place q) refl

-- the result of a cell of a sheet, by what it shows
pub looked_result : (sheets : List (Option ValueRows)) (q : Place) (v : Value) → is_place q ≡ true → v ≡ cell_values sheets q → results_of sheets q ≡ result_of v
unfolding results_of
looked_result sheets q v at shows = ap (λ b. cond b (result_of (cell_values sheets q)) None) at ∙ ap result_of (sym shows)

pub lent_result : (s : Seen) → (s ≡ seen.Blank → ⊥) → result_of (lent s) ≡ Some (lent s)
lent_result seen.Blank not_blank = absurd (not_blank refl)
lent_result (seen.Number n) not_blank = refl
lent_result (seen.Words text) not_blank = refl
lent_result (seen.Bad fault) not_blank = refl
