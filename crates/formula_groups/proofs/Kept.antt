-- A table of groups that is the groups of a column gives the column's codes back.
use Rattle.std.proofs.Common.{◌≡◌, ℕ, ◌+◌, ◌-◌, ◌≤◌, ◌==◌, List, [], ◌∷◌, ◌++◌, map, length, replicate, zero, Option, None, Result, Ok, Err, OnOk, OnErr, refl, sym, ap, ◌∙◌, arith}
use Rattle.std.proofs.lemmas.Bool.Decides.{Decides-eqb}
use Rattle.std.proofs.lemmas.List.{length-append, length-replicate}
use Rattle.calc_addr.specs.declared.cell.TheConstants.{LAST_ROW}
use Rattle.run_tables.specs.Rows.{AreRows, IsRowEdit, spliced, rows_set, rows_inserted, rows_erased}
use Rattle.run_tables.proofs.RowEdits.{length-spliced, length-rows_set, length-rows_inserted, length-rows_erased, rows_inserted-steps, rows_erased-steps}
use Rattle.run_tables.specs.Runs.{Run, runs_of, entries}
use Rattle.run_tables.proofs.Entries.{entries-nil, entries-runs, runs-trailing, length-entries}
use Rattle.formula_groups.specs.Groups.{group_run, a_group, groups_of, codes_of, no_codes}
use Rattle.formula_groups.specs.declared.group.Group.{Group}

pub runs-groups : (t : List (Run ℕ)) → map group_run (map a_group t) ≡ t
runs-groups [] = refl
runs-groups (r ∷ t) = ap (λ v. r ∷ v) (runs-groups t)

pub groups-runs : (t : List Group) → map a_group (map group_run t) ≡ t
groups-runs [] = refl
groups-runs (x ∷ t) = ap (λ v. x ∷ v) (groups-runs t)

-- a table as its runs, and runs as a table
pub runs-of-table : (t : List Group) (s : List (Option ℕ)) → t ≡ groups_of s → map group_run t ≡ runs_of (λ k l. k == l) s
runs-of-table t s e = ap (map group_run) e ∙ runs-groups (runs_of (λ k l. k == l) s)

pub table-of-runs : (t : List Group) (s : List (Option ℕ)) → map group_run t ≡ runs_of (λ k l. k == l) s → t ≡ groups_of s
table-of-runs t s e = sym (groups-runs t) ∙ ap (map a_group) e

pub codes-kept : (t : List Group) (s : List (Option ℕ)) → length s ≡ LAST_ROW → t ≡ groups_of s → codes_of t ≡ s
codes-kept t s h e = ap (entries LAST_ROW) (runs-of-table t s e) ∙ entries-runs (λ k l. k == l) Decides-eqb LAST_ROW s h

-- a column of fewer rows, as one without codes at its end
codes-short : (t : List Group) (s : List (Option ℕ)) → length s ≤ LAST_ROW → t ≡ groups_of s → codes_of t ≡ s ++ replicate (LAST_ROW - length s) None
codes-short t s h e =
    let rest : ℕ = LAST_ROW - length s in
    let len : length (s ++ replicate rest None) ≡ LAST_ROW = omega (arith, length-append s (replicate rest None), length-replicate {A = Option ℕ} rest None) in
    codes-kept t (s ++ replicate rest None) len (e ∙ ap (map a_group) (sym (runs-trailing (λ k l. k == l) Decides-eqb rest s)))

pub table-kept : (t : List Group) (s : List (Option ℕ)) → length s ≤ LAST_ROW → t ≡ groups_of s → t ≡ groups_of (codes_of t)
table-kept t s h e =
    e ∙ ap (map a_group) (sym (runs-trailing (λ k l. k == l) Decides-eqb (LAST_ROW - length s) s)) ∙ ap groups_of (sym (codes-short t s h e))

pub length-codes : (t : List Group) → length (codes_of t) ≡ LAST_ROW
length-codes t = length-entries LAST_ROW (map group_run t)

pub no-codes : codes_of [] ≡ no_codes
unfolding no_codes
no-codes = entries-nil LAST_ROW

-- what an edit of a table does to whatever column it is the table of
abbrev pub Edits : List Group → List Group → ℕ → ℕ → ℕ → Option ℕ → Type 0
Edits t u a b n e = (s : List (Option ℕ)) → b ≤ length s → t ≡ groups_of s → u ≡ groups_of (spliced a b n e s)

-- the table of a column, and the column
abbrev pub IsKept : List Group → Type 0
IsKept t = t ≡ groups_of (codes_of t)

-- a table after an edit that leaves a column s
pub record Left (u : List Group) (s : List (Option ℕ)) : Type 0 where
  pub codes : codes_of u ≡ s
  pub kept : IsKept u

left : (u : List Group) (s : List (Option ℕ)) → length s ≡ LAST_ROW → u ≡ groups_of s → Left u s
left u s h e = record { codes = codes-kept u s h e; kept = table-kept u s (omega arith) e }

pub set-left : (t u : List Group) (e : Option ℕ) (first last : ℕ) → AreRows first last → IsKept t → Edits t u (first - 1) last (last + 1 - first) e → Left u (rows_set (first - 1) (last + 1 - first) e (codes_of t))
set-left t u e first last rows kept edits =
    let len : length (codes_of t) ≡ LAST_ROW = length-codes t in
    let to : last ≡ first - 1 + (last + 1 - first) = omega (arith, rows.from, rows.in_order) in
    let done : u ≡ groups_of (rows_set (first - 1) (last + 1 - first) e (codes_of t)) =
    edits (codes_of t) (omega (arith, rows.to)) kept ∙ ap (λ b. groups_of (spliced (first - 1) b (last + 1 - first) e (codes_of t))) to in
    left u (rows_set (first - 1) (last + 1 - first) e (codes_of t))
    (length-rows_set (first - 1) (last + 1 - first) e (codes_of t) (omega (arith, rows.to)) ∙ len) done

pub erase-left : (t u : List Group) (place count : ℕ) → IsRowEdit place count → IsKept t → Edits t u (place - 1) (place - 1 + count) zero None → Left u (rows_erased (place - 1) count None (codes_of t))
erase-left t u place count edit kept edits =
    let len : length (codes_of t) ≡ LAST_ROW = length-codes t in
    let within : place - 1 + count ≤ length (codes_of t) = omega (arith, edit.from, edit.to) in
    let done : u ≡ groups_of (rows_erased (place - 1) count None (codes_of t)) =
    edits (codes_of t) within kept
    ∙ ap (map a_group) (sym (runs-trailing (λ k l. k == l) Decides-eqb count (spliced (place - 1) (place - 1 + count) zero None (codes_of t))))
    ∙ ap groups_of (rows_erased-steps (place - 1) count None None (codes_of t)) in
    left u (rows_erased (place - 1) count None (codes_of t)) (length-rows_erased (place - 1) count None (codes_of t) within ∙ len) done

-- a column without its last rows
cut-kept : (t u : List Group) (count : ℕ) → count ≤ LAST_ROW → IsKept t → Edits t u (LAST_ROW - count) LAST_ROW zero None → u ≡ groups_of (spliced (LAST_ROW - count) LAST_ROW zero None (codes_of t))
cut-kept t u count h kept edits = edits (codes_of t) (omega (arith, length-codes t)) kept

length-cut : (t : List Group) (count : ℕ) → count ≤ LAST_ROW → length (spliced (LAST_ROW - count) LAST_ROW zero None (codes_of t)) ≡ LAST_ROW - count
length-cut t count h = omega (arith, length-codes t, length-spliced (LAST_ROW - count) LAST_ROW zero None (codes_of t) (omega (arith, length-codes t)))

pub cut-left : (t u : List Group) (place count : ℕ) → IsRowEdit place count → IsKept t → Edits t u (LAST_ROW - count) LAST_ROW zero None → IsKept u
cut-left t u place count edit kept cuts =
    let small : count ≤ LAST_ROW = omega (arith, edit.from, edit.to) in
    table-kept u (spliced (LAST_ROW - count) LAST_ROW zero None (codes_of t)) (omega (arith, length-cut t count small)) (cut-kept t u count small kept cuts)

pub insert-left : (t u v : List Group) (place count : ℕ) → IsRowEdit place count → IsKept t → Edits t u (LAST_ROW - count) LAST_ROW zero None → Edits u v (place - 1) (place - 1) count None → Left v (rows_inserted (place - 1) count None (codes_of t))
insert-left t u v place count edit kept cuts edits =
    let len : length (codes_of t) ≡ LAST_ROW = length-codes t in
    let small : count ≤ LAST_ROW = omega (arith, edit.from, edit.to) in
    let short = length-cut t count small in
    let done : v ≡ groups_of (rows_inserted (place - 1) count None (codes_of t)) =
    edits (spliced (LAST_ROW - count) LAST_ROW zero None (codes_of t)) (omega (arith, edit.from, edit.to)) (cut-kept t u count small kept cuts)
    ∙ ap groups_of (rows_inserted-steps (place - 1) count LAST_ROW None None (codes_of t) len (omega (arith, edit.from, edit.to))) in
    left v (rows_inserted (place - 1) count None (codes_of t)) (length-rows_inserted (place - 1) count None (codes_of t) (omega (arith, edit.from, edit.to)) ∙ len) done

-- what holds in both outcomes
pub either : {A E P Q R : Type 0} (r : Result A E) → OnOk r P → OnErr r Q → (P → R) → (Q → R) → R
either (Ok x) p q f g = f p
either (Err e) p q f g = g q
