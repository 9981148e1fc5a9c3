-- Lists of cells as runs, and as tests.
use Rattle.std.proofs.Common.{◌≡◌, ◌<◌, ℕ, zero, suc, ◌+◌, Bool, true, false, not, ◌||◌, ◌&&◌, List, [], ◌∷◌, ◌++◌, take, length, get_or, slice_get, Option, Some, None, refl, sym, ap, subst, ◌∙◌, arith}
use Rattle.std.specs.Prelude.{is_some, IfSome, IfNone}
use Rattle.std.specs.List.{Contains}
use Rattle.std.specs.Ordering.{eq_by_cmp}
use Rattle.std.proofs.lemmas.Bool.{false≢true}
use Rattle.std.proofs.lemmas.Bool.Decides.{nat_tests}
use Rattle.std.proofs.lemmas.List.Folds.{list_any-append, list_any_more}
use Rattle.std.proofs.lemmas.Option.{get_or_from_slice_get, slice_get_within}
use Rattle.calc_addr.specs.Places.{Place, Rows, place_cmp}
use Rattle.calc_model.specs.Books.{Book}
use Rattle.calc_model.specs.Stale.{is_formula_cell}
use Rattle.calc_model.specs.Touched.{CellSet}
use Rattle.calc_model.proofs.Places.{same_places}
use Rattle.calc_model.proofs.Reached.{same_cell}
use Rattle.cell_runs.specs.CellLists.{all_cells}
use Rattle.run_unions.specs.Unions.{AreUnion, is_in}
use Rattle.dirty_spread.specs.Marking.{is_in_any}
use Rattle.dirty_spread.specs.Waves.{has}
use Rattle.dirty_spread.proofs.Beside.{absent_has, has_held, held_has}
use Rattle.dirty_spread.proofs.Stepping.{lies}
use Rattle.dirty_spread.proofs.Cells.{in_runs, runs_in}
use Rattle.recalc.specs.Recalculation.{kept}
use Rattle.recalc.proofs.Adding.{alike}

pub runs_have : (runs : List Rows) (q : Place) → has (all_cells runs) q ≡ is_in_any q runs
runs_have runs q = alike (has (all_cells runs) q) (is_in_any q runs) (λ h. runs_in runs q (has_held (all_cells runs) q h)) (λ h. held_has (all_cells runs) q (in_runs runs q h))

-- runs of the same cells have the same
pub same_runs : (one other : List Rows) → all_cells one ≡ all_cells other → (q : Place) → is_in_any q one ≡ is_in_any q other
same_runs one other same q = sym (runs_have one q) ∙ ap (λ cells. has cells q) same ∙ runs_have other q

pub union_has : (runs : List Rows) (cells : List Place) → AreUnion runs cells → (q : Place) → has cells q ≡ is_in_any q runs
union_has runs cells union q = alike (has cells q) (is_in_any q runs) (λ h. (union.exact q).0 (has_held cells q h)) (λ h. held_has cells q ((union.exact q).1 h))

pub placed_has : (cells : List Place) (q : Place) (o : Option ℕ) → IfSome o (λ place. slice_get cells place ≡ Some q) → IfNone o (Contains cells q → ⊥) → is_some o ≡ has cells q
placed_has cells q (Some place) at none = sym (held_has cells q (place, slice_get_within cells place q at, get_or_from_slice_get cells place q q at))
placed_has cells q None at none = sym (absent_has cells q none)

abbrev pub single : Place → Rows
single cell = record { sheet = cell.sheet; col = cell.col; first = cell.row; last = cell.row }

single_itself : (cell : Place) → is_in cell (single cell) ≡ true
single_itself cell = grind (arith, nat_tests)

same_fields : (p q : Place) → p.sheet ≡ q.sheet → p.col ≡ q.col → p.row ≡ q.row → p ≡ q
same_fields p q s c r = ap (λ s. record { sheet = s; col = p.col; row = p.row }) s ∙ ap (λ c. record { sheet = q.sheet; col = c; row = p.row }) c ∙ ap (λ r. record { sheet = q.sheet; col = q.col; row = r }) r

single_only : (cell q : Place) → is_in q (single cell) ≡ true → q ≡ cell
single_only cell q h =
    let l = lies (single cell) q h in
    let row : q.row ≡ cell.row = omega (arith, l.from, l.to) in
    same_fields q cell l.sheet l.col row

pub single_is : (cell q : Place) → is_in q (single cell) ≡ eq_by_cmp place_cmp q cell
single_is cell q = alike (is_in q (single cell)) (eq_by_cmp place_cmp q cell)
    (λ h. subst (λ p. eq_by_cmp place_cmp q p ≡ true) (single_only cell q h) (same_cell q))
    (λ h. subst (λ p. is_in p (single cell) ≡ true) (sym (same_places q cell h)) (single_itself cell))

-- one cell more that is kept, or that isn't
module _ (book : Book) (stale cells : List Place) (i : ℕ) (cell : Place) (within : i < length cells) (at : cell ≡ get_or cells i cell) where
  abbrev test : CellSet
  test q = is_formula_cell book q && not (has stale q)

  abbrev before : List Place
  before = take i cells

  more : (q : Place) → has (take (i + 1) cells) q ≡ (has before q || eq_by_cmp place_cmp q cell)
  more q = list_any_more (eq_by_cmp place_cmp q) cells i cell within ∙ ap (λ p. has before q || eq_by_cmp place_cmp q p) (sym at)

  joined : (a b t : Bool) → (b ≡ true → t ≡ true) → ((a && t) || b) ≡ ((a || b) && t)
  joined true true true h = refl
  joined true true false h = absurd (false≢true (h refl))
  joined true false true h = refl
  joined true false false h = refl
  joined false true true h = refl
  joined false true false h = absurd (false≢true (h refl))
  joined false false t h = refl

  left : (a b t : Bool) → (b ≡ true → t ≡ false) → (a && t) ≡ ((a || b) && t)
  left true true t h = refl
  left true false t h = refl
  left false true true h = sym (h refl)
  left false true false h = refl
  left false false t h = refl

  pub kept_more : (runs new : List Rows) → test cell ≡ true → new ≡ runs ++ single cell ∷ [] → ((q : Place) → is_in_any q runs ≡ kept book stale before q) → (q : Place) → is_in_any q new ≡ kept book stale (take (i + 1) cells) q
  kept_more runs new passes grown so_far q =
      ap (is_in_any q) grown ∙ list_any-append (is_in q) runs (single cell ∷ []) ∙ ap (λ b. is_in_any q runs || b) (or_none (is_in q (single cell)) ∙ single_is cell q)
      ∙ ap (λ b. b || eq_by_cmp place_cmp q cell) (so_far q)
      ∙ joined (has before q) (eq_by_cmp place_cmp q cell) (test q) (λ h. subst (λ p. test p ≡ true) (sym (same_places q cell h)) passes)
      ∙ ap (λ b. b && test q) (sym (more q))
    where
      or_none : (b : Bool) → (b || false) ≡ b
      or_none true = refl
      or_none false = refl

  pub kept_not : (runs : List Rows) → test cell ≡ false → ((q : Place) → is_in_any q runs ≡ kept book stale before q) → (q : Place) → is_in_any q runs ≡ kept book stale (take (i + 1) cells) q
  kept_not runs fails so_far q =
      so_far q ∙ left (has before q) (eq_by_cmp place_cmp q cell) (test q) (λ h. subst (λ p. test p ≡ false) (sym (same_places q cell h)) fails)
      ∙ ap (λ b. b && test q) (sym (more q))

-- a place before the end has an item
pub no_item : (cells : List Place) (i : ℕ) {o : Option Place} → slice_get cells i ≡ o → ((cell : Place) → o ≡ Some cell → ⊥) → i < length cells → ⊥
no_item [] i at none within = absurd (omega (arith, within))
no_item (x ∷ xs) zero at none within = none x (sym at)
no_item (x ∷ xs) (suc i) at none within = no_item xs i at none (omega (arith, within))
