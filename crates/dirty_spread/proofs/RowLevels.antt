-- Rows of parts that get their waves.
use Rattle.std.proofs.Common.{◌≡◌, ℕ, zero, suc, ◌+◌, ◌-◌, ◌<◌, ◌≤◌, List, [], ◌∷◌, ◌++◌, length, take, get_or, sym, ap, subst, ◌∙◌, set-set, ⊎_elim, length-append, arith}
use Rattle.std.specs.List.{slice_range}
use Rattle.std.proofs.Math.ListN.{set}
use Rattle.std.proofs.lemmas.Bool.{cases_eq}
use Rattle.std.proofs.lemmas.List.{get_or-append-add, get_or_append_left, take_all}
use Rattle.cell_runs.specs.CellLists.{all_cells, cells_of}
use Rattle.cell_runs.proofs.Numbers.{cell_at, length-cells}
use Rattle.calc_addr.specs.Places.{Place, Rows}
use Rattle.calc_model.specs.declared.dependents.Part.{Part}
use Rattle.calc_model.specs.Ears.{ReadArea}
use Rattle.calc_model.specs.Listeners.{IsHeard, ReadAreas, listed}
use Rattle.dirty_spread.specs.declared.look.Cursor.{Cursor}
use Rattle.dirty_spread.specs.ByParts.{AreRowsAt, AreRowsOf, areas_below, cells_before}
use Rattle.dirty_spread.specs.Finding.{at}
use Rattle.dirty_spread.specs.Levels.{AreUnderWay, IsLooked, IsOrdering, level, read_by}
use Rattle.dirty_spread.specs.Waves.{Problem, has, problem_of}
use Rattle.dirty_spread.proofs.Orders.{begin, looked_kept, set_keeps, settle}

-- a cell that wasn't looked at gets its wave at once
settle_new : (p : Problem) (levels : List ℕ) → IsOrdering p levels [] → (place : ℕ) → place < length levels → level levels place ≡ 0
    → (cursor : Cursor) → length (read_by p place) ≤ cursor.area → IsLooked p.stale p.circular (read_by p place) levels cursor → IsOrdering p (set levels place (cursor.greatest + 1)) []
settle_new p levels h place within is_new cursor all looked =
    subst (λ (ls : List ℕ). IsOrdering p ls []) (set-set levels place 1 (cursor.greatest + 1))
    (settle p (set levels place 1) [] (record { place = place; cursor = record { area = 0; next = 0; greatest = 2 } })
    (begin p levels h place within is_new) cursor all
    (looked_kept p.stale p.circular (read_by p place) levels (set levels place 1) cursor (set_keeps levels place 1 (omega arith)) looked))

pub settled_more : (read : ReadAreas) (stale circles : List Place) (levels : List ℕ) → AreUnderWay read stale circles levels → (place : ℕ) → place < length levels → level levels place ≡ 0
    → (cursor : Cursor) → length (read_by (problem_of read stale circles) place) ≤ cursor.area → IsLooked stale (has circles) (read_by (problem_of read stale circles) place) levels cursor
    → AreUnderWay read stale circles (set levels place (cursor.greatest + 1))
settled_more read stale circles levels h place within is_new cursor all looked =
    record { in_order = h.in_order; circles_in_order = h.circles_in_order; ordering = settle_new (problem_of read stale circles) levels h.ordering place within is_new cursor all looked }

-- the rows of a part stand one behind the other, and read what its ears say
module _ (read : ReadAreas) (cells : List Place) (run : Rows) (ears : List ReadArea) (part : Part) (place : ℕ) (heard : IsHeard read run ears part) (in_order : part.run.first ≤ part.run.last) (rows : AreRowsAt cells run place) where
  pub part_rows : AreRowsOf read cells (place + (part.run.first - run.first)) (part.run.last - part.run.first + 1) (slice_range ears part.from part.to)
  part_rows k less = (
    subst (λ n. n < length cells) same there.0,
    subst (λ n. listed (read (at cells n)) ≡ areas_below (slice_range ears part.from part.to) k) same
        (subst (λ (q : Place). listed (read q) ≡ areas_below (slice_range ears part.from part.to) k) (sym there.1) reads),
  )
    where
      step : ℕ
      step = (part.run.first - run.first) + k

      low : step < run.last + 1 - run.first
      low = omega (arith, heard.inside.0, heard.inside.1)

      there : (place + step < length cells) × (at cells (place + step) ≡ record { sheet = run.sheet; col = run.col; row = run.first + step })
      there = rows step low

      same : place + step ≡ (place + (part.run.first - run.first)) + k
      same = omega arith

      row : part.run.first + k ≡ run.first + step
      row = omega (arith, heard.inside.0)

      reads : listed (read (record { sheet = run.sheet; col = run.col; row = run.first + step })) ≡ areas_below (slice_range ears part.from part.to) k
      reads =
          let distance : (part.run.first + k) - part.run.first ≡ k = omega arith in
          subst (λ r. listed (read (record { sheet = run.sheet; col = run.col; row = r })) ≡ areas_below (slice_range ears part.from part.to) k) row
          (ap listed (heard.areas (part.run.first + k) (omega arith, omega arith)) ∙ ap (areas_below (slice_range ears part.from part.to)) distance)

-- the cells of a run stand behind those of the runs before it
pub run_rows : (runs : List Rows) (n : ℕ) (run : Rows) → n < length runs → run ≡ get_or runs n run → AreRowsAt (all_cells runs) run (cells_before runs n)
run_rows [] n run within is k less = absurd (omega arith)
run_rows (r ∷ rs) zero run within is k less =
    let same : run ≡ r = is in
    let low : k < length (cells_of r) = omega (arith, length-cells r, ap (λ (x : Rows). x.first) same, ap (λ (x : Rows). x.last) same) in
    let place : cells_before (r ∷ rs) 0 + k ≡ k = omega arith in (
      omega (arith, length-append (cells_of r) (all_cells rs)),
      ap (at (all_cells (r ∷ rs))) place ∙ get_or_append_left (cells_of r) (all_cells rs) _ k low ∙ cell_at r k _ (omega (arith, length-cells r)) ∙ ap (λ (x : Rows). record { sheet = x.sheet; col = x.col; row = x.first + k }) (sym same),
    )
run_rows (r ∷ rs) (suc n) run within is k less =
    let behind = run_rows rs n run (omega arith) is k less in
    let same : length (cells_of r ++ all_cells (take n rs)) + k ≡ length (cells_of r) + (length (all_cells (take n rs)) + k) = omega (arith, length-append (cells_of r) (all_cells (take n rs))) in (
      omega (arith, behind.0, length-append (cells_of r) (all_cells rs), same),
      ap (at (cells_of r ++ all_cells rs)) same ∙ get_or-append-add (cells_of r) (all_cells rs) (length (all_cells (take n rs)) + k) _ ∙ behind.1,
    )

pub cells_more : (runs : List Rows) (n : ℕ) (run : Rows) → n < length runs → run ≡ get_or runs n run → cells_before runs (n + 1) ≡ cells_before runs n + (run.last + 1 - run.first)
cells_more [] n run within is = absurd (omega arith)
cells_more (r ∷ rs) zero run within is =
    length-append (cells_of r) [] ∙ omega (arith, length-cells r, ap (λ (x : Rows). x.first) is, ap (λ (x : Rows). x.last) is)
cells_more (r ∷ rs) (suc n) run within is =
    let more : suc n + 1 ≡ suc (n + 1) = omega arith in
    ap (cells_before (r ∷ rs)) more ∙ omega (arith, length-append (cells_of r) (all_cells (take (n + 1) rs)), length-append (cells_of r) (all_cells (take n rs)), cells_more rs n run (omega arith) is)

pub cells_all : (runs : List Rows) → cells_before runs (length runs) ≡ length (all_cells runs)
cells_all runs = ap (λ (rs : List Rows). length (all_cells rs)) (take_all (length runs) runs (omega arith))

-- the first runs have no more cells than all
pub runs_fit : (runs : List Rows) (cells : List Place) → all_cells runs ≡ cells → (n : ℕ) (run : Rows) → n < length runs → run ≡ get_or runs n run → cells_before runs n + (run.last + 1 - run.first) ≤ length cells
runs_fit runs cells are n run within is =
    ⊎_elim (λ (none : run.last + 1 - run.first ≡ 0). omega (arith, few n, none, ap (λ (ps : List Place). length ps) are))
    (λ (some : run.last + 1 - run.first ≡ 0 → ⊥). let end = run_rows runs n run within is (run.last - run.first) (omega arith) in omega (arith, end.0, ap (λ (ps : List Place). length ps) are))
    (cases_eq (run.last + 1 - run.first) 0)
  where
    few : (m : ℕ) → cells_before runs m ≤ length (all_cells runs)
    few m = less runs m
      where
        less : (rs : List Rows) (m : ℕ) → length (all_cells (take m rs)) ≤ length (all_cells rs)
        less [] zero = omega arith
        less [] (suc m) = omega arith
        less (r ∷ rs) zero = omega arith
        less (r ∷ rs) (suc m) = omega (arith, less rs m, length-append (cells_of r) (all_cells (take m rs)), length-append (cells_of r) (all_cells rs))

pub cells_less : (runs : List Rows) (n : ℕ) (run : Rows) → 0 < n → n ≤ length runs → run ≡ get_or runs (n - 1) run → cells_before runs n ≡ cells_before runs (n - 1) + (run.last + 1 - run.first)
cells_less runs n run some within is =
    let one : (n - 1) + 1 ≡ n = omega arith in
    ap (cells_before runs) (sym one) ∙ cells_more runs (n - 1) run (omega arith) is
