-- How many stale cells are done before each wave: those before it, and its own, are no more than all.
use Rattle.std.proofs.Common.{◌≡◌, ◌≤◌, ℕ, zero, suc, ◌+◌, Bool, true, false, ◌&&◌, List, [], ◌∷◌, length, cond, refl, sym, ap, ◌∙◌, ⊎_elim, arith}
use Rattle.std.specs.Prelude.{slice_index_or}
use Rattle.std.specs.List.{All, AllPairs, filter}
use Rattle.std.proofs.lemmas.List.{length-append}
use Rattle.cell_runs.specs.CellLists.{all_cells as rows_cells, cells_of}
use Rattle.cell_runs.proofs.Numbers.{length-cells}
use Rattle.recalc.specs.Units.{IsUnit}
use Rattle.std.proofs.lemmas.Bool.{cases_Bool, false≢true}
use Rattle.calc_addr.specs.Places.{IsBefore, Place, Rows}
use Rattle.calc_model.specs.declared.content.Content.{Content}
use Rattle.calc_model.specs.Books.{Book, IsBook}
use Rattle.calc_model.specs.Stale.{count_in, is_formula_cell}
use Rattle.calc_model.specs.Touched.{CellSet}
use Rattle.calc_model.proofs.Areas.{both_true}
use Rattle.formula_listeners.specs.Held.{HoldsReads}
use Rattle.dirty_spread.specs.Waves.{AreWaves, Problem, has, is_done}
use Rattle.dirty_spread.proofs.Beside.{has_held, held_has}
use Rattle.recalc.proofs.Counting.{counted}
use Rattle.recalc.proofs.Waving.{once_more}

module _ (one two all : CellSet) (apart : (q : Place) → one q ≡ true → two q ≡ false) (first : (q : Place) → one q ≡ true → all q ≡ true) (second : (q : Place) → two q ≡ true → all q ≡ true) where
  -- entries that pass one of two tests, never both
  parted : (entries : List (Place × Content)) → length (filter (λ e. one e.0) entries) + length (filter (λ e. two e.0) entries) ≤ length (filter (λ e. all e.0) entries)
  parted [] = omega arith
  parted (e ∷ es) = step (one e.0) (two e.0) (all e.0) (apart e.0) (first e.0) (second e.0) (filter (λ e. one e.0) es) (filter (λ e. two e.0) es) (filter (λ e. all e.0) es) (parted es)
    where
      step : (a b c : Bool) → (a ≡ true → b ≡ false) → (a ≡ true → c ≡ true) → (b ≡ true → c ≡ true) → (xs ys zs : List (Place × Content)) → length xs + length ys ≤ length zs → length (cond a (e ∷ xs) xs) + length (cond b (e ∷ ys) ys) ≤ length (cond c (e ∷ zs) zs)
      step true true c disjoint in_first in_second xs ys zs fits = absurd (false≢true (sym (disjoint refl)))
      step true false true disjoint in_first in_second xs ys zs fits = omega (arith, fits)
      step true false false disjoint in_first in_second xs ys zs fits = absurd (false≢true (in_first refl))
      step false true true disjoint in_first in_second xs ys zs fits = omega (arith, fits)
      step false true false disjoint in_first in_second xs ys zs fits = absurd (false≢true (in_second refl))
      step false false true disjoint in_first in_second xs ys zs fits = omega (arith, fits)
      step false false false disjoint in_first in_second xs ys zs fits = fits

module _ (book : Book) (problem : Problem) (holds : HoldsReads problem.read book) (formulas : (q : Place) → has problem.stale q ≡ true → is_formula_cell book q ≡ true) (is : IsBook book) where
  -- the stale cells that are done before a wave
  abbrev pub done_before : ℕ → CellSet
  done_before k q = has problem.stale q && is_done problem k q

  -- those done before a wave, and those of the wave, are done before the next
  pub wave_fits : (waves : List (List Place)) → AreWaves problem waves → (k : ℕ) → count_in book (done_before k) + length (slice_index_or waves k []) ≤ count_in book (done_before (suc k))
  wave_fits waves ordered k =
      let wave : List Place = slice_index_or waves k [] in
      let size : length wave ≡ count_in book (has wave) = counted book (has wave) (λ q h. formulas q (held_has problem.stale q (((ordered.each k).exact q).0 (has_held wave q h)).stale)) wave is (ordered.each k).in_order (λ q. refl) in
      omega (arith, size, parted (done_before k) (has wave) (done_before (suc k)) apart more own book.cells)
    where
      both : (a b : Bool) → a ≡ true → b ≡ true → (a && b) ≡ true
      both a b x y = ap (λ c. c && b) x ∙ y

      own : (q : Place) → has (slice_index_or waves k []) q ≡ true → done_before (suc k) q ≡ true
      own q h = let in_wave = ((ordered.each k).exact q).0 (has_held (slice_index_or waves k []) q h) in both (has problem.stale q) (is_done problem (suc k) q) (held_has problem.stale q in_wave.stale) in_wave.done

      more : (q : Place) → done_before k q ≡ true → done_before (suc k) q ≡ true
      more q h = let parts = both_true (has problem.stale q) (is_done problem k q) h in both (has problem.stale q) (is_done problem (suc k) q) parts.0 (once_more book problem holds formulas k q parts.1)

      apart : (q : Place) → done_before k q ≡ true → has (slice_index_or waves k []) q ≡ false
      apart q h = ⊎_elim
          (λ (e : has (slice_index_or waves k []) q ≡ true).
          let in_wave = ((ordered.each k).exact q).0 (has_held (slice_index_or waves k []) q e) in
          absurd (false≢true (sym in_wave.not_yet ∙ (both_true (has problem.stale q) (is_done problem k q) h).1)))
          (λ (e : has (slice_index_or waves k []) q ≡ false). e) (cases_Bool (has (slice_index_or waves k []) q))

  -- no more are done than are stale
  pub done_fit : AllPairs IsBefore problem.stale → (k : ℕ) → count_in book (done_before k) ≤ length problem.stale
  done_fit in_order k =
      let size : length problem.stale ≡ count_in book (has problem.stale) = counted book (has problem.stale) formulas problem.stale is in_order (λ q. refl) in
      omega (arith, size, parted (done_before k) (λ q. false) (has problem.stale) (λ q h. refl) (λ q h. (both_true (has problem.stale q) (is_done problem k q) h).0) (λ q h. absurd (false≢true h)) book.cells)

-- there are no more units than cells
pub units_fit : (book : Book) (units : List Rows) → All (IsUnit book) units → length units ≤ length (rows_cells units)
units_fit book [] each = omega arith
units_fit book (rows ∷ units) each =
    let first : IsUnit book rows = each zero rows (omega arith) in
    omega (arith, length-append (cells_of rows) (rows_cells units), length-cells rows, first.some, units_fit book units (λ k d within. each (suc k) d (omega (arith, within))))
