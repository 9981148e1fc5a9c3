-- What a recalculation takes and leaves.
use Rattle.std.proofs.Common.{◌≡◌, ℕ, Bool, true, not, ◌&&◌, List, Result, Ok, Err, refl, ap, subst, ◌∙◌}
use Rattle.std.specs.Prelude.{IfOk, OnErr}
use Rattle.calc_addr.specs.Places.{Place}
use Rattle.calc_model.specs.Books.{Book}
use Rattle.calc_model.specs.Stale.{count_in, is_formula_cell, reaches}
use Rattle.calc_model.specs.Touched.{CellSet}
use Rattle.calc_model.specs.Val.{val}
use Rattle.calc_model.proofs.Areas.{both_true}
use Rattle.dirty_spread.specs.Waves.{has}
use Rattle.recalc.specs.Recalculation.{AreRight, Stored, beside}
use Rattle.workbook.specs.Touched.{Parts, is_stale, is_touched}
use Rattle.workbook.specs.Workbook.{IsFresh, State, current, stale_of, values_of}

-- what is right is so of fewer cells
pub right_part : (book other : Book) (stored : Stored) (cells part : CellSet) → book ≡ other → ((q : Place) → part q ≡ true → cells q ≡ true) → AreRight book stored cells → AreRight other stored part
right_part book other stored cells part same inside right =
    subst (λ (b : Book). AreRight b stored part) same (record {
      values = λ q h. right.values q (inside q h);
      known = λ q h. right.known q (inside q h);
      listed = λ q h formula. right.listed q (inside q h) formula;
    })

-- the stale cells, by the book and what is touched
pub listed_stale : (state : State) (book : Book) (touched : Parts) (b : Bool) (q : Place) → book ≡ state.book → touched ≡ state.touched → b ≡ (is_formula_cell book q && reaches book (is_touched book touched) q) → b ≡ stale_of state q
unfolding stale_of
listed_stale state book touched b q e t is = is ∙ (λ i. is_formula_cell (e i) q && reaches (e i) (is_touched (e i) (t i)) q)

pub same_stale : (one other : State) → one.book ≡ other.book → one.touched ≡ other.touched → (q : Place) → stale_of one q ≡ stale_of other q
unfolding stale_of
same_stale one other e t q = λ i. is_formula_cell (e i) q && reaches (e i) (is_touched (e i) (t i)) q

pub current_by : (state : State) (stale : List Place) → ((q : Place) → has stale q ≡ stale_of state q) → (q : Place) → beside stale q ≡ current state q
current_by state stale is q = ap not (is q)

pub shows_all : (state : State) → AreRight state.book state.results (λ q. true) → (q : Place) → values_of state q ≡ val state.book q
unfolding values_of
shows_all state right q = right.values q refl

pub on_err_so : {T E : Type 0} {P : Type 0} (result : Result T E) → P → OnErr result P
on_err_so (Ok x) p = tt
on_err_so (Err e) p = p

-- stale cells hold formulas
pub stale_formula : (state : State) (q : Place) → stale_of state q ≡ true → is_formula_cell state.book q ≡ true
unfolding stale_of
stale_formula state q h = (both_true (is_formula_cell state.book q) (reaches state.book (is_touched state.book state.touched) q) h).0

-- whether a workbook is fresh is a matter of its book, its results and what is touched
pub fresh_same : (one other : State) → one.book ≡ other.book → one.results ≡ other.results → one.touched ≡ other.touched → IsFresh one → IsFresh other
fresh_same one other e r t fresh =
    subst (λ rs. AreRight other.book rs (current other)) r
    (right_part one.book other.book one.results (current one) (current other) e (λ q h. ap not (same_stale one other e t q) ∙ h) fresh)

-- how many formulas of a workbook are stale, by its book and what is touched
pub stale_counted : {E : Type 0} (state : State) (book : Book) (touched : Parts) (result : Result ℕ E) → book ≡ state.book → touched ≡ state.touched → IfOk result (λ count. count ≡ count_in book (is_stale book touched)) → IfOk result (λ count. count ≡ count_in state.book (stale_of state))
unfolding stale_of
stale_counted state book touched (Ok count) e t is = is ∙ (λ i. count_in (e i) (is_stale (e i) (t i)))
stale_counted state book touched (Err fault) e t is = tt
