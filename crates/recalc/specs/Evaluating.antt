-- Results of formulas on the way to those of all: some cells get theirs once all that they read is known.
use Rattle.std.specs.Prelude.{◌≡◌, ◌≤◌, ◌<◌, ◌+◌, ◌-◌, ◌^◌, ℕ, true, false, not}
use Rattle.calc_addr.specs.Places.{Place}
use Rattle.calc_model.specs.Books.{Book}
use Rattle.calc_model.specs.Counters.{Counter}
use Rattle.calc_model.specs.Results.{IsSound, Results, is_known, is_ready}
use Rattle.calc_model.specs.Stale.{is_formula_cell}
use Rattle.calc_model.specs.Touched.{CellSet}
use Rattle.dirty_spread.specs.Waves.{Problem, has, is_done}

-- each of the cells holds a formula, and all that it reads is known
pub record AreReady (book : Book) (results : Results) (cells : CellSet) : Type 0 where
  pub formula : (q : Place) → cells q ≡ true → is_formula_cell book q ≡ true
  pub ready : (q : Place) → cells q ≡ true → is_ready book results q ≡ true

-- the results are right, and each of the cells has one
pub record AreEvaluated (book : Book) (results : Results) (cells : CellSet) : Type 0 where
  pub sound : IsSound book results
  pub known : (q : Place) → cells q ≡ true → is_known book results q ≡ true

-- the other cells have the results that they had
abbrev pub KeepsOthers : CellSet → Results → Results → Type 0
KeepsOthers cells old new = (q : Place) → cells q ≡ false → new q ≡ old q

-- Before the wave of a number the results are right; of the stale cells those that are done have one, and of the others
-- all that are in no circle.
pub record AreBefore (book : Book) (problem : Problem) (k : ℕ) (results : Results) : Type 0 where
  pub sound : IsSound book results
  pub stale : (q : Place) → has problem.stale q ≡ true → is_known book results q ≡ is_done problem k q
  pub others : (q : Place) → has problem.stale q ≡ false → is_known book results q ≡ not (problem.circular q)

-- there is room for so many steps
abbrev pub HasRoomFor : Counter → ℕ → Type 0
HasRoomFor steps most = steps.count + most < 2 ^ 64 - 2048

-- at most so many steps were counted
abbrev pub Spends : Counter → Counter → ℕ → Type 0
Spends old new most = new.count ≤ old.count + most

-- There is room for the steps of a recalculation, and a part for each worker that counts apart.
pub record CanFork (steps : Counter) : Type 0 where
  pub room : steps.count < 2 ^ 63
  pub parts : 65 ≤ steps.parts
