-- The cells of runs, as a list and as a test.
use Rattle.std.proofs.Common.{◌≡◌, ℕ, ◌+◌, ◌-◌, ◌<◌, true, List, [], ◌∷◌, Result, Ok, Err, refl, sym, subst, ◌∙◌, ⊎_elim, arith}
use Rattle.std.specs.Prelude.{IfOk, OnOk}
use Rattle.std.specs.List.{Contains, flat_map}
use Rattle.std.proofs.lemmas.Bool.{false≢true, or_cases}
use Rattle.std.proofs.lemmas.Bool.Decides.{nat_tests}
use Rattle.std.proofs.lemmas.List.Elements.{Contains-append_cases, Contains-append_left, Contains-append_right}
use Rattle.std.proofs.lemmas.List.FromFn.{get_or-map-range_with_len, length-map-range_with_len}
use Rattle.calc_addr.specs.Places.{Place, Rows}
use Rattle.cell_runs.specs.CellLists.{cells_of}
use Rattle.cell_runs.proofs.Numbers.{LiesIn, lies_in}
use Rattle.run_unions.specs.Unions.{is_in}
use Rattle.dirty_spread.specs.Marking.{is_in_any}
use Rattle.dirty_spread.proofs.Fronts.{or_left, or_right}
use Rattle.dirty_spread.proofs.Stepping.{Lies, lies, same_place}

pub in_cells : (run : Rows) (q : Place) → is_in q run ≡ true → Contains (cells_of run) q
in_cells run q h =
    let l : Lies run q = lies run q h in
    let f : ℕ → Place = λ r. record { sheet = run.sheet; col = run.col; row = r } in
    let n : ℕ = run.last + 1 - run.first in
    let step : ℕ = q.row - run.first in
    let within : step < n = omega (arith, l.from, l.to) in
    let row : run.first + step ≡ q.row = omega (arith, l.from) in (
      step,
      subst (λ m. step < m) (sym (length-map-range_with_len f run.first n)) within,
      get_or-map-range_with_len f run.first n step q.row q within row ∙ same_place (sym l.sheet) (sym l.col) refl,
    )

is_in_lies : (run : Rows) (q : Place) → LiesIn q run → is_in q run ≡ true
is_in_lies run q l = grind (arith, nat_tests)

pub cells_in : (run : Rows) (q : Place) → Contains (cells_of run) q → is_in q run ≡ true
cells_in run q h = is_in_lies run q (lies_in q run h)

pub in_runs : (runs : List Rows) (q : Place) → is_in_any q runs ≡ true → Contains (flat_map cells_of runs) q
in_runs [] q h = absurd (false≢true h)
in_runs (r ∷ rs) q h =
    ⊎_elim (λ (e : is_in q r ≡ true). Contains-append_left (cells_of r) (flat_map cells_of rs) q (in_cells r q e))
    (λ (e : is_in_any q rs ≡ true). Contains-append_right (cells_of r) (flat_map cells_of rs) q (in_runs rs q e))
    (or_cases (is_in q r) (is_in_any q rs) h)

pub runs_in : (runs : List Rows) (q : Place) → Contains (flat_map cells_of runs) q → is_in_any q runs ≡ true
runs_in [] q (k, below, is) = absurd (omega arith)
runs_in (r ∷ rs) q c =
    ⊎_elim (λ (e : Contains (cells_of r) q). or_left (is_in q r) (is_in_any q rs) (cells_in r q e))
    (λ (e : Contains (flat_map cells_of rs) q). or_right (is_in q r) (is_in_any q rs) (runs_in rs q e))
    (Contains-append_cases (cells_of r) (flat_map cells_of rs) q c)

-- what a result says, said otherwise
pub on_ok : {T E : Type 0} {P Q : Type 0} (r : Result T E) → (P → Q) → OnOk r P → OnOk r Q
on_ok (Ok x) f p = f p
on_ok (Err e) f p = tt

pub if_ok : {T E : Type 0} {P Q : T → Type 0} (r : Result T E) → ((x : T) → P x → Q x) → IfOk r P → IfOk r Q
if_ok (Ok x) f p = f x p
if_ok (Err e) f p = tt
