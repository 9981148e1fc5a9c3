-- Runs that were found are runs of cells that read the area.
use Rattle.std.proofs.Common.{◌≡◌, ℕ, ◌+◌, ◌-◌, ◌≤◌, ◌<◌, Bool, true, false, ◌&&◌, ◌||◌, nat_le, List, [], ◌∷◌, refl, sym, ap, subst, ◌∙◌, ⊎_elim, arith}
use Rattle.std.specs.Prelude.{◌==◌}
use Rattle.std.specs.List.{Contains, flat_map, list_any}
use Rattle.std.proofs.lemmas.Bool.{and_from, and_parts, eqb-true, false≢true, leb-true, or_cases}
use Rattle.std.proofs.lemmas.Bool.Decides.{nat_tests}
use Rattle.std.proofs.lemmas.List.Elements.{Contains-append_cases, Contains-append_left, Contains-append_right}
use Rattle.std.proofs.lemmas.List.FromFn.{get_or-map-range_with_len, length-map-range_with_len}
use Rattle.calc_addr.specs.Places.{Place, Rectangle, Rows}
use Rattle.calc_model.specs.Listeners.{AreReached, ReachesArea, ReadAreas, cells_of, cells_of_runs, reads_one_of}
use Rattle.run_unions.specs.Unions.{is_in}
use Rattle.run_unions.proofs.Emitting.{or_right}
use Rattle.listener_hub.specs.Reaching.{GetReached}

same_place : {s t c d r q : ℕ} → s ≡ t → c ≡ d → r ≡ q → ◌≡◌ {A = Place} (record { sheet = s; col = c; row = r }) (record { sheet = t; col = d; row = q })
same_place a b c = cc

in_cells : (run : Rows) (q : Place) → is_in q run ≡ true → Contains (cells_of run) q
in_cells run q h =
    let parts = and_parts _ _ h in
    let column = and_parts (q.sheet == run.sheet) (q.col == run.col) parts.0 in
    let row = and_parts (nat_le run.first q.row) (nat_le q.row run.last) parts.1 in
    let low : run.first ≤ q.row = leb-true run.first q.row row.0 in
    let high : q.row ≤ run.last = leb-true q.row run.last row.1 in
    let f : ℕ → Place = λ r. record { sheet = run.sheet; col = run.col; row = r } in
    let n : ℕ = run.last + 1 - run.first in
    let step : ℕ = q.row - run.first in
    let within : step < n = under run.first q.row run.last low high in (
      step,
      subst (λ m. step < m) (sym (length-map-range_with_len f run.first n)) within,
      get_or-map-range_with_len f run.first n step q.row q within (back run.first q.row low)
          ∙ same_place (sym (eqb-true q.sheet run.sheet column.0)) (sym (eqb-true q.col run.col column.1)) refl,
    )
  where
    under : (f r l : ℕ) → f ≤ r → r ≤ l → r - f < l + 1 - f
    under f r l h k = omega arith

    back : (f r : ℕ) → f ≤ r → f + (r - f) ≡ r
    back f r h = omega arith

rows_between : (first last step : ℕ) → step < last + 1 - first → (nat_le first (first + step) && nat_le (first + step) last) ≡ true
rows_between first last step h = grind (arith, nat_tests)

pub cells_in : (run : Rows) (q : Place) → Contains (cells_of run) q → is_in q run ≡ true
cells_in run q (k, below, is) =
    let f : ℕ → Place = λ r. record { sheet = run.sheet; col = run.col; row = r } in
    let n : ℕ = run.last + 1 - run.first in
    let within : k < n = subst (λ m. k < m) (length-map-range_with_len f run.first n) below in
    let place : f (run.first + k) ≡ q = sym (get_or-map-range_with_len f run.first n k (run.first + k) q within refl) ∙ is in
    subst (λ (p : Place). is_in p run ≡ true) place
    (and_from ((run.sheet == run.sheet) && (run.col == run.col)) (nat_le run.first (run.first + k) && nat_le (run.first + k) run.last) (itself run.sheet run.col) (rows_between run.first run.last k within))
  where
    itself : (s c : ℕ) → ((s == s) && (c == c)) ≡ true
    itself s c = grind (arith, nat_tests)

in_runs : (runs : List Rows) (q : Place) → list_any (is_in q) runs ≡ true → Contains (flat_map cells_of runs) q
in_runs [] q h = absurd (false≢true h)
in_runs (r ∷ rs) q h =
    ⊎_elim (λ (e : is_in q r ≡ true). Contains-append_left (cells_of r) (flat_map cells_of rs) q (in_cells r q e))
    (λ (e : list_any (is_in q) rs ≡ true). Contains-append_right (cells_of r) (flat_map cells_of rs) q (in_runs rs q e))
    (or_cases (is_in q r) (list_any (is_in q) rs) h)

runs_in : (runs : List Rows) (q : Place) → Contains (flat_map cells_of runs) q → list_any (is_in q) runs ≡ true
runs_in [] q (k, below, is) = absurd (omega arith)
runs_in (r ∷ rs) q c =
    ⊎_elim (λ (e : Contains (cells_of r) q). ap (λ b. b || list_any (is_in q) rs) (cells_in r q e))
    (λ (e : Contains (flat_map cells_of rs) q). or_right (is_in q r) (list_any (is_in q) rs) (runs_in rs q e))
    (Contains-append_cases (cells_of r) (flat_map cells_of rs) q c)

pub reached : (read : ReadAreas) (area : Rectangle) (runs : List Rows) (set : Place → Bool) → ((q : Place) → set q ≡ reads_one_of read area q) → GetReached read area set [] runs → AreReached read area runs
unfolding cells_of_runs
reached read area runs set exact get = record {
  all = λ q h. in_runs runs q (get.all q (exact q ∙ h));
  only = λ q c. ⊎_elim (λ (e : false ≡ true). absurd (false≢true e)) (λ (e : ReachesArea read area q). e) (get.only q (runs_in runs q c));
}
