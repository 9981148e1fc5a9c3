-- Rows of a run that were found, and those that they reach.
use Rattle.std.proofs.Common.{◌≡◌, ℕ, ◌+◌, ◌-◌, ◌≤◌, ◌<◌, Bool, true, false, cond, ◌&&◌, ◌||◌, nat_le, List, [], ◌∷◌, ◌++◌, length, get_or, min, inl, inr, refl, sym, ap, subst, ◌∙◌, ⊎_elim, arith}
use Rattle.std.specs.Prelude.{◌==◌, Some}
use Rattle.std.specs.List.{list_any}
use Rattle.std.proofs.lemmas.Bool.{and_from, and_parts, cases_lt, false≢true, leb-true, or_cases}
use Rattle.std.proofs.lemmas.Bool.Decides.{nat_tests}
use Rattle.std.proofs.lemmas.List.Folds.{list_any-append, list_any_at}
use Rattle.calc_addr.specs.Places.{Place, Rectangle, Rows}
use Rattle.calc_model.specs.Ears.{ReadArea, area_at}
use Rattle.ears.specs.declared.run_areas.Steps.{Steps}
use Rattle.ears.specs.Chains.{reads_above, reads_below}
use Rattle.ears.specs.RunAreas.{has_step, meets}
use Rattle.run_unions.specs.Unions as unions
use Rattle.run_unions.proofs.Emitting.{or_right}
use Rattle.listener_hub.specs.Hits.{is_hit}
use Rattle.listener_hub.specs.Reaching.{GetStretch, IsStretch, stretch}
use Rattle.registration_slab.specs.Slab.{is_in, steps_of}

or_left : (a b : Bool) → a ≡ true → (a || b) ≡ true
or_left a b h = ap (λ x. x || b) h

rows_in : (column : Bool) (first last row : ℕ) → column ≡ true → first ≤ row → row ≤ last → (column && (nat_le first row && nat_le row last)) ≡ true
rows_in column first last row h a b = grind (arith, nat_tests)

module _ (run : Rows) (ears : List ReadArea) (area : Rectangle) (at : ℕ) (d : ReadArea) (below : at < length ears) (order : run.first ≤ run.last)
    (steps : Steps) (found : (step : ℕ) → step ≤ steps_of run → has_step (Some steps) step ≡ meets (area_at (get_or ears at d) step) area)
    (last : ℕ) (is_last : last ≡ min steps.last (steps_of run)) (some : steps.first ≤ last)
    (down up : Bool) (goes_down : down ≡ list_any (reads_above run) ears) (goes_up : up ≡ list_any (reads_below run) ears) where
  abbrev rows : Rows
  rows = stretch run down up steps.first last

  last_low : last ≤ steps.last
  last_low = omega (arith, is_last)

  last_in : last ≤ steps_of run
  last_in = omega (arith, is_last)

  both : (a b c e : ℕ) → a ≤ b → b ≤ c → c ≤ e → (nat_le a b && nat_le b e) ≡ true
  both a b c e h k l = grind (arith, nat_tests)

  back : (f s : ℕ) → f + s - f ≡ s
  back f s = omega arith

  under : (f s l : ℕ) → s ≤ l - f → f ≤ l → (f ≤ f + s) × (f + s ≤ l)
  under f s l h k = (omega arith, omega arith)

  -- a row that was found reads a cell of the area
  hit : (q : Place) → ((q.sheet == run.sheet) && (q.col == run.col)) ≡ true → (step : ℕ) → steps.first ≤ step → step ≤ last → list_any (is_hit run area (record q { row = run.first + step })) ears ≡ true
  hit q column step low high =
      let within : step ≤ steps_of run = omega (arith, high, last_in) in
      let row = under run.first step run.last within order in
      let meeting : meets (area_at (get_or ears at d) (run.first + step - run.first)) area ≡ true =
      subst (λ n. meets (area_at (get_or ears at d) n) area ≡ true) (sym (back run.first step)) (sym (found step within) ∙ both steps.first step last steps.last low high last_low) in
      list_any_at (is_hit run area (record q { row = run.first + step })) ears at d below
      (and_from _ _ (rows_in _ run.first run.last (run.first + step) column row.0 row.1) meeting)

  wide_first : (up : Bool) (f s row : ℕ) → f + s ≤ row → cond up f (f + s) ≤ row
  wide_first true f s row h = omega arith
  wide_first false f s row h = h

  wide_last : (down : Bool) (l e row : ℕ) → row ≤ e → e ≤ l → row ≤ cond down l e
  wide_last true l e row h k = omega arith
  wide_last false l e row h k = h

  up_if : (up : Bool) (f s row : ℕ) → cond up f (f + s) ≤ row → row < f + s → up ≡ true
  up_if true f s row h k = refl
  up_if false f s row h k = absurd (omega arith)

  down_if : (down : Bool) (l e row : ℕ) → row ≤ cond down l e → e < row → down ≡ true
  down_if true l e row h k = refl
  down_if false l e row h k = absurd (omega arith)

  first_in : (up : Bool) (f s : ℕ) → f ≤ cond up f (f + s)
  first_in true f s = omega arith
  first_in false f s = omega arith

  last_out : (down : Bool) (l e : ℕ) → e ≤ l → cond down l e ≤ l
  last_out true l e h = omega arith
  last_out false l e h = h

  end_low : run.first + last ≤ run.last
  end_low = omega (arith, last_in, order)

  hit_in : (q : Place) → is_hit run area q (get_or ears at d) ≡ true → unions.is_in q rows ≡ true
  hit_in q h =
      let parts = and_parts (is_in run q) (meets (area_at (get_or ears at d) (q.row - run.first)) area) h in
      let place = and_parts ((q.sheet == run.sheet) && (q.col == run.col)) (nat_le run.first q.row && nat_le q.row run.last) parts.0 in
      let row = and_parts (nat_le run.first q.row) (nat_le q.row run.last) place.1 in
      let within : q.row - run.first ≤ steps_of run = less run.first q.row run.last (leb-true _ _ row.0) (leb-true _ _ row.1) in
      let step = and_parts (nat_le steps.first (q.row - run.first)) (nat_le (q.row - run.first) steps.last) (found (q.row - run.first) within ∙ parts.1) in
      rows_in _ (cond up run.first (run.first + steps.first)) (cond down run.last (run.first + last)) q.row place.0
      (wide_first up run.first steps.first q.row (omega (arith, leb-true _ _ row.0, leb-true _ _ step.0)))
      (wide_last down run.last (run.first + last) q.row (omega (arith, is_last, within, leb-true _ _ row.0, leb-true _ _ step.1)) end_low)
    where
      less : (f r l : ℕ) → f ≤ r → r ≤ l → r - f ≤ l - f
      less f r l h k = omega arith

  in_reaches : (q : Place) → unions.is_in q rows ≡ true → IsStretch run ears area q
  in_reaches q h =
      let place = and_parts ((q.sheet == run.sheet) && (q.col == run.col)) (nat_le (cond up run.first (run.first + steps.first)) q.row && nat_le q.row (cond down run.last (run.first + last))) h in
      let row = and_parts _ _ place.1 in
      let low : cond up run.first (run.first + steps.first) ≤ q.row = leb-true _ _ row.0 in
      let high : q.row ≤ cond down run.last (run.first + last) = leb-true _ _ row.1 in
      let first : run.first ≤ q.row = omega (arith, first_in up run.first steps.first, low) in
      let end : q.row ≤ run.last = omega (arith, last_out down run.last (run.first + last) end_low, high) in
      let here : is_in run q ≡ true = rows_in _ run.first run.last q.row place.0 first end in
      ⊎_elim
      (λ (e : q.row < run.first + steps.first). record {
        row = run.first + steps.first;
        hits = hit q place.0 steps.first (omega arith) some;
        here = here;
        way = inr (inr (sym goes_up ∙ up_if up run.first steps.first q.row low e, omega (arith, e)));
      })
      (λ (e : run.first + steps.first ≤ q.row).
      ⊎_elim
      (λ (f : run.first + last < q.row). record {
        row = run.first + last;
        hits = hit q place.0 last some (omega arith);
        here = here;
        way = inr (inl (sym goes_down ∙ down_if down run.last (run.first + last) q.row high f, omega (arith, f)));
      })
      (λ (f : q.row ≤ run.first + last).
      let step : ℕ = q.row - run.first in
      let same : run.first + step ≡ q.row = omega (arith, first) in
      record {
        row = q.row;
        hits = subst (λ r. list_any (is_hit run area (record q { row = r })) ears ≡ true) same (hit q place.0 step (omega (arith, e)) (omega (arith, f)));
        here = here;
        way = inl refl;
      })
      (cases_lt (run.first + last) q.row))
      (cases_lt q.row (run.first + steps.first))

  pub stretched : (old new : List Rows) → new ≡ old ++ rows ∷ [] → GetStretch run ears area (λ q. is_hit run area q (get_or ears at d)) old new
  stretched old new is = record {
    all = λ q h. grown q ∙ ⊎_elim (λ (e : list_any (unions.is_in q) old ≡ true). or_left _ _ e) (λ (e : is_hit run area q (get_or ears at d) ≡ true). or_right _ _ (or_left _ false (hit_in q e))) (or_cases _ _ h);
    only = λ q h. ⊎_elim (λ (e : list_any (unions.is_in q) old ≡ true). inl e)
        (λ (e : (unions.is_in q rows || false) ≡ true). inr (in_reaches q (⊎_elim (λ (x : unions.is_in q rows ≡ true). x) (λ (x : false ≡ true). absurd (false≢true x)) (or_cases _ _ e))))
        (or_cases _ _ (sym (grown q) ∙ h));
  }
    where
      grown : (q : Place) → list_any (unions.is_in q) new ≡ (list_any (unions.is_in q) old || (unions.is_in q rows || false))
      grown q = ap (list_any (unions.is_in q)) is ∙ list_any-append (unions.is_in q) old (rows ∷ [])

-- where a list of ears ends
pub no_ear : ReadArea
no_ear = record { area = record { sheet = 0; first_col = 0; last_col = 0; first_row = 0; last_row = 0 }; first_moves = false; last_moves = false }
