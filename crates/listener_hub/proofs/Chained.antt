-- Rows that reach an area through others of their run reach it by reading.
use Rattle.std.proofs.Common.{◌≡◌, ℕ, zero, suc, ◌+◌, ◌-◌, ◌≤◌, Bool, true, ◌&&◌, ◌||◌, nat_le, List, [], ◌∷◌, map, Some, refl, sym, ap, subst, ◌∙◌, ⊎_elim, arith}
use Rattle.std.specs.Prelude.{◌==◌}
use Rattle.std.specs.List.{list_any}
use Rattle.std.proofs.lemmas.Bool.{and_parts, eqb-true, false≢true, leb-true, or_cases}
use Rattle.std.proofs.lemmas.Bool.Decides.{nat_tests}
use Rattle.calc_addr.specs.Places.{IsRectangle, Place, Rectangle, covers, places}
use Rattle.calc_model.specs.Ears.{ReadArea, area_at}
use Rattle.calc_model.specs.Listeners.{ReachesArea, listed}
use Rattle.ears.specs.Chains.{reads_above, reads_below}
use Rattle.ears.proofs.GoingOn.{goes_above, goes_below}
use Rattle.run_unions.proofs.Emitting.{or_right}
use Rattle.registration_slab.specs.declared.registration.Registration.{Registration}
use Rattle.listener_hub.specs.Hits.{is_hit}
use Rattle.listener_hub.specs.Reaching.{IsStretch}
use Rattle.registration_slab.specs.Slab.{AreApart, LiesInSheet, Registrations, areas_of, at, is_in}
use Rattle.listener_hub.proofs.Exact.{hit_has, stands_hit}
use Rattle.registration_slab.proofs.Places.{read_at}

-- an ear that passes has an area that passes
by_ear : (test : Rectangle → Bool) (step : ℕ) (other : ReadArea → Bool) → ((e : ReadArea) → other e ≡ true → test (area_at e step) ≡ true) → (ears : List ReadArea) → list_any other ears ≡ true → list_any test (map (λ e. area_at e step) ears) ≡ true
by_ear test step other each [] h = absurd (false≢true h)
by_ear test step other each (e ∷ es) h =
    ⊎_elim (λ (x : other e ≡ true). ap (λ b. b || list_any test (map (λ y. area_at y step) es)) (each e x))
    (λ (x : list_any other es ≡ true). or_right (test (area_at e step)) (list_any test (map (λ y. area_at y step) es)) (by_ear test step other each es x))
    (or_cases (other e) (list_any other es) h)

module _ (rs : Registrations) (apart : AreApart rs) (p : ℕ) (r : Registration) (there : at rs p ≡ Some r) (lies : LiesInSheet (Some r)) (area : Rectangle) (valid : IsRectangle area) where
  abbrev cell : ℕ → Place
  cell row = record { sheet = r.run.sheet; col = r.run.col; row = row }

  abbrev Reaches : Place → Type 0
  Reaches q = ReachesArea (areas_of rs) area q

  in_run : (row : ℕ) → r.run.first ≤ row → row ≤ r.run.last → is_in r.run (cell row) ≡ true
  in_run row a b = rows_in r.run.sheet r.run.col r.run.first r.run.last row a b
    where
      rows_in : (s c f l row : ℕ) → f ≤ row → row ≤ l → (((s == s) && (c == c)) && (nat_le f row && nat_le row l)) ≡ true
      rows_in s c f l row a b = grind (arith, nat_tests)

  directly_hit : (q : Place) → list_any (is_hit r.run area q) r.ears.items ≡ true → Reaches q
  directly_hit q h =
      let has : is_in r.run q ≡ true = hit_has (Some r) area q h in
      ReachesArea.directly (ap (λ o. list_any (λ a. list_any (covers a) (places area)) (listed o)) (read_at rs apart p r q there has) ∙ stands_hit area valid r q has lies ∙ h)

  next : (row other : ℕ) → r.run.first ≤ row → row ≤ r.run.last → (test : ReadArea → Bool) → list_any test r.ears.items ≡ true
      → ((e : ReadArea) → test e ≡ true → covers (area_at e (row - r.run.first)) (cell other) ≡ true) → Reaches (cell other) → Reaches (cell row)
  next row other low high test some each reached =
      ReachesArea.through {p = cell other}
      (ap (λ o. list_any (λ a. covers a (cell other)) (listed o)) (read_at rs apart p r (cell row) there (in_run row low high))
      ∙ by_ear (λ a. covers a (cell other)) (row - r.run.first) test each r.ears.items some)
      reached

  down : (n row : ℕ) → list_any (reads_above r.run) r.ears.items ≡ true → r.run.first ≤ row → row + n ≤ r.run.last → Reaches (cell row) → Reaches (cell (row + n))
  down zero row chain low high reached = subst (λ k. Reaches (cell k)) (none row) reached
    where
      none : (k : ℕ) → k ≡ k + 0
      none k = omega arith
  down (suc n) row chain low high reached =
      next (row + suc n) (row + n) (omega (arith, low)) high (reads_above r.run) chain
      (λ e h. read_down e h (row + n - r.run.first) (omega (arith, low)) (omega (arith, low)))
      (down n row chain low (omega (arith, high)) reached)
    where
      read_down : (e : ReadArea) → reads_above r.run e ≡ true → (k : ℕ) → row + suc n - r.run.first ≡ k + 1 → r.run.first + k ≡ row + n → covers (area_at e (row + suc n - r.run.first)) (cell (row + n)) ≡ true
      read_down e h k step at_row =
          subst (λ m. covers (area_at e m) (cell (row + n)) ≡ true) (sym step)
          (subst (λ m. covers (area_at e (k + 1)) (cell m) ≡ true) at_row (goes_above r.run e k h (omega (arith, at_row, high))))

  up : (n row : ℕ) → list_any (reads_below r.run) r.ears.items ≡ true → r.run.first ≤ row → row + n ≤ r.run.last → Reaches (cell (row + n)) → Reaches (cell row)
  up zero row chain low high reached = subst (λ k. Reaches (cell k)) (none row) reached
    where
      none : (k : ℕ) → k + 0 ≡ k
      none k = omega arith
  up (suc n) row chain low high reached =
      let behind : row + suc n ≡ row + 1 + n = omega arith in
      next row (row + 1) low (omega (arith, high)) (reads_below r.run) chain
      (λ e h. read_up e h (row - r.run.first) refl (omega (arith, low)))
      (up n (row + 1) chain (omega (arith, low)) (subst (λ k. k ≤ r.run.last) behind high) (subst (λ k. Reaches (cell k)) behind reached))
    where
      read_up : (e : ReadArea) → reads_below r.run e ≡ true → (k : ℕ) → row - r.run.first ≡ k → r.run.first + (k + 1) ≡ row + 1 → covers (area_at e (row - r.run.first)) (cell (row + 1)) ≡ true
      read_up e h k step at_row =
          subst (λ m. covers (area_at e m) (cell (row + 1)) ≡ true) (sym step)
          (subst (λ m. covers (area_at e k) (cell m) ≡ true) at_row (goes_below r.run e k h (omega (arith, at_row, high))))

  same_cell : {s t c d : ℕ} (row : ℕ) → s ≡ t → c ≡ d → ◌≡◌ {A = Place} (record { sheet = s; col = c; row = row }) (record { sheet = t; col = d; row = row })
  same_cell row a b = cc

  pub chained : (q : Place) → IsStretch r.run r.ears.items area q → Reaches q
  chained q s =
      let here = and_parts ((q.sheet == r.run.sheet) && (q.col == r.run.col)) (nat_le r.run.first q.row && nat_le q.row r.run.last) s.here in
      let column = and_parts (q.sheet == r.run.sheet) (q.col == r.run.col) here.0 in
      let rows = and_parts (nat_le r.run.first q.row) (nat_le q.row r.run.last) here.1 in
      let low : r.run.first ≤ q.row = leb-true _ _ rows.0 in
      let high : q.row ≤ r.run.last = leb-true _ _ rows.1 in
      let is : (row : ℕ) → ◌≡◌ {A = Place} (record q { row = row }) (cell row) = λ row. same_cell row (eqb-true _ _ column.0) (eqb-true _ _ column.1) in
      let hit : Place = record q { row = s.row } in
      let hit_in = and_parts (nat_le r.run.first s.row) (nat_le s.row r.run.last) (and_parts ((q.sheet == r.run.sheet) && (q.col == r.run.col)) (nat_le r.run.first s.row && nat_le s.row r.run.last) (hit_has (Some r) area hit s.hits)).1 in
      let from : Reaches (cell s.row) = subst Reaches (is s.row) (directly_hit hit s.hits) in
      let to : Reaches (cell q.row) =
      ⊎_elim (λ (e : s.row ≡ q.row). subst (λ k. Reaches (cell k)) e from)
      (⊎_elim
      (λ (w : (list_any (reads_above r.run) r.ears.items ≡ true) × (s.row ≤ q.row)).
      let same : s.row + (q.row - s.row) ≡ q.row = omega (arith, w.1) in
      subst (λ k. Reaches (cell k)) same (down (q.row - s.row) s.row w.0 (leb-true _ _ hit_in.0) (subst (λ k. k ≤ r.run.last) (sym same) high) from))
      (λ (w : (list_any (reads_below r.run) r.ears.items ≡ true) × (q.row ≤ s.row)).
      let same : q.row + (s.row - q.row) ≡ s.row = omega (arith, w.1) in
      up (s.row - q.row) q.row w.0 low (subst (λ k. k ≤ r.run.last) (sym same) (leb-true _ _ hit_in.1)) (subst (λ k. Reaches (cell k)) (sym same) from)))
      s.way in
      subst Reaches (sym (is q.row)) to
