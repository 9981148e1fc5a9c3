-- Worked examples of waves: `B1` reads `A1:A2`, `C1` reads `B1` and `A1`, and `D1` and `E1` read each other.
use Rattle.std.proofs.Common.{◌≡◌, ℕ, true, false, [], ◌∷◌, Some, None, cond, refl}
use Rattle.std.specs.Ordering.{eq_by_cmp}
use Rattle.calc_addr.specs.Places.{Place, place_cmp, single}
use Rattle.calc_model.specs.Listeners.{ReadAreas}
use Rattle.calc_model.specs.Touched.{CellSet}
use Rattle.dirty_spread.specs.Waves.{Problem, is_done}

abbrev cell : ℕ → ℕ → Place
cell col row = record { sheet = 0; col = col; row = row }

abbrev is : Place → CellSet
is p q = eq_by_cmp place_cmp q p

abbrev reads : ReadAreas
reads q =
    cond (is (cell 2 1) q) (Some (record { sheet = 0; first_col = 1; last_col = 1; first_row = 1; last_row = 2 } ∷ []))
    (cond (is (cell 3 1) q) (Some (single (cell 2 1) ∷ single (cell 1 1) ∷ []))
    (cond (is (cell 4 1) q) (Some (single (cell 5 1) ∷ []))
    (cond (is (cell 5 1) q) (Some (single (cell 4 1) ∷ [])) None)))

abbrev all_stale : Problem
all_stale = record { read = reads; stale = cell 2 1 ∷ cell 3 1 ∷ cell 4 1 ∷ cell 5 1 ∷ []; circular = λ q. false }

-- `B1` is in the first wave, and `C1` in the second
b1_first : is_done all_stale 1 (cell 2 1) ≡ true
b1_first = refl

c1_not_first : is_done all_stale 1 (cell 3 1) ≡ false
c1_not_first = refl

c1_second : is_done all_stale 2 (cell 3 1) ≡ true
c1_second = refl

-- what stands in a circle is never done
d1_never : is_done all_stale 5 (cell 4 1) ≡ false
d1_never = refl

-- where `B1` isn't stale, `C1` is in the first wave
c1_alone : is_done (record all_stale { stale = cell 3 1 ∷ [] }) 1 (cell 3 1) ≡ true
c1_alone = refl

-- unless `B1` shows a circle
c1_by_circle : is_done (record all_stale { stale = cell 3 1 ∷ []; circular = is (cell 2 1) }) 3 (cell 3 1) ≡ false
c1_by_circle = refl
