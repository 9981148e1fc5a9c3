-- Worked examples of stale cells: `B1` reads `A1:A2`, `C1` reads `B1`, and `D1` reads itself.
use Rattle.std.proofs.Common.{◌≡◌, ℕ, true, false, [], ◌∷◌, Some, None, cond, ◌||◌, inl, inr, refl, subst, ⊎_elim, arith}
use Rattle.std.specs.List.{list_any}
use Rattle.std.specs.Ordering.{eq_by_cmp}
use Rattle.std.proofs.lemmas.Bool.{false≢true, or_cases}
use Rattle.calc_addr.specs.Places.{Place, covers, place_cmp, single}
use Rattle.calc_model.specs.Listeners.{ReachesArea, ReadAreas, listed, reads_one_of}
use Rattle.dirty_spread.specs.Spreading.{IsStale}
use Rattle.dirty_spread.proofs.Stepping.{only_cell}

abbrev cell : ℕ → ℕ → Place
cell col row = record { sheet = 0; col = col; row = row }

abbrev book : ReadAreas
book q =
    cond (eq_by_cmp place_cmp q (cell 2 1)) (Some (record { sheet = 0; first_col = 1; last_col = 1; first_row = 1; last_row = 2 } ∷ []))
    (cond (eq_by_cmp place_cmp q (cell 3 1)) (Some (single (cell 2 1) ∷ []))
    (cond (eq_by_cmp place_cmp q (cell 4 1)) (Some (single (cell 4 1) ∷ [])) None))

a2_is_read : ReachesArea book (single (cell 1 2)) (cell 2 1)
a2_is_read = ReachesArea.directly refl

-- what reads a cell that reads `A2` is stale where `A2` is touched
c1_is_stale : IsStale book (single (cell 1 2) ∷ []) (cell 3 1)
c1_is_stale = record { formula = refl; spread = (0, single (cell 1 2), omega arith, refl, inr (ReachesArea.through {p = cell 2 1} refl a2_is_read)) }

-- a touched formula is stale itself
b1_is_stale : IsStale book (single (cell 2 1) ∷ []) (cell 2 1)
b1_is_stale = record { formula = refl; spread = (0, single (cell 2 1), omega arith, refl, inl refl) }

-- a touched cell without a formula isn't
a1_is_not : IsStale book (single (cell 1 1) ∷ []) (cell 1 1) → ⊥
a1_is_not stale = false≢true stale.formula

-- a cell that reads only itself reaches no other
d1_reaches_none : (q : Place) → q ≡ cell 4 1 → ReachesArea book (single (cell 1 1)) q → ⊥
d1_reaches_none q is (ReachesArea.directly h) = false≢true (subst (λ p. reads_one_of book (single (cell 1 1)) p ≡ true) is h)
d1_reaches_none q is (ReachesArea.through {p = p} h r) =
    let itself : (covers (single (cell 4 1)) p || false) ≡ true = subst (λ x. list_any (λ a. covers a p) (listed (book x)) ≡ true) is h in
    d1_reaches_none p
    (⊎_elim (λ (e : covers (single (cell 4 1)) p ≡ true). only_cell (single (cell 4 1)) p refl refl e) (λ (e : false ≡ true). absurd (false≢true e)) (or_cases (covers (single (cell 4 1)) p) false itself)) r
