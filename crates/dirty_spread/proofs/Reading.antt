-- Which cells are formula cells, and which are stale, by what they read.
use Rattle.std.proofs.Common.{◌≡◌, ℕ, ◌<◌, Bool, true, List, length, get_or, Option, Some, None, inl, inr, sym, subst, ⊎_elim}
use Rattle.std.specs.Prelude.{IsSome}
use Rattle.std.specs.List.{Any, Contains, list_any}
use Rattle.std.proofs.lemmas.Bool.{false≢true}
use Rattle.std.proofs.lemmas.List.Folds.{Any-from_list_any, list_any-from_Any, list_any_at}
use Rattle.calc_addr.specs.Places.{Place, Rectangle, Rows, covers, places}
use Rattle.calc_addr.proofs.Walking.Places.{Contains-places, covers-contained}
use Rattle.calc_model.specs.Listeners.{AreReached, ReachesArea, ReadAreas, cells_of_runs, listed, reads_one_of}
use Rattle.run_unions.specs.Unions.{is_in}
use Rattle.dirty_spread.specs.Spreading.{AreFormulas, IsStale, LiesInOrReaches}
use Rattle.dirty_spread.specs.Marking.{is_in_any, is_touched, reads_cell}
use Rattle.dirty_spread.proofs.Cells.{in_runs, runs_in}

some_listed : (o : Option (List Rectangle)) (f : Rectangle → Bool) → list_any f (listed o) ≡ true → IsSome o
some_listed None f h = absurd (false≢true h)
some_listed (Some areas) f h = search

module _ (read : ReadAreas) where
  -- a cell that reads something is a formula cell
  pub reader_is_formula : (q p : Place) → reads_cell read q p ≡ true → IsSome (read q)
  reader_is_formula q p h = some_listed (read q) (λ a. covers a p) h

  pub reaching_is_formula : (area : Rectangle) (q : Place) → ReachesArea read area q → IsSome (read q)
  reaching_is_formula area q (ReachesArea.directly h) = some_listed (read q) (λ a. list_any (covers a) (places area)) h
  reaching_is_formula area q (ReachesArea.through h r) = some_listed (read q) _ h

  -- a cell that reads one of an area reads a cell of it
  pub read_one : (area : Rectangle) (q : Place) → reads_one_of read area q ≡ true → (p : Place) × (covers area p ≡ true) × (reads_cell read q p ≡ true)
  read_one area q h =
      let at = Any-from_list_any (λ a. list_any (covers a) (places area)) (listed (read q)) h in
      let here = Any-from_list_any (covers at.1) (places area) at.4 in
      (here.1, covers-contained area here.1 (here.0, here.2, here.3), list_any-from_Any (λ a. covers a here.1) (listed (read q)) (at.0, at.1, at.2, at.3, here.4))

  pub reads_one : (area : Rectangle) (q p : Place) → covers area p ≡ true → reads_cell read q p ≡ true → reads_one_of read area q ≡ true
  reads_one area q p c h =
      let at = Any-from_list_any (λ a. covers a p) (listed (read q)) h in
      let here = Contains-places area p c in
      list_any-from_Any (λ a. list_any (covers a) (places area)) (listed (read q)) (at.0, at.1, at.2, at.3, list_any-from_Any (covers at.1) (places area) (here.0, p, here.1, here.2, at.4))

  module _ (touched : List Rectangle) where
    -- what reads a stale cell is stale
    pub stale_step : (q p : Place) → reads_cell read q p ≡ true → Any (LiesInOrReaches read p) touched → IsStale read touched q
    stale_step q p h (k, area, within, is, spread) = record {
      formula = reader_is_formula q p h;
      spread = (
        k,
        area,
        within,
        is,
        inr (⊎_elim
            (λ (lies : covers area p ≡ true). ReachesArea.directly (reads_one area q p lies h))
            (λ (reaches : ReachesArea read area p). ReachesArea.through h reaches)
            spread),
      );
    }

    -- what reaches an area of stale cells is stale
    pub reaching_is_stale : (area : Rectangle) → ((p : Place) → covers area p ≡ true → IsStale read touched p) → (q : Place) → ReachesArea read area q → IsStale read touched q
    reaching_is_stale area stale q (ReachesArea.directly h) =
        let one = read_one area q h in
        stale_step q one.0 one.2 (stale one.0 one.1).spread
    reaching_is_stale area stale q (ReachesArea.through {p = p} h r) =
        stale_step q p h (reaching_is_stale area stale p r).spread

    pub reaching_one_is_stale : (i : ℕ) (area : Rectangle) → i < length touched → area ≡ get_or touched i area → (q : Place) → ReachesArea read area q → IsStale read touched q
    reaching_one_is_stale i area within at q h = record { formula = reaching_is_formula area q h; spread = (i, area, within, sym at, inr h) }

    pub touched_is_stale : (q : Place) → IsSome (read q) → is_touched q touched ≡ true → IsStale read touched q
    touched_is_stale q formula h =
        let at = Any-from_list_any (λ a. covers a q) touched h in
        record { formula = formula; spread = (at.0, at.1, at.2, at.3, inl at.4) }

  -- runs that were reached are runs of formula cells
  module _ (cells : List Place) (formulas : AreFormulas read cells) (area : Rectangle) (runs : List Rows) (reached : AreReached read area runs) where
    pub reached_all : (q : Place) → reads_one_of read area q ≡ true → is_in_any q runs ≡ true
    unfolding cells_of_runs
    reached_all q h = runs_in runs q (reached.all q h)

    pub reached_only : (q : Place) → is_in_any q runs ≡ true → ReachesArea read area q
    unfolding cells_of_runs
    reached_only q h = reached.only q (in_runs runs q h)

    pub reached_formula : (i : ℕ) (run : Rows) → i < length runs → run ≡ get_or runs i run → (q : Place) → is_in q run ≡ true → (Contains cells q) × ReachesArea read area q
    reached_formula i run within at q h =
        let reaches = reached_only q (list_any_at (is_in q) runs i run within (subst (λ (r : Rows). is_in q r ≡ true) at h)) in
        ((formulas.exact q).1 (reaching_is_formula area q reaches), reaches)
