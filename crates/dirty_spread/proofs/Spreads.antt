-- What a search of stale cells has found: at first, one run more, and in the end.
use Rattle.std.proofs.Common.{◌≡◌, ℕ, ◌+◌, ◌<◌, ◌≤◌, ◌||◌, Bool, true, false, List, [], ◌++◌, length, get_or, take, sym, ap, subst, ◌∙◌, ⊎_elim, arith}
use Rattle.std.specs.Prelude.{◌↔◌}
use Rattle.std.specs.List.{Any}
use Rattle.std.proofs.lemmas.Bool.{false≢true, or_cases}
use Rattle.std.proofs.lemmas.Bool.Decides.{nat_tests}
use Rattle.std.proofs.lemmas.List.{take_all, take-append-le}
use Rattle.std.proofs.lemmas.List.Folds.{Any-from_list_any, list_any-append, list_any-from_Any, list_any_more}
use Rattle.calc_addr.specs.Places.{Place, Rectangle, Rows, covers}
use Rattle.calc_model.specs.Listeners.{ReachesArea, ReadAreas, reads_one_of}
use Rattle.run_unions.specs.Unions.{is_in}
use Rattle.dirty_spread.specs.Spreading.{AreFormulas, IsStale, LiesInOrReaches}
use Rattle.dirty_spread.specs.Marking.{AreReadersMarked, IsFormulaInAny, IsMarked, IsSpreading, Marks, area_of, has_mark, is_in_any, is_touched, reads_any_of}
use Rattle.dirty_spread.proofs.Fronts.{or_left, or_right}
use Rattle.dirty_spread.proofs.Reading.{read_one, reads_one, reaching_is_stale, touched_is_stale}

covers_run : (run : Rows) (q : Place) → covers (area_of run) q ≡ true → is_in q run ≡ true
covers_run run q h = grind (arith, nat_tests)

run_covers : (run : Rows) (q : Place) → is_in q run ≡ true → covers (area_of run) q ≡ true
run_covers run q h = grind (arith, nat_tests)

module _ (read : ReadAreas) (cells : List Place) (formulas : AreFormulas read cells) (touched : List Rectangle) where
  module _ (m₀ m₁ m₂ : List Bool) (f₀ f₁ f₂ : List Rows) (size : length m₀ ≡ length cells) (none : (i : ℕ) → has_mark m₀ i ≡ false) (empty : f₀ ≡ [])
      (one : Marks cells (IsFormulaInAny cells touched) (IsFormulaInAny cells touched) m₀ m₁ f₀ f₁)
      (two : Marks cells (λ q. reads_any_of read touched q ≡ true) (IsStale read touched) m₁ m₂ f₁ f₂) where
    first_found : f₁ ≡ one.items
    first_found = one.grown ∙ ap (λ xs. xs ++ one.items) empty

    lies_first : (q : Place) → is_in_any q f₁ ≡ true → IsFormulaInAny cells touched q
    lies_first q h = one.inside q (subst (λ fs. is_in_any q fs ≡ true) first_found h)

    start_reading : (p : Place) → is_touched p touched ≡ true → AreReadersMarked read cells m₂ p
    start_reading p h q reads =
        let at = Any-from_list_any (λ a. covers a p) touched h in
        two.wanted q (list_any-from_Any (λ a. reads_one_of read a q) touched (at.0, at.1, at.2, at.3, reads_one read at.1 q p at.4 reads))

    start_sound : (q : Place) → is_in_any q f₂ ≡ true → IsStale read touched q
    start_sound q h =
        ⊎_elim (λ (e : is_in_any q f₁ ≡ true). let lies = lies_first q e in touched_is_stale read touched q ((formulas.exact q).0 lies.0) lies.1)
        (λ (e : is_in_any q two.items ≡ true). two.inside q e)
        (or_cases (is_in_any q f₁) (is_in_any q two.items) (sym (ap (is_in_any q) two.grown ∙ list_any-append (is_in q) f₁ two.items) ∙ h))

    start_queued : (q : Place) → IsMarked cells m₂ q → is_in_any q f₂ ≡ true
    start_queued q m =
        ap (is_in_any q) two.grown ∙ list_any-append (is_in q) f₁ two.items
        ∙ ⊎_elim (λ (mid : IsMarked cells m₁ q). or_left (is_in_any q f₁) (is_in_any q two.items)
        (⊎_elim (λ (was : IsMarked cells m₀ q). absurd (false≢true (sym (none was.place) ∙ was.marked)))
        (λ (e : is_in_any q one.items ≡ true). ap (is_in_any q) first_found ∙ e)
        (one.queued q mid)))
        (λ (e : is_in_any q two.items ≡ true). or_right (is_in_any q f₁) (is_in_any q two.items) e)
        (two.queued q m)

    pub start : IsSpreading read cells touched m₂ f₂ (length f₁)
    start = record {
      size = two.size ∙ one.size ∙ size;
      sound = start_sound;
      queued = start_queued;
      lying = λ q h. two.kept q (one.wanted q h);
      reading = start_reading;
      followed = λ p h. start_reading p (lies_first p (subst (λ fs. is_in_any p fs ≡ true) (ap (take (length f₁)) two.grown ∙ take-append-le (length f₁) f₁ two.items (omega arith) ∙ take_all (length f₁) f₁ (omega arith)) h)).1;
    }

  module _ (m n : List Bool) (f g : List Rows) (head : ℕ) (run : Rows) (spreading : IsSpreading read cells touched m f head) (within : head < length f) (at : run ≡ get_or f head run)
      (marks : Marks cells (λ q. reads_one_of read (area_of run) q ≡ true) (ReachesArea read (area_of run)) m n f g) where
    run_found : (q : Place) → is_in q run ≡ true → is_in_any q f ≡ true
    run_found q h = list_any-from_Any (is_in q) f (head, run, within, sym at, h)

    step_sound : (q : Place) → is_in_any q g ≡ true → IsStale read touched q
    step_sound q h =
        ⊎_elim (spreading.sound q)
        (λ (e : is_in_any q marks.items ≡ true).
        reaching_is_stale read touched (area_of run) (λ p c. spreading.sound p (run_found p (covers_run run p c))) q (marks.inside q e))
        (or_cases (is_in_any q f) (is_in_any q marks.items) (sym (ap (is_in_any q) marks.grown ∙ list_any-append (is_in q) f marks.items) ∙ h))

    step_queued : (q : Place) → IsMarked cells n q → is_in_any q g ≡ true
    step_queued q k =
        ap (is_in_any q) marks.grown ∙ list_any-append (is_in q) f marks.items
        ∙ ⊎_elim (λ (was : IsMarked cells m q). or_left (is_in_any q f) (is_in_any q marks.items) (spreading.queued q was))
        (λ (e : is_in_any q marks.items ≡ true). or_right (is_in_any q f) (is_in_any q marks.items) e)
        (marks.queued q k)

    step_followed : (p : Place) → is_in_any p (take (head + 1) g) ≡ true → AreReadersMarked read cells n p
    step_followed p h q reads =
        let front : take (head + 1) g ≡ take (head + 1) f = ap (take (head + 1)) marks.grown ∙ take-append-le (head + 1) f marks.items (omega arith) in
        ⊎_elim (λ (e : is_in_any p (take head f) ≡ true). marks.kept q (spreading.followed p e q reads))
        (λ (e : is_in p run ≡ true). marks.wanted q (reads_one read (area_of run) q p (run_covers run p e) reads))
        (or_cases (is_in_any p (take head f)) (is_in p run)
        (sym (list_any_more (is_in p) f head run within ∙ ap (λ (r : Rows). is_in_any p (take head f) || is_in p r) (sym at)) ∙ sym (ap (is_in_any p) front) ∙ h))

    pub step : IsSpreading read cells touched n g (head + 1)
    step = record {
      size = marks.size ∙ spreading.size;
      sound = step_sound;
      queued = step_queued;
      lying = λ q h. marks.kept q (spreading.lying q h);
      reading = λ p h q reads. marks.kept q (spreading.reading p h q reads);
      followed = step_followed;
    }

  module _ (m : List Bool) (f : List Rows) (head : ℕ) (spreading : IsSpreading read cells touched m f head) (all : length f ≤ head) where
    all_reached : (area : Rectangle) → ((p : Place) → covers area p ≡ true → is_touched p touched ≡ true) → (q : Place) → ReachesArea read area q → IsMarked cells m q
    all_reached area inside q (ReachesArea.directly h) = let one = read_one read area q h in spreading.reading one.0 (inside one.0 one.1) q one.2
    all_reached area inside q (ReachesArea.through {p = p} h r) =
        spreading.followed p (ap (is_in_any p) (take_all head f all) ∙ spreading.queued p (all_reached area inside p r)) q h

    all_stale : (q : Place) → IsStale read touched q → IsMarked cells m q
    all_stale q stale = by_area stale.spread
      where
        by_area : Any (LiesInOrReaches read q) touched → IsMarked cells m q
        by_area (k, area, within, is, spread) =
            ⊎_elim (λ (lies : covers area q ≡ true). spreading.lying q ((formulas.exact q).1 stale.formula, list_any-from_Any (λ a. covers a q) touched (k, area, within, is, lies)))
            (λ (reaches : ReachesArea read area q). all_reached area (λ p c. list_any-from_Any (λ a. covers a p) touched (k, area, within, is, c)) q reaches)
            spread

    pub finish : (q : Place) → (is_in_any q f ≡ true) ↔ IsStale read touched q
    finish q = (spreading.sound q, λ stale. spreading.queued q (all_stale q stale))
