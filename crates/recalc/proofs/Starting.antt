-- From the results before a recalculation to those before its first wave, and from those in the end to all.
use Rattle.std.proofs.Common.{◌≡◌, Bool, true, false, not, ◌||◌, ◌&&◌, List, None, refl, sym, ap, ◌∙◌, ⊎_elim}
use Rattle.std.specs.Prelude.{if◌then◌else◌, is_some}
use Rattle.std.proofs.lemmas.Bool.{cases_Bool, false≢true}
use Rattle.calc_addr.specs.Places.{Place}
use Rattle.calc_model.specs.Books.{Book, content_at}
use Rattle.calc_model.specs.Grounded.{is_circular}
use Rattle.calc_model.specs.Listeners.{ReadAreas}
use Rattle.calc_model.specs.Results.{Results, ShowsAll, is_known, shown_content}
use Rattle.calc_model.specs.Stale.{is_formula_cell}
use Rattle.dirty_spread.specs.Waves.{has, problem_of}
use Rattle.formula_results.specs.Results.{results_of}
use Rattle.recalc.specs.Evaluating.{AreBefore}
use Rattle.recalc.specs.Recalculation.{AreRight, Stored, beside, kept}
use Rattle.recalc.proofs.Adding.{known_kept}

not_both : (b : Bool) → not b ≡ true → b ≡ false
not_both true h = sym h
not_both false h = refl

module _ (book : Book) (read : ReadAreas) (stale outside : List Place) (stored : Stored) (right : AreRight book stored (beside stale)) (formulas : (q : Place) → has stale q ≡ true → is_formula_cell book q ≡ true) (is : (q : Place) → has outside q ≡ kept book stale stored.circles q) where
  first : Results
  first = results_of stored.results

  plainly : (q : Place) → has stale q ≡ false → beside stale q ≡ true
  plainly q h = ap not h

  -- a cell that isn't stale is listed where it reaches a circle
  pub listed : (q : Place) → has stale q ≡ false → has outside q ≡ is_circular book q
  listed q h =
      ⊎_elim
      (λ (e : is_formula_cell book q ≡ true). is q ∙ ap (λ b. has stored.circles q && (b && not (has stale q))) e ∙ ap (λ b. has stored.circles q && not b) h ∙ and_true (has stored.circles q) ∙ right.listed q (plainly q h) e)
      (λ (e : is_formula_cell book q ≡ false). is q ∙ ap (λ b. has stored.circles q && (b && not (has stale q))) e ∙ and_false (has stored.circles q) ∙ sym (no_circle e)) (cases_Bool (is_formula_cell book q))
    where
      and_true : (b : Bool) → (b && true) ≡ b
      and_true true = refl
      and_true false = refl

      and_false : (b : Bool) → (b && false) ≡ false
      and_false true = refl
      and_false false = refl

      no_circle : is_formula_cell book q ≡ false → is_circular book q ≡ false
      no_circle e = not_both (is_circular book q) (sym (right.known q (plainly q h)) ∙ ap (λ b. not b || is_some (results_of stored.results q)) e)

  module _ (cleared : Results) (clears : (q : Place) → cleared q ≡ (if has stale q then None else results_of stored.results q)) where
    gone : (q : Place) → has stale q ≡ true → is_known book cleared q ≡ false
    gone q h = ap (λ b. not b || is_some (cleared q)) (formulas q h) ∙ ap is_some (clears q ∙ ap (λ b. if b then None else results_of stored.results q) h)

    same : (q : Place) → has stale q ≡ false → cleared q ≡ results_of stored.results q
    same q h = clears q ∙ ap (λ b. if b then None else results_of stored.results q) h

    not_stale : (q : Place) → is_known book cleared q ≡ true → has stale q ≡ false
    not_stale q known = ⊎_elim (λ (e : has stale q ≡ true). absurd (false≢true (sym (gone q e) ∙ known))) (λ (e : has stale q ≡ false). e) (cases_Bool (has stale q))

    pub before_first : AreBefore book (problem_of read stale outside) 0 cleared
    before_first = record {
      sound = record {
        right = λ q known. let e = not_stale q known in ap (λ o. shown_content o (content_at book q)) (same q e) ∙ right.values q (plainly q e);
        grounded = λ q known. let e = not_stale q known in not_both (is_circular book q) (sym (right.known q (plainly q e)) ∙ sym (known_kept book (results_of stored.results) cleared q (same q e)) ∙ known);
      };
      stale = λ q h. gone q h;
      others = λ q h. known_kept book (results_of stored.results) cleared q (same q h) ∙ right.known q (plainly q h) ∙ ap not (sym (listed q h));
    }

  -- all results in the end, with the lists of both kinds of circles joined
  pub all_right : (last : Stored) (circular : List Place) → ShowsAll book (results_of last.results) → ((q : Place) → is_known book (results_of last.results) q ≡ not (is_circular book q)) → ((q : Place) → has circular q ≡ (has stale q && is_circular book q)) → ((q : Place) → has last.circles q ≡ (has outside q || has circular q)) → AreRight book last (λ q. true)
  all_right last circular values known circles joined = record {
    values = λ q _. values q;
    known = λ q _. known q;
    listed = λ q _ _. joined q ∙ ap (λ b. has outside q || b) (circles q) ∙ ⊎_elim
        (λ (e : has stale q ≡ true). ap (λ b. b || (has stale q && is_circular book q)) (not_outside q e) ∙ ap (λ b. b && is_circular book q) e)
        (λ (e : has stale q ≡ false). ap (λ b. b || (has stale q && is_circular book q)) (listed q e) ∙ ap (λ b. is_circular book q || (b && is_circular book q)) e ∙ or_false (is_circular book q))
        (cases_Bool (has stale q));
  }
    where
      or_false : (b : Bool) → (b || false) ≡ b
      or_false true = refl
      or_false false = refl

      none_of : (a b : Bool) → (a && (b && false)) ≡ false
      none_of true true = refl
      none_of true false = refl
      none_of false b = refl

      not_outside : (q : Place) → has stale q ≡ true → has outside q ≡ false
      not_outside q e = is q ∙ ap (λ b. has stored.circles q && (is_formula_cell book q && not b)) e ∙ none_of (has stored.circles q) (is_formula_cell book q)
