-- The waves of stale cells by what a hub holds are those of the book.
use Rattle.std.proofs.Common.{◌≡◌, ℕ, zero, suc, true, false, not, List, refl, sym, ap, ◌∙◌, ⊎_elim}
use Rattle.std.specs.Prelude.{if◌then◌else◌}
use Rattle.std.proofs.lemmas.Bool.{cases_Bool}
use Rattle.calc_addr.specs.Places.{Place, Rectangle}
use Rattle.calc_model.specs.Books.{Book}
use Rattle.calc_model.specs.Grounded.{all_cells, is_circular}
use Rattle.calc_model.specs.Listeners.{ReadAreas, listed}
use Rattle.calc_model.specs.Touched.{CellSet}
use Rattle.calc_model.proofs.Rounds.{all_cells_more}
use Rattle.formula_listeners.specs.Held.{HoldsReads}
use Rattle.dirty_spread.specs.Waves.{AreWaves, Problem, has, is_done, problem_of}
use Rattle.recalc.specs.Units.{problem_in}
use Rattle.recalc.proofs.Adding.{alike}

all_alike : (one other : CellSet) → ((p : Place) → one p ≡ other p) → (areas : List Rectangle) → all_cells one areas ≡ all_cells other areas
all_alike one other same areas = alike (all_cells one areas) (all_cells other areas) (all_cells_more one other (λ p h. sym (same p) ∙ h) areas) (all_cells_more other one (λ p h. same p ∙ h) areas)

module _ (book : Book) (read : ReadAreas) (stale circles : List Place) (holds : HoldsReads read book) (beside : (q : Place) → has stale q ≡ false → has circles q ≡ is_circular book q) where
  abbrev held : Problem
  held = problem_of read stale circles

  abbrev own : Problem
  own = problem_in book stale

  same_done : (k : ℕ) (q : Place) → is_done held k q ≡ is_done own k q
  same_done zero q = refl
  same_done (suc k) q =
      all_alike (λ p. if has stale p then is_done held k p else not (has circles p)) (λ p. if has stale p then is_done own k p else not (is_circular book p)) (before (same_done k)) (listed (read q))
      ∙ ap (λ areas. all_cells (λ p. if has stale p then is_done own k p else not (is_circular book p)) (listed areas)) (holds q)
    where
      before : ((p : Place) → is_done held k p ≡ is_done own k p) → (p : Place) → (if has stale p then is_done held k p else not (has circles p)) ≡ (if has stale p then is_done own k p else not (is_circular book p))
      before same p = ⊎_elim
          (λ (e : has stale p ≡ true). ap (λ b. if b then is_done held k p else not (has circles p)) e ∙ same p ∙ sym (ap (λ b. if b then is_done own k p else not (is_circular book p)) e))
          (λ (e : has stale p ≡ false). ap (λ b. if b then is_done held k p else not (has circles p)) e ∙ ap not (beside p e) ∙ sym (ap (λ b. if b then is_done own k p else not (is_circular book p)) e))
          (cases_Bool (has stale p))

  pub same_waves : (waves : List (List Place)) → AreWaves held waves → AreWaves own waves
  same_waves waves are = record {
    each = λ k. record {
      in_order = (are.each k).in_order;
      exact = λ q. (
        λ c. let w = ((are.each k).exact q).0 c in record { stale = w.stale; done = sym (same_done (suc k) q) ∙ w.done; not_yet = sym (same_done k q) ∙ w.not_yet },
        λ w. ((are.each k).exact q).1 (record { stale = w.stale; done = same_done (suc k) q ∙ w.done; not_yet = same_done k q ∙ w.not_yet }),
      );
    };
    some = are.some;
  }
