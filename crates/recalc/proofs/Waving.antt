-- Results before each wave, and in the end.
use Rattle.std.proofs.Common.{◌≡◌, ◌≤◌, ℕ, zero, suc, ◌+◌, Bool, true, false, not, ◌||◌, ◌&&◌, List, [], length, Some, None, refl, sym, ap, subst, ◌∙◌, ⊎_elim, arith}
use Rattle.std.specs.Prelude.{if◌then◌else◌, slice_index_or, is_some}
use Rattle.std.specs.List.{Contains}
use Rattle.std.proofs.lemmas.Bool.{cases_Bool, false≢true}
use Rattle.std.proofs.lemmas.List.{get_or_past}
use Rattle.calc_addr.specs.Places.{Place}
use Rattle.calc_model.specs.Books.{Book, formula_count}
use Rattle.calc_model.specs.Grounded.{all_cells, is_circular, is_grounded}
use Rattle.calc_model.specs.Listeners.{listed}
use Rattle.calc_model.specs.Reads.{reads}
use Rattle.calc_model.specs.Results.{IsFinished, Results, ShowsAll, is_known, is_ready}
use Rattle.calc_model.specs.Stale.{is_formula_cell}
use Rattle.calc_model.specs.Touched.{CellSet}
use Rattle.calc_model.proofs.Knowing.{ready_grounded, shows_all}
use Rattle.calc_model.proofs.Rounds.{all_cells_more, not_circular}
use Rattle.formula_listeners.specs.Held.{HoldsReads}
use Rattle.dirty_spread.specs.Waves.{AreAll, AreWaves, IsInNone, IsInWave, Problem, has, is_done}
use Rattle.dirty_spread.proofs.Beside.{has_held, held_has}
use Rattle.recalc.specs.Evaluating.{AreBefore, AreEvaluated, AreReady, KeepsOthers}
use Rattle.recalc.proofs.Adding.{alike, known_kept}

no_item : (q : Place) {P : Type 0} → Contains [] q → P
no_item q (k, below, is) = absurd (omega arith)

-- what holds in a branch, by its condition
branch : (b c d e : Bool) → (b ≡ true → c ≡ true → e ≡ true) → (b ≡ false → d ≡ true → e ≡ true) → (if b then c else d) ≡ true → e ≡ true
branch true c d e one two h = one refl h
branch false c d e one two h = two refl h

module _ (book : Book) (problem : Problem) (holds : HoldsReads problem.read book) (formulas : (q : Place) → has problem.stale q ≡ true → is_formula_cell book q ≡ true) where
  abbrev stale : CellSet
  stale = has problem.stale

  abbrev before : ℕ → CellSet
  before k p = if stale p then is_done problem k p else not (problem.circular p)

  read_by : (q : Place) → stale q ≡ true → listed (problem.read q) ≡ reads book q
  read_by q h = ap listed (holds q ∙ ap (λ b. if b then Some (reads book q) else None) (formulas q h))

  done_by : (k : ℕ) (q : Place) → stale q ≡ true → is_done problem (suc k) q ≡ all_cells (before k) (reads book q)
  done_by k q h = ap (all_cells (before k)) (read_by q h)

  -- what is done before a wave is so before the next
  pub once_more : (k : ℕ) (q : Place) → is_done problem k q ≡ true → is_done problem (suc k) q ≡ true
  once_more zero q h = absurd (false≢true h)
  once_more (suc k) q h =
      all_cells_more (before k) (before (suc k)) (λ p e. branch (stale p) (is_done problem k p) (not (problem.circular p)) (before (suc k) p)
      (λ is done. ap (λ b. if b then is_done problem (suc k) p else not (problem.circular p)) is ∙ once_more k p done)
      (λ is_not free. ap (λ b. if b then is_done problem (suc k) p else not (problem.circular p)) is_not ∙ free) e) (listed (problem.read q)) h

  module _ (results : Results) (k : ℕ) (are : AreBefore book problem k results) where
    known_before : (p : Place) → is_known book results p ≡ before k p
    known_before p =
        ⊎_elim (λ (e : stale p ≡ true). are.stale p e ∙ sym (ap (λ b. if b then is_done problem k p else not (problem.circular p)) e))
        (λ (e : stale p ≡ false). are.others p e ∙ sym (ap (λ b. if b then is_done problem k p else not (problem.circular p)) e)) (cases_Bool (stale p))

    -- a stale cell is ready where it is done before the next wave
    ready_by : (q : Place) → stale q ≡ true → is_done problem (suc k) q ≡ true → is_ready book results q ≡ true
    ready_by q h done = all_cells_more (before k) (is_known book results) (λ p e. known_before p ∙ e) (reads book q) (sym (done_by k q h) ∙ done)

    done_when_ready : (q : Place) → stale q ≡ true → is_ready book results q ≡ true → is_done problem (suc k) q ≡ true
    done_when_ready q h ready = done_by k q h ∙ all_cells_more (is_known book results) (before k) (λ p e. sym (known_before p) ∙ e) (reads book q) ready

    module _ (waves : List (List Place)) (ordered : AreWaves problem waves) where
      abbrev wave : List Place
      wave = slice_index_or waves k []

      in_wave : (q : Place) → has wave q ≡ true → IsInWave problem k q
      in_wave q h = ((ordered.each k).exact q).0 (has_held wave q h)

      pub wave_ready : AreReady book results (has wave)
      wave_ready = record {
        formula = λ q h. formulas q (held_has problem.stale q (in_wave q h).stale);
        ready = λ q h. let is = in_wave q h in ready_by q (held_has problem.stale q is.stale) is.done;
      }

      -- a cell of a wave is stale
      pub wave_only_stale : (q : Place) → stale q ≡ false → has wave q ≡ false
      wave_only_stale q h = ⊎_elim (λ (e : has wave q ≡ true). absurd (false≢true (sym h ∙ held_has problem.stale q (in_wave q e).stale))) (λ (e : has wave q ≡ false). e) (cases_Bool (has wave q))

      not_in_wave : (q : Place) → stale q ≡ true → has wave q ≡ false → is_done problem k q ≡ is_done problem (suc k) q
      not_in_wave q h apart = alike (is_done problem k q) (is_done problem (suc k) q) (once_more k q)
          (λ done. ⊎_elim (λ (e : is_done problem k q ≡ true). e)
          (λ (e : is_done problem k q ≡ false). absurd (false≢true (sym apart ∙ held_has wave q (((ordered.each k).exact q).1 (record { stale = has_held problem.stale q h; done = done; not_yet = e })))))
          (cases_Bool (is_done problem k q)))

      -- once the cells of the wave are evaluated, it is as before the next
      pub next_wave : (new : Results) → AreEvaluated book new (has wave) → KeepsOthers (has wave) results new → AreBefore book problem (suc k) new
      next_wave new evaluated kept = record {
        sound = evaluated.sound;
        stale = λ q h. ⊎_elim
            (λ (e : has wave q ≡ true). evaluated.known q e ∙ sym (in_wave q e).done)
            (λ (e : has wave q ≡ false). known_kept book results new q (kept q e) ∙ are.stale q h ∙ not_in_wave q h e)
            (cases_Bool (has wave q));
        others = λ q h.
            let apart : has wave q ≡ false = wave_only_stale q h in
            known_kept book results new q (kept q apart) ∙ are.others q h;
      }

    -- in the end
    module _ (waves : List (List Place)) (ordered : AreWaves problem waves) (all : length waves ≤ k) (beside : (q : Place) → stale q ≡ false → problem.circular q ≡ true → is_circular book q ≡ true) where
      no_wave : (q : Place) → stale q ≡ true → is_done problem (suc k) q ≡ true → is_done problem k q ≡ true
      no_wave q h done = ⊎_elim (λ (e : is_done problem k q ≡ true). e)
          (λ (e : is_done problem k q ≡ false).
          no_item q (subst (λ cells. Contains cells q) (get_or_past waves k [] all) (((ordered.each k).exact q).1 (record { stale = has_held problem.stale q h; done = done; not_yet = e }))))
          (cases_Bool (is_done problem k q))

      pub finished : IsFinished book results
      finished q unknown =
          ⊎_elim (λ (ready : is_ready book results q ≡ true).
          ⊎_elim (λ (e : stale q ≡ true). absurd (false≢true (sym unknown ∙ are.stale q e ∙ no_wave q e (done_when_ready q e ready))))
          (λ (e : stale q ≡ false). absurd (false≢true (sym (ready_grounded book results are.sound q ready) ∙ beside q e (circle q e unknown))))
          (cases_Bool (stale q)))
          (λ (e : is_ready book results q ≡ false). e)
          (cases_Bool (is_ready book results q))
        where
          not_false : (b : Bool) → not b ≡ false → b ≡ true
          not_false true h = refl
          not_false false h = absurd (false≢true (sym h))

          circle : (q : Place) → stale q ≡ false → is_known book results q ≡ false → problem.circular q ≡ true
          circle q e unknown = not_false (problem.circular q) (sym (are.others q e) ∙ unknown)

      grounded_known : (j : ℕ) (p : Place) → is_grounded book j p ≡ true → is_known book results p ≡ true
      grounded_known zero p h = ap (λ b. b || is_some (results p)) h
      grounded_known (suc j) p h =
          let ready : is_ready book results p ≡ true = all_cells_more (is_grounded book j) (is_known book results) (grounded_known j) (reads book p) h in
          ⊎_elim (λ (e : is_known book results p ≡ true). e) (λ (e : is_known book results p ≡ false). absurd (false≢true (sym (finished p e) ∙ ready))) (cases_Bool (is_known book results p))

      pub shown : ShowsAll book results
      shown = shows_all book results are.sound finished

      pub known_grounded : (q : Place) → is_known book results q ≡ not (is_circular book q)
      known_grounded q = alike (is_known book results q) (not (is_circular book q))
          (λ known. ap not (are.sound.grounded q known))
          (λ grounded. grounded_known (formula_count book + 1) q (not_circular book q (not_true (is_circular book q) grounded)))
        where
          not_true : (b : Bool) → not b ≡ true → b ≡ false
          not_true true h = sym h
          not_true false h = refl

      done_at_last : (j : ℕ) (q : Place) → stale q ≡ true → is_done problem (j + k) q ≡ true → is_done problem k q ≡ true
      done_at_last zero q h done = let e : zero + k ≡ k = omega arith in subst (λ n. is_done problem n q ≡ true) e done
      done_at_last (suc j) q h done =
          let e : suc j + k ≡ suc (j + k) = omega arith in
          no_wave q h (done_by k q h ∙ all_cells_more (before (j + k)) (before k) (λ p passes. branch (stale p) (is_done problem (j + k) p) (not (problem.circular p)) (before k p)
          (λ is was. ap (λ b. if b then is_done problem k p else not (problem.circular p)) is ∙ done_at_last j p is was)
          (λ is_not free. ap (λ b. if b then is_done problem k p else not (problem.circular p)) is_not ∙ free) passes) (reads book q) (sym (done_by (j + k) q h) ∙ subst (λ n. is_done problem n q ≡ true) e done))

      done_more : (j i : ℕ) (q : Place) → is_done problem i q ≡ true → is_done problem (j + i) q ≡ true
      done_more zero i q done = let e : i ≡ zero + i = omega arith in subst (λ n. is_done problem n q ≡ true) e done
      done_more (suc j) i q done = let e : suc (j + i) ≡ suc j + i = omega arith in subst (λ n. is_done problem n q ≡ true) e (once_more (j + i) q (done_more j i q done))

      -- a stale cell reaches a circle where it is in no wave
      pub stale_circles : (circular : List Place) → AreAll (IsInNone problem) circular → (q : Place) → stale q ≡ true → has circular q ≡ is_circular book q
      stale_circles circular none q h = alike (has circular q) (is_circular book q) there back
        where
          there : has circular q ≡ true → is_circular book q ≡ true
          there listed =
              let never = (((none.exact q).0 (has_held circular q listed)).never k) in
              ⊎_elim (λ (e : is_circular book q ≡ true). e) (λ (e : is_circular book q ≡ false). absurd (false≢true (sym never ∙ sym (are.stale q h) ∙ known_grounded q ∙ ap not e))) (cases_Bool (is_circular book q))

          back : is_circular book q ≡ true → has circular q ≡ true
          back circle = held_has circular q ((none.exact q).1 (record {
            stale = has_held problem.stale q h;
            never = λ j. ⊎_elim
                (λ (e : is_done problem j q ≡ true).
                let together : k + j ≡ j + k = omega arith in
                absurd (false≢true (sym (ap not circle) ∙ sym (known_grounded q) ∙ are.stale q h ∙ done_at_last j q h (subst (λ n. is_done problem n q ≡ true) together (done_more k j q e)))))
                (λ (e : is_done problem j q ≡ false). e) (cases_Bool (is_done problem j q));
          }))

      pub all_circles : (circular : List Place) → AreAll (IsInNone problem) circular → (q : Place) → has circular q ≡ (stale q && is_circular book q)
      all_circles circular none q =
          ⊎_elim (λ (e : stale q ≡ true). stale_circles circular none q e ∙ ap (λ b. b && is_circular book q) (sym e))
          (λ (e : stale q ≡ false). alike (has circular q) (stale q && is_circular book q)
          (λ listed. absurd (false≢true (sym e ∙ held_has problem.stale q ((none.exact q).0 (has_held circular q listed)).stale)))
          (λ both. absurd (false≢true (sym (ap (λ b. b && is_circular book q) e) ∙ both))))
          (cases_Bool (stale q))
