-- Values that come to all cells of a run at once.
use Rattle.std.proofs.Common.{◌≡◌, ◌≤◌, ◌<◌, ℕ, ◌+◌, ◌-◌, true, false, List, [], ◌∷◌, ◌++◌, length, get_or, Some, cond, sym, ap, ◌∙◌, ⊎_elim, arith}
use Rattle.std.specs.Prelude.{slice_get}
use Rattle.std.proofs.Math.Seq.{get_or-append_seam}
use Rattle.std.proofs.lemmas.Bool.{cases_Bool, cases_lt}
use Rattle.std.proofs.lemmas.List.{get_or_append_left, length-append}
use Rattle.std.proofs.lemmas.Option.{slice_get-get_or}
use Rattle.std.specs.List.{All}
use Rattle.calc_addr.specs.Places.{Place, Rows}
use Rattle.calc_model.specs.declared.value.Value.{Value}
use Rattle.calc_model.specs.Books.{Book, area_named, content_at}
use Rattle.calc_model.specs.Eval.{eval, top}
use Rattle.calc_model.specs.Results.{IsSound, Results, shown_by, shown_content}
use Rattle.calc_model.specs.UsedCells.{is_used}
use Rattle.calc_model.proofs.Knowing.{ready_grounded, ready_value}
use Rattle.book_parts.specs.Runs.{IsCodedIn}
use Rattle.formula_code.specs.Codes.{Codes, tree_at}
use Rattle.formula_results.specs.Results.{SetsRun}
use Rattle.run_unions.specs.Unions.{is_in}
use Rattle.dirty_spread.proofs.Stepping.{lies}
use Rattle.recalc.specs.Evaluating.{AreEvaluated, AreReady, KeepsOthers}
use Rattle.recalc.specs.Units.{cell_at}
use Rattle.recalc.proofs.Adding.{known_kept, known_with}
use Rattle.recalc.proofs.UnitForms.{in_row}

module _ (book : Book) (old : Results) (codes : Codes) (code : ℕ) (run : Rows) where
  -- what the formula with the code shows at a cell
  abbrev pub value_there : Place → Value
  value_there q = top (eval q (area_named book) (shown_by book old) (tree_at codes code q))

  -- the values of the first rows
  pub record AreValues (values : List Value) : Type 0 where
    pub used : All (λ v. is_used v ≡ true) values
    pub each : (k : ℕ) (d : Value) → k < length values → get_or values k d ≡ value_there (cell_at run (run.first + k))

  pub value_more : (values : List Value) (v : Value) (row : ℕ) → AreValues values → run.first + length values ≡ row → v ≡ value_there (cell_at run row) → is_used v ≡ true → AreValues (values ++ v ∷ [])
  value_more values v row are at is used = record {
    used = λ k d within. ⊎_elim
        (λ (l : k < length values). ap is_used (get_or_append_left values (v ∷ []) d k l) ∙ are.used k d l)
        (λ (past : length values ≤ k). ap is_used (last k d past within) ∙ used) (cases_lt k (length values));
    each = λ k d within. ⊎_elim
        (λ (l : k < length values). get_or_append_left values (v ∷ []) d k l ∙ are.each k d l)
        (λ (past : length values ≤ k). last k d past within ∙ is ∙ ap (λ r. value_there (cell_at run r)) (sym at ∙ ap (λ n. run.first + n) (sym (end k past within)))) (cases_lt k (length values));
  }
    where
      end : (k : ℕ) → length values ≤ k → k < length (values ++ v ∷ []) → k ≡ length values
      end k past within = omega (arith, past, within, length-append values (v ∷ []))

      last : (k : ℕ) (d : Value) → length values ≤ k → k < length (values ++ v ∷ []) → get_or (values ++ v ∷ []) k d ≡ v
      last k d past within = ap (λ n. get_or (values ++ v ∷ []) n d) (end k past within) ∙ get_or-append_seam values v [] d

  module _ (new : Results) (values : List Value) (are : AreValues values) (whole : length values ≡ run.last + 1 - run.first) (sets : SetsRun old new run values) where
    value_in : (q : Place) (d : Value) → is_in q run ≡ true → new q ≡ Some (value_there q)
    value_in q d h =
        let l = lies run q h in
        let within : q.row - run.first < length values = omega (arith, whole, l.from, l.to) in
        let row : run.first + (q.row - run.first) ≡ q.row = omega (arith, l.from) in
        sets q ∙ ap (λ b. cond b (slice_get values (q.row - run.first)) (old q)) h
        ∙ slice_get-get_or values (q.row - run.first) d within
        ∙ ap Some (are.each (q.row - run.first) d within ∙ ap (λ r. value_there (cell_at run r)) row ∙ ap value_there (sym (in_row run q h)))

    pub run_kept : KeepsOthers (λ q. is_in q run) old new
    run_kept q h = sets q ∙ ap (λ b. cond b (slice_get values (q.row - run.first)) (old q)) h

    pub run_evaluated : IsSound book old → AreReady book old (λ q. is_in q run) → ((q : Place) → is_in q run ≡ true → IsCodedIn book q codes code) → AreEvaluated book new (λ q. is_in q run)
    run_evaluated sound ready coded = record {
      sound = record {
        right = λ q known. ⊎_elim
            (λ (h : is_in q run ≡ true).
            ap (λ o. shown_content o (content_at book q)) (there q h) ∙ ap (shown_content (Some (value_there q))) (coded q h).content
            ∙ sym (ready_value book old sound q (tree_at codes code q) (coded q h).content (ready.ready q h)))
            (λ (h : is_in q run ≡ false). ap (λ o. shown_content o (content_at book q)) (run_kept q h) ∙ sound.right q (sym (known_kept book old new q (run_kept q h)) ∙ known))
            (cases_Bool (is_in q run));
        grounded = λ q known. ⊎_elim
            (λ (h : is_in q run ≡ true). ready_grounded book old sound q (ready.ready q h))
            (λ (h : is_in q run ≡ false). sound.grounded q (sym (known_kept book old new q (run_kept q h)) ∙ known))
            (cases_Bool (is_in q run));
      };
      known = λ q h. known_with book new q (value_there q) (there q h);
    }
      where
        there : (q : Place) → is_in q run ≡ true → new q ≡ Some (value_there q)
        there q h = value_in q (value_there q) h
