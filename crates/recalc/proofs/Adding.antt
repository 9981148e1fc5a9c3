-- Results that come to cells, and what they leave as it was.
use Rattle.std.proofs.Common.{◌≡◌, ◌<◌, ℕ, zero, suc, ◌+◌, List, [], ◌∷◌, take, length, get_or, Bool, true, false, not, ◌||◌, Some, refl, sym, ap, ◌∙◌, ⊎_elim}
use Rattle.std.specs.Prelude.{is_some}
use Rattle.std.proofs.lemmas.Bool.{cases_Bool, false≢true, or_cases}
use Rattle.calc_addr.specs.Places.{Place, Rows}
use Rattle.run_unions.specs.Unions.{is_in}
use Rattle.std.proofs.lemmas.List.Folds.{list_any_more}
use Rattle.dirty_spread.specs.Marking.{is_in_any}
use Rattle.calc_model.specs.declared.value.Value.{Value}
use Rattle.calc_model.specs.Books.{Book, content_at, is_formula}
use Rattle.calc_model.specs.Reads.{reads}
use Rattle.calc_model.specs.Results.{Results, is_known}
use Rattle.calc_model.specs.Touched.{CellSet}
use Rattle.calc_model.proofs.Reached.{or_true}
use Rattle.calc_model.proofs.Rounds.{all_cells_more}
use Rattle.recalc.specs.Evaluating.{AreEvaluated, AreReady, KeepsOthers}

-- tests that pass together are the same
pub alike : (a b : Bool) → (a ≡ true → b ≡ true) → (b ≡ true → a ≡ true) → a ≡ b
alike true b to from = sym (to refl)
alike false true to from = from refl
alike false false to from = refl

module _ (book : Book) where
  pub known_with : (new : Results) (q : Place) (value : Value) → new q ≡ Some value → is_known book new q ≡ true
  known_with new q value is = ap (λ o. not (is_formula (content_at book q)) || is_some o) is ∙ or_true (not (is_formula (content_at book q)))

  pub known_kept : (old new : Results) (q : Place) → new q ≡ old q → is_known book new q ≡ is_known book old q
  known_kept old new q same = ap (λ o. not (is_formula (content_at book q)) || is_some o) same

  -- what was known stays so
  pub stays_known : (old new : Results) (cells : CellSet) → KeepsOthers cells old new → ((q : Place) → cells q ≡ true → is_known book new q ≡ true) → (q : Place) → is_known book old q ≡ true → is_known book new q ≡ true
  stays_known old new cells kept all q h = ⊎_elim (λ (e : cells q ≡ true). all q e) (λ (e : cells q ≡ false). known_kept old new q (kept q e) ∙ h) (cases_Bool (cells q))

  pub stays_ready : (old new : Results) (cells done : CellSet) → KeepsOthers done old new → ((q : Place) → done q ≡ true → is_known book new q ≡ true) → AreReady book old cells → AreReady book new cells
  stays_ready old new cells done kept all ready = record {
    formula = ready.formula;
    ready = λ q h. all_cells_more (is_known book old) (is_known book new) (stays_known old new done kept all) (reads book q) (ready.ready q h);
  }

-- cells that are left by both steps are left by both together
pub kept_then : (first now new : Results) (done one all : CellSet) → KeepsOthers done first now → KeepsOthers one now new → ((q : Place) → all q ≡ false → (done q ≡ false) × (one q ≡ false)) → KeepsOthers all first new
kept_then first now new done one all kept after apart q h = after q (apart q h).1 ∙ kept q (apart q h).0

pub neither_of : (a b : Bool) → (a || b) ≡ false → (a ≡ false) × (b ≡ false)
neither_of true b h = absurd (false≢true (sym h))
neither_of false b h = (refl, h)

module _ (book : Book) where
  pub ready_part : (results : Results) (cells part : CellSet) → AreReady book results cells → ((q : Place) → part q ≡ true → cells q ≡ true) → AreReady book results part
  ready_part results cells part ready inside = record { formula = λ q h. ready.formula q (inside q h); ready = λ q h. ready.ready q (inside q h) }

  -- some cells are evaluated, and the others are as at first
  pub record IsOnWay (first now : Results) (done : CellSet) : Type 0 where
    pub evaluated : AreEvaluated book now done
    pub left : KeepsOthers done first now

  pub on_way_more : (first now new : Results) (done one more : CellSet) → IsOnWay first now done → AreEvaluated book new one → KeepsOthers one now new → ((q : Place) → more q ≡ (done q || one q)) → IsOnWay first new more
  on_way_more first now new done one more way evaluated kept is = record {
    evaluated = record {
      sound = evaluated.sound;
      known = λ q h. ⊎_elim (λ (e : one q ≡ true). evaluated.known q e)
          (λ (e : one q ≡ false). known_kept book now new q (kept q e) ∙ way.evaluated.known q (first_of (done q) (one q) e (sym (is q) ∙ h))) (cases_Bool (one q));
    };
    left = kept_then first now new done one more way.left kept (λ q h. neither_of (done q) (one q) (sym (is q) ∙ h));
  }
    where
      first_of : (a b : Bool) → b ≡ false → (a || b) ≡ true → a ≡ true
      first_of true b e h = refl
      first_of false b e h = absurd (false≢true (sym e ∙ h))

  -- a part of ready cells is still ready on the way
  pub ready_on_way : (first now : Results) (done cells part : CellSet) → IsOnWay first now done → AreReady book first cells → ((q : Place) → part q ≡ true → cells q ≡ true) → AreReady book now part
  ready_on_way first now done cells part way ready inside =
      ready_part now cells part (stays_ready book first now cells done way.left way.evaluated.known ready) inside

part_in_any : (runs : List Rows) (i : ℕ) (q : Place) → is_in_any q (take i runs) ≡ true → is_in_any q runs ≡ true
part_in_any runs zero q h = absurd (false≢true h)
part_in_any [] (suc i) q h = h
part_in_any (r ∷ rs) (suc i) q h = ⊎_elim (λ (e : is_in q r ≡ true). ap (λ b. b || is_in_any q rs) e)
    (λ (e : is_in_any q (take i rs) ≡ true). ap (λ b. is_in q r || b) (part_in_any rs i q e) ∙ or_true (is_in q r)) (or_cases (is_in q r) (is_in_any q (take i rs)) h)

-- the cells of a run are those of the list that has it
pub item_in_any : (runs : List Rows) (i : ℕ) (run : Rows) → i < length runs → run ≡ get_or runs i run → (q : Place) → is_in q run ≡ true → is_in_any q runs ≡ true
item_in_any runs i run within is q h =
    part_in_any runs (i + 1) q (list_any_more (is_in q) runs i run within ∙ ap (λ (r : Rows). is_in_any q (take i runs) || is_in q r) (sym is) ∙ ap (λ b. is_in_any q (take i runs) || b) h ∙ or_true (is_in_any q (take i runs)))

pub none_in_part : (runs : List Rows) (i : ℕ) (run : Rows) → i < length runs → run ≡ get_or runs i run → (q : Place) → is_in_any q runs ≡ false → (is_in_any q (take i runs) ≡ false) × (is_in q run ≡ false)
none_in_part runs i run within is q none = (
  no (is_in_any q (take i runs)) (λ h. absurd (false≢true (sym none ∙ part_in_any runs i q h))),
  no (is_in q run) (λ h. absurd (false≢true (sym none ∙ item_in_any runs i run within is q h))),
)
  where
    no : (b : Bool) → (b ≡ true → b ≡ false) → b ≡ false
    no true f = f refl
    no false f = refl

-- the same of cells that are said otherwise
pub as_ready : (book : Book) (results : Results) (cells other : CellSet) → ((q : Place) → cells q ≡ other q) → AreReady book results cells → AreReady book results other
as_ready book results cells other same ready = record { formula = λ q h. ready.formula q (same q ∙ h); ready = λ q h. ready.ready q (same q ∙ h) }

pub as_evaluated : (book : Book) (results : Results) (cells other : CellSet) → ((q : Place) → cells q ≡ other q) → AreEvaluated book results cells → AreEvaluated book results other
as_evaluated book results cells other same evaluated = record { sound = evaluated.sound; known = λ q h. evaluated.known q (same q ∙ h) }
