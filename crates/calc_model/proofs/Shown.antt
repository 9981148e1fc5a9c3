-- What cells show: the fixed point, and how results that are found in any order come to it.
use Rattle.std.proofs.Common.{◌≡◌, ℕ, zero, suc, ◌+◌, Bool, true, false, cond, List, [], ◌∷◌, refl, sym, ap, subst, ◌∙◌, arith}
use Rattle.std.proofs.lemmas.Bool.{not-true}
use Rattle.std.specs.List.{list_all}
use Rattle.calc_addr.specs.Places.{Place, Rectangle, places}
use Rattle.calc_model.specs.declared.fault.Fault.TheVariants.{Circular}
use Rattle.calc_model.specs.declared.value.Value.TheVariants.{Bad, Blank}
use Rattle.calc_model.specs.declared.content.Content.{Content}
use Rattle.calc_model.specs.declared.content.Content.TheVariants.{Empty, Constant, Formula, Raw}
use Rattle.calc_model.specs.Books.{Book, content_at, area_named, is_formula, formula_count}
use Rattle.calc_model.specs.Reads.{Names, reads, areas, content_areas}
use Rattle.calc_model.specs.Grounded.{all_cells, is_grounded, is_circular}
use Rattle.calc_model.specs.Scalars.{CellValues}
use Rattle.calc_model.specs.Eval.{top}
use Rattle.calc_model.specs.Val.{cell_value, after_rounds, val}
use Rattle.calc_model.specs.FixedPoint.{ShowsItsValue, ShowsItsCircle}
use Rattle.calc_model.proofs.Areas.{both_true, places_all}
use Rattle.calc_model.proofs.EvalSame.{Agree, eval_same}
use Rattle.calc_model.proofs.Rounds.{not_circular}

-- values that are the same at each cell that passes a test agree in areas whose cells all pass it
pub agree_by : (passes : Place → Bool) (v w : CellValues) → ((q : Place) → passes q ≡ true → v q ≡ w q) → (areas : List Rectangle) → all_cells passes areas ≡ true → Agree v w areas
agree_by passes v w same [] h = tt
agree_by passes v w same (a ∷ areas) h =
    let parts = both_true (list_all passes (places a)) (all_cells passes areas) h in
    (λ q c. same q (places_all passes a parts.0 q c), agree_by passes v w same areas parts.1)

-- what a cell shows depends on what it reads
pub cell_value_same : (names : Names) (circular : Bool) (v w : CellValues) (p : Place) (x : Content) → Agree v w (content_areas p names x) → cell_value names circular v p x ≡ cell_value names circular w p x
cell_value_same names circular v w p Empty h = refl
cell_value_same names circular v w p (Constant value) h = refl
cell_value_same names circular v w p (Raw text) h = refl
cell_value_same names circular v w p (Formula tree) h = ap (λ x. cond circular (Bad Circular) (top x)) (eval_same p names v w tree h)

-- a cell that holds no formula shows the same in every round
constant_same : (names : Names) (a b : Bool) (v w : CellValues) (p : Place) (x : Content) → is_formula x ≡ false → cell_value names a v p x ≡ cell_value names b w p x
constant_same names a b v w p Empty h = refl
constant_same names a b v w p (Constant value) h = refl
constant_same names a b v w p (Raw text) h = refl
constant_same names a b v w p (Formula tree) h = cc

module _ (book : Book) where
  constant_rounds : (j : ℕ) (p : Place) → is_formula (content_at book p) ≡ false → after_rounds book j p ≡ after_rounds book zero p
  constant_rounds zero p h = refl
  constant_rounds (suc j) p h = constant_same (area_named book) (is_circular book p) true (after_rounds book j) (λ _. Blank) p (content_at book p) h

  -- what a round has grounded shows the same in each later round
  pub stable : (k j : ℕ) (p : Place) → is_grounded book k p ≡ true → after_rounds book (j + k) p ≡ after_rounds book k p
  stable zero j p h =
      let e : j ≡ j + zero = omega arith in
      subst (λ n. after_rounds book n p ≡ after_rounds book zero p) e (constant_rounds j p (not-true _ h))
  stable (suc k) j p h =
      let e : suc (j + k) ≡ j + suc k = omega arith in
      let agree : Agree (after_rounds book (j + k)) (after_rounds book k) (reads book p) =
      agree_by (is_grounded book k) (after_rounds book (j + k)) (after_rounds book k) (stable k j) (reads book p) h in
      subst (λ n. after_rounds book n p ≡ after_rounds book (suc k) p) e
      (cell_value_same (area_named book) (is_circular book p) (after_rounds book (j + k)) (after_rounds book k) p (content_at book p) agree)

  one_more : formula_count book + 1 ≡ suc (formula_count book)
  one_more = omega arith

  last_round : (p : Place) → val book p ≡ cell_value (area_named book) (is_circular book p) (after_rounds book (formula_count book)) p (content_at book p)
  last_round p = ap (λ n. after_rounds book n p) one_more

  circle_same : (v w : CellValues) (p : Place) (x : Content) → cell_value (area_named book) true v p x ≡ cell_value (area_named book) true w p x
  circle_same v w p Empty = refl
  circle_same v w p (Constant value) = refl
  circle_same v w p (Raw text) = refl
  circle_same v w p (Formula tree) = refl

  -- the round before the last shows what the last one does, where it is grounded
  before_last : (q : Place) → is_grounded book (formula_count book) q ≡ true → after_rounds book (formula_count book) q ≡ val book q
  before_last q h =
      let e : 1 + formula_count book ≡ formula_count book + 1 = omega arith in
      sym (subst (λ n. after_rounds book n q ≡ after_rounds book (formula_count book) q) e (stable (formula_count book) 1 q h))

  reads_agree : (p : Place) → is_circular book p ≡ false → Agree (after_rounds book (formula_count book)) (val book) (reads book p)
  reads_agree p none =
      agree_by (is_grounded book (formula_count book)) (after_rounds book (formula_count book)) (val book) before_last (reads book p)
      (subst (λ n. is_grounded book n p ≡ true) one_more (not_circular book p none))

  -- what a cell shows, from what it holds and what the cells that it reads show
  pub val_by_reads : (p : Place) → val book p ≡ cell_value (area_named book) (is_circular book p) (val book) p (content_at book p)
  val_by_reads p =
      last_round p ∙ elim (is_circular book p) as (λ b. is_circular book p ≡ b → cell_value (area_named book) b (after_rounds book (formula_count book)) p (content_at book p) ≡ cell_value (area_named book) b (val book) p (content_at book p)) [
        | true ↦ λ circle. circle_same (after_rounds book (formula_count book)) (val book) p (content_at book p)
        | false ↦ λ none. cell_value_same (area_named book) false (after_rounds book (formula_count book)) (val book) p (content_at book p) (reads_agree p none)
      ] refl

pub shows_its_value : ShowsItsValue
shows_its_value book p tree at none =
    val_by_reads book p
    ∙ ap (λ b. cell_value (area_named book) b (val book) p (content_at book p)) none
    ∙ ap (cell_value (area_named book) false (val book) p) at

pub shows_its_circle : ShowsItsCircle
shows_its_circle book p tree at circle =
    val_by_reads book p
    ∙ ap (λ b. cell_value (area_named book) b (val book) p (content_at book p)) circle
    ∙ ap (cell_value (area_named book) true (val book) p) at
