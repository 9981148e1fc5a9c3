-- Results that are found in any order: each step from known cells is right, and where no formula is
-- ready any more, every cell shows what it shows in the book.
use Rattle.std.proofs.Common.{◌≡◌, ℕ, zero, suc, ◌+◌, Bool, true, false, not, ◌||◌, cond, refl, sym, ap, subst, ◌∙◌, Option, Some, None, is_some}
use Rattle.std.specs.Ordering.{eq_by_cmp}
use Rattle.calc_addr.specs.Places.{Place, place_cmp}
use Rattle.calc_model.specs.declared.value.Value.{Value}
use Rattle.calc_model.specs.declared.content.Content.{Content}
use Rattle.calc_model.specs.declared.content.Content.TheVariants.{Empty, Constant, Formula, Raw}
use Rattle.calc_model.specs.declared.tree.Tree.{Tree}
use Rattle.calc_model.specs.Books.{Book, content_at, area_named, is_formula, formula_count}
use Rattle.calc_model.specs.Reads.{reads, areas, content_areas}
use Rattle.calc_model.specs.Grounded.{all_cells, is_grounded, is_circular}
use Rattle.calc_model.specs.Eval.{eval, top}
use Rattle.calc_model.specs.Val.{val}
use Rattle.calc_model.specs.Results.{Results, shown_content, shown_by, is_known, is_ready, IsSound, IsFinished, ShowsAll, Sets}
use Rattle.calc_model.proofs.EvalSame.{eval_same}
use Rattle.calc_model.proofs.Places.{same_places}
use Rattle.calc_model.proofs.Rounds.{all_cells_more, not_circular, grounded_by_reads}
use Rattle.calc_model.proofs.Shown.{agree_by, shows_its_value, shows_its_circle}

or_left : (a b : Bool) → a ≡ true → (a || b) ≡ true
or_left true b h = refl
or_left false b h = cc

-- a cell that isn't known holds a formula and has no result
pub record Unknown (x : Content) (o : Option Value) : Type 0 where
  pub tree : Tree
  pub at : x ≡ Formula tree
  pub none : o ≡ None

pub unknown : (x : Content) (o : Option Value) → (not (is_formula x) || is_some o) ≡ false → Unknown x o
unknown (Formula tree) None h = record { tree = tree; at = refl; none = refl }
unknown (Formula tree) (Some value) h = cc
unknown Empty o h = cc
unknown (Constant value) o h = cc
unknown (Raw text) o h = cc

module _ (book : Book) where
  module _ (results : Results) (sound : IsSound book results) where
    pub ready_grounded : (p : Place) → is_ready book results p ≡ true → is_circular book p ≡ false
    ready_grounded p h = grounded_by_reads book p (all_cells_more (is_known book results) (λ q. not (is_circular book q)) (λ q known. ap not (sound.grounded q known)) (reads book p) h)

    -- a formula that is ready shows its value over what is known
    pub ready_value : (p : Place) (tree : Tree) → content_at book p ≡ Formula tree → is_ready book results p ≡ true → val book p ≡ top (eval p (area_named book) (shown_by book results) tree)
    ready_value p tree at h =
        let read : all_cells (is_known book results) (areas p (area_named book) tree) ≡ true = subst (λ (x : Content). all_cells (is_known book results) (content_areas p (area_named book) x) ≡ true) at h in
        shows_its_value book p tree at (ready_grounded p h)
        ∙ ap top (eval_same p (area_named book) (val book) (shown_by book results) tree
        (agree_by (is_known book results) (val book) (shown_by book results) (λ q known. sym (sound.right q known)) (areas p (area_named book) tree) read))

    abbrev found : Place → Tree → Value
    found p tree = top (eval p (area_named book) (shown_by book results) tree)

    new_right : (new : Results) (p q : Place) (tree : Tree) → content_at book p ≡ Formula tree → is_ready book results p ≡ true → p ≡ q → new q ≡ Some (found p tree) → shown_by book new q ≡ val book q
    new_right new p q tree at ready same here =
        let shown : shown_content (Some (found p tree)) (content_at book p) ≡ val book p = ap (shown_content (Some (found p tree))) at ∙ sym (ready_value p tree at ready) in
        ap (λ o. shown_content o (content_at book q)) here ∙ subst (λ z. shown_content (Some (found p tree)) (content_at book z) ≡ val book z) same shown

    known_by : {q : Place} {o : Option Value} → o ≡ results q → (not (is_formula (content_at book q)) || is_some o) ≡ true → is_known book results q ≡ true
    known_by {q} e h = subst (λ (o : Option Value). (not (is_formula (content_at book q)) || is_some o) ≡ true) e h

    pub sound_with : (new : Results) (p : Place) (tree : Tree) → content_at book p ≡ Formula tree → is_ready book results p ≡ true → Sets results new p (top (eval p (area_named book) (shown_by book results) tree)) → IsSound book new
    sound_with new p tree at ready sets =
        record {
          right = λ q known. elim (eq_by_cmp place_cmp p q) as (λ b. eq_by_cmp place_cmp p q ≡ b → shown_by book new q ≡ val book q) [
            | true ↦ λ tied. new_right new p q tree at ready (same_places p q tied) (sets q ∙ ap (λ b. cond b (Some (found p tree)) (results q)) tied)
            | false ↦ λ apart.
                let other : new q ≡ results q = sets q ∙ ap (λ b. cond b (Some (found p tree)) (results q)) apart in
                ap (λ o. shown_content o (content_at book q)) other ∙ sound.right q (known_by other known)
          ] refl;
          grounded = λ q known. elim (eq_by_cmp place_cmp p q) as (λ b. eq_by_cmp place_cmp p q ≡ b → is_circular book q ≡ false) [
            | true ↦ λ tied. subst (λ z. is_circular book z ≡ false) (same_places p q tied) (ready_grounded p ready)
            | false ↦ λ apart. sound.grounded q (known_by (sets q ∙ ap (λ b. cond b (Some (found p tree)) (results q)) apart) known)
          ] refl;
        }

    grounded_known : IsFinished book results → (k : ℕ) (p : Place) → is_grounded book k p ≡ true → is_known book results p ≡ true
    grounded_known finished zero p h = or_left (not (is_formula (content_at book p))) (is_some (results p)) h
    grounded_known finished (suc k) p h =
        let ready : is_ready book results p ≡ true = all_cells_more (is_grounded book k) (is_known book results) (grounded_known finished k) (reads book p) h in
        elim (is_known book results p) as (λ b. is_known book results p ≡ b → b ≡ true) [
          | true ↦ λ known. refl
          | false ↦ λ not_known. let never : is_ready book results p ≡ false = finished p not_known in cc
        ] refl

    -- where no formula is ready any more, all is shown
    pub shows_all : IsFinished book results → ShowsAll book results
    shows_all finished p =
        elim (is_known book results p) as (λ b. is_known book results p ≡ b → shown_by book results p ≡ val book p) [
          | true ↦ λ known. sound.right p known
          | false ↦ λ not_known.
              let u = unknown (content_at book p) (results p) not_known in
              let circle : is_circular book p ≡ true = elim (is_circular book p) as (λ b. is_circular book p ≡ b → b ≡ true) [
                | true ↦ λ is. refl
                | false ↦ λ none. let known : is_known book results p ≡ true = grounded_known finished (formula_count book + 1) p (not_circular book p none) in cc
              ] refl in
              ap (λ o. shown_content o (content_at book p)) u.none ∙ ap (shown_content None) u.at ∙ sym (shows_its_circle book p u.tree u.at circle)
        ] refl
