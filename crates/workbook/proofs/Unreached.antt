-- What cells show that reach none of some cells, in two books that differ in these alone: the same.
use Rattle.std.proofs.Common.{◌≡◌, ℕ, zero, suc, ◌+◌, Bool, true, false, ◌&&◌, not, List, [], ◌∷◌, refl, sym, ap, subst, ◌∙◌, cond}
use Rattle.std.specs.List.{list_all, list_any}
use Rattle.std.specs.Ordering.{eq_by_cmp}
use Rattle.std.proofs.lemmas.Bool.{false_from_ne_true}
use Rattle.calc_addr.specs.Places.{Place, Rectangle, place_cmp, places}
use Rattle.calc_model.specs.declared.content.Content.{Content}
use Rattle.calc_model.specs.declared.content.Content.TheVariants.{Empty, Constant, Formula, Raw}
use Rattle.calc_model.specs.declared.fault.Fault.TheVariants.{Circular}
use Rattle.calc_model.specs.declared.tree.Tree.{Tree}
use Rattle.calc_model.specs.declared.value.Value.TheVariants.{Bad}
use Rattle.calc_model.specs.Books.{Book, area_named, content_at, formula_count, is_formula}
use Rattle.calc_model.specs.Eval.{eval, top}
use Rattle.calc_model.specs.Grounded.{all_cells, is_circular, is_grounded}
use Rattle.calc_model.specs.Reads.{Names, reads}
use Rattle.calc_model.specs.Scalars.{CellValues}
use Rattle.calc_model.specs.Stale.{Reaches, any_cell, reaches}
use Rattle.calc_model.specs.Touched.{CellSet}
use Rattle.calc_model.specs.Val.{cell_value, val}
use Rattle.calc_model.proofs.Areas.{both_true}
use Rattle.calc_model.proofs.EntriesKept.{both_so}
use Rattle.calc_model.proofs.EvalSame.{Agree}
use Rattle.calc_model.proofs.Reached.{reaches_at_all, reaches_indeed, same_cell, some_cell}
use Rattle.calc_model.proofs.Rounds.{all_cells_more, grounded_ever, not_circular}
use Rattle.calc_model.proofs.ShiftedReads.{neither}
use Rattle.calc_model.proofs.Shown.{agree_by, cell_value_same, val_by_reads}

-- tests of all cells of some areas
none_of : {X : Type 0} (f : X → Bool) (xs : List X) → list_any f xs ≡ false → list_all (λ x. not (f x)) xs ≡ true
none_of f [] h = refl
none_of f (x ∷ xs) h = let parts = neither (f x) (list_any f xs) h in both_so _ _ (ap not parts.0) (none_of f xs parts.1)

no_cell : (f : CellSet) (areas : List Rectangle) → any_cell f areas ≡ false → all_cells (λ r. not (f r)) areas ≡ true
no_cell f [] h = refl
no_cell f (a ∷ areas) h =
    let parts = neither (list_any f (places a)) (any_cell f areas) h in both_so _ _ (none_of f (places a) parts.0) (no_cell f areas parts.1)

both_of : (f g : Place → Bool) (qs : List Place) → list_all f qs ≡ true → list_all g qs ≡ true → list_all (λ q. f q && g q) qs ≡ true
both_of f g [] one two = refl
both_of f g (q ∷ qs) one two =
    let first = both_true (f q) (list_all f qs) one in
    let second = both_true (g q) (list_all g qs) two in
    both_so _ _ (both_so _ _ first.0 second.0) (both_of f g qs first.1 second.1)

both_cells : (f g : Place → Bool) (areas : List Rectangle) → all_cells f areas ≡ true → all_cells g areas ≡ true → all_cells (λ q. f q && g q) areas ≡ true
both_cells f g [] one two = refl
both_cells f g (a ∷ areas) one two =
    let first = both_true (list_all f (places a)) (all_cells f areas) one in
    let second = both_true (list_all g (places a)) (all_cells g areas) two in
    both_so _ _ (both_of f g (places a) first.0 second.0) (both_cells f g areas first.1 second.1)

-- the cells of a book that reach none of some cells, and what they read
module _ (book : Book) (edited : CellSet) where
  abbrev pub clean : Place → Bool
  clean q = not (reaches book edited q)

  pub clean_of : (q : Place) → reaches book edited q ≡ false → clean q ≡ true
  clean_of q h = ap not h

  unreached : (q : Place) → clean q ≡ true → reaches book edited q ≡ false
  unreached q h = false_from_ne_true _ (λ is. let no : clean q ≡ false = ap not is in cc)

  pub apart : (q : Place) → clean q ≡ true → edited q ≡ false
  apart q h = false_from_ne_true _ (λ is. let reached = reaches_at_all book edited q (Reaches.itself is) in let no = unreached q h in cc)

  pub reads_clean : (q : Place) → clean q ≡ true → all_cells clean (reads book q) ≡ true
  reads_clean q h =
      no_cell (reaches book edited) (reads book q)
      (false_from_ne_true _ (λ some.
      let cell = some_cell (reaches book edited) (reads book q) some in
      let reached = reaches_at_all book edited q (Reaches.by_reading (cell.2 (eq_by_cmp place_cmp cell.0) (same_cell cell.0)) (reaches_indeed book edited cell.0 cell.1)) in
      let no = unreached q h in
      cc))

-- a content without a formula shows the same everywhere, and in a circle so does every content
no_formula : (names others : Names) (a b : Bool) (v w : CellValues) (p : Place) (x : Content) → is_formula x ≡ false → cell_value names a v p x ≡ cell_value others b w p x
no_formula names others a b v w p Empty h = refl
no_formula names others a b v w p (Constant value) h = refl
no_formula names others a b v w p (Raw text) h = refl
no_formula names others a b v w p (Formula tree) h = cc

in_circle : (names others : Names) (v w : CellValues) (p : Place) (x : Content) → cell_value names true v p x ≡ cell_value others true w p x
in_circle names others v w p Empty = refl
in_circle names others v w p (Constant value) = refl
in_circle names others v w p (Raw text) = refl
in_circle names others v w p (Formula tree) = refl

by_other_names : (names others : Names) (circular : Bool) (v : CellValues) (p : Place) (x : Content) → ((tree : Tree) → x ≡ Formula tree → eval p names v tree ≡ eval p others v tree) → cell_value names circular v p x ≡ cell_value others circular v p x
by_other_names names others circular v p Empty same = refl
by_other_names names others circular v p (Constant value) same = refl
by_other_names names others circular v p (Raw text) same = refl
by_other_names names others circular v p (Formula tree) same = ap (λ x. cond circular (Bad Circular) (top x)) (same tree refl)

-- a set of cells that read cells of it alone, and that hold and read the same in two books
module _ (one two : Book) (kept : CellSet) (content : (q : Place) → kept q ≡ true → content_at two q ≡ content_at one q) (read : (q : Place) → kept q ≡ true → reads two q ≡ reads one q) (closed : (q : Place) → kept q ≡ true → all_cells kept (reads one q) ≡ true) where
  grounded_too : (k : ℕ) (q : Place) → kept q ≡ true → is_grounded one k q ≡ true → is_grounded two k q ≡ true
  grounded_too zero q is h = ap (λ x. not (is_formula x)) (content q is) ∙ h
  grounded_too (suc k) q is h =
      subst (λ areas. all_cells (is_grounded two k) areas ≡ true) (sym (read q is))
      (all_cells_more (λ r. is_grounded one k r && kept r) (is_grounded two k)
      (λ r both. let parts = both_true (is_grounded one k r) (kept r) both in grounded_too k r parts.1 parts.0)
      (reads one q) (both_cells (is_grounded one k) kept (reads one q) h (closed q is)))

  pub circular_too : (q : Place) → kept q ≡ true → is_circular one q ≡ false → is_circular two q ≡ false
  circular_too q is h = grounded_ever two (formula_count one + 1) q (grounded_too (formula_count one + 1) q is (not_circular one q h))

same_circles : (a b : Bool) → (a ≡ false → b ≡ false) → (b ≡ false → a ≡ false) → a ≡ b
same_circles true true to from = refl
same_circles false false to from = refl
same_circles true false to from = from refl
same_circles false true to from = sym (to refl)

module _ (before after : Book) (kept : CellSet) (content : (q : Place) → kept q ≡ true → content_at after q ≡ content_at before q) (read : (q : Place) → kept q ≡ true → reads after q ≡ reads before q) (closed : (q : Place) → kept q ≡ true → all_cells kept (reads after q) ≡ true) (meant : (q : Place) → kept q ≡ true → (tree : Tree) → content_at after q ≡ Formula tree → (v : CellValues) → eval q (area_named after) v tree ≡ eval q (area_named before) v tree) where
  pub circles : (q : Place) → kept q ≡ true → is_circular after q ≡ is_circular before q
  circles q is =
      same_circles (is_circular after q) (is_circular before q)
      (circular_too after before kept (λ p h. sym (content p h)) (λ p h. sym (read p h)) closed q is)
      (circular_too before after kept content read (λ p h. subst (λ areas. all_cells kept areas ≡ true) (read p h) (closed p h)) q is)

  -- the last steps: other names, and the content before
  then_before : (q : Place) → kept q ≡ true → cell_value (area_named after) (is_circular after q) (val before) q (content_at after q) ≡ val before q
  then_before q is =
      by_other_names (area_named after) (area_named before) (is_circular after q) (val before) q (content_at after q) (λ tree holds. meant q is tree holds (val before))
      ∙ ap (λ b. cell_value (area_named before) b (val before) q (content_at after q)) (circles q is)
      ∙ ap (cell_value (area_named before) (is_circular before q) (val before) q) (content q is)
      ∙ sym (val_by_reads before q)

  grounded_shows : (k : ℕ) (q : Place) → kept q ≡ true → is_grounded after k q ≡ true → val after q ≡ val before q
  grounded_shows zero q is h =
      val_by_reads after q
      ∙ no_formula (area_named after) (area_named after) (is_circular after q) (is_circular after q) (val after) (val before) q (content_at after q) (no (is_formula (content_at after q)) h)
      ∙ then_before q is
    where
      no : (b : Bool) → not b ≡ true → b ≡ false
      no true h = cc
      no false h = refl
  grounded_shows (suc k) q is h =
      let agree : Agree (val after) (val before) (reads after q) =
      agree_by (λ r. is_grounded after k r && kept r) (val after) (val before)
      (λ r both. let parts = both_true (is_grounded after k r) (kept r) both in grounded_shows k r parts.1 parts.0)
      (reads after q) (both_cells (is_grounded after k) kept (reads after q) h (closed q is)) in
      val_by_reads after q
      ∙ cell_value_same (area_named after) (is_circular after q) (val after) (val before) q (content_at after q) agree
      ∙ then_before q is

  circle_shows : (q : Place) → kept q ≡ true → is_circular after q ≡ true → val after q ≡ val before q
  circle_shows q is circle =
      val_by_reads after q
      ∙ ap (λ b. cell_value (area_named after) b (val after) q (content_at after q)) circle
      ∙ in_circle (area_named after) (area_named after) (val after) (val before) q (content_at after q)
      ∙ ap (λ b. cell_value (area_named after) b (val before) q (content_at after q)) (sym circle)
      ∙ then_before q is

  pub same_shown : (q : Place) → kept q ≡ true → val after q ≡ val before q
  same_shown q is =
      elim (is_circular after q) as (λ b. is_circular after q ≡ b → val after q ≡ val before q) [
        | true ↦ λ circle. circle_shows q is circle
        | false ↦ λ free. grounded_shows (formula_count after + 1) q is (not_circular after q free)
      ] refl
