-- An edit leaves formulas that don't become stale with the value that they had.
use Rattle.std.proofs.Common.{◌≡◌, ◌+◌, Bool, true, false, not, ◌||◌, ◌&&◌, [], Option, unwrap_or, Some, refl, sym, ap, ◌∙◌, ⊎_elim}
use Rattle.std.specs.Prelude.{is_some}
use Rattle.std.proofs.lemmas.Bool.{cases_Bool, false≢true}
use Rattle.std.specs.Option.{option_map_or}
use Rattle.std.specs.FinMap.Entries.{find}
use Rattle.calc_addr.specs.Places.{Place, place_cmp}
use Rattle.calc_model.specs.declared.content.Content.{Content}
use Rattle.calc_model.specs.declared.content.Content.TheVariants.{Empty, Constant, Formula, Raw}
use Rattle.calc_model.specs.declared.edit.Edit.{Edit}
use Rattle.calc_model.specs.declared.tree.Tree.{Tree}
use Rattle.calc_model.specs.declared.value.Value.{Value}
use Rattle.calc_model.specs.Books.{Book, area_named, content_at, formula_count, is_formula}
use Rattle.calc_model.specs.Eval.{eval}
use Rattle.calc_model.specs.Grounded.{is_circular, is_grounded}
use Rattle.calc_model.specs.Reads.{Names, reads}
use Rattle.calc_model.specs.Results.{Results, is_known, shown_by, shown_content}
use Rattle.calc_model.specs.Scalars.{CellValues}
use Rattle.calc_model.specs.Stale.{is_formula_cell, reaches}
use Rattle.calc_model.specs.Touched.{CellSet, moved, origin, touched}
use Rattle.calc_model.specs.Val.{cell_value, val}
use Rattle.calc_model.proofs.ShiftedReads.{neither}
use Rattle.calc_model.proofs.Shown.{val_by_reads}
use Rattle.calc_model.proofs.Rounds.{grounded_constant}
use Rattle.dirty_spread.specs.Waves.{has}
use Rattle.formula_results.specs.Results.{results_of}
use Rattle.recalc.specs.Recalculation.{Stored}
use Rattle.workbook.specs.Workbook.{IsFresh, Made, State, current, stale_of}
use Rattle.workbook.proofs.Unreached.{apart, circles, clean, clean_of, reads_clean, same_shown}

-- what an edit leaves in the cells that it doesn't touch: contents, what they read and mean, and their place
pub record Leaves (before after : Book) (edit : Edit) : Type 0 where
  pub content : (q : Place) → touched before edit after q ≡ false → content_at after q ≡ content_at before q
  pub read : (q : Place) → touched before edit after q ≡ false → reads after q ≡ reads before q
  pub meant : (q : Place) → touched before edit after q ≡ false → (tree : Tree) → content_at after q ≡ Formula tree → (v : CellValues) → eval q (area_named after) v tree ≡ eval q (area_named before) v tree
  pub stays : (q : Place) → is_formula_cell after q ≡ true → touched before edit after q ≡ false → origin edit q ≡ Some q

plain_shown : (names : Names) (b : Bool) (v : CellValues) (p : Place) (o : Option Value) (x : Content) → is_formula x ≡ false → shown_content o x ≡ cell_value names b v p x
plain_shown names b v p o Empty h = refl
plain_shown names b v p o (Constant value) h = refl
plain_shown names b v p o (Raw text) h = refl
plain_shown names b v p o (Formula tree) h = cc

not_false : (b : Bool) → not b ≡ true → b ≡ false
not_false true h = sym h
not_false false h = refl

-- cells without a formula are right by whatever results
module _ (state : State) where
  abbrev results : Results
  results = results_of state.results.results

  pub plain_value : (q : Place) → is_formula_cell state.book q ≡ false → shown_by state.book results q ≡ val state.book q
  plain_value q none =
      plain_shown (area_named state.book) (is_circular state.book q) (val state.book) q (results q) (content_at state.book q) none ∙ sym (val_by_reads state.book q)

  pub plain_known : (q : Place) → is_formula_cell state.book q ≡ false → is_known state.book results q ≡ not (is_circular state.book q)
  plain_known q none =
      ap (λ b. not b || is_some (results q)) none ∙ sym (grounded_constant state.book (formula_count state.book + 1) q none) ∙ not_twice (is_grounded state.book (formula_count state.book + 1) q)
    where
      not_twice : (b : Bool) → b ≡ not (not b)
      not_twice true = refl
      not_twice false = refl

  -- a workbook all of whose formulas are stale is fresh
  pub fresh_when_stale : ((q : Place) → stale_of state q ≡ is_formula_cell state.book q) → IsFresh state
  fresh_when_stale all = record {
    values = λ q h. plain_value q (plain q h);
    known = λ q h. plain_known q (plain q h);
    listed = λ q h formula. absurd (false≢true (sym (plain q h) ∙ formula));
  }
    where
      plain : (q : Place) → current state q ≡ true → is_formula_cell state.book q ≡ false
      plain q h = sym (all q) ∙ not_false (stale_of state q) h

module _ (before after : State) (edit : Edit) (leaves : Leaves before.book after.book edit) (made : Made before edit after) (fresh : IsFresh before) where
  abbrev edited : CellSet
  edited = touched before.book edit after.book

  abbrev kept : Place → Bool
  kept = clean after.book edited

  -- what is known of a formula that isn't stale after the edit
  record Left (q : Place) : Type 0 where
    clean : kept q ≡ true
    untouched : edited q ≡ false
    current : current before q ≡ true

  left : (q : Place) → stale_of after q ≡ false → is_formula_cell after.book q ≡ true → Left q
  left q h formula =
      let none : (moved edit (stale_of before) q || reaches after.book edited q) ≡ false =
      ap (λ b. b && (moved edit (stale_of before) q || reaches after.book edited q)) (sym formula) ∙ sym (made.stale q) ∙ h in
      let parts = neither (moved edit (stale_of before) q) (reaches after.book edited q) none in
      let is = clean_of after.book edited q parts.1 in
      let untouched = apart after.book edited q is in
      record {
        clean = is;
        untouched = untouched;
        current = ap not (ap (λ o. option_map_or (stale_of before) o false) (sym (leaves.stays q formula untouched)) ∙ parts.0);
      }

  content : (q : Place) → kept q ≡ true → content_at after.book q ≡ content_at before.book q
  content p at = leaves.content p (apart after.book edited p at)

  read : (q : Place) → kept q ≡ true → reads after.book q ≡ reads before.book q
  read p at = leaves.read p (apart after.book edited p at)

  meant : (q : Place) → kept q ≡ true → (tree : Tree) → content_at after.book q ≡ Formula tree → (v : CellValues) → eval q (area_named after.book) v tree ≡ eval q (area_named before.book) v tree
  meant p at = leaves.meant p (apart after.book edited p at)

  same_circle : (q : Place) → kept q ≡ true → is_circular after.book q ≡ is_circular before.book q
  same_circle = circles before.book after.book kept content read (reads_clean after.book edited) meant

  pub still_fresh : IsFresh after
  still_fresh = record {
    values = λ q h. ⊎_elim
        (λ (formula : is_formula_cell after.book q ≡ true).
        let l = left q (not_false (stale_of after q) h) formula in
        ap (λ (rs : Stored). shown_content (results_of rs.results q) (content_at after.book q)) made.results
        ∙ ap (shown_content (results_of before.results.results q)) (leaves.content q l.untouched)
        ∙ fresh.values q l.current
        ∙ sym (same_shown before.book after.book kept content read (reads_clean after.book edited) meant q l.clean))
        (λ (none : is_formula_cell after.book q ≡ false). plain_value after q none) (cases_Bool (is_formula_cell after.book q));
    known = λ q h. ⊎_elim
        (λ (formula : is_formula_cell after.book q ≡ true).
        let l = left q (not_false (stale_of after q) h) formula in
        ap (λ (rs : Stored). is_known after.book (results_of rs.results) q) made.results
        ∙ ap (λ x. not (is_formula x) || is_some (results_of before.results.results q)) (leaves.content q l.untouched)
        ∙ fresh.known q l.current
        ∙ ap not (sym (same_circle q l.clean)))
        (λ (none : is_formula_cell after.book q ≡ false). plain_known after q none) (cases_Bool (is_formula_cell after.book q));
    listed = λ q h formula.
        let l = left q (not_false (stale_of after q) h) formula in
        ap (λ (rs : Stored). has rs.circles q) made.results
        ∙ fresh.listed q l.current (sym (ap is_formula (leaves.content q l.untouched)) ∙ formula)
        ∙ sym (same_circle q l.clean);
  }

-- a workbook without cells is fresh
pub fresh_unwritten : (state : State) → state.book.cells ≡ [] → IsFresh state
unfolding content_at
fresh_unwritten state none = record {
  values = λ q _. plain_value state q (no_formula q);
  known = λ q _. plain_known state q (no_formula q);
  listed = λ q _ formula. absurd (false≢true (sym (no_formula q) ∙ formula));
}
  where
    no_formula : (q : Place) → is_formula_cell state.book q ≡ false
    no_formula q = ap (λ cells. is_formula (unwrap_or (find place_cmp q cells) Empty)) none
