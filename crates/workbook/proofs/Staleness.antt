-- Which formulas are stale after an edit, by what was touched since the last recalculation: those that reach any of it.
use Rattle.std.proofs.Common.{◌≡◌, Bool, true, false, ◌||◌, ◌&&◌, [], refl, sym, ap, subst, ◌∙◌, ◌⊎◌, inl, inr, Some}
use Rattle.std.specs.FinMap.Entries.{find}
use Rattle.std.specs.Ordering.{nat_cmp}
use Rattle.std.specs.Cmp.Lexicographic.{slice_cmp}
use Rattle.std.specs.Str.{str_to_ascii_uppercase}
use Rattle.std.specs.Ordering.{eq_by_cmp}
use Rattle.std.proofs.lemmas.Bool.{false_from_ne_true, and_from, and_parts}
use Rattle.std.specs.List.{list_any}
use Rattle.calc_addr.specs.Places.{Place, covers, place_cmp}
use Rattle.calc_model.specs.Books.{Book, area_named, content_at, entry_named, is_formula, looked_up}
use Rattle.calc_model.specs.Reads.{content_areas, reads}
use Rattle.calc_model.specs.Stale.{Reaches, any_cell, is_formula_cell, reaches}
use Rattle.std.specs.Option.{option_map_or}
use Rattle.calc_model.specs.declared.edit.Edit.{Edit}
use Rattle.calc_model.specs.Touched.{CellSet, moved, origin}
use Rattle.calc_model.proofs.Reached.{either, or_first, or_second, or_true, reaches_at_all, reaches_indeed}
use Rattle.workbook.proofs.Tests.{same_tests}
use Rattle.workbook.specs.Touched.{Parts, contains_cell, is_touched, lies_in, uses_any}
use Rattle.workbook.proofs.NamesIn.{uses_none}
use Rattle.workbook.specs.Workbook.{State, stale_of}

-- names and contents that stay leave what cells read
module _ (before after : Book) (unnamed : after.names ≡ before.names) (edited : CellSet) (same : (q : Place) → edited q ≡ false → content_at after q ≡ content_at before q) where
  same_names : area_named after ≡ area_named before
  unfolding entry_named
  same_names = ap (λ names name. looked_up (find (slice_cmp nat_cmp) (str_to_ascii_uppercase name) names)) unnamed

  pub reads_kept : (q : Place) → edited q ≡ false → reads after q ≡ reads before q
  reads_kept q apart =
      ap (λ names. content_areas q names (content_at after q)) (same_names)
      ∙ ap (content_areas q (area_named before)) (same q apart)

-- a book in which some cells at most hold or read something else, and these join those that were touched before
module _ (before after : Book) (old edited all : CellSet) (same_reads : (q : Place) → edited q ≡ false → reads after q ≡ reads before q) (same_formula : (q : Place) → edited q ≡ false → is_formula_cell after q ≡ is_formula_cell before q) (joined : (q : Place) → all q ≡ (old q || edited q)) where
  by_old : (q : Place) → old q ≡ true → all q ≡ true
  by_old q h = joined q ∙ or_first (old q) (edited q) h

  by_edited : (q : Place) → edited q ≡ true → all q ≡ true
  by_edited q h = joined q ∙ or_second (old q) (edited q) h

  edited_or_not : (q : Place) → (edited q ≡ true) ⊎ (edited q ≡ false)
  edited_or_not q = elim (edited q) as (λ b. edited q ≡ b → (edited q ≡ true) ⊎ (edited q ≡ false)) [ true ↦ λ h. inl h | false ↦ λ h. inr h ] refl

  kept : (q : Place) → Reaches before old q → Reaches after all q
  kept q (Reaches.itself is) = Reaches.itself (by_old q is)
  kept q (Reaches.by_reading {read = read} reads_it reached) =
      elim (edited_or_not q) [
        | inl is ↦ Reaches.itself (by_edited q is)
        | inr is_not ↦ Reaches.by_reading (subst (λ areas. any_cell (eq_by_cmp place_cmp read) areas ≡ true) (sym (same_reads q is_not)) reads_it) (kept read reached)
      ]

  more : (q : Place) → Reaches after edited q → Reaches after all q
  more q (Reaches.itself is) = Reaches.itself (by_edited q is)
  more q (Reaches.by_reading {read = read} reads_it reached) = Reaches.by_reading reads_it (more read reached)

  parted : (q : Place) → Reaches after all q → (Reaches before old q) ⊎ (Reaches after edited q)
  parted q (Reaches.itself is) =
      elim (either (old q) (edited q) (sym (joined q) ∙ is)) [
        | inl was ↦ inl (Reaches.itself was)
        | inr now ↦ inr (Reaches.itself now)
      ]
  parted q (Reaches.by_reading {read = read} reads_it reached) =
      elim (parted read reached) [
        | inl was ↦ elim (edited_or_not q) [
          | inl is ↦ inr (Reaches.itself is)
          | inr is_not ↦ inl (Reaches.by_reading (subst (λ areas. any_cell (eq_by_cmp place_cmp read) areas ≡ true) (same_reads q is_not) reads_it) was)
        ]
        | inr now ↦ inr (Reaches.by_reading reads_it now)
      ]

  abbrev stale_before : CellSet
  stale_before q = is_formula_cell before q && reaches before old q

  to_edit : (q : Place) → is_formula_cell after q ≡ true → reaches after all q ≡ true → (stale_before q || reaches after edited q) ≡ true
  to_edit q formula h =
      elim (parted q (reaches_indeed after all q h)) [
        | inl was ↦ elim (edited_or_not q) [
          | inl is ↦ or_second (stale_before q) (reaches after edited q) (reaches_at_all after edited q (Reaches.itself is))
          | inr is_not ↦ or_first (stale_before q) (reaches after edited q) (and_from _ _ (sym (same_formula q is_not) ∙ formula) (reaches_at_all before old q was))
        ]
        | inr now ↦ or_second (stale_before q) (reaches after edited q) (reaches_at_all after edited q now)
      ]

  from_edit : (q : Place) → (stale_before q || reaches after edited q) ≡ true → reaches after all q ≡ true
  from_edit q h =
      elim (either (stale_before q) (reaches after edited q) h) [
        | inl was ↦ reaches_at_all after all q (kept q (reaches_indeed before old q (and_parts _ _ was).1))
        | inr now ↦ reaches_at_all after all q (more q (reaches_indeed after edited q now))
      ]

  -- the formulas that reach any touched cell are those that were stale or reach one that the edit touched
  pub stale_joined : (q : Place) → (is_formula_cell after q && reaches after all q) ≡ (is_formula_cell after q && (stale_before q || reaches after edited q))
  stale_joined q = same_tests _ _
      (λ h. and_from _ _ (and_parts _ _ h).0 (to_edit q (and_parts _ _ h).0 (and_parts _ _ h).1))
      (λ h. and_from _ _ (and_parts _ _ h).0 (from_edit q (and_parts _ _ h).1))

-- no cell reaches one of none
none_reached : (book : Book) (cells : CellSet) → ((q : Place) → cells q ≡ false) → (q : Place) → Reaches book cells q → ⊥
none_reached book cells none q (Reaches.itself is) = let no : cells q ≡ false = none q in cc
none_reached book cells none q (Reaches.by_reading {read = read} reads_it reached) = none_reached book cells none read reached

pub reaches_none : (book : Book) (cells : CellSet) → ((q : Place) → cells q ≡ false) → (q : Place) → reaches book cells q ≡ false
reaches_none book cells none q = false_from_ne_true _ (λ h. none_reached book cells none q (reaches_indeed book cells q h))

-- the cells that an edit touches join those before, where it leaves the others as they were
module _ (before after : State) (edited : CellSet) (names : after.touched.names ≡ before.touched.names) (same : (q : Place) → edited q ≡ false → content_at after.book q ≡ content_at before.book q) (lies : (q : Place) → lies_in after.touched q ≡ (lies_in before.touched q || edited q)) where
  abbrev used : CellSet
  used q = uses_any before.touched.names (content_at before.book q)

  with_edited : (old uses edit now now_uses : Bool) → now ≡ (old || edit) → (edit ≡ false → now_uses ≡ uses) → (now || now_uses) ≡ ((old || uses) || edit)
  with_edited true uses edit now now_uses is kept = ap (λ b. b || now_uses) is
  with_edited false uses true now now_uses is kept = ap (λ b. b || now_uses) is ∙ sym (or_true uses)
  with_edited false true false now now_uses is kept = ap (λ b. b || now_uses) is ∙ kept refl
  with_edited false false false now now_uses is kept = ap (λ b. b || now_uses) is ∙ kept refl

  pub touched_joined : (q : Place) → is_touched after.book after.touched q ≡ (is_touched before.book before.touched q || edited q)
  touched_joined q =
      with_edited (lies_in before.touched q) (used q) (edited q) (lies_in after.touched q) (uses_any after.touched.names (content_at after.book q)) (lies q)
      (λ apart. ap (λ names. uses_any names (content_at after.book q)) names ∙ ap (uses_any before.touched.names) (same q apart))

-- a workbook whose cells changed where an edit touches them, and which keeps what was touched
pub stale_more : (before after : State) (edited : CellSet) → after.book.names ≡ before.book.names → ((q : Place) → edited q ≡ false → content_at after.book q ≡ content_at before.book q) → after.touched.names ≡ before.touched.names → ((q : Place) → lies_in after.touched q ≡ (lies_in before.touched q || edited q)) → (q : Place) → stale_of after q ≡ (is_formula_cell after.book q && (stale_of before q || reaches after.book edited q))
unfolding stale_of
stale_more before after edited names same touched lies q =
    stale_joined before.book after.book (is_touched before.book before.touched) edited (is_touched after.book after.touched) (reads_kept before.book after.book names edited same) (λ q apart. ap is_formula (same q apart)) (touched_joined before after edited touched same lies) q

swap_stale : (formula was moved reached : Bool) → (formula ≡ true → reached ≡ false → moved ≡ was) → (formula && (was || reached)) ≡ (formula && (moved || reached))
swap_stale false was moved reached same = refl
swap_stale true was moved true same = or_true was ∙ sym (or_true moved)
swap_stale true was moved false same = ap (λ b. b || false) (sym (same refl refl))

-- a workbook in which cells that an edit doesn't touch stay where they were, and read what they read
pub stale_moved : (before after : State) (edit : Edit) (edited : CellSet) → ((q : Place) → edited q ≡ false → reads after.book q ≡ reads before.book q) → ((q : Place) → edited q ≡ false → content_at after.book q ≡ content_at before.book q) → ((q : Place) → is_formula_cell after.book q ≡ true → edited q ≡ false → origin edit q ≡ Some q) → after.touched.names ≡ before.touched.names → ((q : Place) → lies_in after.touched q ≡ (lies_in before.touched q || edited q)) → (q : Place) → stale_of after q ≡ (is_formula_cell after.book q && (moved edit (stale_of before) q || reaches after.book edited q))
unfolding stale_of
stale_moved before after edit edited same_reads same stays touched lies q =
    stale_joined before.book after.book (is_touched before.book before.touched) edited (is_touched after.book after.touched) same_reads (λ q apart. ap is_formula (same q apart)) (touched_joined before after edited touched same lies) q
    ∙ swap_stale (is_formula_cell after.book q) (stale_of before q) (moved edit (stale_of before) q) (reaches after.book edited q) (λ formula apart. ap (λ o. option_map_or (stale_of before) o false) (stays q formula (not_edited apart)))
  where
    not_edited : reaches after.book edited q ≡ false → edited q ≡ false
    not_edited apart = false_from_ne_true (edited q) (λ is. let reached : reaches after.book edited q ≡ true = reaches_at_all after.book edited q (Reaches.itself is) in cc)

and_true : (b : Bool) → (b && true) ≡ b
and_true true = refl
and_true false = refl

and_false : (b : Bool) → (b && false) ≡ false
and_false true = refl
and_false false = refl

-- with every cell touched, each formula is stale
pub all_stale : (state : State) → ((q : Place) → lies_in state.touched q ≡ true) → (q : Place) → stale_of state q ≡ is_formula_cell state.book q
unfolding stale_of
all_stale state all q =
    ap (λ b. is_formula_cell state.book q && b) (reaches_at_all state.book (is_touched state.book state.touched) q (Reaches.itself (or_first (lies_in state.touched q) _ (all q))))
    ∙ and_true (is_formula_cell state.book q)

-- with none touched, none is
pub none_stale : (state : State) → ((q : Place) → lies_in state.touched q ≡ false) → state.touched.names ≡ [] → (q : Place) → stale_of state q ≡ false
unfolding stale_of
none_stale state none unnamed q =
    ap (λ b. is_formula_cell state.book q && b) (reaches_none state.book (is_touched state.book state.touched) (λ p. ap (λ b. b || uses_any state.touched.names (content_at state.book p)) (none p) ∙ ap (λ names. uses_any names (content_at state.book p)) unnamed ∙ uses_none (content_at state.book p)) q)
    ∙ and_false (is_formula_cell state.book q)

-- with all touched, each cell reaches a touched one
pub all_reach : (book : Book) (parts : Parts) → parts.all ≡ true → (q : Place) → (is_formula_cell book q && reaches book (is_touched book parts) q) ≡ is_formula_cell book q
unfolding lies_in
all_reach book parts all q =
    ap (λ b. is_formula_cell book q && b) (reaches_at_all book (is_touched book parts) q (Reaches.itself (or_first (lies_in parts q) _ (ap (λ b. b || contains_cell parts.cells q || list_any (λ area. covers area q) parts.areas) all)))) ∙ and_true (is_formula_cell book q)
