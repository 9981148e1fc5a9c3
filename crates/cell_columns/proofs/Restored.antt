-- Cells that are emptied, and then set to what they held.
use Rattle.std.proofs.Common.{◌≡◌, ◌≤◌, ℕ, zero, suc, Bool, T, true, false, not, cond, List, [], ◌∷◌, length, take, Option, Some, None, unwrap_or, is_some, ◌⊎◌, inl, inr, refl, sym, ap, subst, ◌∙◌, arith}
use Rattle.std.specs.List.{filter, list_all}
use Rattle.std.specs.Ordering.{eq_by_cmp}
use Rattle.std.specs.BTreeMap.{insert_entry, is_at}
use Rattle.std.specs.Map.{remove_entry}
use Rattle.std.specs.FinMap.Entries.{find, find-where_key, is_sorted, same_entries}
use Rattle.calc_addr.specs.Places.{Place, place_cmp}
use Rattle.calc_model.specs.declared.content.Content.{Content}
use Rattle.calc_model.specs.declared.content.Content.TheVariants as content
use Rattle.calc_model.specs.Books.{content_at, is_formula, is_held, with_content}
use Rattle.calc_model.specs.CellEdits.{CellEntries}
use Rattle.calc_model.proofs.Areas.{both_true}
use Rattle.calc_model.proofs.EntriesKept.{both_so, sorted-inserted, sorted-removed}
use Rattle.calc_model.proofs.EntriesMoved.{length-filter, sorted-filter}
use Rattle.calc_model.proofs.Places.{exact_places, places_total, same_places}
use Rattle.calc_model.proofs.Reached.{same_cell}
use Rattle.cell_columns.specs.Cells.{cells_only}
use Rattle.kept_codes.specs.Gathered.{Among}
use Rattle.cell_columns.specs.Looks.{with_contents}
use Rattle.cell_columns.specs.Reset.{emptied, with_all}
use Rattle.cell_columns.proofs.Contents.{find_inserted, find_removed}

is_so : (b : Bool) → b ≡ true → T b
is_so b h = subst T (sym h) tt

-- what a cell holds is found there
pub found_held : (es : CellEntries) (q : Place) → is_held (content_at (cells_only es) q) ≡ true → find place_cmp q es ≡ Some (content_at (cells_only es) q)
unfolding content_at
found_held es q h =
    elim (find place_cmp q es) as (λ o. is_held (unwrap_or o content.Empty) ≡ true → o ≡ Some (unwrap_or o content.Empty)) [
      | None ↦ λ h. cc
      | Some c ↦ λ _. refl
    ] h

pub formula_held : (c : Content) → is_formula c ≡ true → is_held c ≡ true
formula_held content.Empty h = cc
formula_held (content.Constant value) h = refl
formula_held (content.Formula tree) h = refl
formula_held (content.Raw text) h = refl

pub sorted_with : (es : CellEntries) (q : Place) (c : Content) → is_sorted place_cmp es ≡ true → is_sorted place_cmp (with_content es q c) ≡ true
sorted_with es q c sorted =
    elim (is_held c) as (λ b. is_sorted place_cmp (cond b (insert_entry place_cmp es q c) (remove_entry (is_at (place_cmp q)) es)) ≡ true) [
      | true ↦ sorted-inserted place_cmp places_total q c es sorted
      | false ↦ sorted-removed place_cmp (is_at (place_cmp q)) es sorted
    ]

-- the entries of fewer cells are fewer
pub fewer : (xs es : CellEntries) → is_sorted place_cmp xs ≡ true → is_sorted place_cmp es ≡ true → ((p : Place) → (find place_cmp p xs ≡ None) ⊎ (find place_cmp p xs ≡ find place_cmp p es)) → length xs ≤ length es
fewer xs es sorted whole each =
    let left : CellEntries = filter (λ e. is_some (find place_cmp e.0 xs)) es in
    let same : xs ≡ left =
    same_entries place_cmp places_total exact_places xs left (is_so _ sorted) (is_so _ (sorted-filter place_cmp (λ q. is_some (find place_cmp q xs)) es whole))
    (λ p. one p (each p) ∙ sym (find-where_key place_cmp (λ q. is_some (find place_cmp q xs)) p (λ x tied. ap (λ q. is_some (find place_cmp q xs)) (sym (exact_places p x tied))) es)) in
    omega (arith, ap (λ (es : CellEntries). length es) same, length-filter (λ e. is_some (find place_cmp e.0 xs)) es)
  where
    one : (p : Place) → (find place_cmp p xs ≡ None) ⊎ (find place_cmp p xs ≡ find place_cmp p es) → find place_cmp p xs ≡ cond (is_some (find place_cmp p xs)) (find place_cmp p es) None
    one p (inl none) = none ∙ ap (λ o. cond (is_some o) (find place_cmp p es) None) (sym none)
    one p (inr same) =
        elim (find place_cmp p xs) as (λ o. o ≡ find place_cmp p es → o ≡ cond (is_some o) (find place_cmp p es) None) [
          | None ↦ λ _. refl
          | Some c ↦ λ is. is
        ] same

module _ (es : CellEntries) (in_order : is_sorted place_cmp es ≡ true) where
  -- what these cells hold are formulas
  abbrev pub AreFormulas : List Place → Type 0
  AreFormulas cells = list_all (λ q. is_formula (content_at (cells_only es) q)) cells ≡ true

  -- a cell holds nothing, or what the whole holds
  abbrev IsPart : CellEntries → Place → Type 0
  IsPart held p = (find place_cmp p held ≡ None) ⊎ (find place_cmp p held ≡ find place_cmp p es)

  -- one cell more is set to what it held
  set_back : (q p : Place) (held : CellEntries) → is_formula (content_at (cells_only es) q) ≡ true → find place_cmp p (with_content held q (content_at (cells_only es) q)) ≡ cond (eq_by_cmp place_cmp p q) (find place_cmp q es) (find place_cmp p held)
  set_back q p held formula =
      let here : is_held (content_at (cells_only es) q) ≡ true = formula_held (content_at (cells_only es) q) formula in
      ap (λ b. find place_cmp p (cond b (insert_entry place_cmp held q (content_at (cells_only es) q)) (remove_entry (is_at (place_cmp q)) held))) here
      ∙ find_inserted held q p (content_at (cells_only es) q)
      ∙ ap (λ o. cond (eq_by_cmp place_cmp p q) o (find place_cmp p held)) (sym (found_held es q here))

  set_sorted : (cells : List Place) (held : CellEntries) → is_sorted place_cmp held ≡ true → is_sorted place_cmp (with_all held (with_contents es cells)) ≡ true
  set_sorted [] held sorted = sorted
  set_sorted (q ∷ cells) held sorted = set_sorted cells (with_content held q (content_at (cells_only es) q)) (sorted_with held q (content_at (cells_only es) q) sorted)

  still_part : (p : Place) (cells : List Place) → AreFormulas cells → (held : CellEntries) → IsPart held p → IsPart (with_all held (with_contents es cells)) p
  still_part p [] all held part = part
  still_part p (q ∷ cells) all held part =
      let parts = both_true (is_formula (content_at (cells_only es) q)) (list_all (λ q. is_formula (content_at (cells_only es) q)) cells) all in
      still_part p cells parts.1 (with_content held q (content_at (cells_only es) q))
      (subst (λ o. (o ≡ None) ⊎ (o ≡ find place_cmp p es)) (sym (set_back q p held parts.0))
      (elim (eq_by_cmp place_cmp p q) as (λ b. eq_by_cmp place_cmp p q ≡ b → (cond b (find place_cmp q es) (find place_cmp p held) ≡ None) ⊎ (cond b (find place_cmp q es) (find place_cmp p held) ≡ find place_cmp p es)) [
        | true ↦ λ same. inr (ap (λ r. find place_cmp r es) (sym (same_places p q same)))
        | false ↦ λ _. part
      ] refl))

  all_set : (p : Place) (cells : List Place) → AreFormulas cells → (held : CellEntries) → Among p cells ⊎ (find place_cmp p held ≡ find place_cmp p es) → find place_cmp p (with_all held (with_contents es cells)) ≡ find place_cmp p es
  all_set p [] all held (inl none) = absurd none
  all_set p [] all held (inr same) = same
  all_set p (q ∷ cells) all held before =
      let parts = both_true (is_formula (content_at (cells_only es) q)) (list_all (λ q. is_formula (content_at (cells_only es) q)) cells) all in
      all_set p cells parts.1 (with_content held q (content_at (cells_only es) q))
      (elim (eq_by_cmp place_cmp p q) as (λ b. eq_by_cmp place_cmp p q ≡ b → Among p cells ⊎ (find place_cmp p (with_content held q (content_at (cells_only es) q)) ≡ find place_cmp p es)) [
        | true ↦ λ same. inr (set_back q p held parts.0 ∙ ap (λ b. cond b (find place_cmp q es) (find place_cmp p held)) same ∙ ap (λ r. find place_cmp r es) (sym (same_places p q same)))
        | false ↦ λ other. later (set_back q p held parts.0 ∙ ap (λ b. cond b (find place_cmp q es) (find place_cmp p held)) other) (apart other) before
      ] refl)
    where
      apart : eq_by_cmp place_cmp p q ≡ false → q ≡ p → ⊥
      apart other is = let same : eq_by_cmp place_cmp p q ≡ true = subst (λ r. eq_by_cmp place_cmp p r ≡ true) (sym is) (same_cell p) in cc

      later : {next : Option Content} → next ≡ find place_cmp p held → (q ≡ p → ⊥) → Among p (q ∷ cells) ⊎ (find place_cmp p held ≡ find place_cmp p es) → Among p cells ⊎ (next ≡ find place_cmp p es)
      later is not (inl (inl here)) = absurd (not here)
      later is not (inl (inr there)) = inl there
      later is not (inr same) = inr (is ∙ same)

  -- emptied cells hold nothing, and the others what they held
  pub empty_sorted : (cells : List Place) (held : CellEntries) → is_sorted place_cmp held ≡ true → is_sorted place_cmp (emptied held cells) ≡ true
  empty_sorted [] held sorted = sorted
  empty_sorted (q ∷ cells) held sorted = empty_sorted cells (with_content held q content.Empty) (sorted_with held q content.Empty sorted)

  emptied_part : (p : Place) (cells : List Place) (held : CellEntries) → is_sorted place_cmp held ≡ true → IsPart held p → IsPart (emptied held cells) p
  emptied_part p [] held sorted part = part
  emptied_part p (q ∷ cells) held sorted part =
      emptied_part p cells (with_content held q content.Empty) (sorted_with held q content.Empty sorted)
      (subst (λ o. (o ≡ None) ⊎ (o ≡ find place_cmp p es)) (sym (find_removed held q p sorted))
      (elim (eq_by_cmp place_cmp p q) as (λ b. (cond b None (find place_cmp p held) ≡ None) ⊎ (cond b None (find place_cmp p held) ≡ find place_cmp p es)) [
        | true ↦ inl refl
        | false ↦ part
      ]))

  emptied_others : (p : Place) (cells : List Place) (held : CellEntries) → is_sorted place_cmp held ≡ true → Among p cells ⊎ (find place_cmp p (emptied held cells) ≡ find place_cmp p held)
  emptied_others p [] held sorted = inr refl
  emptied_others p (q ∷ cells) held sorted =
      let removed : find place_cmp p (with_content held q content.Empty) ≡ cond (eq_by_cmp place_cmp p q) None (find place_cmp p held) = find_removed held q p sorted in
      elim (emptied_others p cells (with_content held q content.Empty) (sorted_with held q content.Empty sorted)) as (λ _. Among p (q ∷ cells) ⊎ (find place_cmp p (emptied (with_content held q content.Empty) cells) ≡ find place_cmp p held)) [
        | inl there ↦ inl (inr there)
        | inr same ↦ elim (eq_by_cmp place_cmp p q) as (λ b. eq_by_cmp place_cmp p q ≡ b → Among p (q ∷ cells) ⊎ (find place_cmp p (emptied (with_content held q content.Empty) cells) ≡ find place_cmp p held)) [
          | true ↦ λ is. inl (inl (sym (same_places p q is)))
          | false ↦ λ other. inr (same ∙ removed ∙ ap (λ b. cond b None (find place_cmp p held)) other)
        ] refl
      ]

  -- no emptied cell holds anything
  emptied_none : (p : Place) (cells : List Place) (held : CellEntries) → is_sorted place_cmp held ≡ true → Among p cells ⊎ (find place_cmp p held ≡ None) → find place_cmp p (emptied held cells) ≡ None
  emptied_none p [] held sorted (inl none) = absurd none
  emptied_none p [] held sorted (inr none) = none
  emptied_none p (q ∷ cells) held sorted before =
      let removed : find place_cmp p (with_content held q content.Empty) ≡ cond (eq_by_cmp place_cmp p q) None (find place_cmp p held) = find_removed held q p sorted in
      emptied_none p cells (with_content held q content.Empty) (sorted_with held q content.Empty sorted) (next removed before)
    where
      either : (b : Bool) (o : Option Content) → o ≡ None → cond b None o ≡ None
      either true o none = refl
      either false o none = none

      next : {o : Option Content} → o ≡ cond (eq_by_cmp place_cmp p q) None (find place_cmp p held) → Among p (q ∷ cells) ⊎ (find place_cmp p held ≡ None) → Among p cells ⊎ (o ≡ None)
      next is (inl (inl here)) = inr (is ∙ ap (λ b. cond b None (find place_cmp p held)) (subst (λ r. eq_by_cmp place_cmp p r ≡ true) (sym here) (same_cell p)))
      next is (inl (inr there)) = inl there
      next is (inr none) = inr (is ∙ either (eq_by_cmp place_cmp p q) (find place_cmp p held) none)

  all_front : (k : ℕ) (cells : List Place) → AreFormulas cells → AreFormulas (take k cells)
  all_front zero cells all = refl
  all_front (suc k) [] all = refl
  all_front (suc k) (q ∷ cells) all =
      let parts = both_true (is_formula (content_at (cells_only es) q)) (list_all (λ q. is_formula (content_at (cells_only es) q)) cells) all in
      both_so _ _ parts.0 (all_front k cells parts.1)

  module _ (cells : List Place) (formulas : AreFormulas cells) where
    -- there are no more cells while they are set back
    pub part_few : (k : ℕ) → length (with_all (emptied es cells) (with_contents es (take k cells))) ≤ length es
    part_few k =
        fewer (with_all (emptied es cells) (with_contents es (take k cells))) es (set_sorted (take k cells) (emptied es cells) (empty_sorted cells es in_order)) in_order
        (λ p. still_part p (take k cells) (all_front k cells formulas) (emptied es cells) (emptied_part p cells es in_order (inr refl)))

    -- in the end they are the cells from the beginning
    pub restored : with_all (emptied es cells) (with_contents es cells) ≡ es
    restored =
        same_entries place_cmp places_total exact_places (with_all (emptied es cells) (with_contents es cells)) es (is_so _ (set_sorted cells (emptied es cells) (empty_sorted cells es in_order))) (is_so _ in_order)
        (λ p. all_set p cells formulas (emptied es cells) (emptied_others p cells es in_order))

    -- a cell that still holds something isn't one of those, and holds what it held
    pub still_held : (p : Place) → is_held (content_at (cells_only (emptied es cells)) p) ≡ true → (content_at (cells_only (emptied es cells)) p ≡ content_at (cells_only es) p) × (Among p cells → ⊥)
    unfolding content_at
    still_held p held = (same (emptied_part p cells es in_order (inr refl)), λ there. gone (emptied_none p cells es in_order (inl there)))
      where
        gone : find place_cmp p (emptied es cells) ≡ None → ⊥
        gone none = let h : is_held (unwrap_or None content.Empty) ≡ true = subst (λ o. is_held (unwrap_or o content.Empty) ≡ true) none held in cc

        same : IsPart (emptied es cells) p → unwrap_or (find place_cmp p (emptied es cells)) content.Empty ≡ unwrap_or (find place_cmp p es) content.Empty
        same (inl none) = absurd (gone none)
        same (inr is) = ap (λ o. unwrap_or o content.Empty) is
