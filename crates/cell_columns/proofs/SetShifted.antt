-- Cells that are set before a change of rows and after it.
use Rattle.std.proofs.Common.{◌≡◌, Bool, true, false, ◌&&◌, not, cond, List, [], ◌∷◌, map, refl, sym, ap, subst, ◌∙◌}
use Rattle.std.specs.Prelude.{◌==◌}
use Rattle.std.specs.List.{list_all}
use Rattle.std.specs.BTreeMap.{insert_entry, is_at}
use Rattle.std.specs.Map.{remove_entry}
use Rattle.std.specs.Ordering.{is_eq, is_lt, match_ordering, ordering_reverse}
use Rattle.std.specs.declared.cmp.Ordering.{Ordering}
use Rattle.std.specs.declared.cmp.Ordering.TheVariants.{Less, Equal, Greater}
use Rattle.std.proofs.lemmas.Bool.Decides.{Decides-eqb}
use Rattle.calc_addr.specs.Places.{Place, place_cmp}
use Rattle.calc_addr.specs.Shifts.{is_deleted}
use Rattle.calc_model.specs.declared.change.Change.{Change}
use Rattle.calc_model.specs.declared.change.Change.TheVariants.{Stays, Moves, Inserted, Deleted}
use Rattle.calc_model.specs.declared.content.Content.{Content}
use Rattle.calc_model.specs.declared.content.Content.TheVariants as content
use Rattle.calc_model.specs.declared.tree.Tree.{Tree}
use Rattle.calc_model.specs.Books.{is_held, with_content}
use Rattle.calc_model.specs.CellEdits.{CellEntries, with_tree}
use Rattle.calc_model.specs.RowEdits.{is_in_rows}
use Rattle.calc_model.proofs.Areas.{both_true}
use Rattle.calc_model.proofs.EntriesKept.{all-inserted, all-removed}
use Rattle.calc_model.proofs.Places.{exact_places, places_total}
use Rattle.calc_model.proofs.Reached.{same_cell}
use Rattle.calc_model.proofs.RowsKept.{deletion_rises, insertion_rises}
use Rattle.cell_columns.specs.Reset.{emptied, with_all}
use Rattle.kept_codes.specs.RowChanges.{StaysIn, goes, tree_after}
use Rattle.cell_columns.specs.Shifted.{shifted}

-- the place isn't deleted
abbrev pub is_left : Change → Place → Bool
is_left (Deleted sheet place count) q = not (is_in_rows sheet place count q)
is_left _ q = true

left_rise : (change : Change) (p q : Place) → is_left change p ≡ true → is_left change q ≡ true → is_lt (place_cmp p q) ≡ true → is_lt (place_cmp (goes change p) (goes change q)) ≡ true
left_rise (Inserted sheet place count) p q h k less = insertion_rises sheet place count p q less
left_rise (Deleted sheet place count) p q h k less = deletion_rises sheet place count p q h k less
left_rise Stays p q h k less = less
left_rise (Moves cols rows) p q h k less = less

pub stays_left : (change : Change) (q : Place) → StaysIn change q → is_left change q ≡ true
stays_left (Inserted sheet place count) q stays = refl
stays_left Stays q stays = refl
stays_left (Moves cols rows) q stays = refl
stays_left (Deleted sheet place count) q stays =
    elim (q.sheet == sheet) as (λ b. (q.sheet == sheet) ≡ b → not (b && is_deleted place count q.row) ≡ true) [
      | true ↦ λ on. ap not (stays ((Decides-eqb q.sheet sheet).0 on))
      | false ↦ λ _. refl
    ] refl

less_is : (o : Ordering) → is_lt o ≡ true → o ≡ Less
less_is Less h = refl
less_is Equal h = cc
less_is Greater h = cc

equal_is : (o : Ordering) → is_eq o ≡ true → o ≡ Equal
equal_is Less h = cc
equal_is Equal h = refl
equal_is Greater h = cc

with_tree_held : (by : Tree → Tree) (c : Content) → is_held (with_tree by c) ≡ is_held c
with_tree_held by content.Empty = refl
with_tree_held by (content.Constant value) = refl
with_tree_held by (content.Formula tree) = refl
with_tree_held by (content.Raw text) = refl

module _ (change : Change) where
  -- places that stay keep their order
  same_order : (p q : Place) → is_left change p ≡ true → is_left change q ≡ true → place_cmp (goes change p) (goes change q) ≡ place_cmp p q
  same_order p q h k =
      elim (place_cmp p q) as (λ o. place_cmp p q ≡ o → place_cmp (goes change p) (goes change q) ≡ o) [
        | Less ↦ λ is. less_is _ (left_rise change p q h k (ap is_lt is))
        | Equal ↦ λ is. subst (λ r. place_cmp (goes change p) (goes change r) ≡ Equal) (exact_places p q is) (equal_is _ (same_cell (goes change p)))
        | Greater ↦ λ is.
            let turned : place_cmp q p ≡ Less = places_total.antisymm q p ∙ ap ordering_reverse is in
            places_total.antisymm (goes change p) (goes change q) ∙ ap ordering_reverse (less_is _ (left_rise change q p k h (ap is_lt turned)))
      ] refl

  abbrev pub AllLeft : CellEntries → Type 0
  AllLeft es = list_all (λ e. is_left change e.0 && is_held e.1) es ≡ true

  abbrev moved : Place × Content → Place × Content
  moved e = (goes change e.0, with_tree (tree_after change e.0) e.1)

  set_one : (q : Place) (c : Content) (es : CellEntries) → is_left change q ≡ true → AllLeft es → map moved (insert_entry place_cmp es q c) ≡ insert_entry place_cmp (map moved es) (goes change q) (with_tree (tree_after change q) c)
  set_one q c [] left all = refl
  set_one q c (e ∷ es) left all =
      let parts = both_true (is_left change e.0 && is_held e.1) (list_all (λ e. is_left change e.0 && is_held e.1) es) all in
      let here = both_true (is_left change e.0) (is_held e.1) parts.0 in
      let there : CellEntries = map moved es in
      elim (place_cmp q e.0) as (λ o. place_cmp q e.0 ≡ o → map moved (match_ordering o ((q, c) ∷ e ∷ es) ((e.0, c) ∷ es) (e ∷ insert_entry place_cmp es q c)) ≡ match_ordering o (moved (q, c) ∷ moved e ∷ there) (((moved e).0, (moved (q, c)).1) ∷ there) (moved e ∷ insert_entry place_cmp there (goes change q) (moved (q, c)).1)) [
        | Less ↦ λ _. refl
        | Equal ↦ λ is. ap (λ p. (goes change e.0, with_tree (tree_after change p) c) ∷ there) (sym (exact_places q e.0 is))
        | Greater ↦ λ _. ap (λ (rest : CellEntries). moved e ∷ rest) (set_one q c es left parts.1)
      ] refl
      ∙ ap (λ o. match_ordering o (moved (q, c) ∷ moved e ∷ there) (((moved e).0, (moved (q, c)).1) ∷ there) (moved e ∷ insert_entry place_cmp there (goes change q) (moved (q, c)).1)) (sym (same_order q e.0 left here.0))

  -- contents that are set after the change, as it leaves them, and before it
  pub set_moved : (news es : CellEntries) → AllLeft news → AllLeft es → shifted change (with_all es news) ≡ with_all (shifted change es) (shifted change news)
  unfolding shifted
  set_moved [] es new all = refl
  set_moved (n ∷ news) es new all =
      let parts = both_true (is_left change n.0 && is_held n.1) (list_all (λ e. is_left change e.0 && is_held e.1) news) new in
      let here = both_true (is_left change n.0) (is_held n.1) parts.0 in
      let put : with_content es n.0 n.1 ≡ insert_entry place_cmp es n.0 n.1 = ap (λ b. cond b (insert_entry place_cmp es n.0 n.1) (remove_entry (is_at (place_cmp n.0)) es)) here.1 in
      let there : CellEntries = map moved es in
      let at : Place = goes change n.0 in
      let becomes : Content = with_tree (tree_after change n.0) n.1 in
      let put_there : with_content there at becomes ≡ insert_entry place_cmp there at becomes = ap (λ b. cond b (insert_entry place_cmp there at becomes) (remove_entry (is_at (place_cmp at)) there)) (with_tree_held (tree_after change n.0) n.1 ∙ here.1) in
      set_moved news (with_content es n.0 n.1) parts.1 (subst AllLeft (sym put) (all-inserted place_cmp (is_left change) is_held n.0 n.1 es here.0 here.1 all))
      ∙ ap (λ (held : CellEntries). with_all held (map moved news)) (ap (map moved) put ∙ set_one n.0 n.1 es here.0 all ∙ sym put_there)

  pub all_left_emptied : (cells : List Place) (es : CellEntries) → AllLeft es → AllLeft (emptied es cells)
  all_left_emptied [] es all = all
  all_left_emptied (q ∷ cells) es all = all_left_emptied cells (with_content es q content.Empty) (all-removed (is_at (place_cmp q)) (λ e. is_left change e.0 && is_held e.1) es all)
