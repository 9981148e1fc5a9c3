-- What cells hold with contents in neighbouring rows of a column.
use Rattle.std.proofs.Common.{◌≡◌, ℕ, zero, suc, ◌+◌, ◌≤◌, ◌<◌, ◌==◌, ◌&&◌, true, false, cond, [], ◌∷◌, length, map, Some, unwrap_or, refl, sym, ap, subst, ◌∙◌, arith}
use Rattle.std.specs.List.{list_all, range_with_len}
use Rattle.std.specs.Ordering.{eq_by_cmp}
use Rattle.std.specs.BTreeMap.{insert_entry}
use Rattle.std.specs.FinMap.Entries.{find}
use Rattle.std.proofs.lemmas.Bool.Decides.{Decides-eqb, nat_tests}
use Rattle.calc_addr.specs.Places.{Place, place_cmp}
use Rattle.calc_model.specs.declared.content.Content.{Content}
use Rattle.calc_model.specs.declared.content.Content.TheVariants.{Empty}
use Rattle.calc_model.specs.declared.limits.TheConstants.{MOST_CELLS}
use Rattle.calc_model.specs.Books.{IsBook, content_at, is_cell_entry, is_content, is_place}
use Rattle.calc_model.specs.CellEdits.{CellEntries, with_entries}
use Rattle.calc_model.proofs.EntriesKept.{both_so, length-inserted}
use Rattle.calc_model.proofs.EntriesMoved.{all-inserts, sorted-inserts}
use Rattle.calc_model.proofs.Places.{places_total}
use Rattle.calc_model.proofs.Reached.{same_cell}
use Rattle.cell_columns.specs.Cells.{cells_only}
use Rattle.cell_columns.specs.Filled.{entries_at}
use Rattle.cell_columns.proofs.Contents.{find_inserted}
use Rattle.cell_columns.proofs.PutSlot.{unequal}

pub inserted : (es : CellEntries) (cell q : Place) (content : Content) → content_at (cells_only (insert_entry place_cmp es cell content)) q ≡ cond (eq_by_cmp place_cmp q cell) content (content_at (cells_only es) q)
unfolding content_at
inserted es cell q content =
    ap (λ o. unwrap_or o Empty) (find_inserted es cell q content)
    ∙ elim (eq_by_cmp place_cmp q cell) as (λ b. unwrap_or (cond b (Some content) (find place_cmp q es)) Empty ≡ cond b content (unwrap_or (find place_cmp q es) Empty)) [ true ↦ refl | false ↦ refl ]

inserts_few : (news es : CellEntries) → length (with_entries es news) ≤ length es + length news
inserts_few [] es = omega arith
inserts_few (e ∷ news) es = omega (arith, inserts_few news (insert_entry place_cmp es e.0 e.1), length-inserted place_cmp e.0 e.1 es)

module _ (f : Place → Content) (sheet col : ℕ) where
  abbrev at : ℕ → Place
  at row = record { sheet = sheet; col = col; row = row }

  -- the rows from one on, so many
  abbrev news : ℕ → ℕ → CellEntries
  news first n = entries_at f (map at (range_with_len first n))

  other_row : (a b : ℕ) → a < b → eq_by_cmp place_cmp (at a) (at b) ≡ false
  other_row a b h = grind (arith, nat_tests)

  pub outside : (n first : ℕ) (es : CellEntries) (q : Place) → ((row : ℕ) → first ≤ row → row < first + n → eq_by_cmp place_cmp q (at row) ≡ false) → content_at (cells_only (with_entries es (news first n))) q ≡ content_at (cells_only es) q
  outside zero first es q other = refl
  outside (suc n) first es q other =
      outside n (first + 1) (insert_entry place_cmp es (at first) (f (at first))) q (λ row low high. other row (omega (arith, low)) (omega (arith, high)))
      ∙ inserted es (at first) q (f (at first))
      ∙ ap (λ b. cond b (f (at first)) (content_at (cells_only es) q)) (other first (omega arith) (omega arith))

  pub inside : (n first : ℕ) (es : CellEntries) (row : ℕ) → first ≤ row → row < first + n → content_at (cells_only (with_entries es (news first n))) (at row) ≡ f (at row)
  inside zero first es row low high = absurd (omega (arith, low, high))
  inside (suc n) first es row low high =
      let more : CellEntries = insert_entry place_cmp es (at first) (f (at first)) in
      elim (row == first) as (λ b. (row == first) ≡ b → content_at (cells_only (with_entries more (news (first + 1) n))) (at row) ≡ f (at row)) [
        | true ↦ λ same.
            subst (λ k. content_at (cells_only (with_entries more (news (first + 1) n))) (at k) ≡ f (at k)) (sym ((Decides-eqb row first).0 same))
            (outside n (first + 1) more (at first) (λ r from to. other_row first r (omega (arith, from)))
            ∙ inserted es (at first) (at first) (f (at first))
            ∙ ap (λ b. cond b (f (at first)) (content_at (cells_only es) (at first))) (same_cell (at first)))
        | false ↦ λ apart.
            let below : first < row = later row first low (unequal row first apart) in
            inside n (first + 1) more row (omega (arith, below)) (omega (arith, high))
      ] refl
    where
      later : (a b : ℕ) → b ≤ a → (a ≡ b → ⊥) → b < a
      later a b h apart = grind (arith, h, apart)

  news_long : (n first : ℕ) → length (news first n) ≡ n
  news_long zero first = refl
  news_long (suc n) first = ap suc (news_long n (first + 1))

  news_held : (n first : ℕ) → ((row : ℕ) → first ≤ row → row < first + n → (is_place (at row) && is_content (f (at row))) ≡ true) → list_all is_cell_entry (news first n) ≡ true
  news_held zero first held = refl
  news_held (suc n) first held = both_so _ _ (held first (omega arith) (omega arith)) (news_held n (first + 1) (λ row low high. held row (omega (arith, low)) (omega (arith, high))))

  pub filled_book : (n first : ℕ) (es : CellEntries) → IsBook (cells_only es) → length es + n ≤ MOST_CELLS → ((row : ℕ) → first ≤ row → row < first + n → (is_place (at row) && is_content (f (at row))) ≡ true) → IsBook (cells_only (with_entries es (news first n)))
  filled_book n first es is few held = record {
    cells_in_order = sorted-inserts place_cmp places_total (news first n) es is.cells_in_order;
    cells_held = all-inserts place_cmp is_place is_content (news first n) es (news_held n first held) is.cells_held;
    cells_in_limit = omega (arith, few, inserts_few (news first n) es, news_long n first);
    names_in_order = refl;
    names_spelled = refl;
    names_in_limit = omega arith;
  }
