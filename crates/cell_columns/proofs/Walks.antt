-- The cells of some rows of columns, as a part of all cells.
use Rattle.std.proofs.Common.{◌≡◌, ℕ, suc, zero, ◌+◌, ◌-◌, ◌≤◌, ◌<◌, ◌&&◌, nat_le, Bool, true, false, cond, List, [], ◌∷◌, ◌++◌, length, take, drop, refl, sym, ap, subst, ◌∙◌, ◌⊎◌, inl, inr, arith}
use Rattle.std.specs.List.{filter}
use Rattle.std.proofs.lemmas.List.Elements.{filter-append}
use Rattle.std.proofs.lemmas.Bool.Decides.{nat_tests}
use Rattle.calc_addr.specs.Places.{Place}
use Rattle.calc_model.specs.declared.content.Content.{Content}
use Rattle.calc_model.specs.CellEdits.{CellEntries}
use Rattle.formula_code.specs.Codes.{Codes}
use Rattle.block_column.specs.declared.slot.Slot.{Slot}
use Rattle.block_column.specs.Kinds.{is_filled}
use Rattle.kept_codes.specs.Columns.{cell_in}
use Rattle.cell_columns.specs.Cells.{Column, cells_below, cells_from, cells_of, column_at, content_of}
use Rattle.cell_columns.specs.Emptied.{lies_in}
use Rattle.cell_columns.specs.Walks.{places_below, places_of, rows_in, within_rows}

abbrev kept : (Place → Bool) → CellEntries → CellEntries
kept pass es = filter (λ e. pass e.0) es

module _ (codes : Codes) (number : ℕ) where
  abbrev one : ℕ → Slot → Place × Content
  one p x = (cell_in number p, content_of codes (cell_in number p) x)

  none_kept : (pass : Place → Bool) (p : ℕ) → ((r : ℕ) → p ≤ r → pass (cell_in number r) ≡ false) → (xs : Column) → kept pass (cells_below codes number p xs) ≡ []
  none_kept pass p out [] = refl
  none_kept pass p out (x ∷ xs) =
      let rest : CellEntries = cells_below codes number (p + 1) xs in
      let behind : kept pass rest ≡ [] = none_kept pass (p + 1) (λ r h. out r (omega (arith, h))) xs in
      elim (is_filled x) as (λ b. kept pass (cond b (one p x ∷ rest) rest) ≡ []) [
        | true ↦ ap (λ b. cond b (one p x ∷ kept pass rest) (kept pass rest)) (out p (omega arith)) ∙ behind
        | false ↦ behind
      ]

  kept_alike : (f g : Place → Bool) → ((r : ℕ) → f (cell_in number r) ≡ g (cell_in number r)) → (p : ℕ) (xs : Column) → kept f (cells_below codes number p xs) ≡ kept g (cells_below codes number p xs)
  kept_alike f g same p [] = refl
  kept_alike f g same p (x ∷ xs) =
      let rest : CellEntries = cells_below codes number (p + 1) xs in
      let behind : kept f rest ≡ kept g rest = kept_alike f g same (p + 1) xs in
      elim (is_filled x) as (λ b. kept f (cond b (one p x ∷ rest) rest) ≡ kept g (cond b (one p x ∷ rest) rest)) [
        | true ↦ ap (λ b. cond b (one p x ∷ kept f rest) (kept f rest)) (same p) ∙ ap (λ es. cond (g (cell_in number p)) (one p x ∷ es) es) behind
        | false ↦ behind
      ]

  module _ (pass : Place → Bool) (first last : ℕ) (at : (r : ℕ) → pass (cell_in number r) ≡ (nat_le first r && nat_le r last)) where
    from_first : (p : ℕ) (xs : Column) → first ≤ p → kept pass (cells_below codes number p xs) ≡ cells_below codes number p (take (last + 1 - p) xs)
    from_first p [] h = elim (last + 1 - p) as (λ n. [] ≡ cells_below codes number p (take n [])) [ zero ↦ refl | suc n ↦ refl ]
    from_first p (x ∷ xs) h =
        let rest : CellEntries = cells_below codes number (p + 1) xs in
        elim (nat_le p last) as (λ b. nat_le p last ≡ b → kept pass (cells_below codes number p (x ∷ xs)) ≡ cells_below codes number p (take (last + 1 - p) (x ∷ xs))) [
          | true ↦ λ is.
              let more : last + 1 - p ≡ suc (last + 1 - (p + 1)) = grind (arith, nat_tests, is) in
              let behind : kept pass rest ≡ cells_below codes number (p + 1) (take (last + 1 - (p + 1)) xs) = from_first (p + 1) xs (omega (arith, h)) in
              let passed : pass (cell_in number p) ≡ true = at p ∙ grind (arith, nat_tests, h, is) in
              elim (is_filled x) as (λ b. kept pass (cond b (one p x ∷ rest) rest) ≡ cond b (one p x ∷ cells_below codes number (p + 1) (take (last + 1 - (p + 1)) xs)) (cells_below codes number (p + 1) (take (last + 1 - (p + 1)) xs))) [
                | true ↦ ap (λ b. cond b (one p x ∷ kept pass rest) (kept pass rest)) passed ∙ ap (λ es. one p x ∷ es) behind
                | false ↦ behind
              ]
              ∙ ap (λ n. cells_below codes number p (take n (x ∷ xs))) (sym more)
          | false ↦ λ is.
              let past : last + 1 - p ≡ 0 = grind (arith, nat_tests, is) in
              none_kept pass p (λ r k. at r ∙ grind (arith, nat_tests, is, k)) (x ∷ xs)
              ∙ ap (λ n. cells_below codes number p (take n (x ∷ xs))) (sym past)
        ] refl

    to_first : (p : ℕ) (xs : Column) → p ≤ first → kept pass (cells_below codes number p xs) ≡ cells_below codes number first (take (last + 1 - first) (drop (first - p) xs))
    to_first p [] h = nothing (last + 1 - first) (first - p)
      where
        nothing : (n m : ℕ) → [] ≡ cells_below codes number first (take n (drop m []))
        nothing zero zero = refl
        nothing zero (suc m) = refl
        nothing (suc n) zero = refl
        nothing (suc n) (suc m) = refl
    to_first p (x ∷ xs) h =
        let rest : CellEntries = cells_below codes number (p + 1) xs in
        elim (nat_le first p) as (λ b. nat_le first p ≡ b → kept pass (cells_below codes number p (x ∷ xs)) ≡ cells_below codes number first (take (last + 1 - first) (drop (first - p) (x ∷ xs)))) [
          | true ↦ λ is.
              let here : p ≡ first = grind (arith, nat_tests, is, h) in
              let none : first - p ≡ 0 = omega (arith, here) in
              from_first p (x ∷ xs) (omega (arith, here))
              ∙ ap (λ n. cells_below codes number n (take (last + 1 - n) (x ∷ xs))) here
              ∙ ap (λ n. cells_below codes number first (take (last + 1 - first) (drop n (x ∷ xs)))) (sym none)
          | false ↦ λ is.
              let more : first - p ≡ suc (first - (p + 1)) = grind (arith, nat_tests, is) in
              let out : pass (cell_in number p) ≡ false = at p ∙ ap (λ b. b && nat_le p last) is in
              elim (is_filled x) as (λ b. kept pass (cond b (one p x ∷ rest) rest) ≡ kept pass rest) [
                | true ↦ ap (λ b. cond b (one p x ∷ kept pass rest) (kept pass rest)) out
                | false ↦ refl
              ]
              ∙ to_first (p + 1) xs (grind (arith, nat_tests, is))
              ∙ ap (λ n. cells_below codes number first (take (last + 1 - first) (drop n (x ∷ xs)))) (sym more)
        ] refl

module _ (codes : Codes) (from first last : ℕ) (begun : 1 ≤ first) where
  abbrev pass : ℕ → Place → Bool
  pass n = lies_in from n first last

  inside : (k n : ℕ) → from ≤ k → k < n → (r : ℕ) → lies_in from n first last (cell_in k r) ≡ (nat_le first r && nat_le r last)
  inside k n h l r = grind (arith, nat_tests, h, l)

  outside : (k n : ℕ) → n ≤ k → (r : ℕ) → lies_in from n first last (cell_in k r) ≡ false
  outside k n h r = grind (arith, nat_tests, h)

  alike : (k n : ℕ) → k < n → (r : ℕ) → lies_in from (n + 1) first last (cell_in k r) ≡ lies_in from n first last (cell_in k r)
  alike k n h r = grind (arith, nat_tests, h)

  none_behind : (n k : ℕ) (cs : List Column) → n ≤ k → kept (pass n) (cells_from codes k cs) ≡ []
  none_behind n k [] h = refl
  none_behind n k (c ∷ cs) h =
      filter-append (λ e. pass n e.0) (cells_below codes k 1 c) (cells_from codes (k + 1) cs)
      ∙ ap (λ es. es ++ kept (pass n) (cells_from codes (k + 1) cs)) (none_kept codes k (pass n) 1 (λ r _. outside k n h r) c)
      ∙ none_behind n (k + 1) cs (omega (arith, h))

  one_more : (n k : ℕ) (cs : List Column) → from ≤ n → k ≤ n → n < k + length cs → kept (pass (n + 1)) (cells_from codes k cs) ≡ kept (pass n) (cells_from codes k cs) ++ cells_below codes n first (rows_in first last (column_at cs (n - k)))
  one_more n k [] h l m = absurd (omega (arith, l, m))
  one_more n k (c ∷ cs) h l m =
      let rest : CellEntries = cells_from codes (k + 1) cs in
      let here : CellEntries = cells_below codes k 1 c in
      elim (order k n l) as (λ _. kept (pass (n + 1)) (here ++ rest) ≡ kept (pass n) (here ++ rest) ++ cells_below codes n first (rows_in first last (column_at (c ∷ cs) (n - k)))) [
        | inl same ↦
            filter-append (λ e. pass (n + 1) e.0) here rest
            ∙ ap (λ es. kept (pass (n + 1)) here ++ es) (none_behind (n + 1) (k + 1) cs (omega (arith, same)))
            ∙ at_end (kept (pass (n + 1)) here)
            ∙ to_first codes k (pass (n + 1)) first last (inside k (n + 1) (omega (arith, h, same)) (omega (arith, same))) 1 c begun
            ∙ ap (λ (m : ℕ). cells_below codes m first (rows_in first last c)) same
            ∙ ap (λ (m : ℕ). cells_below codes n first (rows_in first last (column_at (c ∷ cs) m))) (none same)
            ∙ ap (λ es. es ++ cells_below codes n first (rows_in first last (column_at (c ∷ cs) (n - k)))) (sym (none_behind n k (c ∷ cs) (omega (arith, same))))
        | inr less ↦
            filter-append (λ e. pass (n + 1) e.0) here rest
            ∙ ap (λ es. es ++ kept (pass (n + 1)) rest) (kept_alike codes k (pass (n + 1)) (pass n) (alike k n less) 1 c)
            ∙ ap (λ es. kept (pass n) here ++ es) (one_more n (k + 1) cs h (omega (arith, less)) (omega (arith, m)))
            ∙ joined (kept (pass n) here) (kept (pass n) rest) _
            ∙ ap (λ es. es ++ cells_below codes n first (rows_in first last (column_at cs (n - (k + 1))))) (sym (filter-append (λ e. pass n e.0) here rest))
            ∙ ap (λ c. kept (pass n) (here ++ rest) ++ cells_below codes n first (rows_in first last c)) (next less)
      ]
    where
      order : (k n : ℕ) → k ≤ n → (k ≡ n) ⊎ (k < n)
      order k n h = elim (nat_le n k) as (λ b. nat_le n k ≡ b → (k ≡ n) ⊎ (k < n)) [
        | true ↦ λ is. inl (grind (arith, nat_tests, is, h))
        | false ↦ λ is. inr (grind (arith, nat_tests, is))
      ] refl

      none : k ≡ n → 0 ≡ n - k
      none same = omega (arith, same)

      at_end : (es : CellEntries) → es ++ [] ≡ es
      at_end [] = refl
      at_end (e ∷ es) = ap (λ t. e ∷ t) (at_end es)

      joined : (a b d : CellEntries) → a ++ (b ++ d) ≡ (a ++ b) ++ d
      joined [] b d = refl
      joined (e ∷ es) b d = ap (λ t. e ∷ t) (joined es b d)

      next : k < n → column_at cs (n - (k + 1)) ≡ column_at (c ∷ cs) (n - k)
      next less = ap (column_at (c ∷ cs)) (up less)
        where
          up : k < n → suc (n - (k + 1)) ≡ n - k
          up less = omega (arith, less)

  -- the cells of one column more
  pub cells_more : (n : ℕ) (columns : List Column) → from ≤ n → n < length columns → within_rows from (n + 1) first last (cells_of codes columns) ≡ within_rows from n first last (cells_of codes columns) ++ cells_below codes n first (rows_in first last (column_at columns n))
  unfolding cells_of
  cells_more n columns h l =
      subst (λ m. within_rows from (n + 1) first last (cells_from codes 0 columns) ≡ within_rows from n first last (cells_from codes 0 columns) ++ cells_below codes n first (rows_in first last (column_at columns m)))
      (from_nought n) (one_more n 0 columns h (omega arith) (omega (arith, l)))
    where
      from_nought : (n : ℕ) → n - 0 ≡ n
      from_nought n = omega arith

  -- no column, no cell
  pub cells_none : (columns : List Column) → within_rows from from first last (cells_of codes columns) ≡ []
  unfolding cells_of
  cells_none columns = nothing 0 columns
    where
      neither : (k r : ℕ) → lies_in from from first last (cell_in k r) ≡ false
      neither k r = grind (arith, nat_tests)

      nothing : (k : ℕ) (cs : List Column) → kept (pass from) (cells_from codes k cs) ≡ []
      nothing k [] = refl
      nothing k (c ∷ cs) =
          filter-append (λ e. pass from e.0) (cells_below codes k 1 c) (cells_from codes (k + 1) cs)
          ∙ ap (λ es. es ++ kept (pass from) (cells_from codes (k + 1) cs)) (none_kept codes k (pass from) 1 (λ r _. neither k r) c)
          ∙ nothing (k + 1) cs

  -- the places of a column's cells
  pub places_are : (number p : ℕ) (xs : Column) → places_of (cells_below codes number p xs) ≡ places_below number p xs
  places_are number p [] = refl
  places_are number p (x ∷ xs) =
      let rest : CellEntries = cells_below codes number (p + 1) xs in
      elim (is_filled x) as (λ b. places_of (cond b ((cell_in number p, content_of codes (cell_in number p) x) ∷ rest) rest) ≡ cond b (cell_in number p ∷ places_below number (p + 1) xs) (places_below number (p + 1) xs)) [
        | true ↦ ap (λ t. cell_in number p ∷ t) (places_are number (p + 1) xs)
        | false ↦ places_are number (p + 1) xs
      ]
