-- Levels of the cells of an area, one cell more.
use Rattle.std.proofs.Common.{◌≡◌, ℕ, ◌+◌, ◌<◌, ◌≤◌, ◌⊎◌, true, max, List, length, inl, inr, refl, sym, ap, subst, ◌∙◌, ⊎_elim, arith}
use Rattle.std.proofs.lemmas.Bool.{cases_eq, cases_lt, cases_order, false≢true}
use Rattle.std.specs.List.{AllPairs}
use Rattle.calc_model.proofs.Areas.{Inside, covered, inside}
use Rattle.calc_addr.specs.Places.{IsBefore, Place, Rectangle, covers}
use Rattle.dirty_spread.specs.Finding.{IsLastAt, IsNextIn, at}
use Rattle.dirty_spread.specs.Levels.{IsColumnScan, IsScan, IsSettled, level}
use Rattle.dirty_spread.proofs.Found.{turn}
use Rattle.dirty_spread.proofs.Listing.{Before, before}

module _ (cells : List Place) (levels : List ℕ) (area : Rectangle) (from least : ℕ) where
  module _ (place greatest : ℕ) (scan : IsScan cells levels area from least place greatest) (in_list : place < length cells) (is_wave : 3 ≤ level levels place) (place' : ℕ) (next : IsNextIn cells area (place + 1) place') where
    settled_more : (i : ℕ) → from ≤ i → i < place' → covers area (at cells i) ≡ true → IsSettled levels (max greatest (level levels place)) i
    settled_more i low high c =
        ⊎_elim (λ (l : i < place). let was = scan.settled i low l c in (was.0, omega (arith, was.1)))
        (λ (le : place ≤ i).
        ⊎_elim (λ (e : place ≡ i). (subst (λ n. 3 ≤ level levels n) e is_wave, subst (λ n. level levels n ≤ max greatest (level levels place)) e (omega arith)))
        (λ (o : (place < i) ⊎ (i < place)).
        ⊎_elim (λ (l : place < i). let none = next.none i (omega arith) high in absurd (cc)) (λ (l : i < place). absurd (omega arith)) o)
        (cases_order place i))
        (cases_lt i place)

    attained_more : (max greatest (level levels place) ≡ least) ⊎ ((i : ℕ) × (i < length cells) × (covers area (at cells i) ≡ true) × (level levels i ≡ max greatest (level levels place)))
    attained_more =
        ⊎_elim (λ (l : greatest < level levels place). inr (place, in_list, scan.here in_list, omega arith))
        (λ (le : level levels place ≤ greatest).
        let same : max greatest (level levels place) ≡ greatest = omega arith in
        ⊎_elim (λ (e : greatest ≡ least). inl (same ∙ e))
        (λ (e : (i : ℕ) × (i < length cells) × (covers area (at cells i) ≡ true) × (level levels i ≡ greatest)). inr (e.0, e.1, e.2, e.3 ∙ sym same))
        scan.attained)
        (cases_lt greatest (level levels place))

    pub scan_more : IsScan cells levels area from least place' (max greatest (level levels place))
    scan_more = record {
      within = next.within;
      here = next.here;
      settled = settled_more;
      more = omega (arith, scan.more);
      attained = attained_more;
    }

  -- no cell of the area lies before the next one
  pub scan_back : (first place greatest : ℕ) → IsNextIn cells area from first → IsScan cells levels area first least place greatest → IsScan cells levels area from least place greatest
  scan_back first place greatest next scan = record {
    within = scan.within;
    here = scan.here;
    settled = λ i low high c.
        ⊎_elim (λ (l : i < first). absurd (false≢true (sym (next.none i low l) ∙ c))) (λ (le : first ≤ i). scan.settled i le high c) (cases_lt i first);
    more = scan.more;
    attained = scan.attained;
  }

-- a cell between two of one column
squeeze : (p q r : Place) → Before p q → Before q r → p.sheet ≡ r.sheet → p.col ≡ r.col → (q.sheet ≡ p.sheet) × (q.col ≡ p.col) × (p.row < q.row) × (q.row < r.row)
squeeze p q r (Before.by_sheet h) (Before.by_sheet k) s c = absurd (omega arith)
squeeze p q r (Before.by_sheet h) (Before.by_col e k) s c = absurd (omega arith)
squeeze p q r (Before.by_sheet h) (Before.by_row e f k) s c = absurd (omega arith)
squeeze p q r (Before.by_col e h) (Before.by_sheet k) s c = absurd (omega arith)
squeeze p q r (Before.by_col e h) (Before.by_col f k) s c = absurd (omega arith)
squeeze p q r (Before.by_col e h) (Before.by_row f g k) s c = absurd (omega arith)
squeeze p q r (Before.by_row e f h) (Before.by_sheet k) s c = absurd (omega arith)
squeeze p q r (Before.by_row e f h) (Before.by_col g k) s c = absurd (omega arith)
squeeze p q r (Before.by_row e f h) (Before.by_row g i k) s c = (sym e, sym f, h, k)

module _ (cells : List Place) (in_order : AllPairs IsBefore cells) (levels : List ℕ) (area : Rectangle) (column : area.first_col ≡ area.last_col) (first last least : ℕ) (stands : IsLastAt cells area last) where
  abbrev end : Place
  end = record { sheet = area.sheet; col = area.last_col; row = area.last_row }

  -- behind a cell of the area up to the last one are cells of it
  between : (i j : ℕ) → i < j → j ≤ last → covers area (at cells i) ≡ true → covers area (at cells j) ≡ true
  between i j less le c =
      let l : Inside area (at cells i) = inside area (at cells i) c in
      ⊎_elim (λ (e : j ≡ last).
      let is : at cells j ≡ end = ap (at cells) e ∙ stands.1 in
      let b = before (at cells i) end (subst (λ p. IsBefore (at cells i) p) is (turn cells in_order i j less (omega (arith, stands.0)))) in
      subst (λ p. covers area p ≡ true) (sym is) (covered area end (record { same_sheet = refl; col_from = omega (arith, column); col_to = omega arith; row_from = omega (arith, l.row_from, l.row_to); row_to = omega arith })))
      (λ (ne : j ≡ last → ⊥).
      let s = squeeze (at cells i) (at cells j) end (before (at cells i) (at cells j) (turn cells in_order i j less (omega (arith, stands.0))))
      (before (at cells j) end (subst (λ p. IsBefore (at cells j) p) stands.1 (turn cells in_order j last (omega arith) stands.0))) l.same_sheet (omega (arith, l.col_from, l.col_to, column)) in
      covered area (at cells j) (record { same_sheet = s.0 ∙ l.same_sheet; col_from = omega (arith, s.1, l.col_from); col_to = omega (arith, s.1, l.col_to); row_from = omega (arith, s.2, l.row_from); row_to = omega (arith, s.3) }))
      (cases_eq j last)

  module _ (place greatest : ℕ) (h : IsColumnScan cells levels area first last least place greatest) where
    pub column_more : place ≤ last → 3 ≤ level levels place → IsColumnScan cells levels area first last least (place + 1) (max greatest (level levels place))
    column_more le is_wave = record {
      on = omega (arith, h.on);
      within = omega (arith, stands.0);
      here = λ more. between place (place + 1) (omega arith) more (h.here le);
      settled = λ i low high c.
          ⊎_elim (λ (e : i ≡ place). subst (λ n. IsSettled levels (max greatest (level levels place)) n) (sym e) (is_wave, omega arith))
          (λ (ne : i ≡ place → ⊥). let was = h.settled i low (omega arith) c in (was.0, omega (arith, was.1)))
          (cases_eq i place);
      more = omega (arith, h.more);
      attained =
          ⊎_elim (λ (l : greatest < level levels place). inr (place, omega (arith, stands.0), h.here le, omega arith))
          (λ (less : level levels place ≤ greatest).
          let same : max greatest (level levels place) ≡ greatest = omega arith in
          ⊎_elim (λ (e : greatest ≡ least). inl (same ∙ e))
          (λ (e : (i : ℕ) × (i < length cells) × (covers area (at cells i) ≡ true) × (level levels i ≡ greatest)). inr (e.0, e.1, e.2, e.3 ∙ sym same))
          h.attained)
          (cases_lt greatest (level levels place));
    }
