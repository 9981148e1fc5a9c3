-- Areas looked at, one more or as far as a cell that has no wave.
use Rattle.std.proofs.Common.{◌≡◌, ℕ, ◌+◌, ◌<◌, ◌≤◌, ◌⊎◌, true, false, List, length, get_or, inl, inr, sym, subst, ◌∙◌, ⊎_elim, arith}
use Rattle.std.proofs.lemmas.Bool.{cases_lt, cases_order, false_from_ne_true}
use Rattle.std.proofs.lemmas.List.{get_or_default}
use Rattle.std.proofs.lemmas.List.Folds.{list_any_at}
use Rattle.calc_addr.specs.Places.{Place, Rectangle, covers}
use Rattle.calc_model.specs.Touched.{CellSet}
use Rattle.dirty_spread.specs.declared.look.Cursor.{Cursor}
use Rattle.dirty_spread.specs.Finding.{at}
use Rattle.dirty_spread.specs.Levels.{IsLooked, IsOpen, IsScan, IsSettled, area_at, is_in_one, level}
use Rattle.dirty_spread.specs.Waves.{has}

pub settled_up : (levels : List ℕ) (low high i : ℕ) → low ≤ high → IsSettled levels low i → IsSettled levels high i
settled_up levels low high i le h = (h.0, omega (arith, h.1))

pub in_one : (areas : List Rectangle) (j : ℕ) (q : Place) → j < length areas → covers (area_at areas j) q ≡ true → is_in_one areas q
in_one areas j q within c = list_any_at (λ area. covers area q) areas j _ within c

module _ (cells : List Place) (circular : CellSet) (areas : List Rectangle) (levels : List ℕ) (cursor : Cursor) (looked : IsLooked cells circular areas levels cursor)
    (area : Rectangle) (more : cursor.area < length areas) (here : area ≡ get_or areas cursor.area area) (next greatest : ℕ) (scan : IsScan cells levels area cursor.next cursor.greatest next greatest) where
  area_is : area_at areas cursor.area ≡ area
  area_is = get_or_default areas cursor.area _ area more ∙ sym here

  attained : (greatest ≡ 2) ⊎ ((i : ℕ) × (i < length cells) × is_in_one areas (at cells i) × (level levels i ≡ greatest))
  attained =
      ⊎_elim (λ (same : greatest ≡ cursor.greatest).
      ⊎_elim (λ (none : cursor.greatest ≡ 2). inl (same ∙ none))
      (λ (one : (i : ℕ) × (i < length cells) × is_in_one areas (at cells i) × (level levels i ≡ cursor.greatest)). inr (one.0, one.1, one.2, one.3 ∙ sym same))
      looked.attained)
      (λ (one : (i : ℕ) × (i < length cells) × (covers area (at cells i) ≡ true) × (level levels i ≡ greatest)).
      inr (one.0, one.1, in_one areas cursor.area (at cells one.0) more (subst (λ a. covers a (at cells one.0) ≡ true) (sym area_is) one.2), one.3))
      scan.attained

  before : (i : ℕ) → i < next → covers (area_at areas cursor.area) (at cells i) ≡ true → IsSettled levels greatest i
  before i low c =
      ⊎_elim (λ (l : i < cursor.next). settled_up levels cursor.greatest greatest i scan.more (looked.part i more l c))
      (λ (le : cursor.next ≤ i). scan.settled i le low (subst (λ a. covers a (at cells i) ≡ true) area_is c))
      (cases_lt i cursor.next)

  pub look_open : next < length cells → level levels next ≤ 2 → IsOpen cells areas levels next × IsLooked cells circular areas levels (record { area = cursor.area; next = next; greatest = greatest })
  look_open within low = (
    record { within = within; read = in_one areas cursor.area (at cells next) more (subst (λ a. covers a (at cells next) ≡ true) (sym area_is) (scan.here within)); none = low },
    record {
      low = omega (arith, looked.low, scan.more);
      within = scan.within;
      settled = λ j i lj hj hi c. settled_up levels cursor.greatest greatest i scan.more (looked.settled j i lj hj hi c);
      beside = looked.beside;
      part = λ i m low c. before i low c;
      attained = attained;
    },
  )

  module _ (all : length cells ≤ next) (none : (q : Place) → covers area q ≡ true → has cells q ≡ false → circular q ≡ true → ⊥) where
    settled_more : (j i : ℕ) → j < cursor.area + 1 → j < length areas → i < length cells → covers (area_at areas j) (at cells i) ≡ true → IsSettled levels greatest i
    settled_more j i lj hj hi c =
        ⊎_elim (λ (e : j ≡ cursor.area). before i (omega arith) (subst (λ n. covers (area_at areas n) (at cells i) ≡ true) e c))
        (λ (o : (j < cursor.area) ⊎ (cursor.area < j)).
        ⊎_elim (λ (l : j < cursor.area). settled_up levels cursor.greatest greatest i scan.more (looked.settled j i l hj hi c)) (λ (l : cursor.area < j). absurd (omega arith)) o)
        (cases_order j cursor.area)

    beside_more : (j : ℕ) (q : Place) → j < cursor.area + 1 → j < length areas → covers (area_at areas j) q ≡ true → has cells q ≡ false → circular q ≡ false
    beside_more j q lj hj c absent =
        ⊎_elim (λ (e : j ≡ cursor.area). false_from_ne_true (circular q) (λ is. none q (subst (λ a. covers a q ≡ true) area_is (subst (λ n. covers (area_at areas n) q ≡ true) e c)) absent is))
        (λ (o : (j < cursor.area) ⊎ (cursor.area < j)).
        ⊎_elim (λ (l : j < cursor.area). looked.beside j q l hj c absent) (λ (l : cursor.area < j). absurd (omega arith)) o)
        (cases_order j cursor.area)

    pub look_next : IsLooked cells circular areas levels (record { area = cursor.area + 1; next = 0; greatest = greatest })
    look_next = record {
      low = omega (arith, looked.low, scan.more);
      within = omega arith;
      settled = settled_more;
      beside = beside_more;
      part = λ i m low c. absurd (omega arith);
      attained = attained;
    }
