-- The rows on one side of a change that are gathered from both ends.
use Rattle.std.proofs.Common.{◌≡◌, ℕ, ◌+◌, ◌-◌, ◌≤◌, ◌<◌, ◌==◌, true, false, List, refl, sym, subst, arith}
use Rattle.std.proofs.lemmas.Bool.Decides.{nat_tests}
use Rattle.calc_addr.specs.Places.{Place}
use Rattle.calc_model.specs.declared.change.Change.{Change}
use Rattle.formula_code.specs.Codes.{Codes, form_at}
use Rattle.kept_codes.specs.Columns.{cell_in}
use Rattle.kept_codes.specs.Gathered.{AreFormulas, Formulas, Gathers, InRows, IsBack, IsFront, KeepsCode}
use Rattle.kept_codes.specs.RowChanges.{AreOneSide, IsRowChange}
use Rattle.kept_codes.proofs.FormsBetween.{form_between}
use Rattle.kept_codes.proofs.Gathering.{a_formula, gathers_kept, rows_before, rows_then}
use Rattle.kept_codes.proofs.Going.{is_change, place_goes}

module _ (codes : Codes) (change : Change) (rows : IsRowChange change) (number code first behind : ℕ) (side : AreOneSide change first behind) (formulas : AreFormulas codes change (InRows number first behind code)) where
  formula : (row : ℕ) → first ≤ row → row < behind → Formulas codes change (cell_in number row) code
  formula row low high = a_formula codes change number code first behind row formulas low high

  -- a formula between two that keep their code, the second of which isn't the last
  between : (x h y : ℕ) → first ≤ x → x ≤ h → h ≤ y → y + 1 < behind → KeepsCode codes change code (cell_in number x) → KeepsCode codes change code (cell_in number y) → KeepsCode codes change code (cell_in number h)
  between x h y from low high to above below =
      form_between change rows number x h y low high (side x y from (omega (arith, low, high, to)) (omega (arith, from, low, high)) (omega (arith, to)))
      (formula x from (omega (arith, low, high, to))).stays
      (λ k lower higher. let is = formula k (omega (arith, from, lower)) (omega (arith, higher, to)) in (place_goes change (is_change change rows) (cell_in number k) is.place is.stays).row_to)
      (form_at codes code) (λ k lower higher. (formula k (omega (arith, from, lower)) (omega (arith, higher, to))).at.valid) above below

  kept_rows : (x y : ℕ) (old : List Place) → ((h : ℕ) → x ≤ h → h < y → KeepsCode codes change code (cell_in number h)) → Gathers codes change (InRows number x y code) old old
  kept_rows x y old keeps = gathers_kept codes change (InRows number x y code) old (λ q id h. subst (λ p. KeepsCode codes change id p) (sym h.at) (subst (λ i. KeepsCode codes change i (cell_in number h.row)) (sym h.coded) (keeps h.row h.from h.to)))

  -- no row is left but one that keeps its code
  pub none_left : (old new : List Place) (row : ℕ) → IsFront codes change number code first behind old new row → behind ≤ row + 1 → Gathers codes change (InRows number first behind code) old new
  none_left old new row front end =
      rows_then codes change number code first row behind front.from front.to old new new front.gathers
      (kept_rows row behind new (λ h low high. subst (λ k. KeepsCode codes change code (cell_in number k)) (same h low high) (front.keeps (omega (arith, low, high)))))
    where
      same : (h : ℕ) → row ≤ h → h < behind → row ≡ h
      same h low high = omega (arith, low, high, end)

  -- from the top, the last row, and then from the bottom
  pub all_sides : (old one two new : List Place) (row last up : ℕ) → IsFront codes change number code first behind old one row → row + 1 < behind → IsFront codes change number code (behind - 1) behind one two last → IsBack codes change number code (row + 1) (behind - 1) two new up → Gathers codes change (InRows number first behind code) old new
  all_sides old one two new row last up front more end back =
      rows_then codes change number code first row behind front.from front.to old one new front.gathers
      (rows_before codes change number code row (behind - 1) behind (omega (arith, more)) (omega arith) one two new last_row
      (rows_before codes change number code row up (behind - 1) (omega (arith, back.from)) back.to two new new back.gathers (kept_rows row up new middle)))
    where
      same : (h : ℕ) → last ≤ h → h < behind → last ≡ h
      same h low high = omega (arith, low, high, end.from)

      last_row : Gathers codes change (InRows number (behind - 1) behind code) one two
      last_row =
          rows_then codes change number code (behind - 1) last behind end.from end.to one two two end.gathers
          (kept_rows last behind two (λ h low high. subst (λ k. KeepsCode codes change code (cell_in number k)) (same h low high) (end.keeps (omega (arith, low, high)))))

      lone : (h : ℕ) → row ≤ h → h < up → up ≤ row + 1 → row ≡ h
      lone h low high few = omega (arith, low, high, few)

      middle : (h : ℕ) → row ≤ h → h < up → KeepsCode codes change code (cell_in number h)
      middle h low high =
          elim ((row + 1) == up) as (λ b. ((row + 1) == up) ≡ b → KeepsCode codes change code (cell_in number h)) [
            | true ↦ λ one. subst (λ k. KeepsCode codes change code (cell_in number k)) (lone h low high (grind (arith, nat_tests, one))) (front.keeps (omega (arith, more)))
            | false ↦ λ other. between row h (up - 1) front.from low (omega (arith, high)) (omega (arith, high, back.to, more)) (front.keeps (omega (arith, more))) (back.keeps (grind (arith, nat_tests, other, back.from)))
          ] refl
