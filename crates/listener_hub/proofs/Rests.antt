-- The rows of a registration are moved piece by piece.
use Rattle.std.proofs.Common.{◌≡◌, ℕ, ◌+◌, ◌-◌, ◌≤◌, ◌<◌, true, ◌&&◌, nat_le, nat_lt, List, map, Some, sym, ap, ◌∙◌, ⊎_elim, arith}
use Rattle.std.specs.Prelude.{◌==◌}
use Rattle.std.proofs.lemmas.Bool.{and_from, and_parts, cases_lt, leb-true, ltb-true}
use Rattle.std.proofs.lemmas.Bool.Decides.{nat_tests}
use Rattle.calc_addr.specs.Places.{Place, Rectangle, Rows}
use Rattle.calc_model.specs.Ears.{ReadArea, area_at}
use Rattle.calc_model.specs.Listeners.{ReadAreas}
use Rattle.ears.specs.declared.row_edit.RowEdit.{RowEdit}
use Rattle.ears.specs.RowEdits.{areas_after}
use Rattle.ears.specs.RunAreas.{ear_below}
use Rattle.registration_slab.specs.declared.registration.Registration.{Registration}
use Rattle.registration_slab.specs.Cuts.{is_part}
use Rattle.listener_hub.specs.Moves.{IsPartMoved, IsPieceMoved}
use Rattle.listener_hub.proofs.Goings.{one_to_one}
use Rattle.registration_slab.proofs.Parts.{areas_below, part_is}

part_first : (run : Rows) (first end : ℕ) (q : Place) → is_part run first end q ≡ true → first ≤ q.row
part_first run first end q h = leb-true first q.row (and_parts (nat_le first q.row) (nat_lt q.row end) (and_parts ((q.sheet == run.sheet) && (q.col == run.col)) (nat_le first q.row && nat_lt q.row end) h).1).0

part_end : (run : Rows) (first end : ℕ) (q : Place) → is_part run first end q ≡ true → q.row < end
part_end run first end q h = ltb-true q.row end (and_parts (nat_le first q.row) (nat_lt q.row end) (and_parts ((q.sheet == run.sheet) && (q.col == run.col)) (nat_le first q.row && nat_lt q.row end) h).1).1

part_column : (run : Rows) (first end : ℕ) (q : Place) → is_part run first end q ≡ true → ((q.sheet == run.sheet) && (q.col == run.col)) ≡ true
part_column run first end q h = (and_parts ((q.sheet == run.sheet) && (q.col == run.col)) (nat_le first q.row && nat_lt q.row end) h).0

in_part : (run : Rows) (first end : ℕ) (q : Place) → ((q.sheet == run.sheet) && (q.col == run.col)) ≡ true → first ≤ q.row → q.row < end → is_part run first end q ≡ true
in_part run first end q column low high = and_from ((q.sheet == run.sheet) && (q.col == run.col)) (nat_le first q.row && nat_lt q.row end) column (rows first q.row end low high)
  where
    rows : (f r e : ℕ) → f ≤ r → r < e → (nat_le f r && nat_lt r e) ≡ true
    rows f r e h k = grind (arith, nat_tests)

-- a moved piece is a part
pub part_moved : (edit : RowEdit) (r : Registration) (first last : ℕ) (ears : List ReadArea) (old new : ReadAreas) → r.run.first ≤ first → ears ≡ map (λ e. ear_below e (first - r.run.first)) r.ears.items
    → IsPieceMoved edit (record { sheet = r.run.sheet; col = r.run.col; first = first; last = last }) ears old new → IsPartMoved edit r first (last + 1) old new
part_moved edit r first last ears old new low is moved = record {
  here = λ q d h goes.
      moved.here q d (part_is r.run first last q ∙ h) goes
      ∙ ap (λ (es : List ReadArea). Some (areas_after edit (map (λ e. area_at e (q.row - first)) es))) is
      ∙ ap (λ (as_read : List Rectangle). Some (areas_after edit as_read)) (areas_below r.ears.items (first - r.run.first) (q.row - first) (q.row - r.run.first) (below r.run.first first q.row low (part_first r.run first (last + 1) q h)));
  elsewhere = λ d none. moved.elsewhere d (λ q h goes. none q (sym (part_is r.run first last q) ∙ h) goes);
}
  where
    below : (a b row : ℕ) → a ≤ b → b ≤ row → (b - a) + (row - b) ≡ row - a
    below a b row h k = omega arith

-- two parts, one behind the other
pub parts_join : (edit : RowEdit) (r : Registration) (first m end : ℕ) (old mid new : ReadAreas) → first ≤ m → m ≤ end → IsPartMoved edit r first m old mid → IsPartMoved edit r m end mid new → IsPartMoved edit r first end old new
parts_join edit r first m end old mid new low high a b = record {
  here = λ q d h goes.
      ⊎_elim
      (λ (before : q.row < m).
      b.elsewhere d (λ p other goes_too. absurd (apart p q (one_to_one edit p q d goes_too goes) (part_first r.run m end p other) before))
      ∙ a.here q d (in_part r.run first m q (part_column r.run first end q h) (part_first r.run first end q h) before) goes)
      (λ (behind : m ≤ q.row). b.here q d (in_part r.run m end q (part_column r.run first end q h) behind (part_end r.run first end q h)) goes)
      (cases_lt q.row m);
  elsewhere = λ d none.
      b.elsewhere d (λ q h goes. none q (in_part r.run first end q (part_column r.run m end q h) (up first m q.row low (part_first r.run m end q h)) (part_end r.run m end q h)) goes)
      ∙ a.elsewhere d (λ q h goes. none q (in_part r.run first end q (part_column r.run first m q h) (part_first r.run first m q h) (under q.row m end (part_end r.run first m q h) high)) goes);
}
  where
    apart : (p q : Place) → p ≡ q → m ≤ p.row → q.row < m → ⊥
    apart p q e h k = let rows : p.row ≡ q.row = ap (λ (x : Place). x.row) e in omega arith

    up : (a b c : ℕ) → a ≤ b → b ≤ c → a ≤ c
    up a b c h k = omega arith

    under : (a b c : ℕ) → a < b → b ≤ c → a < c
    under a b c h k = omega arith
