-- Neighbouring rows of a column that are set.
use Rattle.std.proofs.Common.{◌≡◌, ◌≢◌, ℕ, ◌+◌, ◌-◌, ◌≤◌, ◌<◌, ◌==◌, nat_le, nat_lt, true, false, List, length, take, drop, refl, sym, ap, subst, ◌∙◌, ◌⊎◌, inl, inr, arith}
use Rattle.std.specs.Prelude.{slice_index_or}
use Rattle.std.proofs.lemmas.Bool.Decides.{Decides-eqb, nat_tests}
use Rattle.calc_addr.specs.declared.cell.TheConstants.{LAST_ROW}
use Rattle.calc_addr.specs.Places.{IsPlace, Place}
use Rattle.calc_model.specs.declared.content.Content.{Content}
use Rattle.calc_model.specs.declared.content.Content.TheVariants.{Formula}
use Rattle.calc_model.specs.Books.{is_content}
use Rattle.formula_code.specs.Codes.{Codes, IsCodeAt, IsLive, has_valid_references, total_uses, uses_at}
use Rattle.formula_code.specs.Relative.{absolute}
use Rattle.block_column.specs.declared.slot.Slot.{Slot}
use Rattle.block_column.specs.declared.slot.Slot.TheVariants as slot
use Rattle.block_column.specs.Kinds.{is_filled}
use Rattle.kept_codes.specs.declared.cells.TheConstants.{COLUMNS}
use Rattle.cell_columns.specs.Cells.{Column, column_at, column_number, content_of, slot_at, with_rows}
use Rattle.cell_columns.specs.Sheets.{AreSheets, IsFit}
use Rattle.cell_columns.specs.Taken.{AreReturned, AreTaken, KeepsForms}
use Rattle.cell_columns.specs.Uses.{formula_of, formulas_in, use_of, uses_in}
use Rattle.cell_columns.proofs.Edited.{live, same_content, stands, still_sheets}
use Rattle.cell_columns.proofs.PutSlot.{unequal}
use Rattle.cell_columns.proofs.PutRows.{all_put, rows_put_long, slot_put, slot_stays, summed_rows}

-- a code that is one at a cell stays so while it is live
pub code_kept : (old new : Codes) → KeepsForms old new → (q : Place) (id : ℕ) → IsCodeAt old id q → IsLive new id → IsCodeAt new id q
code_kept old new forms q id was now = record {
  live = now;
  valid = subst (λ form. has_valid_references (absolute q form) ≡ true) (sym (forms id was.live now)) was.valid;
}

-- a slot whose code stays live is the same content
pub content_kept : (old new : Codes) → KeepsForms old new → (q : Place) (x : Slot) → ((id : ℕ) → x ≡ slot.Formula id → IsLive old id × IsLive new id) → content_of new q x ≡ content_of old q x
content_kept old new forms q slot.Empty both = refl
content_kept old new forms q (slot.Number n) both = refl
content_kept old new forms q (slot.Words text) both = refl
content_kept old new forms q (slot.Bad fault) both = refl
content_kept old new forms q (slot.Raw text) both = refl
content_kept old new forms q (slot.Formula id) both = ap (λ form. Formula (absolute q form)) (forms id (both id refl).0 (both id refl).1)

record Lies (number a n : ℕ) (q : Place) : Type 0 where
  pub column : column_number q ≡ number
  pub from : a ≤ q.row - 1
  pub to : q.row - 1 < a + n

-- a cell lies in the rows, or in another column, above them or below
where_is : (number a n : ℕ) (q : Place) → Lies number a n q ⊎ ((column_number q ≢ number) ⊎ ((q.row - 1 < a) ⊎ (a + n ≤ q.row - 1)))
where_is number a n q =
    elim (column_number q == number) as (λ b. (column_number q == number) ≡ b → Lies number a n q ⊎ ((column_number q ≢ number) ⊎ ((q.row - 1 < a) ⊎ (a + n ≤ q.row - 1)))) [
      | false ↦ λ other. inr (inl (unequal (column_number q) number other))
      | true ↦ λ same.
          elim (nat_le a (q.row - 1)) as (λ b. nat_le a (q.row - 1) ≡ b → Lies number a n q ⊎ ((column_number q ≢ number) ⊎ ((q.row - 1 < a) ⊎ (a + n ≤ q.row - 1)))) [
            | false ↦ λ above. inr (inr (inl (grind (arith, nat_tests, above))))
            | true ↦ λ from.
                elim (nat_lt (q.row - 1) (a + n)) as (λ b. nat_lt (q.row - 1) (a + n) ≡ b → Lies number a n q ⊎ ((column_number q ≢ number) ⊎ ((q.row - 1 < a) ⊎ (a + n ≤ q.row - 1)))) [
                  | false ↦ λ below. inr (inr (inr (grind (arith, nat_tests, below))))
                  | true ↦ λ to. inl (record {
                    column = (Decides-eqb (column_number q) number).0 same;
                    from = grind (arith, nat_tests, from);
                    to = grind (arith, nat_tests, to);
                  })
                ] refl
          ] refl
    ] refl

module _ (old mid new : Codes) (before : List Column) (was : AreSheets old before) (number : ℕ) (among : number < COLUMNS) (a : ℕ) (xs : Column) (fits : a + length xs ≤ LAST_ROW) (taken : AreTaken old mid xs) (returned : AreReturned mid new (take (length xs) (drop a (column_at before number)))) (put : (q : Place) → IsPlace q → column_number q ≡ number → a ≤ q.row - 1 → q.row - 1 < a + length xs → IsFit mid q (slice_index_or xs (q.row - 1 - a) slot.Empty)) where
  abbrev after : List Column
  after = with_rows before number a xs

  forms : KeepsForms old new
  forms id first last =
      let between : IsLive mid id = taken.live id first in
      returned.forms id between last ∙ taken.forms id first between

  used : (id : ℕ) → uses_at new id ≡ uses_in id after
  used id = omega (arith, returned.uses id, taken.uses id, was.used id, summed_rows before was.all_columns was.all_rows number among a xs fits (use_of id))

  total : total_uses new ≡ formulas_in after
  total = omega (arith, returned.total, taken.total, was.total, summed_rows before was.all_columns was.all_rows number among a xs fits formula_of)

  all : length after ≡ COLUMNS
  all = all_put before was.all_columns was.all_rows number among a xs fits

  rows : (n : ℕ) → n < COLUMNS → length (column_at after n) ≡ LAST_ROW
  rows = rows_put_long before was.all_columns was.all_rows number among a xs fits

  live_in : (q : Place) → IsPlace q → (id : ℕ) → slot_at after q ≡ slot.Formula id → IsLive new id
  live_in q is id here = live new id (subst (λ n. 1 ≤ n) (sym (used id)) (stands after all rows q is id here))

  abbrev new_slot : Place → Slot
  new_slot q = slice_index_or xs (q.row - 1 - a) slot.Empty

  here : (q : Place) → Lies number a (length xs) q → slot_at after q ≡ new_slot q
  here q lies = slot_put before was.all_columns was.all_rows number among a xs fits q lies.column lies.from lies.to

  put_at : (q : Place) → IsPlace q → Lies number a (length xs) q → IsFit mid q (new_slot q)
  put_at q is lies = put q is lies.column lies.from lies.to

  -- a cell in the rows holds what is put there
  content_put : (q : Place) → IsPlace q → Lies number a (length xs) q → content_of new q (slot_at after q) ≡ content_of mid q (new_slot q)
  content_put q is lies =
      ap (content_of new q) (here q lies)
      ∙ content_kept mid new returned.forms q (new_slot q) (λ id formula. (((put_at q is lies).coded id formula).live, live_in q is id (here q lies ∙ formula)))

  fit_in : (q : Place) → IsPlace q → Lies number a (length xs) q → IsFit new q (slot_at after q)
  fit_in q is lies = record {
    coded = λ id formula. code_kept mid new returned.forms q id ((put_at q is lies).coded id (sym (here q lies) ∙ formula)) (live_in q is id formula);
    fit = λ filled. subst (λ c. is_content c ≡ true) (sym (content_put q is lies)) ((put_at q is lies).fit (subst (λ x. is_filled x ≡ true) (here q lies) filled));
  }

  stays : (q : Place) → (column_number q ≢ number) ⊎ ((q.row - 1 < a) ⊎ (a + length xs ≤ q.row - 1)) → slot_at after q ≡ slot_at before q
  stays = slot_stays before was.all_columns was.all_rows number among a xs fits

  pub sheets_put : AreSheets new (with_rows before number a xs)
  sheets_put = still_sheets old new before after was forms all rows used (λ q is. elim (where_is number a (length xs) q) as (λ _. (slot_at after q ≡ slot_at before q) ⊎ IsFit new q (slot_at after q)) [
    | inl lies ↦ inr (fit_in q is lies)
    | inr outside ↦ inl (stays q outside)
  ]) total

  -- what holds of the contents that are put, in the rows, and of the others, elsewhere, holds of each
  pub each_content : (P : Place → Content → Type 0) → ((q : Place) → IsPlace q → column_number q ≡ number → a ≤ q.row - 1 → q.row - 1 < a + length xs → P q (content_of mid q (slice_index_or xs (q.row - 1 - a) slot.Empty))) → ((q : Place) → IsPlace q → (column_number q ≢ number) ⊎ ((q.row - 1 < a) ⊎ (a + length xs ≤ q.row - 1)) → P q (content_of old q (slot_at before q))) → (q : Place) → IsPlace q → P q (content_of new q (slot_at (with_rows before number a xs) q))
  each_content P inside outside q is = elim (where_is number a (length xs) q) as (λ _. P q (content_of new q (slot_at (with_rows before number a xs) q))) [
    | inl lies ↦ subst (P q) (sym (content_put q is lies)) (inside q is lies.column lies.from lies.to)
    | inr apart ↦ subst (P q) (sym (same_content old new before after was forms all rows used q is (stays q apart))) (outside q is apart)
  ]
