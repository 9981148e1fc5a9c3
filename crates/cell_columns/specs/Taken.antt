-- How the uses of codes change as slots come and go. Codes that stay live keep their forms.
use Rattle.std.specs.Prelude.{◌≡◌, ◌+◌, ℕ, true, None, sum_by}
use Rattle.calc_addr.specs.Places.{Place}
use Rattle.calc_model.specs.Books.{is_content}
use Rattle.calc_model.specs.Contents.{is_constant}
use Rattle.calc_model.specs.declared.content.Content.{Content}
use Rattle.calc_model.specs.declared.content.Content.TheVariants.{Constant}
use Rattle.calc_model.specs.declared.value.Value.{Value}
use Rattle.formula_code.specs.Codes.{Codes, IsCodeAt, IsLive, form_at, total_uses, uses_at}
use Rattle.block_column.specs.declared.slot.Slot.{Slot}
use Rattle.block_column.specs.declared.slot.Slot.TheVariants.{Formula}
use Rattle.block_column.specs.Kinds.{is_filled}
use Rattle.cell_columns.specs.Cells.{Column, content_of}
use Rattle.cell_columns.specs.Uses.{code_in, formula_of, use_of}

abbrev pub KeepsForms : Codes → Codes → Type 0
KeepsForms old new = (id : ℕ) → IsLive old id → IsLive new id → form_at new id ≡ form_at old id

-- A slot more uses its code.
pub record IsTaken (old new : Codes) (x : Slot) : Type 0 where
  pub uses : (id : ℕ) → uses_at new id ≡ uses_at old id + use_of id x
  pub total : total_uses new ≡ total_uses old + formula_of x
  pub live : (id : ℕ) → IsLive old id → IsLive new id
  pub forms : KeepsForms old new

-- These slots more use their codes.
pub record AreTaken (old new : Codes) (slots : Column) : Type 0 where
  pub uses : (id : ℕ) → uses_at new id ≡ uses_at old id + sum_by (use_of id) slots
  pub total : total_uses new ≡ total_uses old + sum_by formula_of slots
  pub live : (id : ℕ) → IsLive old id → IsLive new id
  pub forms : KeepsForms old new

-- Codes have that many uses less, in all so many.
pub record AreFreed (old new : Codes) (freed : ℕ → ℕ) (all : ℕ) : Type 0 where
  pub uses : (id : ℕ) → uses_at new id + freed id ≡ uses_at old id
  pub total : total_uses new + all ≡ total_uses old
  pub live : (id : ℕ) → IsLive new id → IsLive old id
  pub forms : KeepsForms old new

-- These slots don't use their codes any more.
abbrev pub AreReturned : Codes → Codes → Column → Type 0
AreReturned old new slots = AreFreed old new (λ id. sum_by (use_of id) slots) (sum_by formula_of slots)

-- The slot holds the content in the cell, and uses its code.
pub record IsSlotOf (old new : Codes) (home : Place) (content : Content) (x : Slot) : Type 0 where
  pub holds : content_of new home x ≡ content
  pub fit : is_filled x ≡ true → is_content content ≡ true
  pub coded : (id : ℕ) → x ≡ Formula id → IsCodeAt new id home
  pub taken : IsTaken old new x

-- The slot holds the constant, whatever the codes.
pub record IsConstantSlot (value : Value) (x : Slot) : Type 0 where
  pub holds : (codes : Codes) (home : Place) → content_of codes home x ≡ Constant value
  pub kind : is_constant value ≡ true
  pub without_code : code_in x ≡ None

-- The first slots use their codes now, and the others don't use theirs any more.
pub record AreReplaced (old new : Codes) (slots gone : Column) : Type 0 where
  pub between : Codes
  pub taken : AreTaken old between slots
  pub returned : AreReturned between new gone
