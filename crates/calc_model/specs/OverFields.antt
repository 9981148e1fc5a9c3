-- What holds over every meaning of fields, of which there is exactly one, and what a call reads of texts with
-- fields.
use Rattle.std.specs.Prelude.{◌≡◌, ℕ, List, Result, IfOk}
use Rattle.calc_model.specs.declared.content.Content.{Content}
use Rattle.calc_model.specs.Field.{ReadsFields}

abbrev pub OverFields : ((List ℕ → Content) → Type 0) → Type 0
OverFields P = (field : List ℕ → Content) → ReadsFields field → P field

-- where it succeeded, the call gave this, over the meaning of fields
abbrev pub ReadsOver : {T E : Type 0} → Result T E → ((List ℕ → Content) → T) → Type 0
ReadsOver {T} result read = OverFields (λ field. IfOk result (λ (x : T). x ≡ read field))
