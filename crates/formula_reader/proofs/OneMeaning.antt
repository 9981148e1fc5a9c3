-- There is one meaning of fields, so that what holds over the one by the reading holds over each.
use Rattle.std.proofs.Common.{◌≡◌, ℕ, List, Result, sym, subst}
use Rattle.std.specs.Prelude.{IfOk}
use mathlib.Core.Path.{fun_ext}
use Rattle.calc_model.specs.Field.{ReadsFields}
use Rattle.calc_model.specs.OverFields.{ReadsOver}
use Rattle.calc_model.specs.declared.content.Content.{Content}
use Rattle.formula_reader.specs.Fields.{field_of}
use Rattle.formula_reader.proofs.Meaning.{meaning_is}

pub one_meaning : (field : List ℕ → Content) → ReadsFields field → field ≡ field_of
one_meaning field reads = fun_ext (meaning_is field reads)

pub over_fields : {T E : Type 0} (result : Result T E) (read : (List ℕ → Content) → T) → IfOk result (λ (x : T). x ≡ read field_of) → ReadsOver result read
over_fields {T} result read h = λ field reads. subst (λ f. IfOk result (λ (x : T). x ≡ read f)) (sym (one_meaning field reads)) h
