-- Functions that are found by their name.
use Rattle.std.proofs.Common.{◌≡◌, ◌≤◌, ℕ, List, [], ◌∷◌, Option, Some, IfSome, cond, nat_le, arith, refl, subst, true, false}
use Rattle.std.specs.Prelude.{option_map}
use Rattle.std.specs.List.{find, list_all}
use Rattle.std.specs.Str.{bytes_eq}
use Rattle.std.proofs.lemmas.Bool.{leb-true}
use Rattle.calc_model.specs.declared.function.Form.{Form}
use Rattle.calc_model.specs.declared.limits.TheConstants.{MOST_PARAMETERS}
use Rattle.calc_model.specs.Functions.{Forms, form_named, forms, named_in, takes}
use Rattle.calc_model.proofs.Areas.{both_true}

abbrev IsFew : Option Form → Type 0
IsFew found = IfSome found (λ form. form.most ≤ MOST_PARAMETERS)

all_few : (name : List ℕ) (es : Forms) → list_all (λ e. nat_le e.1.most MOST_PARAMETERS) es ≡ true → IsFew (named_in es name)
all_few name [] few = tt
all_few name (e ∷ es) few =
    let parts = both_true (nat_le e.1.most MOST_PARAMETERS) (list_all (λ e. nat_le e.1.most MOST_PARAMETERS) es) few in
    elim (bytes_eq name e.0) as (λ b. IsFew (option_map (λ e. e.1) (cond b (Some e) (find (λ e. bytes_eq name e.0) es)))) [
      | true ↦ leb-true _ _ parts.0
      | false ↦ all_few name es parts.1
    ]

-- no function takes more parameters than a call can have
named_few : (name : List ℕ) → IsFew (form_named name)
named_few name = all_few name forms refl

-- a call with a number of parameters that its function takes has few enough of them
pub fits_call : (name : List ℕ) (form : Form) (count : ℕ) → form_named name ≡ Some form → takes form count ≡ true → count ≤ MOST_PARAMETERS
fits_call name form count found fits =
    let parts = both_true (nat_le form.least count) (nat_le count form.most) fits in
    let few : form.most ≤ MOST_PARAMETERS = subst IsFew found (named_few name) in
    omega (arith, leb-true _ _ parts.1)
