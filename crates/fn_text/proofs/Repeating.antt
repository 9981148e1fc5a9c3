-- A text so many times.
use Rattle.std.proofs.Common.{◌≡◌, ℕ, zero, suc, ◌+◌, ◌*◌, List, [], ◌++◌, length, replicate, nat_lt, true, false, refl, sym, ap, ◌∙◌, arith, append_assoc}
use Rattle.std.specs.Prelude.{if◌then◌else◌}
use Rattle.std.specs.List.{flat_map}
use Rattle.std.proofs.lemmas.List.{append-nil, length-append}
use Rattle.calc_model.specs.declared.fault.Fault.TheVariants.{Over}
use Rattle.calc_model.specs.declared.limits.TheConstants.{MOST_FIELD_BYTES}
use Rattle.calc_model.specs.declared.value.Value.TheVariants.{Bad, Words}
use Rattle.calc_model.specs.Operators.{kept_words}

abbrev pub times : ℕ → List ℕ → List ℕ
times n bytes = flat_map (λ b. b) (replicate n bytes)

pub times-none : (n : ℕ) → times n [] ≡ []
times-none zero = refl
times-none (suc n) = times-none n

pub length-times : (n : ℕ) (bytes : List ℕ) → length (times n bytes) ≡ n * length bytes
length-times zero bytes = omega arith
length-times (suc n) bytes = length-append bytes (times n bytes) ∙ omega (arith, length-times n bytes)

pub times-more : (n : ℕ) (bytes : List ℕ) → times n bytes ++ bytes ≡ times (n + 1) bytes
times-more zero bytes = sym (append-nil bytes)
times-more (suc n) bytes =
    let e : suc (n + 1) ≡ suc n + 1 = omega arith in
    append_assoc bytes (times n bytes) bytes ∙ ap (λ xs. bytes ++ xs) (times-more n bytes) ∙ ap (λ k. times k bytes) e

pub too_long : (text : List ℕ) → true ≡ nat_lt MOST_FIELD_BYTES (length text) → Bad Over ≡ kept_words text
too_long text e = ap (λ b. if b then Bad Over else Words text) e

pub kept : (text : List ℕ) → false ≡ nat_lt MOST_FIELD_BYTES (length text) → Words text ≡ kept_words text
kept text e = ap (λ b. if b then Bad Over else Words text) e
