-- A word of digits spells a row of the first sheet, with that number.
use Rattle.std.proofs.Common.{◌≡◌, ℕ, true, false, not, ◌||◌, cond, List, [], ◌∷◌, refl, ap, ◌∙◌, arith}
use Rattle.std.specs.Prelude.{◌==◌}
use Rattle.std.specs.List.{after_first, before_first, list_all, list_any}
use Rattle.std.specs.Char.{is_ascii_digit}
use Rattle.std.proofs.lemmas.Bool.Decides.{nat_tests}
use Rattle.calc_addr.specs.Spelling.{after_sheet, are_digits, both, is_point, row_of, sheet_of, sheet_part, spelled_row, undollared}
use Rattle.calc_addr.specs.declared.read.Spelled.{Spelled}
use Rattle.calc_addr.specs.declared.read.Spelled.TheVariants.{Is, Outside, Not}
use Rattle.calc_model.proofs.Areas.{both_true}

-- the second of two parts
abbrev pub second : Spelled (ℕ × ℕ) → Spelled ℕ
second (Is pair) = Is pair.1
second Outside = Outside
second Not = Not

second-both : (part : Spelled ℕ) → second (both (λ a b. (a, b)) (Is 0) part) ≡ part
second-both (Is n) = refl
second-both Outside = refl
second-both Not = refl

no_point : (c : ℕ) → is_ascii_digit c ≡ true → is_point c ≡ false
no_point c h = grind (arith, nat_tests)

no_dollar : (c : ℕ) → is_ascii_digit c ≡ true → (c == 36) ≡ false
no_dollar c h = grind (arith, nat_tests)

no_points : (text : List ℕ) → list_all is_ascii_digit text ≡ true → list_any is_point text ≡ false
no_points [] h = refl
no_points (c ∷ cs) h =
    let parts = both_true (is_ascii_digit c) (list_all is_ascii_digit cs) h in
    ap (λ b. b || list_any is_point cs) (no_point c parts.0) ∙ no_points cs parts.1

undollared_digits : (text : List ℕ) → list_all is_ascii_digit text ≡ true → undollared text ≡ text
undollared_digits [] h = refl
undollared_digits (c ∷ cs) h = ap (λ b. cond b cs (c ∷ cs)) (no_dollar c (both_true (is_ascii_digit c) (list_all is_ascii_digit cs) h).0)

all_digits : (text : List ℕ) → are_digits text ≡ true → list_all is_ascii_digit text ≡ true
all_digits [] h = refl
all_digits (c ∷ cs) h = (both_true (not (c == 48)) (list_all is_ascii_digit (c ∷ cs)) h).1

pub count_row : (text : List ℕ) → are_digits text ≡ true → second (spelled_row text) ≡ row_of text
count_row text h =
    let digits = all_digits text h in
    let none = no_points text digits in
    let sheet : sheet_part text ≡ Is 0 = ap (λ b. cond b (sheet_of (undollared (before_first is_point text))) (Is 0)) none in
    let rest : after_sheet text ≡ text = ap (λ b. cond b (after_first is_point text) text) none in
    ap (λ s. second (both (λ a b. (a, b)) s (row_of (undollared (after_sheet text))))) sheet
    ∙ second-both (row_of (undollared (after_sheet text)))
    ∙ ap (λ t. row_of (undollared t)) rest
    ∙ ap row_of (undollared_digits text digits)
