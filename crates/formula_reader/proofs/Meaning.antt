-- A field has one content, which is the one that is read.
use Rattle.std.proofs.Common.{◌≡◌, ℕ, List, Option, Some, None, Result, Ok, Err, IfOk, refl, sym, ap, ◌∙◌, subst}
use Rattle.calc_model.specs.Field.{IsField, IsReadAs, ReadsFields, content_by}
use Rattle.calc_model.specs.declared.content.Content.{Content}
use Rattle.calc_model.specs.declared.tree.Tree.{Tree}
use Rattle.formula_reader.specs.Fields.{field_of}
use Rattle.formula_reader.specs.Reading.{formula_of}
use Rattle.formula_reader.proofs.Complete.Formulas.{formula_read}
use Rattle.formula_reader.proofs.Sound.Formulas.{formula_spelled}

is_read : (text : List ℕ) (formula : Option Tree) → formula_of text ≡ formula → IsReadAs text formula
is_read text (Some tree) e = formula_spelled text tree e
is_read text None e = λ tree spelled. let read = formula_read text tree spelled.0 spelled.1 in cc

unread : (text : List ℕ) (read : Option Tree) → formula_of text ≡ read → IsReadAs text None → read ≡ None
unread text None e none = refl
unread text (Some tree) e none = absurd (none tree (formula_spelled text tree e))

one_formula : (text : List ℕ) (formula : Option Tree) → IsReadAs text formula → formula_of text ≡ formula
one_formula text (Some tree) spelled = formula_read text tree spelled.0 spelled.1
one_formula text None none = unread text (formula_of text) refl none

pub field_reads : ReadsFields field_of
field_reads text = record { formula = formula_of text; is_read = is_read text (formula_of text) refl; content_is = refl }

pub field_is : (text : List ℕ) (content : Content) → IsField text content → content ≡ field_of text
field_is text content is = is.content_is ∙ ap (λ formula. content_by formula text) (sym (one_formula text is.formula is.is_read))

pub one_content : (text : List ℕ) (first second : Content) → IsField text first → IsField text second → first ≡ second
one_content text first second a b = field_is text first a ∙ sym (field_is text second b)

-- each meaning of fields is the one by the reading
pub meaning_is : (field : List ℕ → Content) → ReadsFields field → (text : List ℕ) → field text ≡ field_of text
meaning_is field reads text = field_is text (field text) (reads text)

pub read_spelled : {E : Type 0} (result : Result Content E) (text : List ℕ) → IfOk result (λ content. content ≡ field_of text) → IfOk result (λ content. IsField text content)
read_spelled (Ok content) text e = subst (IsField text) (sym e) (field_reads text)
read_spelled (Err refused) text e = tt

pub read_only : {E : Type 0} (result : Result Content E) (text : List ℕ) (content : Content) → IsField text content → IfOk result (λ content. content ≡ field_of text) → IfOk result (λ read. read ≡ content)
read_only (Ok read) text content is e = e ∙ sym (field_is text content is)
read_only (Err refused) text content is e = tt
