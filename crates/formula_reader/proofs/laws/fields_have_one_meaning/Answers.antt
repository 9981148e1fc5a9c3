use Rattle.formula_reader.proofs.laws.fields_have_one_meaning.Goals as goal
use Rattle.std.proofs.Common.{sym, ◌∙◌}
use Rattle.formula_reader.specs.Fields.{field_of}
use Rattle.formula_reader.proofs.Meaning.{field_reads, meaning_is, one_content}

pub returns : goal.returns
returns c = record {
  some = (field_of, field_reads);
  one = λ first second a b text. meaning_is first a text ∙ sym (meaning_is second b text);
  content = one_content;
}
