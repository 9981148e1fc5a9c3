-- The reading of a field: its content, with the formula that is read of it.
use Rattle.std.specs.Prelude.{ℕ, List}
use Rattle.calc_model.specs.declared.content.Content.{Content}
use Rattle.calc_model.specs.Field.{content_by}
use Rattle.formula_reader.specs.Reading.{formula_of}

abbrev pub field_of : List ℕ → Content
field_of text = content_by (formula_of text) text
