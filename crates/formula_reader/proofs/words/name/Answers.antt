use Rattle.formula_reader.proofs.words.name.Goals as goal
use Rattle.std.proofs.Common.{sym, ◌∙◌}
use Rattle.formula_reader.proofs.Identifiers.{identifier_IsUtf8, name_is_identifier}

pub to_text-requires : goal.to_text-requires
to_text-requires c =
    identifier_IsUtf8 c.args.word.now (name_is_identifier c.args.word.now (sym c.is_name.ensures ∙ c.if-not-is_name.false))
