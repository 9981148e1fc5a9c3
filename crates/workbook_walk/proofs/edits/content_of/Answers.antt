use Rattle.std.proofs.Common.{sym, subst}
use Rattle.std.specs.Str.{IsUtf8}
use Rattle.std.proofs.lemmas.Str.{IsUtf8-string_bytes}
use Rattle.workbook_walk.proofs.edits.content_of.Goals as goal

pub read_field-requires : goal.read_field-requires
read_field-requires c = subst IsUtf8 (sym c.as_bytes.ensures.value) (IsUtf8-string_bytes c.in_ok-field-in-Some.field)
