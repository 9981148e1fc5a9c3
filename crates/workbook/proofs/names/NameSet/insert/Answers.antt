use Rattle.std.proofs.Common.{◌||◌, ℕ, List, map, ap, ◌∙◌}
use Rattle.std.specs.Prelude.{string_bytes}
use Rattle.std.specs.Str.{str_to_ascii_uppercase}
use Rattle.calc_model.specs.UsedNames.{is_same_name}
use Rattle.workbook.specs.Touched.{has_name}
use Rattle.workbook.proofs.NameChanges.{name_joins}
use Rattle.workbook.proofs.names.NameSet.insert.Goals as goal

pub returns-clause-ok : goal.returns-clause-ok
returns-clause-ok c = λ other.
    ap (λ keys. has_name (map (λ key. string_bytes key) keys) other) c.in_ok-insert.ensures.keys
    ∙ name_joins (λ key. string_bytes key) c.self.inside.names.keys _ c.args.name.now (c.make_ascii_uppercase.ensures.bytes ∙ ap str_to_ascii_uppercase (c.in_ok-key.ensures.ok ∙ c.as_str.ensures)) other
    ∙ ap (λ (names : List (List ℕ)). has_name names other || is_same_name c.args.name.now other) c.self.view_is
