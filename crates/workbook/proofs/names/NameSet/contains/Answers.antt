use Rattle.std.proofs.Common.{ap, ◌∙◌}
use Rattle.std.specs.Prelude.{string_bytes}
use Rattle.std.specs.List.{list_any}
use Rattle.std.specs.Ordering.{eq_by_cmp}
use Rattle.calc_model.specs.NamedAreas.{name_cmp}
use Rattle.workbook.proofs.NameChanges.{any_key}
use Rattle.workbook.proofs.names.NameSet.contains.Goals as goal

pub returns : goal.returns
returns c =
    c.contains.ensures ∙ any_key (λ key. string_bytes key) (eq_by_cmp name_cmp c.args.key.now) c.self.inside.names.keys
    ∙ ap (list_any (eq_by_cmp name_cmp c.args.key.now)) c.self.view_is
