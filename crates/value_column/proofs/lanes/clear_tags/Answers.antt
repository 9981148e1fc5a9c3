use Rattle.std.proofs.Common.{get_or, ap, ◌∙◌, arith}
use Rattle.value_column.specs.declared.lane.Tag.TheVariants as tag
use Rattle.value_column.proofs.Cleared.{plain-rows}
use Rattle.value_column.proofs.lanes.clear_tags.Goals as goal

pub returns-then-first-end-clause-tags : goal.returns-then-first-end-clause-tags
returns-then-first-end-clause-tags c =
    λ r. ap (λ v. get_or v r tag.Blank) c.put_tags.ensures.tags
    ∙ plain-rows c.args.tags.now.items tag.Blank c.args.first c.args.end c.min-end.result r (omega (arith, c.min-end.ensures, c.len.ensures, c.args.tags.now.ok)) c.if-first-end.true
