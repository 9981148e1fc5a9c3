use Rattle.std.proofs.Common.{ap, ◌∙◌, arith}
use Rattle.std.specs.List.{count_by}
use Rattle.block_column.specs.Kinds.{is_filled}
use Rattle.block_column.specs.Tables.{slots_of}
use Rattle.block_column.proofs.Columns.{counted-items}
use Rattle.std.proofs.lemmas.List.Sums.{count_by-le-length}
use Rattle.block_column.proofs.column.BlockColumn.used.Goals as goal

pub len-requires : goal.len-requires
len-requires c =
    let t = c.self.inside.table in
    let count = counted-items t c.self.invariant in
    omega (arith, count, count_by-le-length is_filled (slots_of t), c.self.invariant.whole)

pub returns : goal.returns
returns c = c.len.ensures ∙ counted-items c.self.inside.table c.self.invariant ∙ ap (λ v. count_by is_filled v.slots) c.self.view_is
