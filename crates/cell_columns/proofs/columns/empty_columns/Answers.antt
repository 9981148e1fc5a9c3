use Rattle.std.proofs.Common.{◌≡◌, [], ◌∷◌, ◌++◌, sym, ap, ◌∙◌, arith}
use Rattle.std.specs.Prelude.{replicate}
use Rattle.block_column.specs.SlotRows.{SlotRows}
use Rattle.block_column.specs.Tables.{no_slots}
use Rattle.kept_codes.specs.declared.cells.TheConstants.{COLUMNS}
use Rattle.cell_columns.specs.Lent.{slots_of}
use Rattle.cell_columns.proofs.Nothing.{map_more, replicate_more}
use Rattle.cell_columns.proofs.columns.empty_columns.Goals as goal

pub loop-preserved : goal.loop-preserved
loop-preserved c =
    ap slots_of c.in_ok-push.ensures.items
    ∙ map_more (λ (x : SlotRows). x.slots) c.loop.columns.items c.in_ok-new.field-0
    ∙ ap (λ xs. xs ++ (c.in_ok-new.field-0.slots ∷ [])) c.loop.invariant
    ∙ ap (λ x. replicate c.loop.counter no_slots ++ (x ∷ [])) c.in_ok-new.ensures
    ∙ sym (replicate_more c.loop.counter no_slots)

pub returns : goal.returns
returns c =
    let all : c.loop.counter ≡ COLUMNS = omega (arith, c.loop-test.false, c.loop.auto.counter-end) in
    c.loop.invariant ∙ ap (λ n. replicate n no_slots) all
