use Rattle.std.proofs.Common.{◌≡◌, [], ◌∷◌, ◌++◌, sym, ap, ◌∙◌, arith}
use Rattle.std.specs.Prelude.{replicate}
use Rattle.formula_groups.specs.GroupRows.{GroupRows}
use Rattle.formula_groups.specs.Groups.{no_codes}
use Rattle.kept_codes.specs.declared.cells.TheConstants.{COLUMNS}
use Rattle.cell_columns.specs.Lent.{codes_of}
use Rattle.cell_columns.proofs.Nothing.{map_more, replicate_more}
use Rattle.cell_columns.proofs.columns.empty_groups.Goals as goal

pub loop-preserved : goal.loop-preserved
loop-preserved c =
    ap codes_of c.in_ok-push.ensures.items
    ∙ map_more (λ (x : GroupRows). x.entries) c.loop.groups.items c.new.result
    ∙ ap (λ xs. xs ++ (c.new.result.entries ∷ [])) c.loop.invariant
    ∙ ap (λ x. replicate c.loop.counter no_codes ++ (x ∷ [])) c.new.ensures
    ∙ sym (replicate_more c.loop.counter no_codes)

pub returns : goal.returns
returns c =
    let all : c.loop.counter ≡ COLUMNS = omega (arith, c.loop-test.false, c.loop.auto.counter-end) in
    c.loop.invariant ∙ ap (λ n. replicate n no_codes) all
