use Rattle.std.proofs.Common.{◌≡◌, ◌++◌, List, sym, ap, subst, ◌∙◌}
use Rattle.std.specs.List.{All}
use Rattle.std.proofs.lemmas.Result.{on_ok_weaker}
use Rattle.calc_addr.specs.Places.{IsRectangle, IsRows, Rows}
use Rattle.calc_model.specs.Books.{NameEntries}
use Rattle.calc_model.specs.Ears.{ReadArea}
use Rattle.formula_code.specs.Codes.{IsCodeAt, tree_at}
use Rattle.formula_code.specs.Ears.{ears}
use Rattle.ears.specs.RowEdits.{first_cell}
use Rattle.listener_hub.specs.Hubs.{areas_read}
use Rattle.formula_listeners.proofs.InRuns.{all_lie, first_coded, run_reads}
use Rattle.formula_listeners.proofs.runs.listen_run.Goals as goal

pub ears_at-requires : goal.ears_at-requires
ears_at-requires g c =
    let rows : IsRows c.args.run = subst IsRows c.run.view_is c.run.invariant in
    subst (λ (r : Rows). IsCodeAt c.args.codes.now c.args.id (first_cell r)) (sym c.run.view_is) (first_coded c.args.codes.now (g.N.NameTable.entries c.args.names.now) c.args.run c.args.id rows c.requires.coded)

pub attach-requires-clause-inside : goal.attach-requires-clause-inside
attach-requires-clause-inside g c =
    let rows : IsRows c.args.run = subst IsRows c.run.view_is c.run.invariant in
    let names : NameEntries = g.N.NameTable.entries c.args.names.now in
    let read : Rows → List ReadArea = λ r. ears (first_cell r) names (tree_at c.args.codes.now c.args.id (first_cell r)) in
    all_lie c.args.codes.now names c.args.run c.args.id rows c.requires.coded c.as_slice-2.result.now
    (c.as_slice-2.ensures.value ∙ c.in_default.ensures.ears ∙ ap (λ xs. xs ++ read (record { sheet = c.run.inside.sheet; col = c.run.inside.col; first = c.run.inside.first; last = c.run.inside.last })) c.new-ears.ensures.items ∙ ap read c.run.view_is)
    (subst (All (λ ear. IsRectangle ear.area)) (c.as_slice.ensures.value ∙ sym c.as_slice-2.ensures.value) c.lie_in_sheet.ensures)

pub returns-clause-areas : goal.returns-clause-areas
returns-clause-areas g c =
    let rows : IsRows c.args.run = subst IsRows c.run.view_is c.run.invariant in
    let names : NameEntries = g.N.NameTable.entries c.args.names.now in
    let read : Rows → List ReadArea = λ r. ears (first_cell r) names (tree_at c.args.codes.now c.args.id (first_cell r)) in
    let are : c.as_slice-2.result.now ≡ read c.args.run =
    c.as_slice-2.ensures.value ∙ c.in_default.ensures.ears ∙ ap (λ xs. xs ++ read (record { sheet = c.run.inside.sheet; col = c.run.inside.col; first = c.run.inside.first; last = c.run.inside.last })) c.new-ears.ensures.items ∙ ap read c.run.view_is in
    on_ok_weaker c.attach.result
    (λ areas q. areas q ∙ run_reads c.args.codes.now names c.args.run c.args.id rows c.requires.coded c.as_slice-2.result.now are q (areas_read c.args.hub.now q))
    c.attach.ensures.areas
