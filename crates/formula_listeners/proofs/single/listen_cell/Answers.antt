use Rattle.std.proofs.Common.{◌≡◌, cond, List, Option, Some, sym, ap, subst, ◌∙◌}
use Rattle.std.proofs.lemmas.Result.{on_ok_weaker}
use Rattle.calc_addr.specs.Places.{Place, Rectangle, covers, single}
use Rattle.calc_model.specs.Books.{NameEntries, entry_named}
use Rattle.calc_model.specs.Reads.{areas}
use Rattle.formula_code.specs.Codes.{tree_at}
use Rattle.formula_code.specs.Coded.{areas_by_code}
use Rattle.listener_hub.specs.Hubs.{areas_read}
use Rattle.registration_slab.specs.Slab.{is_in}
use Rattle.formula_listeners.proofs.SingleReads.{holds_cell, row_of, single_reads}
use Rattle.formula_listeners.proofs.single.listen_cell.Goals as goal

pub returns-clause-areas : goal.returns-clause-areas
returns-clause-areas g c =
    let names : NameEntries = g.N.NameTable.entries c.args.names.now in
    let codes = c.intern.new.self in
    let tree = c.args.formula.now in
    let inside : Place = record { sheet = c.cell.inside.sheet; col = c.cell.inside.col; row = c.cell.inside.row } in
    let back : tree_at codes c.in-Ok.id inside ≡ tree = ap (tree_at codes c.in-Ok.id) c.cell.view_is ∙ c.in-Ok.ensures.interned.tree_back ∙ c.tree.ensures.value in
    let Right : Place → Type 0 = λ p. (q : Place) (o : Option (List Rectangle)) → cond (is_in (row_of inside) q) (Some (areas_by_code codes names q c.in-Ok.id)) o ≡ cond (covers (single p) q) (Some (areas p (entry_named names) tree)) o in
    let right : Right c.args.cell = subst Right c.cell.view_is (single_reads names inside tree codes c.in-Ok.id back) in
    on_ok_weaker c.listen_run.result (λ read q. read q ∙ right q (areas_read c.args.hub.now q)) c.listen_run.ensures.areas

pub returns-clause-held : goal.returns-clause-held
returns-clause-held g c =
    on_ok_weaker c.listen_run.result
    (λ read book named there. holds_cell (g.N.NameTable.entries c.args.names.now) c.args.cell c.args.formula.now book named there (areas_read c.args.hub.now) (areas_read c.listen_run.new.hub) read)
    (returns-clause-areas g c)
