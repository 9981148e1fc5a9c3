use Rattle.std.proofs.Common.{subst, ◌∙◌}
use Rattle.std.proofs.lemmas.Result.{on_ok_weaker}
use Rattle.calc_addr.specs.Places.{IsRows}
use Rattle.listener_hub.specs.Hubs.{areas_read}
use Rattle.formula_listeners.proofs.ColumnCodes.{coded_there, reads_there, table}
use Rattle.formula_listeners.proofs.rows.listen_rows.Goals as goal

pub listen_groups-requires-clause-table : goal.listen_groups-requires-clause-table
listen_groups-requires-clause-table g c = table c.args.codes.now (g.N.NameTable.entries c.args.names.now) c.args.groups.now c.requires.coded c.args.rows (subst IsRows c.rows.view_is c.rows.invariant) c.number_of.result c.number_of.ensures.number c.index-groups-number_of.result c.index-groups-number_of.is c.groups.result.now c.groups.ensures

pub listen_groups-requires-clause-coded : goal.listen_groups-requires-clause-coded
listen_groups-requires-clause-coded g c = coded_there c.args.codes.now (g.N.NameTable.entries c.args.names.now) c.args.groups.now c.requires.coded c.args.rows (subst IsRows c.rows.view_is c.rows.invariant) c.number_of.result c.number_of.ensures.number c.index-groups-number_of.result c.index-groups-number_of.is c.groups.result.now c.groups.ensures

pub returns-clause-areas : goal.returns-clause-areas
returns-clause-areas g c =
    on_ok_weaker c.listen_groups.result
    (λ areas q. areas q ∙ reads_there c.args.codes.now (g.N.NameTable.entries c.args.names.now) c.args.groups.now c.requires.coded c.args.rows (subst IsRows c.rows.view_is c.rows.invariant) c.number_of.result c.number_of.ensures.number c.index-groups-number_of.result c.index-groups-number_of.is c.groups.result.now c.groups.ensures q (areas_read c.args.hub.now q))
    c.listen_groups.ensures.areas
