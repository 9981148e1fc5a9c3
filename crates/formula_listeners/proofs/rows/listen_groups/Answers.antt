use Rattle.std.proofs.Common.{subst}
use Rattle.std.proofs.lemmas.Bool.{and_parts}
use Rattle.calc_addr.specs.Places.{IsRows}
use Rattle.listener_hub.specs.Hubs.{areas_read}
use Rattle.registration_slab.specs.Slab.{is_in}
use Rattle.formula_listeners.specs.GroupCells.{has_row}
use Rattle.formula_listeners.proofs.GroupWalks.{all_held, code_there, free, more}
use Rattle.formula_listeners.proofs.rows.listen_groups.Goals as goal

pub listen_group-requires-clause-coded : goal.listen_group-requires-clause-coded
listen_group-requires-clause-coded g c q h =
    c.requires.coded q (and_parts (is_in c.args.rows q) (has_row c.group-item.result q.row) h).0 c.group-item.result.code
    (code_there c.args.groups.now c.requires.table c.args.codes.now (g.N.NameTable.entries c.args.names.now) c.args.rows (areas_read c.args.hub.now) c.loop-group.group-index c.group-item.result c.loop-group-test.true c.group-item.is (subst IsRows c.rows.view_is c.rows.invariant) q h)

pub listen_group-requires-clause-absent : goal.listen_group-requires-clause-absent
listen_group-requires-clause-absent g c q h =
    free c.args.groups.now c.requires.table c.args.codes.now (g.N.NameTable.entries c.args.names.now) c.args.rows (areas_read c.args.hub.now) c.loop-group.group-index c.group-item.result c.loop-group-test.true c.group-item.is (areas_read c.loop-group.hub) c.loop-group.invariant.areas q h

pub loop-group-preserved : goal.loop-group-preserved
loop-group-preserved g c = record {
  ready = c.in_ok-listen_group.ensures.ready;
  areas = more c.args.groups.now c.requires.table c.args.codes.now (g.N.NameTable.entries c.args.names.now) c.args.rows (areas_read c.args.hub.now) c.loop-group.group-index c.group-item.result c.loop-group-test.true c.group-item.is (areas_read c.loop-group.hub) (areas_read c.listen_group.new.hub) c.loop-group.invariant.areas c.in_ok-listen_group.ensures.areas;
}

pub returns-clause-areas : goal.returns-clause-areas
returns-clause-areas g c = all_held c.args.groups.now c.requires.table c.args.codes.now (g.N.NameTable.entries c.args.names.now) c.args.rows (areas_read c.args.hub.now) (areas_read c.loop-group.hub) (subst IsRows c.rows.view_is c.rows.invariant) c.loop-group.group-index c.loop-group-test.false c.loop-group.invariant.areas
