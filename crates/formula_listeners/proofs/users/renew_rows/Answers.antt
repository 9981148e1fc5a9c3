use Rattle.std.proofs.Common.{◌≡◌, false, rules, subst}
use Rattle.calc_addr.specs.Places.{IsRows}
use Rattle.listener_hub.specs.Hubs.{areas_read}
use Rattle.formula_listeners.proofs.ColumnCodes.{all_live}
use Rattle.formula_listeners.proofs.RenewedRows.{kept}
use Rattle.formula_listeners.proofs.users.renew_rows.Goals as goal

pub any_uses-requires : goal.any_uses-requires
any_uses-requires g c = all_live c.args.codes.now (g.N.NameTable.entries c.args.names.now) c.args.groups.now c.requires.coded c.args.rows (subst IsRows c.rows.view_is c.rows.invariant) c.number_of.result c.number_of.ensures.number c.index-groups-number_of.result c.index-groups-number_of.is c.groups.result.now c.groups.ensures

pub returns-then-not-any_uses-clause-areas : goal.returns-then-not-any_uses-clause-areas
returns-then-not-any_uses-clause-areas g c before agree =
    let none : c.any_uses.result ≡ false = search rules in
    kept c.args.codes.now c.args.name.now before (g.N.NameTable.entries c.args.names.now) agree c.args.groups.now c.requires.coded c.args.rows (subst IsRows c.rows.view_is c.rows.invariant) c.number_of.result c.number_of.ensures.number c.index-groups-number_of.result c.index-groups-number_of.is c.groups.result.now c.groups.ensures (c.any_uses.ensures none) (areas_read c.args.hub.now)
