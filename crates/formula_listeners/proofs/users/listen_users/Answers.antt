use Rattle.std.proofs.Common.{◌≤◌, ◌<◌, cond, ap, subst, ◌∙◌, arith}
use Rattle.calc_addr.specs.declared.cell.TheConstants.{LAST_SHEET}
use Rattle.calc_addr.specs.Places.{covers}
use Rattle.listener_hub.specs.Hubs.{areas_read}
use Rattle.formula_code.specs.Coded.{coded_areas}
use Rattle.formula_groups.specs.GroupRows.{columns_of}
use Rattle.formula_listeners.specs.Renamed.{AgreeElsewhere}
use Rattle.formula_listeners.proofs.AreaCells.{all_sheets, in_sheet, not_earlier, one_sheet_more, sheet_area}
use Rattle.formula_listeners.proofs.WholeBooks.{holds_renamed}
use Rattle.formula_listeners.proofs.users.listen_users.Goals as goal

pub loop-sheet-preserved : goal.loop-sheet-preserved
loop-sheet-preserved g c =
    let names = g.N.NameTable.entries c.args.names.now in
    let columns = columns_of c.args.groups.now in
    let codes = c.args.codes.now in
    let sheet = c.loop-sheet.sheet in
    let low : sheet ≤ LAST_SHEET = omega (arith, c.loop-sheet-test.true) in
    record {
      ready = c.in_ok-renew_area.ensures.ready;
      areas = λ before agree holds q.
          c.in_ok-renew_area.ensures.areas before agree
          (λ p h.
          c.loop-sheet.invariant.areas before agree holds p
          ∙ ap (λ b. cond b (coded_areas codes names columns p) (areas_read c.args.hub.now p)) (not_earlier sheet low p h)
          ∙ holds p (in_sheet sheet low p h)) q
          ∙ ap (λ o. cond (covers (sheet_area sheet) q) (coded_areas codes names columns q) o) (c.loop-sheet.invariant.areas before agree holds q)
          ∙ one_sheet_more sheet low q (coded_areas codes names columns q) (areas_read c.args.hub.now q);
    }

pub returns-clause-areas : goal.returns-clause-areas
returns-clause-areas g c before agree holds q =
    let past : LAST_SHEET < c.loop-sheet.sheet = omega (arith, c.loop-sheet-test.false) in
    c.loop-sheet.invariant.areas before agree holds q
    ∙ ap (λ b. cond b (coded_areas c.args.codes.now (g.N.NameTable.entries c.args.names.now) (columns_of c.args.groups.now) q) (areas_read c.args.hub.now q))
    (all_sheets c.loop-sheet.sheet q past)

pub returns-clause-held : goal.returns-clause-held
returns-clause-held g c book after is are cells named agree holds =
    let names = g.N.NameTable.entries c.args.names.now in
    holds_renamed c.args.codes.now names (columns_of c.args.groups.now) book after (areas_read c.args.hub.now) (areas_read c.loop-sheet.hub) is are cells named holds
    (λ coded q. returns-clause-areas g c book.names (subst (AgreeElsewhere c.args.name.now book.names) named agree) coded q)
