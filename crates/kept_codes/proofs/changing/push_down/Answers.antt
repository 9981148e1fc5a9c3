use Rattle.std.proofs.Common.{◌+◌, ◌∷◌, ◌++◌, List, [], sym, ap, subst, ◌∙◌, arith}
use Rattle.calc_addr.specs.Places.{Place}
use Rattle.kept_codes.specs.Gathered.{Formulas, Gathers, InRows}
use Rattle.kept_codes.proofs.Gathering.{a_formula, none_gathered, one_gathered, rows_then}
use Rattle.kept_codes.proofs.changing.push_down.Goals as goal

pub loop-row-init : goal.loop-row-init
loop-row-init c = record { from = omega arith; to = c.requires.order; gathers = none_gathered c.args.codes.now c.args.change c.args.number c.args.code c.args.first c.args.out.now.items }

pub cell_in-home-requires-clause-from : goal.cell_in-home-requires-clause-from
cell_in-home-requires-clause-from c = (a_formula c.args.codes.now c.args.change c.args.number c.args.code c.args.first c.args.behind c.loop-row.row c.requires.formulas c.loop-row.invariant.from c.loop-row-test.true).place.row_from

pub cell_in-home-requires-clause-to : goal.cell_in-home-requires-clause-to
cell_in-home-requires-clause-to c = (a_formula c.args.codes.now c.args.change c.args.number c.args.code c.args.first c.args.behind c.loop-row.row c.requires.formulas c.loop-row.invariant.from c.loop-row-test.true).place.row_to

pub keeps-requires-clause-formula : goal.keeps-requires-clause-formula
keeps-requires-clause-formula c =
    subst (λ q. Formulas c.args.codes.now c.args.change q c.args.code) (sym c.cell_in-home.ensures)
    (a_formula c.args.codes.now c.args.change c.args.number c.args.code c.args.first c.args.behind c.loop-row.row c.requires.formulas c.loop-row.invariant.from c.loop-row-test.true)

pub loop-row-preserved : goal.loop-row-preserved
loop-row-preserved c = record {
  from = omega (arith, c.loop-row.invariant.from);
  to = omega (arith, c.loop-row-test.true);
  gathers =
      rows_then c.args.codes.now c.args.change c.args.number c.args.code c.args.first c.loop-row.row (c.loop-row.row + 1) c.loop-row.invariant.from (omega arith) c.args.out.now.items c.loop-row.out.items c.push.new.self.items c.loop-row.invariant.gathers
      (subst (λ (new : List Place). Gathers c.args.codes.now c.args.change (InRows c.args.number c.loop-row.row (c.loop-row.row + 1) c.args.code) c.loop-row.out.items new)
      (sym (c.in_ok-push.ensures.items ∙ ap (λ (q : Place). c.loop-row.out.items ++ q ∷ []) c.cell_in-home.ensures))
      (one_gathered c.args.codes.now c.args.change c.args.number c.args.code c.loop-row.row c.loop-row.out.items));
}
