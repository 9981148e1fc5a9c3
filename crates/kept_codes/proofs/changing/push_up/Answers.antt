use Rattle.std.proofs.Common.{◌≡◌, ℕ, ◌<◌, ◌+◌, ◌-◌, ◌∷◌, ◌++◌, List, [], sym, ap, subst, ◌∙◌, arith}
use Rattle.calc_addr.specs.Places.{Place}
use Rattle.kept_codes.specs.Gathered.{Formulas, Gathers, InRows}
use Rattle.kept_codes.proofs.Gathering.{a_formula, none_gathered, one_gathered, rows_before}
use Rattle.kept_codes.proofs.changing.push_up.Goals as goal

pub loop-row-init : goal.loop-row-init
loop-row-init c = record { from = c.requires.order; to = omega arith; gathers = none_gathered c.args.codes.now c.args.change c.args.number c.args.code c.args.behind c.args.out.now.items }

pub cell_in-home-requires-clause-from : goal.cell_in-home-requires-clause-from
cell_in-home-requires-clause-from c = (a_formula c.args.codes.now c.args.change c.args.number c.args.code c.args.first c.args.behind (c.loop-row.row - 1) c.requires.formulas (omega (arith, c.loop-row-test.true)) (omega (arith, c.loop-row-test.true, c.loop-row.invariant.to))).place.row_from

pub cell_in-home-requires-clause-to : goal.cell_in-home-requires-clause-to
cell_in-home-requires-clause-to c = (a_formula c.args.codes.now c.args.change c.args.number c.args.code c.args.first c.args.behind (c.loop-row.row - 1) c.requires.formulas (omega (arith, c.loop-row-test.true)) (omega (arith, c.loop-row-test.true, c.loop-row.invariant.to))).place.row_to

pub keeps-requires-clause-formula : goal.keeps-requires-clause-formula
keeps-requires-clause-formula c =
    subst (λ q. Formulas c.args.codes.now c.args.change q c.args.code) (sym c.cell_in-home.ensures)
    (a_formula c.args.codes.now c.args.change c.args.number c.args.code c.args.first c.args.behind (c.loop-row.row - 1) c.requires.formulas (omega (arith, c.loop-row-test.true)) (omega (arith, c.loop-row-test.true, c.loop-row.invariant.to)))

again : (row first : ℕ) → first < row → row - 1 + 1 ≡ row
again row first h = omega (arith, h)

pub loop-row-preserved : goal.loop-row-preserved
loop-row-preserved c =
    let row : ℕ = c.loop-row.row - 1 in
    record {
      from = omega (arith, c.loop-row-test.true);
      to = omega (arith, c.loop-row.invariant.to);
      gathers =
          rows_before c.args.codes.now c.args.change c.args.number c.args.code row c.loop-row.row c.args.behind (omega arith) c.loop-row.invariant.to c.args.out.now.items c.loop-row.out.items c.push.new.self.items c.loop-row.invariant.gathers
          (subst (λ (behind : ℕ). Gathers c.args.codes.now c.args.change (InRows c.args.number row behind c.args.code) c.loop-row.out.items c.push.new.self.items) (again c.loop-row.row c.args.first c.loop-row-test.true)
          (subst (λ (new : List Place). Gathers c.args.codes.now c.args.change (InRows c.args.number row (row + 1) c.args.code) c.loop-row.out.items new)
          (sym (c.in_ok-push.ensures.items ∙ ap (λ (q : Place). c.loop-row.out.items ++ q ∷ []) c.cell_in-home.ensures))
          (one_gathered c.args.codes.now c.args.change c.args.number c.args.code row c.loop-row.out.items)));
    }
