use Rattle.std.proofs.Common.{◌≤◌, ◌⊎◌, inl, inr, sym, ap, subst, ◌∙◌, arith}
use Rattle.calc_addr.specs.declared.cell.TheConstants.{LAST_ROW}
use Rattle.calc_addr.specs.Places.{Place}
use Rattle.moved_forms.specs.Alike.{moved_form}
use Rattle.moved_forms.proofs.Forms.{form_between}
use Rattle.moved_forms.proofs.alike.last_formula.Goals.{then-high-last, else-high-last}
use Rattle.moved_forms.proofs.alike.last_formula.Goals as goal

pub loop-low-preserved-then-branch : goal.loop-low-preserved-then-branch
loop-low-preserved-then-branch c =
    let now = c.loop-low.invariant in
    record {
      from = elim c.if-high-last.branch [
        | then-high-last w ↦ omega (arith, w.row-is, c.requires.order)
        | else-high-last w ↦ omega (arith, w.row-is, now.from)
      ];
      order = elim c.if-high-last.branch [
        | then-high-last w ↦ omega (arith, w.row-is, w.if-high-last.true)
        | else-high-last w ↦ omega (arith, w.row-is, c.loop-low-test.true)
      ];
      to = now.to;
      alike = ap (moved_form c.args.from c.args.formula.now) (sym c.in_row.ensures) ∙ c.in_ok-is_alike.ensures c.if-branch.true;
    }

pub returns-clause-alike : goal.returns-clause-alike
returns-clause-alike c row low high =
    let now = c.loop-low.invariant in
    let first = c.args.first in
    let fits : c.args.from.row ≤ LAST_ROW = subst (λ (q : Place). q.row ≤ LAST_ROW) c.from.view_is c.from.invariant.row_to in
    form_between c.args.from fits c.args.formula.now c.tree.ensures.formed first.sheet first.col first.row row c.loop-low.low low high
    (elim c.requires.side as (λ _. (c.args.from.row ≤ first.row) ⊎ (c.loop-low.low ≤ c.args.from.row)) [
      | inl below ↦ inl below
      | inr above ↦ inr (omega (arith, now.order, now.to, above))
    ])
    (sym now.alike)
