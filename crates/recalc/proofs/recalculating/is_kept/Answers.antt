use Rattle.std.proofs.Common.{◌≡◌, ◌&&◌, Bool, not, refl, sym, ap, ◌∙◌, true, false}
use Rattle.calc_model.specs.Books.{is_formula}
use Rattle.calc_model.specs.Stale.{is_formula_cell}
use Rattle.dirty_spread.specs.Waves.{has}
use Rattle.recalc.proofs.Listed.{placed_has}
use Rattle.recalc.proofs.recalculating.is_kept.Goals as goal

not_twice : (a b : Bool) → a ≡ not b → b ≡ not a
not_twice true true h = cc
not_twice true false h = refl
not_twice false true h = refl
not_twice false false h = cc

pub returns-in-Some : goal.returns-in-Some
returns-in-Some c =
    let formula : is_formula_cell c.args.parts.now c.args.cell ≡ true = ap is_formula c.in-Some.ensures.coded.content in
    not_twice _ c.is_none.result c.is_none.ensures ∙ ap not (placed_has c.args.stale.now c.args.cell c.place.result c.place.ensures.at c.place.ensures.absent)
    ∙ ap (λ b. b && not (has c.args.stale.now c.args.cell)) (sym formula)
