use Rattle.std.proofs.Common.{◌≡◌, true, not, sym, ap, subst, ◌∙◌, refl}
use Rattle.calc_addr.specs.Places.{Place}
use Rattle.calc_model.specs.Books.{Book, IsBook}
use Rattle.dirty_spread.specs.Waves.{has}
use Rattle.recalc.specs.Recalculation.{AreRight, beside}
use Rattle.workbook.specs.Workbook.{State, current, stale_of}
use Rattle.dirty_spread.proofs.Beside.{has_held, held_has}
use Rattle.recalc.specs.Evaluating.{Spends}
use Rattle.recalc.specs.Units.{HaveStaleUnits}
use Rattle.recalc.proofs.Counting.{counted}
use Rattle.workbook.proofs.Recalculating.{current_by, listed_stale, on_err_so, right_part, same_stale, shows_all, stale_formula}
use Rattle.workbook.proofs.Staleness.{none_stale}
use Rattle.workbook.proofs.workbook.Workbook.recalculate.Goals as goal

pub recalculate-requires-clause-right : goal.recalculate-requires-clause-right
recalculate-requires-clause-right g c = λ lifetimes lives.
    let old = c.args.self.now in
    let book : c.mend.new.self.book ≡ old.book = c.mend.ensures.book ∙ ap (λ (s : State). s.book) c.self.view_is in
    let touched : c.self.inside.touched ≡ old.touched = ap (λ (s : State). s.touched) c.self.view_is in
    let stale : (q : Place) → has c.in_ok-stale.stale q ≡ stale_of old q = λ q. listed_stale old c.parts-parts.result.now c.self.inside.touched (has c.in_ok-stale.stale q) q (c.parts-parts.ensures ∙ book) touched (c.in_ok-stale.ensures.cells q) in
    subst (λ rs. AreRight c.parts-parts.result.now rs (beside c.in_ok-stale.stale)) (sym (ap (λ (s : State). s.results) c.self.view_is))
    (right_part old.book c.parts-parts.result.now old.results (current old) (beside c.in_ok-stale.stale) (sym book ∙ sym c.parts-parts.ensures) (λ q h. sym (current_by old c.in_ok-stale.stale stale q) ∙ h) c.requires.fresh)

pub returns-in_err-stale-clause-kept : goal.returns-in_err-stale-clause-kept
returns-in_err-stale-clause-kept g c =
    on_err_so c.from_residual-in_err-stale.result (same_stale _ c.args.self.now (c.mend.ensures.book ∙ ap (λ (s : State). s.book) c.self.view_is) (ap (λ (s : State). s.touched) c.self.view_is))

pub returns-in_err-done-clause-kept : goal.returns-in_err-done-clause-kept
returns-in_err-done-clause-kept g c =
    on_err_so c.from_residual-in_err-done.result (same_stale _ c.args.self.now (c.mend.ensures.book ∙ ap (λ (s : State). s.book) c.self.view_is) (ap (λ (s : State). s.touched) c.self.view_is))

pub returns-in_err-stale-clause-fresh : goal.returns-in_err-stale-clause-fresh
returns-in_err-stale-clause-fresh g c =
    let old = c.args.self.now in
    let book : c.mend.new.self.book ≡ old.book = c.mend.ensures.book ∙ ap (λ (s : State). s.book) c.self.view_is in
    let now : State = record { book = c.mend.new.self.book; spent = c.mend.new.self.spent; results = c.self.inside.results; touched = c.self.inside.touched; dead = c.self.inside.dead } in
    subst (λ rs. AreRight now.book rs (current now)) (sym (ap (λ (s : State). s.results) c.self.view_is))
    (right_part old.book now.book old.results (current old) (current now) (sym book) (λ q h. ap not (sym (same_stale now old book (ap (λ (s : State). s.touched) c.self.view_is) q)) ∙ h) c.requires.fresh)

pub returns-in_err-done-clause-fresh : goal.returns-in_err-done-clause-fresh
returns-in_err-done-clause-fresh g c =
    let now : State = record { book = c.mend.new.self.book; spent = c.mend.new.self.spent; results = c.recalculate.new.self; touched = c.self.inside.touched; dead = c.self.inside.dead } in
    let stale : (q : Place) → has c.in_ok-stale.stale q ≡ stale_of now q = λ q. listed_stale now c.parts-parts.result.now c.self.inside.touched (has c.in_ok-stale.stale q) q c.parts-parts.ensures refl (c.in_ok-stale.ensures.cells q) in
    right_part c.parts-parts.result.now now.book c.recalculate.new.self (beside c.in_ok-stale.stale) (current now) c.parts-parts.ensures (λ q h. current_by now c.in_ok-stale.stale stale q ∙ h) c.recalculate.ensures.kept

pub returns-clause-fresh : goal.returns-clause-fresh
returns-clause-fresh g c =
    right_part c.parts-parts.result.now c.mend.new.self.book c.recalculate.new.self (λ q. true) (current _) c.parts-parts.ensures (λ q h. refl) c.in_ok-done.ensures.right

pub returns-clause-values : goal.returns-clause-values
returns-clause-values g c =
    shows_all _ (subst (λ (b : Book). AreRight b c.recalculate.new.self (λ q. true)) c.parts-parts.ensures c.in_ok-done.ensures.right)

pub returns-clause-stale : goal.returns-clause-stale
returns-clause-stale g c = none_stale _ c.none.ensures.cells c.none.ensures.names

pub returns-clause-count : goal.returns-clause-count
returns-clause-count g c =
    let old = c.args.self.now in
    let book : c.mend.new.self.book ≡ old.book = c.mend.ensures.book ∙ ap (λ (s : State). s.book) c.self.view_is in
    let stale : (q : Place) → has c.in_ok-stale.stale q ≡ stale_of old q = λ q. listed_stale old c.parts-parts.result.now c.self.inside.touched (has c.in_ok-stale.stale q) q (c.parts-parts.ensures ∙ book) (ap (λ (s : State). s.touched) c.self.view_is) (c.in_ok-stale.ensures.cells q) in
    c.in_ok-done.ensures.count ∙ counted old.book (stale_of old) (stale_formula old) c.in_ok-stale.stale (subst IsBook (c.parts.ensures ∙ book) c.are_book.ensures) c.in_ok-stale.ensures.in_order stale

pub returns-clause-steps : goal.returns-clause-steps
returns-clause-steps g c =
    let old = c.args.self.now in
    let book : c.mend.new.self.book ≡ old.book = c.mend.ensures.book ∙ ap (λ (s : State). s.book) c.self.view_is in
    let stale : (q : Place) → has c.in_ok-stale.stale q ≡ stale_of old q = λ q. listed_stale old c.parts-parts.result.now c.self.inside.touched (has c.in_ok-stale.stale q) q (c.parts-parts.ensures ∙ book) (ap (λ (s : State). s.touched) c.self.view_is) (c.in_ok-stale.ensures.cells q) in
    subst (λ n. Spends c.args.steps.now c.recalculate.new.steps n) (counted old.book (stale_of old) (stale_formula old) c.in_ok-stale.stale (subst IsBook (c.parts.ensures ∙ book) c.are_book.ensures) c.in_ok-stale.ensures.in_order stale) c.in_ok-done.ensures.steps

pub returns-clause-units : goal.returns-clause-units
returns-clause-units g c =
    let old = c.args.self.now in
    let book : c.mend.new.self.book ≡ old.book = c.mend.ensures.book ∙ ap (λ (s : State). s.book) c.self.view_is in
    let cells = c.in_ok-stale.stale in
    let stale : (q : Place) → has cells q ≡ stale_of old q = λ q. listed_stale old c.parts-parts.result.now c.self.inside.touched (has cells q) q (c.parts-parts.ensures ∙ book) (ap (λ (s : State). s.touched) c.self.view_is) (c.in_ok-stale.ensures.cells q) in (
      cells,
      record { in_order = c.in_ok-stale.ensures.in_order; exact = λ q. (λ there. sym (stale q) ∙ held_has cells q there, λ is. has_held cells q (stale q ∙ is)) },
      subst (λ (b : Book). HaveStaleUnits b cells c.in_ok-done.done.units) (c.parts-parts.ensures ∙ book) c.in_ok-done.ensures.units,
    )
