use Rattle.std.proofs.Common.{◌≡◌, ◌||◌, ◌++◌, List, [], take, sym, ap, subst, ◌∙◌}
use Rattle.std.proofs.lemmas.Bool.{or_cases}
use Rattle.std.proofs.lemmas.List.{take_all}
use Rattle.std.proofs.lemmas.List.Folds.{list_any_more}
use Rattle.calc_addr.specs.Places.{Rows}
use Rattle.calc_model.specs.Listeners.{AreReached, Gets, ReadAreas}
use Rattle.run_unions.specs.Unions.{is_in}
use Rattle.dirty_spread.specs.Marking.{is_in_any}
use Rattle.dirty_spread.proofs.Reading.{reached_all, reached_formula}
use Rattle.dirty_spread.proofs.Stepping.{marked_as, marked_then}
use Rattle.dirty_spread.proofs.spreading.follow.Goals as goal

-- what an empty list got is all that it has
all_got : {P : List Rows → Type 0} (old new lent : List Rows) → Gets old new P → old ≡ [] → lent ≡ new → P lent
all_got {P = P} old new lent (items, is, said) empty same =
    let all : new ≡ items = is ∙ ap (λ xs. xs ++ items) empty in
    subst P (sym (same ∙ all)) said

pub mark_run-requires-clause-formulas : goal.mark_run-requires-clause-formulas
mark_run-requires-clause-formulas g c =
    let read : ReadAreas = g.H.Dependents.areas c.args.hub.now in
    let runs : List Rows = c.as_slice-run-items.result.now in
    let reached : AreReached read c.args.area runs = all_got {P = AreReached read c.args.area} c.clear.new.self.items c.reached.new.out.items runs c.in_ok-reached.ensures.ok c.clear.ensures.items c.as_slice-run-items.ensures.value in
    λ q h. (reached_formula read c.args.formulas.now c.requires.formulas c.args.area runs reached c.loop-run.run-index c.run-item.result c.loop-run-test.true c.run-item.is q h).0

pub loop-run-preserved : goal.loop-run-preserved
loop-run-preserved g c =
    let read : ReadAreas = g.H.Dependents.areas c.args.hub.now in
    let cells = c.args.formulas.now in
    let runs : List Rows = c.as_slice-run-items.result.now in
    let i = c.loop-run.run-index in
    let run = c.run-item.result in
    let reached : AreReached read c.args.area runs = all_got {P = AreReached read c.args.area} c.clear.new.self.items c.reached.new.out.items runs c.in_ok-reached.ensures.ok c.clear.ensures.items c.as_slice-run-items.ensures.value in
    marked_as cells
    (λ q h. or_cases (is_in_any q (take i runs)) (is_in q run)
    (sym (list_any_more (is_in q) runs i run c.loop-run-test.true ∙ ap (λ (r : Rows). is_in_any q (take i runs) || is_in q r) (sym c.run-item.is)) ∙ h))
    (λ q h. h)
    (marked_then cells c.loop-run.invariant
    (marked_as cells (λ q h. h) (λ q h. (reached_formula read cells c.requires.formulas c.args.area runs reached i run c.loop-run-test.true c.run-item.is q h).1) c.in_ok-mark_run.ensures))

pub returns : goal.returns
returns g c =
    let read : ReadAreas = g.H.Dependents.areas c.args.hub.now in
    let runs : List Rows = c.as_slice-run-items.result.now in
    let reached : AreReached read c.args.area runs = all_got {P = AreReached read c.args.area} c.clear.new.self.items c.reached.new.out.items runs c.in_ok-reached.ensures.ok c.clear.ensures.items c.as_slice-run-items.ensures.value in
    marked_as c.args.formulas.now
    (λ q h. ap (is_in_any q) (take_all c.loop-run.run-index runs c.loop-run-test.false) ∙ reached_all read c.args.formulas.now c.requires.formulas c.args.area runs reached q h)
    (λ q h. h)
    c.loop-run.invariant
