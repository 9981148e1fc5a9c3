use Rattle.std.proofs.Common.{◌≡◌, Some, slice_get, List, ap, subst, ◌∙◌, arith}
use Rattle.std.proofs.lemmas.Option.{get_or_from_slice_get, slice_get_within}
use Rattle.calc_addr.specs.Places.{Place, Rows, IsRows}
use Rattle.dirty_spread.proofs.Cells.{on_ok}
use Rattle.dirty_spread.proofs.Listing.{StandsAt}
use Rattle.dirty_spread.proofs.Stepping.{run_fits, run_marked}
use Rattle.dirty_spread.proofs.marking.mark_run.Goals as goal

abbrev first_of : Rows → Place
first_of run = record { sheet = run.sheet; col = run.col; row = run.first }

stands : (cells : List Place) (i : _) (run inside : Rows) → inside ≡ run → slice_get cells i ≡ Some (first_of inside) → StandsAt cells i (first_of run)
stands cells i run inside is at =
    let here : slice_get cells i ≡ Some (first_of run) = at ∙ ap (λ r. Some (first_of r)) is in
    record { within = slice_get_within cells i (first_of run) here; here = get_or_from_slice_get cells i (first_of run) (first_of run) here }

pub mark_rows-requires : goal.mark_rows-requires
mark_rows-requires c =
    let run = c.args.run.now in
    let rows : IsRows run = subst IsRows c.run.view_is c.run.invariant in
    let fits = run_fits c.args.formulas.now c.requires.in_order run c.in-Some.from (stands c.args.formulas.now c.in-Some.from run _ c.run.view_is c.in-Some.ensures.at) c.requires.formulas rows.in_order in
    omega (arith, fits, c.requires.size)

pub returns-in-Some : goal.returns-in-Some
returns-in-Some c =
    let run = c.args.run.now in
    on_ok c.mark_rows.result
    (run_marked c.args.formulas.now c.requires.in_order run c.in-Some.from c.args.marks.now c.mark_rows.new.marks c.args.found.now.items c.mark_rows.new.found.items
    (stands c.args.formulas.now c.in-Some.from run _ c.run.view_is c.in-Some.ensures.at) c.requires.formulas)
    c.mark_rows.ensures
