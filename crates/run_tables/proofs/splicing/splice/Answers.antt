use Rattle.std.proofs.Common.{◌≡◌, ◌+◌, map, drop, take, sym, ap, subst, ◌∙◌}
use Rattle.std.specs.List.{All}
use Rattle.std.specs.Option.{option_map}
use Rattle.run_tables.specs.Runs.{Rises, moved}
use Rattle.run_tables.specs.Edges.{IsPast}
use Rattle.run_tables.proofs.Tables.{tail-past-min, ends-fit, spliced-table}
use Rattle.run_tables.proofs.splicing.splice.Goals as goal

pub move_tail-requires-clause-past : goal.move_tail-requires-clause-past
move_tail-requires-clause-past g c =
    let runs = c.as_slice-runs.result.now in
    let rises = subst (λ v. Rises 1 (map g.P.Piece.run v)) (sym (c.as_slice-runs.ensures.value ∙ c.reserve.ensures.items)) c.requires.in_order in
    subst (λ v. All (λ p. IsPast c.args.to (g.P.Piece.run p)) (drop c.min-end.result v)) c.as_slice-runs.ensures.value
    (tail-past-min g.P.Piece.run c.args.to c.first_ending_past-high.result c.min-end.result runs rises c.first_ending_past-high.ensures.place c.min-end.ensures)

pub replace-requires-clause-order : goal.replace-requires-clause-order
replace-requires-clause-order g c =
    let rises = subst (λ v. Rises 1 (map g.P.Piece.run v)) (sym (c.as_slice-runs.ensures.value ∙ c.reserve.ensures.items)) c.requires.in_order in
    ends-fit g.P.Piece.run c.args.from c.args.to c.first_past-low.result c.first_ending_past-high.result c.saturating_sub-start.result c.min-end.result c.as_slice-runs.result.now
    c.requires.order rises c.first_past-low.ensures.within c.first_ending_past-high.ensures.within c.first_past-low.ensures.place c.first_ending_past-high.ensures.place c.saturating_sub-start.ensures c.min-end.ensures

pub returns-clause-done : goal.returns-clause-done
returns-clause-done g c =
    let runs = c.as_slice-runs.result.now in
    let same_runs = c.as_slice-runs.ensures.value ∙ c.reserve.ensures.items in
    let rises = subst (λ v. Rises 1 (map g.P.Piece.run v)) (sym same_runs) c.requires.in_order in
    let front = subst (λ v. take c.min-end.result c.move_tail.new.table.items ≡ take c.min-end.result v) (sym c.as_slice-runs.ensures.value) c.move_tail.ensures.front in
    let back = subst (λ v. map g.P.Piece.run (drop c.min-end.result c.move_tail.new.table.items) ≡ map (moved c.args.to (c.args.from + c.args.rows)) (map g.P.Piece.run (drop c.min-end.result v))) (sym c.as_slice-runs.ensures.value) c.move_tail.ensures.back in
    λ s long is.
    spliced-table g.P.Piece.run g.P.Piece.same g.met.P.Piece.decides c.args.from c.args.to c.args.rows c.first_past-low.result c.first_ending_past-high.result c.saturating_sub-start.result c.min-end.result
    (option_map (λ p. (g.P.Piece.run p).key) c.args.key) runs c.move_tail.new.table.items c.replace.new.table.items
    c.left_part-left.result c.right_part-right.result c.fill_part.result c.meet_pieces-middle.result.0 c.meet_pieces-first.result.0 c.meet_pieces-first.result.1 c.meet_pieces-middle.result.1
    c.requires.order rises c.first_past-low.ensures.within c.first_ending_past-high.ensures.within c.first_past-low.ensures.place c.first_ending_past-high.ensures.place c.saturating_sub-start.ensures c.min-end.ensures
    c.left_part-left.ensures c.right_part-right.ensures c.fill_part.ensures c.meet_pieces-middle.ensures c.meet_pieces-first.ensures front back c.replace.ensures.items
    s long (ap (map g.P.Piece.run) same_runs ∙ is)
