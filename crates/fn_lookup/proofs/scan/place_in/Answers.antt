use Rattle.std.proofs.Common.{◌<◌, ap, length, subst, sym, ◌∙◌, arith, w64}
use Rattle.std.specs.Option.{IfSome}
use Rattle.std.proofs.lemmas.Int.{to_z-of_z}
use Rattle.std.proofs.lemmas.List.{length-append}
use Rattle.calc_model.specs.Meanings.{values_in}
use Rattle.calc_model.specs.UsedCells.{values_of}
use Rattle.fn_args.specs.Lent.{wanted_value}
use Rattle.fn_args.proofs.Tallying.{few_cells}
use Rattle.fn_lookup.specs.Scans.{search_of}
use Rattle.fn_lookup.specs.declared.scan.Scan.{Scan}
use Rattle.fn_lookup.proofs.Running.{no-further}
use Rattle.fn_lookup.proofs.Finding.{ended-finds, further, left-finds, place-within}
use Rattle.fn_lookup.proofs.scan.place_in.Goals as goal

pub take-requires-clause-room : goal.take-requires-clause-room
take-requires-clause-room g c =
    let size = ap length c.in-Some.ensures.steps.front ∙ length-append (values_of c.in-Some.piece) c.next.new.self in
    omega (arith, size, c.loop-piece.invariant.2, few_cells (g.V.Values.values c.args.values.now) c.args.line c.lies_in_sheet.ensures)

pub returns-then-scan-clause-place : goal.returns-then-scan-clause-place
returns-then-scan-clause-place g c =
    let all = values_in (g.V.Values.values c.args.values.now) c.args.line in
    let front = values_of c.in-Some.piece in
    ended-finds c.of-search.result (wanted_value c.args.sought.now) all c.loop-piece.scan c.take.new.self c.loop-piece.piece-iterator front c.next.new.self
    c.loop-piece.invariant.1 c.take.ensures c.in-Some.ensures.steps.front c.if-scan.true c.args.number (c.of-search.ensures ∙ ap search_of (to_z-of_z w64 c.args.number c.ranges.number))

pub returns-then-scan-clause-within : goal.returns-then-scan-clause-within
returns-then-scan-clause-within g c =
    let all = values_in (g.V.Values.values c.args.values.now) c.args.line in
    subst (λ r. IfSome r (λ place. place < length all)) (sym (returns-then-scan-clause-place g c)) (place-within c.args.number (wanted_value c.args.sought.now) all)

pub returns-then-scan-clause-few : goal.returns-then-scan-clause-few
returns-then-scan-clause-few g c =
    few_cells (g.V.Values.values c.args.values.now) c.args.line c.lies_in_sheet.ensures

pub loop-piece-preserved : goal.loop-piece-preserved
loop-piece-preserved g c =
    let all = values_in (g.V.Values.values c.args.values.now) c.args.line in
    let front = values_of c.in-Some.piece in
    let sought = wanted_value c.args.sought.now in
    let size = ap length c.in-Some.ensures.steps.front ∙ length-append front c.next.new.self in
    let place = ap (λ (s : Scan). s.place) c.take.ensures in (
      c.if-scan.false,
      further c.of-search.result sought all c.loop-piece.scan c.take.new.self c.loop-piece.piece-iterator front c.next.new.self c.loop-piece.invariant.1 c.take.ensures c.in-Some.ensures.steps.front,
      omega (arith, size, place, no-further c.of-search.result sought front c.loop-piece.scan, c.loop-piece.invariant.2),
      tt,
      tt,
    )

pub returns-clause-place : goal.returns-clause-place
returns-clause-place g c =
    let all = values_in (g.V.Values.values c.args.values.now) c.args.line in
    left-finds c.of-search.result (wanted_value c.args.sought.now) all c.loop-piece.scan c.loop-piece.piece-iterator
    c.loop-piece.invariant.1 (c.in-None.ensures {u = tt}).steps.0 c.args.number (c.of-search.ensures ∙ ap search_of (to_z-of_z w64 c.args.number c.ranges.number))

pub returns-clause-within : goal.returns-clause-within
returns-clause-within g c =
    let all = values_in (g.V.Values.values c.args.values.now) c.args.line in
    subst (λ r. IfSome r (λ place. place < length all)) (sym (returns-clause-place g c)) (place-within c.args.number (wanted_value c.args.sought.now) all)

pub returns-clause-few : goal.returns-clause-few
returns-clause-few g c =
    few_cells (g.V.Values.values c.args.values.now) c.args.line c.lies_in_sheet.ensures
