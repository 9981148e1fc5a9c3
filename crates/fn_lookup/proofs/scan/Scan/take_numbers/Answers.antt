use Rattle.std.proofs.Common.{◌≡◌, ap, get_or, length, pos, rules, w64, Some, ◌∙◌, arith}
use Rattle.std.specs.Ordering.{int_cmp}
use Rattle.std.proofs.lemmas.Int.{to_z-of_z}
use mir.Val.{SFits}
use Rattle.fn_lookup.specs.Scans.{with_order, with_run}
use Rattle.fn_lookup.proofs.Running.{first-within, run-all, run-some}
use Rattle.fn_lookup.proofs.scan.Scan.take_numbers.Goals as goal

pub take_run-requires-clause-room : goal.take_run-requires-clause-room
take_run-requires-clause-room c =
    omega (arith, first-within c.args.search c.args.sought c.args.items.now c.first_past-count.result c.first_past-count.ensures, c.requires.room)

pub returns-then-count-items : goal.returns-then-count-items
returns-then-count-items c =
    let there = run-some c.args.search c.args.sought c.args.items.now c.args.self.now c.requires.running c.first_past-count.result c.first_past-count.ensures c.if-count-items.true in
    let fits : SFits w64 (get_or c.args.items.now c.first_past-count.result (pos 0)) = search rules in
    let order : c.order_of-order.result ≡ int_cmp (get_or c.args.items.now c.first_past-count.result (pos 0)) c.args.sought =
    c.order_of-order.ensures ∙ ap (λ n. int_cmp n c.args.sought) (c.small.ensures ∙ to_z-of_z w64 _ fits) in
    c.take_one.ensures ∙ ap (λ s. with_order c.args.search s (Some c.order_of-order.result)) c.take_run.ensures ∙ ap (λ o. with_order c.args.search (with_run c.args.search c.args.self.now c.first_past-count.result) (Some o)) order ∙ there

pub returns-else-count-items : goal.returns-else-count-items
returns-else-count-items c =
    let within = first-within c.args.search c.args.sought c.args.items.now c.first_past-count.result c.first_past-count.ensures in
    let all : c.first_past-count.result ≡ length c.args.items.now = omega (arith, within, c.if-count-items.false) in
    c.take_run.ensures ∙ run-all c.args.search c.args.sought c.args.items.now c.args.self.now c.requires.running c.first_past-count.result c.first_past-count.ensures all
