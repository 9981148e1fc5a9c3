use Rattle.std.proofs.Common.{ap, sym, ◌∙◌, w64}
use Rattle.std.specs.Prelude.{int_lt, position}
use Rattle.std.specs.Ordering.{int_cmp, is_eq, is_gt, is_lt}
use Rattle.std.proofs.lemmas.Int.{to_z-of_z}
use Rattle.fn_lookup.specs.Scans.{is_past}
use Rattle.fn_lookup.proofs.Running.{is-above, is-below, same-place}
use Rattle.fn_lookup.proofs.scan.small_place_past.Goals as goal

pub returns-in-Exact : goal.returns-in-Exact
returns-in-Exact c =
    c.place_equal.ensures ∙ ap (λ k. position (λ n. is_eq (int_cmp n k)) c.args.items.now) (to_z-of_z w64 c.args.sought c.ranges.sought)
    ∙ ap (λ s. position (λ n. is_past s (int_cmp n c.args.sought)) c.args.items.now) (sym c.in-Exact.is)

pub returns-in-Ascending : goal.returns-in-Ascending
returns-in-Ascending c =
    c.place_above.ensures ∙ ap (λ k. position (λ n. int_lt k n) c.args.items.now) (to_z-of_z w64 c.args.sought c.ranges.sought)
    ∙ same-place (λ n. int_lt c.args.sought n) (λ n. is_gt (int_cmp n c.args.sought)) (λ n. is-above n c.args.sought) c.args.items.now
    ∙ ap (λ s. position (λ n. is_past s (int_cmp n c.args.sought)) c.args.items.now) (sym c.in-Ascending.is)

pub returns-in-Descending : goal.returns-in-Descending
returns-in-Descending c =
    c.place_below.ensures ∙ ap (λ k. position (λ n. int_lt n k) c.args.items.now) (to_z-of_z w64 c.args.sought c.ranges.sought)
    ∙ same-place (λ n. int_lt n c.args.sought) (λ n. is_lt (int_cmp n c.args.sought)) (λ n. is-below n c.args.sought) c.args.items.now
    ∙ ap (λ s. position (λ n. is_past s (int_cmp n c.args.sought)) c.args.items.now) (sym c.in-Descending.is)
