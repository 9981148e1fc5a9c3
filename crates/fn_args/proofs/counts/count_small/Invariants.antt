use Rattle.std.proofs.Common.{◌≡◌, ◌≤◌, take}
use Rattle.std.specs.List.{count_by}
use Rattle.calc_model.specs.declared.value.Value.TheVariants as value
use Rattle.fn_args.proofs.counts.count_small.Given as goal

abbrev pub invariant-loop-item : goal.invariant-loop-item
invariant-loop-item g l =
    (l.count ≡ count_by (λ n. g.T.Test.test l.test (value.Number n)) (take l.item-index l.items)) × (l.count ≤ l.item-index)
