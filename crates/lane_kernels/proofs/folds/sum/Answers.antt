use Rattle.std.proofs.Common.{◌≡◌, ◌<◌, ℤ, pos, ◌+ℤ◌, get_or, take, length, FitsSigned, to_z, of_z, arith, rules, w64, ap}
use Rattle.std.proofs.lemmas.Int.{ints, to_z-of_z}
use Rattle.std.proofs.lemmas.List.Sums.{fold_more}
use Rattle.std.proofs.lemmas.List.{take_all}
use Rattle.lane_kernels.specs.Folds.{total}
use Rattle.lane_kernels.proofs.Halves.{split}
use Rattle.lane_kernels.proofs.folds.sum.Goals as goal

pub loop-item-preserved : goal.loop-item-preserved
loop-item-preserved c =
    let item : ℤ = get_or c.args.items.now c.loop-item.item-index (pos 0) in
    let fits : FitsSigned w64 item = search rules in
    let inside : c.loop-item.item-index < length c.args.items.now = omega arith in
    let more = fold_more ◌+ℤ◌ (pos 0) c.args.items.now c.loop-item.item-index (pos 0) inside in
    let halves = split item fits in
    let same : to_z w64 (of_z w64 item) ≡ item = to_z-of_z w64 item fits in
    rw same record {
      joined = rw more (omega (arith, ints));
      low = omega (arith, ints);
      low_most = omega (arith, ints);
      high = omega (arith, ints);
      high_most = omega (arith, ints);
    }

pub returns : goal.returns
returns c =
    let all : take c.loop-item.item-index c.args.items.now ≡ c.args.items.now = take_all c.loop-item.item-index c.args.items.now (omega arith) in
    let sum_is = ap total all in
    omega (arith, ints, c.from.ensures, c.from-2.ensures)
