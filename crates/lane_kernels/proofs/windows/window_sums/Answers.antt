use Rattle.std.proofs.Common.{◌≡◌, ◌<◌, ◌+◌, ◌-◌, pos, get_or, length, arith, rules, FitsSigned, w64, set, ap, below_more, get_or-set_other, get_or-set_same, ◌≢◌}
use Rattle.std.proofs.lemmas.List.{length-take-le}
use Rattle.std.proofs.lemmas.Int.{ints, to_z-of_z}
use Rattle.std.proofs.lemmas.List.FromFn.{fill_by_all}
use Rattle.lane_kernels.specs.Folds.{total, window}
use Rattle.lane_kernels.proofs.Sliding.{joins, leaves}
use Rattle.lane_kernels.proofs.windows.window_sums.Goals as goal

pub loop-place-init : goal.loop-place-init
loop-place-init c =
    let short = length-take-le (c.args.width - 1) c.args.items.now (omega arith) in
    record {
      running = omega (arith, ints);
      range = omega (arith, ints);
      written = λ k below. absurd (omega arith);
    }

pub loop-place-preserved : goal.loop-place-preserved
loop-place-preserved c =
    let items = c.args.items.now in
    let place = c.loop-place.place in
    let w = c.args.width - 1 in
    let wide : w + 1 ≡ c.args.width = omega arith in
    let last_at : place + c.args.width - 1 ≡ place + w = omega arith in
    let last : FitsSigned w64 (get_or items (place + c.args.width - 1) (pos 0)) = search rules in
    let first : FitsSigned w64 (get_or items place (pos 0)) = search rules in
    let last_is = rw (to_z-of_z w64 (get_or items (place + c.args.width - 1) (pos 0)) last, last_at) at c.from-running.ensures in
    let first_is = rw (to_z-of_z w64 (get_or items place (pos 0)) first) at c.from-running-in-loop-place.ensures in
    let joined = joins items w place (omega arith) in
    let left = leaves items w place (omega arith) in
    record {
      running = omega (arith, ints);
      range = omega (arith, ints);
      written = below_more (λ k. get_or (set c.loop-place.out place _) k (pos 0) ≡ total (window items c.args.width k)) place
          (λ k below. let apart : k ≢ place = omega arith in rw get_or-set_other (c.loop-place.invariant.written k below))
          (let inside : place < length c.loop-place.out = omega arith in
          rw get_or-set_same (omega (arith, ints, ap (λ n. total (window items n place)) wide)));
    }

pub returns : goal.returns
returns c =
    fill_by_all (λ place. total (window c.args.items.now c.args.width place)) c.loop-place.out
    (length c.args.items.now + 1 - c.args.width) (pos 0) (omega arith)
    (λ k inside. c.loop-place.invariant.written k (omega arith))
