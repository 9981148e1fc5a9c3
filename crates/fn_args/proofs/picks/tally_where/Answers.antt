use Rattle.std.proofs.Common.{◌≡◌, ◌+◌, ◌-◌, ap, cond, get_or, length, of_z, pos, rules, subst, sym, to_z, ◌∙◌, arith, w64}
use Rattle.std.proofs.lemmas.Int.{to_z-of_z}
use mir.Val.{SFits}
use Rattle.calc_model.specs.declared.value.Value.TheVariants.{Number}
use Rattle.fn_args.proofs.Picking.{one-place}
use Rattle.fn_args.proofs.picks.tally_where.Goals as goal

pub take_if-requires : goal.take_if-requires
take_if-requires g c =
    let n = length c.args.items.now in
    let i = c.loop-place.place in
    let e : n ≡ n + 0 = omega arith in
    let f : n - i + 0 ≡ n - i - 1 + 1 = omega (arith, c.loop-place-test.true, c.requires.same) in
    g.met.T.Tally.room_behind c.loop-place.taker (n - i - 1) 1 (subst (g.T.Tally.room c.loop-place.taker) f (c.loop-place.invariant.1 0 (subst (g.T.Tally.room c.args.taker.now) e c.requires.room)))

pub loop-place-preserved : goal.loop-place-preserved
loop-place-preserved g c =
    let keys = c.args.keys.now in
    let items = c.args.items.now in
    let i = c.loop-place.place in
    let k = get_or keys i (pos 0) in
    let n = get_or items i (pos 0) in
    let old = c.loop-place.taker in
    let step = g.T.Tally.step in
    let test = g.C.Test.test c.args.test.now in
    let fits_k : SFits w64 k = search rules in
    let fits_n : SFits w64 n = search rules in
    let picked = c.passes_number.ensures ∙ ap (λ x. test (Number x)) (to_z-of_z w64 k fits_k) in (
      c.take_if.ensures.taken ∙ ap (λ b. cond b (step old (to_z w64 (of_z w64 n))) old) picked ∙ ap (λ x. cond (test (Number k)) (step old x) old) (to_z-of_z w64 n fits_n)
          ∙ ap (λ s. cond (test (Number k)) (step s n) s) c.loop-place.invariant.0
          ∙ sym (one-place step (λ x. test (Number x)) c.args.taker.now keys items i c.requires.same c.loop-place-test.true),
      λ h r.
          let e : length items - i + h ≡ 1 + (length items - (i + 1) + h) = omega (arith, c.loop-place-test.true, c.requires.same) in
          c.take_if.ensures.left (length items - (i + 1) + h) (subst (g.T.Tally.room old) e (c.loop-place.invariant.1 h r)),
    )
