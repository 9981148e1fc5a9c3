use Rattle.std.proofs.Common.{◌≡◌, ◌<◌, ◌+◌, ◌++◌, ◌∷◌, [], List, length, sym, subst, ◌∙◌, arith}
use Rattle.calc_addr.specs.Places.{Place}
use Rattle.dirty_spread.specs.Finding.{at}
use Rattle.dirty_spread.specs.LevelLists.{IsOfLevel}
use Rattle.dirty_spread.specs.Waves.{AreAll}
use Rattle.dirty_spread.proofs.Leveled.{level_before, level_more, level_skip}
use Rattle.dirty_spread.proofs.waves.left_over.Goals as goal
use Rattle.dirty_spread.proofs.waves.left_over.Goals.{then-levels-place-eq-CIRCULAR+in_ok-push_place, else-levels-place-eq-CIRCULAR}

pub push_place-requires-clause-before : goal.push_place-requires-clause-before
push_place-requires-clause-before c =
    level_before c.args.stale.now c.args.levels.now 2 c.loop-place.place c.loop-place.cells c.loop-place.invariant c.requires.in_order (omega (arith, c.loop-place-test.true, c.requires.size))

pub loop-place-preserved : goal.loop-place-preserved
loop-place-preserved c =
    let cells = c.args.stale.now in
    let n = c.loop-place.place in
    let within : c.loop-place.place < length c.args.stale.now = omega (arith, c.loop-place-test.true, c.requires.size) in
    elim c.if-levels-place-eq-CIRCULAR.branch [
      | then-levels-place-eq-CIRCULAR+in_ok-push_place w ↦
          let items : c.loop-place.cells ++ at cells n ∷ [] ≡ c.if-levels-place-eq-CIRCULAR.cells = sym w.in_ok-push_place.ensures ∙ sym w.cells-is in
          subst (λ (ps : List Place). AreAll (IsOfLevel cells c.args.levels.now 2 (n + 1)) ps) items
          (level_more cells c.args.levels.now 2 n c.loop-place.cells c.loop-place.invariant c.requires.in_order within w.if-levels-place-eq-CIRCULAR.true)
      | else-levels-place-eq-CIRCULAR w ↦
          subst (λ (ps : List Place). AreAll (IsOfLevel cells c.args.levels.now 2 (n + 1)) ps) (sym w.cells-is)
          (level_skip cells c.args.levels.now 2 n c.loop-place.cells c.loop-place.invariant w.if-levels-place-eq-CIRCULAR.false)
    ]

pub returns : goal.returns
returns c =
    let all : c.loop-place.place ≡ length c.args.stale.now = omega (arith, c.loop-place-test.false, c.loop-place.auto.place-end, c.requires.size) in
    subst (λ m. AreAll (IsOfLevel c.args.stale.now c.args.levels.now 2 m) c.loop-place.cells) all c.loop-place.invariant
