use Rattle.std.proofs.Common.{◌≡◌, ℕ, ◌+◌, ◌-◌, ◌≤◌, ◌==◌, cond, take, refl, sym, subst, arith}
use Rattle.formula_code.specs.Codes.{uses_at}
use Rattle.cell_columns.specs.Freed.{formulas_among, overlap, uses_among}
use Rattle.cell_columns.specs.Taken.{AreFreed}
use Rattle.cell_columns.proofs.Edited.{live}
use Rattle.cell_columns.proofs.Freeing.{enough, freed_more, freed_past}
use Rattle.cell_columns.proofs.Uses.{freed_uses}
use Rattle.cell_columns.proofs.slots.release.Goals.{then-from-to, else-from-to}
use Rattle.cell_columns.proofs.slots.release.Goals as goal

pub give_back-requires-clause-live : goal.give_back-requires-clause-live
give_back-requires-clause-live c =
    let g = c.group-item.result in
    let gs = c.args.groups.now in
    let i : ℕ = c.loop-group.group-index in
    let before : AreFreed c.args.codes.now c.loop-group.codes (λ id. uses_among id c.args.first c.args.last (take i gs)) (formulas_among c.args.first c.args.last (take i gs)) = c.loop-group.invariant in
    live c.loop-group.codes g.code (omega (arith, enough c.args.first c.args.last gs i g c.group-item.is c.loop-group-test.true g.code refl, c.requires.uses g.code, before.uses g.code, c.min-to.ensures, c.max-from.ensures, c.if-from-to.true))

pub give_back-requires-clause-there : goal.give_back-requires-clause-there
give_back-requires-clause-there c =
    let g = c.group-item.result in
    let gs = c.args.groups.now in
    let i : ℕ = c.loop-group.group-index in
    let before : AreFreed c.args.codes.now c.loop-group.codes (λ id. uses_among id c.args.first c.args.last (take i gs)) (formulas_among c.args.first c.args.last (take i gs)) = c.loop-group.invariant in
    omega (arith, enough c.args.first c.args.last gs i g c.group-item.is c.loop-group-test.true g.code refl, c.requires.uses g.code, before.uses g.code, c.min-to.ensures, c.max-from.ensures)

pub loop-group-preserved : goal.loop-group-preserved
loop-group-preserved c =
    let g = c.group-item.result in
    let gs = c.args.groups.now in
    let i : ℕ = c.loop-group.group-index in
    let first : ℕ = c.args.first in
    let last : ℕ = c.args.last in
    let before : AreFreed c.args.codes.now c.loop-group.codes (λ id. uses_among id first last (take i gs)) (formulas_among first last (take i gs)) = c.loop-group.invariant in
    let n : ℕ = c.min-to.result + 1 - c.max-from.result in
    let is : n ≡ overlap first last g = omega (arith, c.min-to.ensures, c.max-from.ensures) in
    elim c.if-from-to.branch [
      | then-from-to w ↦
          let enough_uses : n ≤ uses_at c.loop-group.codes g.code = omega (arith, enough first last gs i g c.group-item.is c.loop-group-test.true g.code refl, c.requires.uses g.code, before.uses g.code, c.min-to.ensures, c.max-from.ensures) in
          let step : AreFreed c.loop-group.codes w.give_back.new.self (λ id. cond (id == g.code) n 0) n =
          freed_uses c.loop-group.codes w.give_back.new.self g.code n (live c.loop-group.codes g.code (omega (arith, enough_uses, w.if-from-to.true))) enough_uses w.give_back.ensures in
          subst (λ k. AreFreed c.args.codes.now k (λ id. uses_among id first last (take (i + 1) gs)) (formulas_among first last (take (i + 1) gs))) (sym w.codes-is)
          (freed_more first last gs i g c.group-item.is c.loop-group-test.true c.args.codes.now c.loop-group.codes w.give_back.new.self n is before step)
      | else-from-to w ↦
          subst (λ k. AreFreed c.args.codes.now k (λ id. uses_among id first last (take (i + 1) gs)) (formulas_among first last (take (i + 1) gs))) (sym w.codes-is)
          (freed_past first last gs i g c.group-item.is c.loop-group-test.true c.args.codes.now c.loop-group.codes (omega (arith, is, w.if-from-to.false)) before)
    ]
