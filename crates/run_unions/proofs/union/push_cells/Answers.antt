use Rattle.std.proofs.Common.{◌≡◌, ◌+◌, ◌-◌, ◌++◌, ◌∷◌, [], List, ℕ, map, sym, ap, append_assoc, ◌∙◌, arith}
use Rattle.std.specs.List.{range_with_len}
use Rattle.std.proofs.lemmas.List.FromFn.{map-range_with_len_more}
use Rattle.calc_addr.specs.Places.{Place}
use Rattle.run_unions.specs.Keys.{place_at}
use Rattle.run_unions.proofs.union.push_cells.Goals as goal

pub loop-key-preserved : goal.loop-key-preserved
loop-key-preserved c =
    let a : ℕ = c.args.first in
    let k : ℕ = c.loop-key.key in
    let n : k + 1 - a ≡ (k - a) + 1 = omega arith in
    let last : a + (k - a) ≡ k = omega arith in
    c.in_ok-push.ensures.items
    ∙ ap (λ (x : Place). c.loop-key.out.items ++ x ∷ []) c.cell_at.ensures
    ∙ ap (λ (xs : List Place). xs ++ place_at k ∷ []) c.loop-key.invariant
    ∙ append_assoc c.args.out.now.items (map place_at (range_with_len a (k - a))) (place_at k ∷ [])
    ∙ ap (λ (xs : List Place). c.args.out.now.items ++ xs) (sym (ap (λ m. map place_at (range_with_len a m)) n ∙ map-range_with_len_more place_at a (k - a) k last))
