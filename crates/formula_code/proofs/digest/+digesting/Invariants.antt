use Rattle.std.proofs.Common.{◌≡◌, map, drop, fold}
use Rattle.formula_code.specs.Digests.{digest_at, mixed}
use Rattle.formula_code.proofs.digest.+digesting.Given as goal

abbrev pub invariant-digest_all-loop-tree : goal.invariant-digest_all-loop-tree
invariant-digest_all-loop-tree l = fold mixed l.all (map (digest_at l.home) (drop l.tree-index l.trees)) ≡ fold mixed l.before (map (digest_at l.home) l.trees)
