use Rattle.std.proofs.Common.{◌≡◌, drop, fold}
use Rattle.formula_code.specs.Digests.{mixed, text_digest}
use Rattle.formula_code.proofs.digest.text_digest.Given as goal

abbrev pub invariant-loop-byte : goal.invariant-loop-byte
invariant-loop-byte l = fold mixed l.all (drop l.byte-index l.byte-items) ≡ text_digest l.kind l.text
