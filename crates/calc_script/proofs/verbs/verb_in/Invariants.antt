-- the rows that are left find what all do
use Rattle.std.proofs.Common.{◌≡◌, length, map}
use Rattle.calc_script.specs.Verbs.{verb_named}
use Rattle.calc_script.proofs.verbs.verb_in.Given as goal

abbrev pub invariant-loop-rows : goal.invariant-loop-rows
invariant-loop-rows l = verb_named (map (λ row. (row.0.now, row.1)) l.rows) l.word ≡ verb_named (map (λ row. (row.0.now, row.1)) l.fn.rows) l.word

abbrev pub decreases-loop-rows : goal.decreases-loop-rows
decreases-loop-rows l = length l.rows
