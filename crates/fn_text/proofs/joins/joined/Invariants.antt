-- The texts so far are joined, and there is room for what a text can still have.
use Rattle.std.proofs.Common.{◌≡◌, ◌+◌, length, take}
use Rattle.std.specs.List.{flat_map}
use Rattle.calc_model.specs.declared.limits.TheConstants.{MOST_FIELD_BYTES}
use Rattle.fn_args.specs.Lent.{words_in}
use Rattle.fn_text.proofs.joins.joined.Given as goal

abbrev pub invariant-loop-part : goal.invariant-loop-part
invariant-loop-part l =
    (l.whole ≡ flat_map words_in (take l.part-index l.parts)) ×
    (length l.whole + l.room ≡ MOST_FIELD_BYTES)
