-- Walking the values of two areas in step.
use Rattle.std.specs.Prelude.{◌≡◌, ◌≤◌, List, [], ◌++◌, length, Option}
use Rattle.std.specs.List.{zip}
use Rattle.std.specs.Option.{MatchOption}
use Rattle.calc_model.specs.declared.value.Value.{Value}
use Rattle.calc_model.specs.UsedCells.{values_of}
use Rattle.fn_args.specs.declared.pairs.PiecePair.{PiecePair}

-- Pieces of as many values, of one at least, come from the front of what is left.
pub record AreCut (old : List (Value × Value)) (pair : PiecePair) (new : List (Value × Value)) : Type 0 where
  pub same : length (values_of pair.first) ≡ length (values_of pair.second)
  pub some : 1 ≤ length (values_of pair.second)
  pub front : old ≡ zip (values_of pair.first) (values_of pair.second) ++ new

-- a pair comes where something is left
abbrev pub YieldsPair : List (Value × Value) → Option PiecePair → List (Value × Value) → Type 0
YieldsPair old pair new = MatchOption pair ((old ≡ []) × (new ≡ [])) (λ p. AreCut old p new)
