use Rattle.formula_code.proofs.SameNames.{alike_in_capitals, alike_in_small_letters}
use Rattle.formula_code.proofs.node.is_same_name.Goals as goal

pub returns : goal.returns
returns c = (
  λ yes. alike_in_capitals _ _ (c.eq_ignore_ascii_case.ensures.test.0 yes),
  λ same. c.eq_ignore_ascii_case.ensures.test.1 (alike_in_small_letters _ _ same),
)
