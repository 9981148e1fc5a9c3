use Rattle.std.proofs.Common.{◌≡◌, List, ℕ, ◌++◌, drop, true}
use Rattle.std.specs.Char.{is_ascii_digit}
use Rattle.std.specs.List.{list_all}
use Rattle.calc_num.specs.Scaling.{worth}
use Rattle.calc_num.proofs.parse.Partial.push_all.Given as goal

abbrev pub invariant-loop-digit : goal.invariant-loop-digit
invariant-loop-digit l =
    (more : List ℕ) → list_all is_ascii_digit (l.digits ++ more) ≡ true → worth l.partial.size l.partial.places (drop l.digit-index l.digits ++ more) ≡ worth l.fn.self.size l.fn.self.places (l.digits ++ more)
