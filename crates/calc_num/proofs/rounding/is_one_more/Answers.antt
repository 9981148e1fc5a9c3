use Rattle.calc_num.proofs.Arithmetic.Picks.{one_more_nearest, one_more_away, one_more_toward, one_more_floor}
use Rattle.calc_num.proofs.rounding.is_one_more.Goals as goal

pub returns-in-Nearest : goal.returns-in-Nearest
returns-in-Nearest c = λ count. rw c.in-Nearest.is (one_more_nearest c.args.negative count c.args.rest c.args.unit c.requires.rest)

pub returns-in-Away : goal.returns-in-Away
returns-in-Away c = λ count. rw c.in-Away.is (one_more_away c.args.negative count c.args.rest c.args.unit c.requires.rest)

pub returns-in-Toward : goal.returns-in-Toward
returns-in-Toward c = λ count. rw c.in-Toward.is (one_more_toward c.args.negative count c.args.rest c.args.unit c.requires.rest)

pub returns-then-negative : goal.returns-then-negative
returns-then-negative c = λ count. rw (c.in-Floor.is, c.if-negative.true) (one_more_floor count c.args.rest c.args.unit c.requires.rest)
