-- Two ends put in order.
use Rattle.std.proofs.Common.{◌≡◌, ◌<◌, ◌≤◌, arith}
use Rattle.std.specs.Prelude.{nat_le}
use Rattle.std.proofs.lemmas.Bool.{cond-true, cond-false, le-leb, lt-leb}
use Rattle.calc_addr.specs.Ends.{in_order}
use Rattle.calc_addr.specs.declared.ends.End.{End}

pub in_order-up : (a b : End) → a.at ≤ b.at → in_order a b ≡ record { first = a; last = b }
in_order-up a b h = cond-true (nat_le a.at b.at) _ _ (le-leb a.at b.at h)

pub in_order-down : (a b : End) → b.at < a.at → in_order a b ≡ record { first = b; last = a }
in_order-down a b h = cond-false (nat_le a.at b.at) _ _ (lt-leb a.at b.at h)

-- one end twice
pub in_order-same : (e : End) → in_order e e ≡ record { first = e; last = e }
in_order-same e = in_order-up e e (omega arith)
