-- A number of 64 bits is its upper half times 2 ^ 32 and its lower half, which isn't below 0.
use Rattle.std.proofs.Common.{◌≡◌, ℤ, pos, negsuc, neg_ℤ, ◌+ℤ◌, ◌*ℤ◌, ◌≤ℤ◌, ◌^◌, ◌-◌, bit_and, FitsSigned, to_z, of_z, arith, w64}
use Rattle.std.proofs.lemmas.Int.{ints}
use lib.Signed.{shr_z}
use Rattle.std.proofs.lemmas.Nat.{and_mask}

pub record IsSplit (x high low : ℤ) : Type 0 where
  pub joined : high *ℤ pos (2 ^ 32) +ℤ low ≡ x
  pub low_least : pos 0 ≤ℤ low
  pub low_most : low ≤ℤ pos (2 ^ 32 - 1)
  pub high_least : neg_ℤ (pos (2 ^ 31)) ≤ℤ high
  pub high_most : high ≤ℤ pos (2 ^ 31 - 1)

pub split : (x : ℤ) → FitsSigned w64 x → IsSplit x (shr_z x 4294967296) (to_z w64 (bit_and (of_z w64 x) 4294967295))
split (pos n) fits = rw (and_mask (of_z w64 (pos n)) 32) record {
  joined = omega (arith, ints);
  low_least = omega (arith, ints);
  low_most = omega (arith, ints);
  high_least = omega (arith, ints);
  high_most = omega (arith, ints);
}
split (negsuc n) fits = rw (and_mask (of_z w64 (negsuc n)) 32) record {
  joined = omega (arith, ints);
  low_least = omega (arith, ints);
  low_most = omega (arith, ints);
  high_least = omega (arith, ints);
  high_most = omega (arith, ints);
}
