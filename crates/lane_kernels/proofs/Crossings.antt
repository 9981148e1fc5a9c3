-- Which lane is the first whose exact result leaves 64 bits, from what holds of each lane by its place.
use Rattle.std.proofs.Common.{FitsSigned, w64, ◌≡◌, ℕ, ℤ, pos, ◌<◌, ◌+◌, List, length, get_or, not, true, false, Some, None, sym, ◌∙◌, arith, ap, Result, Ok, Err, OnOk, IfErr, take, set, below_more, ◌≢◌, min, get_or-set_other, get_or-set_same}
use Rattle.std.proofs.lemmas.Int.{ints}
use Rattle.std.proofs.lemmas.Bool.Decides.{nat_tests}
use Rattle.std.proofs.lemmas.List.Sums.{position_or_len_is, fails_before_first}
use Rattle.std.proofs.lemmas.List.Quantifiers.{position-Some}
use Rattle.std.proofs.lemmas.List.{ext_get_or, length-take, get_or-take}
use Rattle.std.specs.List.{position_or_len}
use Rattle.std.proofs.lemmas.Simd.{get_or-zip2, length-zip2}
use Rattle.lane_kernels.specs.Lanes.{is_i64, first_crossing, named_lane}
use Rattle.lane_kernels.specs.declared.arithmetic.Crossed.{Crossed}
use lib.Lanes.{zip2}

named : (exact : List ℤ) (lane : ℕ) → position_or_len (λ number. not (is_i64 number)) exact ≡ lane → lane < length exact → first_crossing exact ≡ Some lane
named exact lane e inside = grind (arith, nat_tests)

unnamed : (exact : List ℤ) → position_or_len (λ number. not (is_i64 number)) exact ≡ length exact → first_crossing exact ≡ None
unnamed exact e = grind (arith, nat_tests)

pub fits : (number : ℤ) → is_i64 number ≡ true → FitsSigned w64 number
fits number e = grind (arith, ints)

fits_if : (number : ℤ) → not (is_i64 number) ≡ false → is_i64 number ≡ true
fits_if number e = grind (arith, nat_tests)

all_before : (exact : List ℤ) → first_crossing exact ≡ None → (k : ℕ) → k < length exact → k < position_or_len (λ number. not (is_i64 number)) exact
all_before exact none k inside = grind (arith, nat_tests)

-- a combination of two lists of one length, lane by lane
module _ (f : ℤ → ℤ → ℤ) (a b : List ℤ) (paired : length b ≡ length a) where
  abbrev pub lane_of : ℕ → ℤ
  lane_of k = f (get_or a k (pos 0)) (get_or b k (pos 0))

  pub lane_is : (k : ℕ) → k < length a → get_or (zip2 f a b) k (pos 0) ≡ lane_of k
  lane_is k inside = get_or-zip2 f a b k (pos 0) (pos 0) (pos 0) inside (omega arith)

  pub lanes_are : length (zip2 f a b) ≡ length a
  lanes_are = length-zip2 f a b (sym paired)

  pub crossing_at : (lane : ℕ) → lane < length a → ((k : ℕ) → k < lane → is_i64 (lane_of k) ≡ true) → is_i64 (lane_of lane) ≡ false → Some lane ≡ first_crossing (zip2 f a b)
  crossing_at lane inside before here =
      let long = lanes_are in
      sym (named (zip2 f a b) lane
      (position_or_len_is (λ number. not (is_i64 number)) (zip2 f a b) lane (pos 0) (omega arith)
      (λ k below. rw (lane_is k (omega arith)) (ap not (before k below)))
      (λ _. rw (lane_is lane inside) (ap not here)))
      (omega arith))

  pub no_crossing : ((k : ℕ) → k < length a → is_i64 (lane_of k) ≡ true) → None ≡ first_crossing (zip2 f a b)
  no_crossing all =
      let long = lanes_are in
      sym (unnamed (zip2 f a b)
      (position_or_len_is (λ number. not (is_i64 number)) (zip2 f a b) (length (zip2 f a b)) (pos 0) (omega arith)
      (λ k below. rw (lane_is k (omega arith)) (ap not (all k (omega arith))))
      (λ more. absurd (omega arith))))

  pub fits_before : (lane : ℕ) → first_crossing (zip2 f a b) ≡ Some lane → (lane < length a) × ((k : ℕ) → k < lane → is_i64 (lane_of k) ≡ true)
  fits_before lane e =
      let long = lanes_are in
      let at = position-Some (λ number. not (is_i64 number)) (zip2 f a b) lane (pos 0) e in
      (omega (arith, at.0), λ k below. fits_if (lane_of k) (rw (lane_is k (omega (arith, at.0))) at (at.2 k below)))

  pub all_fit : first_crossing (zip2 f a b) ≡ None → (k : ℕ) → k < length a → is_i64 (lane_of k) ≡ true
  all_fit none k inside =
      let long = lanes_are in
      fits_if (lane_of k) (rw (lane_is k inside) at (fails_before_first (λ number. not (is_i64 number)) (zip2 f a b) k (pos 0) (all_before (zip2 f a b) none k (omega arith))))

  -- a loop's step: the lane at `i` is written
  pub lane_set : (out : List ℤ) (i : ℕ) (value : ℤ) → i < length out → ((k : ℕ) → k < i → is_i64 (lane_of k) ≡ true → get_or out k (pos 0) ≡ lane_of k) → (is_i64 (lane_of i) ≡ true → value ≡ lane_of i) → (k : ℕ) → k < i + 1 → is_i64 (lane_of k) ≡ true → get_or (set out i value) k (pos 0) ≡ lane_of k
  lane_set out i value inside before here = below_more (λ k. is_i64 (lane_of k) ≡ true → get_or (set out i value) k (pos 0) ≡ lane_of k) i
      (λ k below fits. let apart : k ≢ i = omega arith in rw get_or-set_other (before k below fits))
      (λ fits. rw get_or-set_same (here fits))

  -- What an addition or a subtraction promises of its slice, where each lane that fits is exact.
  module _ (out : List ℤ) (room : length out ≡ length a) (exact : (k : ℕ) → k < length a → is_i64 (lane_of k) ≡ true → get_or out k (pos 0) ≡ lane_of k) where
    pub written : (result : Result Unit Crossed) → named_lane result ≡ first_crossing (zip2 f a b) → OnOk result (out ≡ zip2 f a b)
    written (Ok done) e =
        let long = lanes_are in
        ext_get_or (pos 0) out (zip2 f a b) (omega arith)
        (λ k inside. exact k (omega arith) (all_fit (sym e) k (omega arith)) ∙ sym (lane_is k (omega arith)))
    written (Err crossed) e = tt

    pub before : (result : Result Unit Crossed) → named_lane result ≡ first_crossing (zip2 f a b) → IfErr result (λ e. take e.lane out ≡ take e.lane (zip2 f a b))
    before (Ok done) e = tt
    before (Err crossed) e =
        let long = lanes_are in
        let told = fits_before crossed.lane (sym e) in
        ext_get_or (pos 0) (take crossed.lane out) (take crossed.lane (zip2 f a b)) (simp length-take (omega arith))
        (λ k inside.
        let shown : k < min crossed.lane (length out) = simp length-take at inside in
        rw (get_or-take crossed.lane out k (pos 0) (omega arith), get_or-take crossed.lane (zip2 f a b) k (pos 0) (omega arith))
        (exact k (omega arith) (told.1 k (omega arith)) ∙ sym (lane_is k (omega arith))))
