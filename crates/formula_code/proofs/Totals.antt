-- Sums over slots that change in one place.
use Rattle.std.proofs.Common.{◌^◌, ◌≡◌, ◌≢◌, ◌≤◌, ◌<◌, ℕ, zero, suc, ◌+◌, [], ◌∷◌, get_or, cond, Option, Some, None, is_some, ap, sym, ◌∙◌, refl, arith}
use Rattle.std.specs.List.{sum_by}
use Rattle.std.proofs.lemmas.List.Sums.{sum_by-cons}
use Rattle.formula_code.specs.Codes.{AreUsed, Changes, Code, Codes, HasRoom, IsSame, live_count, slot_uses, total_uses, uses_at}

tail : Codes → Codes
tail [] = []
tail (slot ∷ slots) = slots

at_tail : (slots : Codes) (i : ℕ) → get_or (tail slots) i None ≡ get_or slots (suc i) None
unfolding tail
at_tail [] i = refl
at_tail (slot ∷ slots) i = refl

module _ (f : Option Code → ℕ) (none : f None ≡ 0) where
  total : Codes → ℕ
  total slots = sum_by f slots

  at_head : (slots : Codes) → sum_by f slots ≡ f (get_or slots 0 None) + sum_by f (tail slots)
  unfolding tail
  at_head [] = omega (arith, none)
  at_head (slot ∷ slots) = sum_by-cons f slot slots

  -- slots that are alike have one sum
  same_sum : (xs ys : Codes) → ((i : ℕ) → get_or ys i None ≡ get_or xs i None) → sum_by f ys ≡ sum_by f xs
  same_sum [] [] same = refl
  same_sum [] (y ∷ ys) same =
      let rest : sum_by f ys ≡ sum_by f [] = same_sum [] ys (λ i. same (suc i)) in
      let first : f y ≡ 0 = ap f (same 0) ∙ none in
      omega (arith, sum_by-cons f y ys, rest, first)
  same_sum (x ∷ xs) ys same =
      let rest : sum_by f (tail ys) ≡ sum_by f xs = same_sum xs (tail ys) (λ i. at_tail ys i ∙ same (suc i)) in
      let first : f (get_or ys 0 None) ≡ f x = ap f (same 0) in
      omega (arith, at_head ys, sum_by-cons f x xs, rest, first)

  changed_sum : (id : ℕ) (xs ys : Codes) → ((i : ℕ) → i ≢ id → get_or ys i None ≡ get_or xs i None) → sum_by f ys + f (get_or xs id None) ≡ sum_by f xs + f (get_or ys id None)
  changed_sum zero xs ys same =
      let rest : sum_by f (tail ys) ≡ sum_by f (tail xs) = same_sum (tail xs) (tail ys) (λ i. at_tail ys i ∙ same (suc i) (λ is. absurd (omega (arith, is))) ∙ sym (at_tail xs i)) in
      omega (arith, at_head xs, at_head ys, rest)
  changed_sum (suc id) xs ys same =
      let rest : sum_by f (tail ys) + f (get_or (tail xs) id None) ≡ sum_by f (tail xs) + f (get_or (tail ys) id None) =
      changed_sum id (tail xs) (tail ys) (λ i differs. at_tail ys i ∙ same (suc i) (λ is. differs (omega (arith, is))) ∙ sym (at_tail xs i)) in
      let first : f (get_or ys 0 None) ≡ f (get_or xs 0 None) = ap f (same 0 (λ is. absurd (omega (arith, is)))) in
      omega (arith, at_head xs, at_head ys, rest, first, ap f (at_tail xs id), ap f (at_tail ys id))

pub uses_changed : (old new : Codes) (id : ℕ) (code : Option Code) → Changes old new id code → total_uses new + uses_at old id ≡ total_uses old + slot_uses code
uses_changed old new id code changes = changed_sum slot_uses refl id old new changes.others ∙ ap (λ o. total_uses old + slot_uses o) changes.changed

pub uses_same : (old new : Codes) → IsSame old new → total_uses new ≡ total_uses old
uses_same old new same = same_sum slot_uses refl old new same

-- each code's uses are among all
one_of_all : (codes : Codes) (id : ℕ) → uses_at codes id ≤ total_uses codes
one_of_all [] id = omega arith
one_of_all (slot ∷ codes) zero = omega (arith, sum_by-cons slot_uses slot codes)
one_of_all (slot ∷ codes) (suc id) = omega (arith, sum_by-cons slot_uses slot codes, one_of_all codes id)

abbrev tally : Option Code → ℕ
tally slot = cond (is_some slot) 1 0

-- there are no more codes than uses
live_below : (codes : Codes) → AreUsed codes → live_count codes ≤ total_uses codes
live_below [] used = omega arith
live_below (None ∷ codes) used = omega (arith, sum_by-cons tally None codes, sum_by-cons slot_uses None codes, live_below codes (λ id live. used (suc id) live))
live_below (Some code ∷ codes) used =
    let own : 0 < code.uses = used 0 refl in
    omega (arith, own, sum_by-cons tally (Some code) codes, sum_by-cons slot_uses (Some code) codes, live_below codes (λ id live. used (suc id) live))

pub leave_room : (codes : Codes) → AreUsed codes → total_uses codes < 2 ^ 24 → HasRoom codes
leave_room codes used few = record {
  codes_left = omega (arith, live_below codes used);
  uses_left = λ id. omega (arith, one_of_all codes id);
}
