-- Slots whose last free number is taken.
use Rattle.std.proofs.Common.{◌≡◌, ◌≢◌, ◌<◌, ℕ, ◌+◌, List, [], ◌∷◌, ◌++◌, length, get_or, set, cond, Option, Some, None, is_some, ap, sym, ◌∙◌, subst, arith}
use Rattle.std.proofs.lemmas.List.{length-append, length-set, get_or-set_other}
use Rattle.std.proofs.lemmas.List.Sums.{sum_by-set}
use Rattle.std.proofs.Math.ListN.{get_or-append}
use Rattle.std.proofs.Math.Seq.{get_or-append_seam}
use Rattle.formula_code.specs.Codes.{Code, Codes, live_count}
use Rattle.formula_code.specs.Slots.{AreSlots}

abbrev tally : Option Code → ℕ
tally o = cond (is_some o) 1 0

pub slot_taken : (codes : Codes) (free rest : List ℕ) (number room : ℕ) (code : Code) → AreSlots codes free room → free ≡ rest ++ number ∷ [] → AreSlots (set codes number (Some code)) rest room
slot_taken codes free rest number room code slots popped =
    let size : length free ≡ length rest + 1 = ap length popped ∙ length-append rest (number ∷ []) in
    let last : get_or free (length rest) 0 ≡ number = ap (λ ns. get_or ns (length rest) 0) popped ∙ get_or-append_seam rest number [] 0 in
    let same : (i : ℕ) → i < length rest → get_or free i 0 ≡ get_or rest i 0 = λ i low. ap (λ ns. get_or ns i 0) popped ∙ get_or-append rest (number ∷ []) 0 i low in
    let end : length rest < length free = omega arith in
    let inside : number < length codes = subst (λ n. n < length codes) last (slots.inside (length rest) end) in
    let vacant : get_or codes number None ≡ None = subst (λ n. get_or codes n None ≡ None) last (slots.vacant (length rest) end) in
    let apart : (i : ℕ) → i < length rest → get_or rest i 0 ≢ number = λ i low is. slots.apart i (length rest) low end (same i low ∙ is ∙ sym last) in
    let kept : length (set codes number (Some code)) ≡ length codes = length-set codes number (Some code) in
    let counts : live_count (set codes number (Some code)) + tally (get_or codes number None) ≡ live_count codes + 1 = sum_by-set tally codes number (Some code) None inside in
    let none : tally (get_or codes number None) ≡ 0 = ap tally vacant in
    record {
      numbers = omega (arith, slots.numbers);
      fits = omega (arith, slots.fits);
      counted = omega (arith, slots.counted);
      inside = λ i low. subst (λ n. get_or rest i 0 < n) (sym kept) (subst (λ n. n < length codes) (same i low) (slots.inside i (omega arith)));
      vacant = λ i low.
          get_or-set_other codes number (get_or rest i 0) (Some code) None (apart i low)
          ∙ subst (λ n. get_or codes n None ≡ None) (same i low) (slots.vacant i (omega arith));
      apart = λ i j less low is.
          slots.apart i j less (omega arith) (same i (omega arith) ∙ is ∙ sym (same j low));
    }
