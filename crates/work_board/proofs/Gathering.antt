-- Results that are put at the places of distinct numbers are the results in order.
use Rattle.std.proofs.Common.{◌≡◌, ℕ, ◌<◌, eqb, cond, List, [], ◌∷◌, length, set, get_or, replicate, fold, refl, sym, ap, ◌∙◌, subst, arith, length-set, get_or-set_same, ne_eqb}
use Rattle.std.proofs.lemmas.List.{get_or-set_other, ext_get_or, length-replicate}
use Rattle.std.proofs.lemmas.List.Sums.{sum_by-cons}
use Rattle.std.proofs.lemmas.List.FromFn.{length-map-range_with_len, get_or-map-range_with_len}
use Rattle.std.proofs.lemmas.Bool.Decides.{nat_tests}
use mathlib.Core.Logic.{dite}
use native.Mathlib.Decide.{ℕ_discrete}
use Rattle.work_board.specs.declared.pass_view.PassView.{PassView}
use Rattle.work_board.specs.Views.{IsDrawEnd, GathersAll}
use Rattle.work_board.specs.Counts.{times, once_below}
use Rattle.work_board.specs.BoardMachine.{gather, one_thread}

is_once : (x bound : ℕ) → x < bound → once_below x bound ≡ 1
is_once x bound below = grind (arith, nat_tests)

module _ {A : Type 0} (f : ℕ → A) (d : A) where
  abbrev puts : List A → List ℕ → List A
  puts results numbers = fold (λ r k. set r k (f k)) results numbers

  length-puts : (numbers : List ℕ) (results : List A) → length (puts results numbers) ≡ length results
  length-puts [] results = refl
  length-puts (k ∷ ks) results = length-puts ks (set results k (f k)) ∙ length-set results k (f k)

  -- a result that stands stays
  stays : (numbers : List ℕ) (results : List A) (i : ℕ) → i < length results → get_or results i d ≡ f i → get_or (puts results numbers) i d ≡ f i
  stays [] results i within is = is
  stays (k ∷ ks) results i within is =
      stays ks (set results k (f k)) i (omega (arith, length-set results k (f k)))
      (dite (ℕ_discrete i k)
      (λ same. let at : get_or (set results i (f i)) i d ≡ f i = get_or-set_same results i (f i) d within in subst (λ j. get_or (set results j (f j)) i d ≡ f i) same at)
      (λ apart. get_or-set_other results k i (f k) d apart ∙ is))

  comes : (numbers : List ℕ) (results : List A) (i : ℕ) → i < length results → 0 < times i numbers → get_or (puts results numbers) i d ≡ f i
  comes [] results i within some_ = absurd (omega arith)
  comes (k ∷ ks) results i within some_ =
      let longer : i < length (set results k (f k)) = omega (arith, length-set results k (f k)) in
      dite (ℕ_discrete i k)
      (λ same. let at : get_or (set results i (f i)) i d ≡ f i = get_or-set_same results i (f i) d within in
      stays ks (set results k (f k)) i longer (subst (λ j. get_or (set results j (f j)) i d ≡ f i) same at))
      (λ apart. let miss : ◌≡◌ {A = ℕ} (cond (eqb k i) 1 0) 0 = ap (λ b. cond b 1 0) (ne_eqb k i (λ e. apart (sym e))) in
      comes ks (set results k (f k)) i longer (omega (arith, some_, miss, sum_by-cons (λ y. cond (eqb y i) 1 0) k ks)))

pub gathers : {A : Type 0} (blank : A) (f : ℕ → A) (units : ℕ) (numbers : List ℕ) → ((x : ℕ) → times x numbers ≡ once_below x units) → gather blank f units numbers ≡ one_thread f units
gathers blank f units numbers once =
    let long : length (gather blank f units numbers) ≡ units = length-puts f blank numbers (replicate units blank) ∙ length-replicate units blank in
    ext_get_or blank (gather blank f units numbers) (one_thread f units) (long ∙ sym (length-map-range_with_len f 0 units))
    (λ i within.
    let below : i < units = omega (arith, long, within) in
    comes f blank numbers (replicate units blank) i (omega (arith, length-replicate units blank)) (omega (arith, once i, is_once i units below))
    ∙ sym (get_or-map-range_with_len f 0 units i i blank below (omega arith)))

pub gathers_all : (units : ℕ) (end : PassView) → IsDrawEnd units end → GathersAll units end
gathers_all units end is some_none blank f =
    gathers blank f units end.listed (λ x. is.once x ∙ ap (once_below x) (is.whole some_none))
