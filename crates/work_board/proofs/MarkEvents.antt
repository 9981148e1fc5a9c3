-- What a mark's answer says of its pass: it is the Board machine's event of a worker whose bits are those that the
-- pass lists.
use Rattle.std.proofs.Common.{◌≡◌, ℕ, ◌*◌, ◌%◌, ◌^◌, ◌≤◌, ◌||◌, eqb, Bool, true, false, cond, not, List, [], ◌∷◌, ◌++◌, map, refl, sym, ap, subst, ◌∙◌, arith, eq-eqb}
use Rattle.std.proofs.lemmas.List.Sums.{sum_by-cons}
use Rattle.std.proofs.lemmas.Bool.Decides.{nat_tests}
use Rattle.std.specs.Int.{bit_at}
use Rattle.std.specs.Int.Bits.{bit_and}
use Rattle.work_board.specs.declared.pass_view.PassView.{PassView}
use Rattle.work_board.specs.Counts.{times, once_below}
use Rattle.work_board.specs.Views.{with_listed, with_missed}
use Rattle.work_board.specs.BoardMachine.{Machine, is_marked, marked_by}
use Rattle.work_board.specs.Passes.{IsMark}
use Rattle.work_board.specs.Rules.{marked}
use Rattle.work_board.proofs.Bits.{clear}
use Rattle.work_board.proofs.Distinct.{at_most_one}
use Rattle.work_board.proofs.Totals.{times_more}

-- the markers of a machine whose worker 0 marked these bits
abbrev own : List ℕ → List (ℕ × ℕ)
own bits = map (λ bit. (bit, 0)) bits

abbrev with_markers : List (ℕ × ℕ) → Machine
with_markers markers = record { next = 0; workers = []; markers = markers }

own_bits : (bits : List ℕ) → marked_by 0 (with_markers (own bits)) ≡ bits
own_bits [] = refl
own_bits (x ∷ xs) = ap (λ ys. x ∷ ys) (own_bits xs)

own_more : (bits : List ℕ) (bit : ℕ) → own bits ++ (bit, 0) ∷ [] ≡ own (bits ++ bit ∷ [])
own_more [] bit = refl
own_more (x ∷ xs) bit = ap (λ ys. (x, 0) ∷ ys) (own_more xs bit)

not_marked : (bits : List ℕ) (bit : ℕ) → times bit bits ≡ 0 → is_marked (own bits) bit ≡ false
not_marked [] bit none = refl
not_marked (x ∷ xs) bit none =
    let counted = sum_by-cons (λ y. cond (eqb y bit) 1 0) x xs in
    let rest = not_marked xs bit (omega (arith, counted, none)) in
    let miss : ◌≡◌ {A = ℕ} (cond (eqb x bit) 1 0) 0 = omega (arith, counted, none) in
    let other : eqb x bit ≡ false = grind (arith, nat_tests) in
    rw (other, rest) refl

is_first : (bit : ℕ) (v : PassView) → times bit v.listed ≡ 0 → IsMark bit v true (with_listed bit v)
is_first bit v none =
    let m = with_markers (own v.listed) in
    let unmarked = not_marked v.listed bit none in (
      m,
      0,
      sym (ap not unmarked),
      own_bits v.listed,
      ap (λ b. marked_by 0 (cond b m (with_markers (own v.listed ++ (bit, 0) ∷ [])))) unmarked
          ∙ ap (λ ms. marked_by 0 (with_markers ms)) (own_more v.listed bit)
          ∙ own_bits (v.listed ++ bit ∷ []),
    )

-- a worker 1 marked the bit before
is_later : (bit : ℕ) (v : PassView) → IsMark bit v false (with_missed bit v)
is_later bit v =
    let m = with_markers ((bit, 1) ∷ own v.listed) in
    let is : is_marked m.markers bit ≡ true = ap (λ b. b || is_marked (own v.listed) bit) (eq-eqb bit bit refl) in (
      m,
      0,
      sym (ap not is),
      own_bits v.listed,
      ap (λ b. marked_by 0 (cond b m (with_markers (m.markers ++ (bit, 0) ∷ [])))) is ∙ own_bits v.listed,
    )

-- by the word that was found, where the pass then lists no bit twice
module _ (bit found : ℕ) (v w : PassView) (is : w ≡ marked bit found v) (once : (x : ℕ) → times x w.listed ≤ once_below x v.size) where
  abbrev after : Bool → PassView
  after b = cond b (with_listed bit v) (with_missed bit v)

  keeps_rest : (b : Bool) → ((after b).size ≡ v.size) × ((after b).passes ≡ v.passes)
  keeps_rest true = (refl, refl)
  keeps_rest false = (refl, refl)

  pub keeps : (w.size ≡ v.size) × (w.passes ≡ v.passes)
  keeps = subst (λ (u : PassView). (u.size ≡ v.size) × (u.passes ≡ v.passes)) (sym is) (keeps_rest (eqb (bit_at found (bit % 64)) 0))

  pub tells : (b : Bool) → eqb (bit_and found (1 * 2 ^ (bit % 64) % 18446744073709551616)) 0 ≡ b
      → IsMark bit v b w × (b ≡ true → w ≡ with_listed bit v) × (b ≡ false → w ≡ with_missed bit v)
  tells true e =
      let now : w ≡ with_listed bit v = is ∙ ap after (sym (clear found bit) ∙ e) in
      let one : times bit w.listed ≤ 1 = let o = once bit in omega (arith, o, at_most_one bit v.size) in
      let itself : ◌≡◌ {A = ℕ} (cond (eqb bit bit) 1 0) 1 = ap (λ b. cond b 1 0) (eq-eqb bit bit refl) in
      let lists = ap (λ (u : PassView). times bit u.listed) now in
      (subst (IsMark bit v true) (sym now) (is_first bit v (omega (arith, one, itself, lists, times_more bit bit v.listed))), (λ _. now), λ h. cc)
  tells false e =
      let now : w ≡ with_missed bit v = is ∙ ap after (sym (clear found bit) ∙ e) in
      (subst (IsMark bit v false) (sym now) (is_later bit v), (λ h. cc), λ _. now)
