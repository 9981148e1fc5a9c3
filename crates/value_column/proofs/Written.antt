-- One more row written.
use Rattle.std.proofs.Common.{◌≡◌, ◌≢◌, ℕ, ◌+◌, ◌-◌, ◌<◌, ◌≤◌, ◌&&◌, nat_lt, nat_le, cond, sym, ap, ◌∙◌, inl, inr, ◌⊎◌, arith}
use Rattle.std.proofs.lemmas.Bool.{cond-true, cond-false, lt-ltb, le-leb, lt-leb, le-ltb, cases_lt, cases_eq, and_from, and_left, and_right}
use Rattle.calc_model.specs.declared.value.Value.{Value}
use Rattle.value_column.specs.declared.lane.Tag.{Tag}
use Rattle.value_column.specs.declared.lane.Tag.TheVariants as tag
use Rattle.value_column.specs.declared.lanes.Lanes.{Lanes}
use Rattle.value_column.specs.Rows.{IsLonger, IsReady, LaneHas, written}

pub written-in : (a n r : ℕ) (vs f : ℕ → Value) → a ≤ r → r < a + n → written a n vs f r ≡ vs (r - a)
written-in a n r vs f h k = cond-true (nat_le a r && nat_lt r (a + n)) (vs (r - a)) (f r) (and_from _ _ (le-leb a r h) (lt-ltb r (a + n) k))

pub written-out : (a n r : ℕ) (vs f : ℕ → Value) → (r < a) ⊎ (a + n ≤ r) → written a n vs f r ≡ f r
written-out a n r vs f (inl h) = cond-false (nat_le a r && nat_lt r (a + n)) (vs (r - a)) (f r) (and_left (nat_le a r) (nat_lt r (a + n)) (lt-leb a r h))
written-out a n r vs f (inr h) = cond-false (nat_le a r && nat_lt r (a + n)) (vs (r - a)) (f r) (and_right (nat_le a r) (nat_lt r (a + n)) (le-ltb r (a + n) h))

-- of n rows to be written, those from the i-th on are
abbrev pub IsBelow : ℕ → ℕ → ℕ → (ℕ → Value) → (ℕ → Value) → (ℕ → Value) → Type 0
IsBelow a i n vs f g = (r : ℕ) → g r ≡ written (a + i) (n - i) (λ k. vs (i + k)) f r

pub written-over : (a n r : ℕ) (vs f h : ℕ → Value) → f r ≡ h r → written a n vs f r ≡ written a n vs h r
written-over a n r vs f h e = ap (cond (nat_le a r && nat_lt r (a + n)) (vs (r - a))) e

pub below-more : (a i j n row : ℕ) (vs f h g : ℕ → Value) → j + 1 ≡ i → i ≤ n → row ≡ a + j → IsBelow a i n vs f h → g row ≡ vs j → ((r : ℕ) → r ≢ row → g r ≡ h r) → IsBelow a j n vs f g
below-more a i j n row vs f h g one within is before at other r = here (cases_eq r row) (cases_lt r (a + j)) (cases_lt r (a + n))
  where
    here : (r ≡ row) ⊎ (r ≢ row) → (r < a + j) ⊎ (a + j ≤ r) → (r < a + n) ⊎ (a + n ≤ r) → g r ≡ written (a + j) (n - j) (λ k. vs (j + k)) f r
    here (inl e) l m =
        let place : j ≡ j + (r - (a + j)) = omega arith in
        ap g e ∙ at ∙ ap vs place ∙ sym (written-in (a + j) (n - j) r (λ k. vs (j + k)) f (omega arith) (omega arith))
    here (inr e) (inl l) m = other r e ∙ before r ∙ written-out (a + i) (n - i) r (λ k. vs (i + k)) f (inl (omega arith)) ∙ sym (written-out (a + j) (n - j) r (λ k. vs (j + k)) f (inl l))
    here (inr e) (inr l) (inl m) =
        let place : i + (r - (a + i)) ≡ j + (r - (a + j)) = omega arith in
        other r e ∙ before r ∙ written-in (a + i) (n - i) r (λ k. vs (i + k)) f (omega arith) (omega arith) ∙ ap vs place ∙ sym (written-in (a + j) (n - j) r (λ k. vs (j + k)) f l (omega arith))
    here (inr e) (inr l) (inr m) = other r e ∙ before r ∙ written-out (a + i) (n - i) r (λ k. vs (i + k)) f (inr (omega arith)) ∙ sym (written-out (a + j) (n - j) r (λ k. vs (j + k)) f (inr (omega arith)))

still-has : (t u : Lanes) (r : ℕ) (g : Tag) → IsLonger t u → LaneHas t r g → LaneHas u r g
still-has t u r tag.Blank h l = tt
still-has t u r tag.Small h l = omega (arith, h.small.0)
still-has t u r tag.Wide h l = omega (arith, h.wide.0)
still-has t u r tag.Words h l = omega (arith, h.words.0)
still-has t u r tag.Bad h l = omega (arith, h.bad.0)

pub still-ready : (t u : Lanes) (r : ℕ) (g : Tag) → IsLonger t u → IsReady t r g → IsReady u r g
still-ready t u r g h l = record { tags = omega (arith, h.tags.0, l.tags); lane = still-has t u r g h l.lane }
