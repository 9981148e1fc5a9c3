-- Runs that got the cells of one set after another.
use Rattle.std.proofs.Common.{◌≡◌, ℕ, ◌+◌, ◌<◌, Bool, true, false, ◌||◌, List, length, get_or, take, inl, inr, refl, sym, ap, ◌∙◌, ⊎_elim}
use Rattle.std.specs.List.{list_any}
use Rattle.std.proofs.lemmas.Bool.{or_cases}
use Rattle.std.proofs.lemmas.List.Folds.{list_any_more}
use Rattle.calc_addr.specs.Places.{Place, Rows}
use Rattle.run_unions.specs.Unions.{is_in}
use Rattle.run_unions.proofs.Emitting.{or_right}
use Rattle.listener_hub.specs.Reaching.{Get}

or_left : (a b : Bool) → a ≡ true → (a || b) ≡ true
or_left a b h = ap (λ x. x || b) h

or_false : (b : Bool) → (b || false) ≡ b
or_false true = refl
or_false false = refl

-- the empty set
pub nothing : (R : Place → Type 0) (runs : List Rows) → Get (λ q. false) R runs runs
nothing R runs = record { all = λ q h. sym (or_false (list_any (is_in q) runs)) ∙ h; only = λ q h. inl h }

-- one more of the sets of a list
pub one_more : {X : Type 0} (R : Place → Type 0) (set : Place → X → Bool) (xs : List X) (n : ℕ) (d : X) (old mid new : List Rows) → n < length xs
    → Get (λ q. list_any (set q) (take n xs)) R old mid → Get (λ q. set q (get_or xs n d)) R mid new → Get (λ q. list_any (set q) (take (n + 1) xs)) R old new
one_more R set xs n d old mid new below a b = record {
  all = λ q h.
      ⊎_elim (λ (e : list_any (is_in q) old ≡ true). b.all q (or_left _ _ (a.all q (or_left _ _ e))))
      (λ (e : list_any (set q) (take (n + 1) xs) ≡ true).
      ⊎_elim (λ (f : list_any (set q) (take n xs) ≡ true). b.all q (or_left _ _ (a.all q (or_right _ _ f))))
      (λ (f : set q (get_or xs n d) ≡ true). b.all q (or_right _ _ f))
      (or_cases _ _ (sym (list_any_more (set q) xs n d below) ∙ e)))
      (or_cases _ _ h);
  only = λ q h. ⊎_elim (λ (e : list_any (is_in q) mid ≡ true). a.only q e) (λ (e : R q). inr e) (b.only q h);
}

pub get_by : (R S : Place → Type 0) (set other : Place → Bool) (old new : List Rows) → ((q : Place) → set q ≡ other q) → ((q : Place) → R q → S q) → Get set R old new → Get other S old new
get_by R S set other old new same reaches get = record {
  all = λ q h. get.all q (ap (λ b. list_any (is_in q) old || b) (same q) ∙ h);
  only = λ q h. ⊎_elim (λ (e : list_any (is_in q) old ≡ true). inl e) (λ (e : R q). inr (reaches q e)) (get.only q h);
}
