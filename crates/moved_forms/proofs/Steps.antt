-- What is nothing past some rows, and else one of two things, the second past a row: where it is the same in two rows
-- on one side of a row at which it is something, it is the same between them.
use Rattle.std.proofs.Common.{◌≡◌, ℕ, ◌≤◌, Bool, true, false, cond, Option, None, Some, ◌⊎◌, inl, inr, refl, sym, ap, ◌∙◌}
use Rattle.std.specs.Option.{option_map}

-- From home on, up and down, it is something as far as some rows.
pub record Steps {X : Type 0} (home : ℕ) (at : ℕ → Option X) : Type 0 where
  pub there : ℕ → Bool
  pub early : ℕ → Bool
  pub first : X
  pub second : X
  pub is : (row : ℕ) → at row ≡ cond (there row) (cond (early row) (Some first) (Some second)) None
  pub home_there : there home ≡ true
  pub all_between : (x z y : ℕ) → x ≤ z → z ≤ y → there x ≡ true → there y ≡ true → there z ≡ true
  pub same_between : (x z y : ℕ) → x ≤ z → z ≤ y → early x ≡ early y → early z ≡ early x

module _ {X : Type 0} (u w : X) where
  abbrev value : Bool → Bool → Option X
  value there early = cond there (cond early (Some u) (Some w)) None

  -- the value between two equal ones
  alike : (ax ay az bx by bz : Bool) → (ax ≡ true → ay ≡ true → az ≡ true) → (az ≡ true → ax ≡ true ⊎ ay ≡ true) → (bx ≡ by → bz ≡ bx) → value ax bx ≡ value ay by → value az bz ≡ value ax bx
  alike true true true true true bz all none same is = ap (value true) (same refl)
  alike true true true false false bz all none same is = ap (value true) (same refl)
  alike true true true true false true all none same is = refl
  alike true true true true false false all none same is = sym is
  alike true true true false true true all none same is = sym is
  alike true true true false true false all none same is = refl
  alike true true false bx by bz all none same is = let clash = all refl refl in cc
  alike true false az true by bz all none same is = cc
  alike true false az false by bz all none same is = cc
  alike false true az bx true bz all none same is = cc
  alike false true az bx false bz all none same is = cc
  alike false false true bx by bz all none same is = neither (none refl)
    where
      neither : false ≡ true ⊎ false ≡ true → value true bz ≡ None
      neither (inl h) = cc
      neither (inr h) = cc
  alike false false false bx by bz all none same is = refl

pub between : {X : Type 0} (home : ℕ) (at : ℕ → Option X) → Steps home at → (x z y : ℕ) → x ≤ z → z ≤ y → (home ≤ x) ⊎ (y ≤ home) → at x ≡ at y → at z ≡ at x
between home at s x z y low high side same =
    s.is z
    ∙ alike s.first s.second (s.there x) (s.there y) (s.there z) (s.early x) (s.early y) (s.early z) (s.all_between x z y low high) (from_home side) (s.same_between x z y low high) (sym (s.is x) ∙ same ∙ s.is y)
    ∙ sym (s.is x)
  where
    from_home : (home ≤ x) ⊎ (y ≤ home) → s.there z ≡ true → s.there x ≡ true ⊎ s.there y ≡ true
    from_home (inl below) here = inl (s.all_between home x z below low s.home_there here)
    from_home (inr above) here = inr (s.all_between z y home high above here s.home_there)

-- what is made of it changes in the same steps
pub mapped : {X Y : Type 0} (f : X → Y) (home : ℕ) (at : ℕ → Option X) → Steps home at → Steps home (λ row. option_map f (at row))
mapped f home at s = record {
  there = s.there;
  early = s.early;
  first = f s.first;
  second = f s.second;
  is = λ row. ap (option_map f) (s.is row) ∙ each (s.there row) (s.early row);
  home_there = s.home_there;
  all_between = s.all_between;
  same_between = s.same_between;
}
  where
    each : (a b : Bool) → option_map f (value s.first s.second a b) ≡ value (f s.first) (f s.second) a b
    each true true = refl
    each true false = refl
    each false b = refl
