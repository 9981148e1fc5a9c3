-- Values of entries that are changed one after the other.
use Rattle.std.proofs.Common.{◌≡◌, ℕ, ◌+◌, ◌<◌, List, ◌++◌, length, get_or, set, map, take, drop, ap, ◌∙◌, arith}
use Rattle.std.proofs.lemmas.List.{get_or_default}
use Rattle.std.proofs.lemmas.List.Edits.{map_over_more}

module _ {K X : Type 0} (f : X → X) where
  pub changed_more : (es now : List (K × X)) (at : ℕ) (d : K × X) (new : X) → at < length es → length now ≡ length es → now ≡ map (λ e. (e.0, f e.1)) (take at es) ++ drop at es → new ≡ f (get_or now at d).1 → set now at ((get_or now at d).0, new) ≡ map (λ e. (e.0, f e.1)) (take (at + 1) es) ++ drop (at + 1) es
  changed_more es now at d new within long done is =
      let inside : at < length now = omega arith in
      ap (λ v. set now at ((get_or now at d).0, v)) is
      ∙ map_over_more (λ (e : K × X). (e.0, f e.1)) es now at (get_or now at d) within done (get_or_default now at d (get_or now at d) inside)
