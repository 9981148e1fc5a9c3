-- The items of one kind in a column, before and after an edit.
use Rattle.std.proofs.Common.{◌≡◌, ℕ, zero, suc, ◌≤◌, List, [], ◌∷◌, ◌++◌, take, drop, length, slice_get, Option, Some, None, refl, sym, ap, subst, ◌∙◌, arith}
use Rattle.std.specs.List.{filter_map, cons_option}
use Rattle.std.proofs.Math.Seq.{take-append_seam, drop-append_seam}
use Rattle.std.proofs.lemmas.List.{take-append-drop, length-append, take-take}
use Rattle.std.proofs.lemmas.List.Elements.{filter_map-append}

module _ {X Y : Type 0} (pick : X → Option Y) where
  abbrev pub picked : List X → List Y
  picked s = filter_map pick s

  -- the items in front of a place
  abbrev pub ahead : ℕ → List X → ℕ
  ahead a s = length (picked (take a s))

  picked-cut : (a : ℕ) (s : List X) → picked s ≡ picked (take a s) ++ picked (drop a s)
  picked-cut a s = ap picked (sym (take-append-drop a s)) ∙ filter_map-append pick (take a s) (drop a s)

  picked-take : (a : ℕ) (s : List X) → take (ahead a s) (picked s) ≡ picked (take a s)
  picked-take a s = ap (take (ahead a s)) (picked-cut a s) ∙ take-append_seam (picked (take a s)) (picked (drop a s))

  picked-drop : (a : ℕ) (s : List X) → drop (ahead a s) (picked s) ≡ picked (drop a s)
  picked-drop a s = ap (drop (ahead a s)) (picked-cut a s) ∙ drop-append_seam (picked (take a s)) (picked (drop a s))

  pub ahead-all : (a : ℕ) (s : List X) → ahead a s ≤ length (picked s)
  ahead-all a s = omega (arith, ap length (picked-cut a s), length-append (picked (take a s)) (picked (drop a s)))

  pub ahead-order : (a b : ℕ) (s : List X) → a ≤ b → ahead a s ≤ ahead b s
  ahead-order a b s h = subst (λ v. length (picked v) ≤ ahead b s) (take-take a b s h) (ahead-all a (take b s))

  -- rows that take the place of others
  pub picked-edit : (a b low high : ℕ) (s more : List X) → low ≡ ahead a s → high ≡ ahead b s → take low (picked s) ++ (picked more ++ drop high (picked s)) ≡ picked (take a s ++ (more ++ drop b s))
  picked-edit a b low high s more l h =
      ap (λ n. take n (picked s) ++ (picked more ++ drop high (picked s))) l
      ∙ ap (λ n. take (ahead a s) (picked s) ++ (picked more ++ drop n (picked s))) h
      ∙ ap (λ v. v ++ (picked more ++ drop (ahead b s) (picked s))) (picked-take a s)
      ∙ ap (λ v. picked (take a s) ++ (picked more ++ v)) (picked-drop b s)
      ∙ sym (filter_map-append pick (take a s) (more ++ drop b s) ∙ ap (λ v. picked (take a s) ++ v) (filter_map-append pick more (drop b s)))

  -- the item of a row
  pub picked-at : (a : ℕ) (s : List X) (x : X) (y : Y) → slice_get s a ≡ Some x → pick x ≡ Some y → slice_get (picked s) (ahead a s) ≡ Some y
  picked-at a [] x y is e = absurd cc
  picked-at zero (z ∷ s) x y is e =
      let same : z ≡ x = cc in
      ap (λ o. slice_get (cons_option o (picked s)) zero) (ap pick same ∙ e)
  picked-at (suc a) (z ∷ s) x y is e = behind (pick z) refl (picked-at a s x y is e)
    where
      behind : (o : Option Y) → pick z ≡ o → slice_get (picked s) (ahead a s) ≡ Some y → slice_get (cons_option (pick z) (picked s)) (length (cons_option (pick z) (picked (take a s)))) ≡ Some y
      behind None n rest = ap (λ o. slice_get (cons_option o (picked s)) (length (cons_option o (picked (take a s))))) n ∙ rest
      behind (Some w) n rest = ap (λ o. slice_get (cons_option o (picked s)) (length (cons_option o (picked (take a s))))) n ∙ rest
