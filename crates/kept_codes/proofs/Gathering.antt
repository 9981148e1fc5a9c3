-- The cells that are gathered from rows, groups and columns one after the other.
use Rattle.std.proofs.Common.{◌≡◌, ℕ, suc, zero, ◌+◌, ◌≤◌, ◌<◌, ◌==◌, nat_lt, Bool, true, false, List, [], ◌∷◌, ◌++◌, length, take, Option, ◌⊎◌, inl, inr, refl, sym, ap, subst, ◌∙◌, arith}
use Rattle.std.specs.Prelude.{slice_index_or}
use Rattle.std.specs.List.{list_all}
use Rattle.std.proofs.lemmas.Bool.Decides.{nat_tests}
use Rattle.calc_addr.specs.Places.{Place}
use Rattle.calc_model.specs.declared.change.Change.{Change}
use Rattle.calc_model.proofs.Areas.{both_true}
use Rattle.calc_model.proofs.EntriesKept.{both_so}
use Rattle.formula_code.specs.Codes.{Codes}
use Rattle.formula_groups.specs.declared.group.Group.{Group}
use Rattle.formula_groups.specs.Groups.{groups_of}
use Rattle.kept_codes.specs.Columns.{cell_in}
use Rattle.kept_codes.specs.Gathered.{Among, AreFormulas, Formulas, Gathers, InColumns, InGroups, InRows, KeepsCode, behind_of}

among_more : (q p : Place) (ps : List Place) → Among q ps → Among q (ps ++ p ∷ [])
among_more q p [] h = absurd h
among_more q p (x ∷ ps) (inl is) = inl is
among_more q p (x ∷ ps) (inr h) = inr (among_more q p ps h)

among_last : (q : Place) (ps : List Place) → Among q (ps ++ q ∷ [])
among_last q [] = inl refl
among_last q (p ∷ ps) = inr (among_last q ps)

all_more : (test : Place → Bool) (p : Place) (ps : List Place) → list_all test ps ≡ true → test p ≡ true → list_all test (ps ++ p ∷ []) ≡ true
all_more test p [] h is = both_so (test p) true is refl
all_more test p (x ∷ ps) h is =
    let parts = both_true (test x) (list_all test ps) h in
    both_so (test x) _ parts.0 (all_more test p ps parts.1 is)

module _ (codes : Codes) (change : Change) where
  -- what is visited by one and then by another
  gathers_then : (first second both : Place → ℕ → Type 0) (old mid new : List Place) → Gathers codes change first old mid → Gathers codes change second mid new → ((q : Place) (id : ℕ) → both q id → first q id ⊎ second q id) → ((q : Place) (id : ℕ) → first q id → both q id) → ((q : Place) (id : ℕ) → second q id → both q id) → Gathers codes change both old new
  gathers_then first second both old mid new one two split front back = record {
    kept = λ q h. two.kept q (one.kept q h);
    told = λ q id h. elim (split q id h) as (λ _. KeepsCode codes change id q ⊎ Among q new) [
      | inl there ↦ earlier q (one.told q id there)
      | inr there ↦ two.told q id there
    ];
    only = λ test each all. two.only test (λ q id h. each q id (back q id h)) (one.only test (λ q id h. each q id (front q id h)) all);
  }
    where
      earlier : (q : Place) → {P : Type 0} → P ⊎ Among q mid → P ⊎ Among q new
      earlier q (inl h) = inl h
      earlier q (inr h) = inr (two.kept q h)

  -- formulas that keep their codes add nothing
  pub gathers_kept : (visited : Place → ℕ → Type 0) (old : List Place) → ((q : Place) (id : ℕ) → visited q id → KeepsCode codes change id q) → Gathers codes change visited old old
  gathers_kept visited old keeps = record {
    kept = λ q h. h;
    told = λ q id h. inl (keeps q id h);
    only = λ test each all. all;
  }

  module _ (number code : ℕ) where
    pub a_formula : (first behind row : ℕ) → AreFormulas codes change (InRows number first behind code) → first ≤ row → row < behind → Formulas codes change (cell_in number row) code
    a_formula first behind row formulas low high = formulas (cell_in number row) code (record { row = row; from = low; to = high; at = refl; coded = refl })

    -- some of these rows
    pub some_formulas : (first behind x y : ℕ) → AreFormulas codes change (InRows number first behind code) → first ≤ x → y ≤ behind → AreFormulas codes change (InRows number x y code)
    some_formulas first behind x y formulas low high q id h = formulas q id (record { row = h.row; from = omega (arith, low, h.from); to = omega (arith, high, h.to); at = h.at; coded = h.coded })

    -- rows without any
    pub none_gathered : (row : ℕ) (old : List Place) → Gathers codes change (InRows number row row code) old old
    none_gathered row old = gathers_kept (InRows number row row code) old (λ q id h. absurd (omega (arith, h.from, h.to)))

    pub one_gathered : (row : ℕ) (old : List Place) → Gathers codes change (InRows number row (row + 1) code) old (old ++ cell_in number row ∷ [])
    one_gathered row old = record {
      kept = λ q h. among_more q (cell_in number row) old h;
      told = λ q id h. inr (subst (λ p. Among p (old ++ cell_in number row ∷ [])) (sym (h.at ∙ ap (cell_in number) (same h.row h.from h.to))) (among_last (cell_in number row) old));
      only = λ test each all. all_more test (cell_in number row) old all (each (cell_in number row) code (record { row = row; from = omega arith; to = omega arith; at = refl; coded = refl }));
    }
      where
        same : (r : ℕ) → row ≤ r → r < row + 1 → r ≡ row
        same r low high = omega (arith, low, high)

    module _ (first middle behind : ℕ) (low : first ≤ middle) (high : middle ≤ behind) where
      upper : (q : Place) (id : ℕ) → InRows number first middle code q id → InRows number first behind code q id
      upper q id h = record { row = h.row; from = h.from; to = omega (arith, h.to, high); at = h.at; coded = h.coded }

      lower : (q : Place) (id : ℕ) → InRows number middle behind code q id → InRows number first behind code q id
      lower q id h = record { row = h.row; from = omega (arith, h.from, low); to = h.to; at = h.at; coded = h.coded }

      split : (q : Place) (id : ℕ) → InRows number first behind code q id → InRows number first middle code q id ⊎ InRows number middle behind code q id
      split q id h =
          elim (nat_lt h.row middle) as (λ b. nat_lt h.row middle ≡ b → InRows number first middle code q id ⊎ InRows number middle behind code q id) [
            | true ↦ λ less. inl (record { row = h.row; from = h.from; to = grind (arith, nat_tests, less); at = h.at; coded = h.coded })
            | false ↦ λ more. inr (record { row = h.row; from = grind (arith, nat_tests, more); to = h.to; at = h.at; coded = h.coded })
          ] refl

      turned : (q : Place) (id : ℕ) → InRows number first behind code q id → InRows number middle behind code q id ⊎ InRows number first middle code q id
      turned q id h = elim (split q id h) as (λ _. InRows number middle behind code q id ⊎ InRows number first middle code q id) [ inl there ↦ inr there | inr there ↦ inl there ]

      -- neighbouring rows, from the top or from the bottom
      pub rows_then : (old mid new : List Place) → Gathers codes change (InRows number first middle code) old mid → Gathers codes change (InRows number middle behind code) mid new → Gathers codes change (InRows number first behind code) old new
      rows_then old mid new one two = gathers_then (InRows number first middle code) (InRows number middle behind code) (InRows number first behind code) old mid new one two split upper lower

      pub rows_before : (old mid new : List Place) → Gathers codes change (InRows number middle behind code) old mid → Gathers codes change (InRows number first middle code) mid new → Gathers codes change (InRows number first behind code) old new
      rows_before old mid new one two = gathers_then (InRows number middle behind code) (InRows number first middle code) (InRows number first behind code) old mid new one two turned lower upper

  groups_more : (number : ℕ) (groups : List Group) (i : ℕ) (d : Group) → i < length groups → (q : Place) (id : ℕ) → InGroups number (take (suc i) groups) q id → InGroups number (take i groups) q id ⊎ InRows number (slice_index_or groups i d).first (behind_of (slice_index_or groups i d)) (slice_index_or groups i d).code q id
  groups_more number [] i d h q id within = absurd (omega (arith, h))
  groups_more number (g ∷ groups) zero d h q id (inl within) = inr within
  groups_more number (g ∷ groups) zero d h q id (inr within) = absurd within
  groups_more number (g ∷ groups) (suc i) d h q id (inl within) = inl (inl within)
  groups_more number (g ∷ groups) (suc i) d h q id (inr within) =
      elim (groups_more number groups i d (omega (arith, h)) q id within) as (λ _. InGroups number (take (suc i) (g ∷ groups)) q id ⊎ InRows number (slice_index_or groups i d).first (behind_of (slice_index_or groups i d)) (slice_index_or groups i d).code q id) [
        | inl there ↦ inl (inr there)
        | inr there ↦ inr there
      ]

  groups_front : (number : ℕ) (groups : List Group) (i : ℕ) (q : Place) (id : ℕ) → InGroups number (take i groups) q id → InGroups number (take (suc i) groups) q id
  groups_front number [] zero q id within = within
  groups_front number [] (suc i) q id within = within
  groups_front number (g ∷ groups) zero q id within = absurd within
  groups_front number (g ∷ groups) (suc i) q id (inl within) = inl within
  groups_front number (g ∷ groups) (suc i) q id (inr within) = inr (groups_front number groups i q id within)

  groups_back : (number : ℕ) (groups : List Group) (i : ℕ) (d : Group) → i < length groups → (q : Place) (id : ℕ) → InRows number (slice_index_or groups i d).first (behind_of (slice_index_or groups i d)) (slice_index_or groups i d).code q id → InGroups number (take (suc i) groups) q id
  groups_back number [] i d h q id within = absurd (omega (arith, h))
  groups_back number (g ∷ groups) zero d h q id within = inl within
  groups_back number (g ∷ groups) (suc i) d h q id within = inr (groups_back number groups i d (omega (arith, h)) q id within)

  pub in_all_groups : (number : ℕ) (groups : List Group) (i : ℕ) (d : Group) → i < length groups → (q : Place) (id : ℕ) → InRows number (slice_index_or groups i d).first (behind_of (slice_index_or groups i d)) (slice_index_or groups i d).code q id → InGroups number groups q id
  in_all_groups number [] i d h q id within = absurd (omega (arith, h))
  in_all_groups number (g ∷ groups) zero d h q id within = inl within
  in_all_groups number (g ∷ groups) (suc i) d h q id within = inr (in_all_groups number groups i d (omega (arith, h)) q id within)

  pub group_more : (number : ℕ) (groups : List Group) (i : ℕ) (d : Group) → i < length groups → (old mid new : List Place) → Gathers codes change (InGroups number (take i groups)) old mid → Gathers codes change (InRows number (slice_index_or groups i d).first (behind_of (slice_index_or groups i d)) (slice_index_or groups i d).code) mid new → Gathers codes change (InGroups number (take (i + 1) groups)) old new
  group_more number groups i d h old mid new so_far here =
      subst (λ n. Gathers codes change (InGroups number (take n groups)) old new) (next i)
      (gathers_then (InGroups number (take i groups)) (InRows number (slice_index_or groups i d).first (behind_of (slice_index_or groups i d)) (slice_index_or groups i d).code) (InGroups number (take (suc i) groups)) old mid new so_far here
      (groups_more number groups i d h) (groups_front number groups i) (groups_back number groups i d h))
    where
      next : (i : ℕ) → suc i ≡ i + 1
      next i = omega arith

  pub column_more : (all : List (List (Option ℕ))) (number : ℕ) (old mid new : List Place) → Gathers codes change (InColumns all number) old mid → Gathers codes change (InGroups number (groups_of (slice_index_or all number []))) mid new → Gathers codes change (InColumns all (number + 1)) old new
  column_more all number old mid new so_far here =
      gathers_then (InColumns all number) (InGroups number (groups_of (slice_index_or all number []))) (InColumns all (number + 1)) old mid new so_far here split front back
    where
      split : (q : Place) (id : ℕ) → InColumns all (number + 1) q id → InColumns all number q id ⊎ InGroups number (groups_of (slice_index_or all number [])) q id
      split q id h =
          elim (h.number == number) as (λ b. (h.number == number) ≡ b → InColumns all number q id ⊎ InGroups number (groups_of (slice_index_or all number [])) q id) [
            | true ↦ λ is. inr (subst (λ n. InGroups n (groups_of (slice_index_or all n [])) q id) (same h.number is) h.within)
            | false ↦ λ other. inl (record { number = h.number; to = grind (arith, nat_tests, h.to, other); within = h.within })
          ] refl
        where
          same : (r : ℕ) → (r == number) ≡ true → r ≡ number
          same r is = grind (arith, nat_tests, is)

      front : (q : Place) (id : ℕ) → InColumns all number q id → InColumns all (number + 1) q id
      front q id h = record { number = h.number; to = omega (arith, h.to); within = h.within }

      back : (q : Place) (id : ℕ) → InGroups number (groups_of (slice_index_or all number [])) q id → InColumns all (number + 1) q id
      back q id h = record { number = number; to = omega arith; within = h }
