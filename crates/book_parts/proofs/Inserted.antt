-- How many entries there are with several more, at keys where there were none.
use Rattle.std.proofs.Common.{◌≡◌, ◌+◌, suc, Bool, true, false, not, cond, List, [], ◌∷◌, length, map, refl, ap, subst, arith}
use Rattle.std.specs.List.{AllByRecursion, list_all}
use Rattle.std.specs.BTreeMap.{insert_entry}
use Rattle.std.specs.Ordering.{eq_by_cmp, is_eq, is_lt, match_ordering}
use Rattle.std.specs.declared.cmp.Ordering.TheVariants.{Less, Equal, Greater}
use Rattle.std.specs.FinMap.Entries.{below_all, is_sorted}
use Rattle.std.proofs.lemmas.Bool.Decides.{nat_tests}
use Rattle.calc_addr.specs.Places.{IsBefore, Place, Rectangle, covers, place_cmp}
use Rattle.calc_addr.proofs.Walking.Places.{Rises}
use Rattle.calc_model.specs.declared.content.Content.{Content}
use Rattle.calc_model.specs.CellEdits.{CellEntries, with_entries, within_area, without_area}
use Rattle.calc_model.proofs.Areas.{both_true}
use Rattle.calc_model.proofs.EntriesKept.{both_so}
use Rattle.calc_model.proofs.Places.{same_places}

-- no entry is at that key
abbrev pub is_fresh : Place → CellEntries → Bool
is_fresh k es = list_all (λ e. not (eq_by_cmp place_cmp k e.0)) es

pub length-fresh : (k : Place) (x : Content) (es : CellEntries) → is_fresh k es ≡ true → length (insert_entry place_cmp es k x) ≡ length es + 1
length-fresh k x [] h = refl
length-fresh k x (e ∷ es) h =
    let parts = both_true (not (eq_by_cmp place_cmp k e.0)) (is_fresh k es) h in
    let rest = length-fresh k x es parts.1 in
    elim (place_cmp k e.0) as (λ o. not (is_eq o) ≡ true → length (match_ordering o ((k, x) ∷ e ∷ es) ((e.0, x) ∷ es) (e ∷ insert_entry place_cmp es k x)) ≡ suc (length es) + 1) [
      | Less ↦ λ _. omega arith
      | Equal ↦ λ no. cc
      | Greater ↦ λ _. omega (arith, rest)
    ] parts.0

fresh-inserted : (k j : Place) (x : Content) (es : CellEntries) → not (eq_by_cmp place_cmp k j) ≡ true → is_fresh k es ≡ true → is_fresh k (insert_entry place_cmp es j x) ≡ true
fresh-inserted k j x [] apart h = both_so _ _ apart h
fresh-inserted k j x (e ∷ es) apart h =
    let parts = both_true (not (eq_by_cmp place_cmp k e.0)) (is_fresh k es) h in
    elim (place_cmp j e.0) as (λ o. is_fresh k (match_ordering o ((j, x) ∷ e ∷ es) ((e.0, x) ∷ es) (e ∷ insert_entry place_cmp es j x)) ≡ true) [
      | Less ↦ both_so _ _ apart h
      | Equal ↦ h
      | Greater ↦ both_so _ _ parts.0 (fresh-inserted k j x es apart parts.1)
    ]

abbrev pub are_fresh : CellEntries → CellEntries → Bool
are_fresh news es = list_all (λ n. is_fresh n.0 es) news

not_equal : (p q : Place) → is_lt (place_cmp p q) ≡ true → not (eq_by_cmp place_cmp q p) ≡ true
not_equal p q h = grind (arith, nat_tests)

still_fresh : (j : Place) (x : Content) (news es : CellEntries) → below_all place_cmp j news ≡ true → are_fresh news es ≡ true → are_fresh news (insert_entry place_cmp es j x) ≡ true
still_fresh j x [] es below h = refl
still_fresh j x (n ∷ news) es below h =
    let lower = both_true (is_lt (place_cmp j n.0)) (below_all place_cmp j news) below in
    let parts = both_true (is_fresh n.0 es) (are_fresh news es) h in
    both_so _ _ (fresh-inserted n.0 j x es (not_equal j n.0 lower.0) parts.0) (still_fresh j x news es lower.1 parts.1)

pub length-inserts : (news es : CellEntries) → is_sorted place_cmp news ≡ true → are_fresh news es ≡ true → length (with_entries es news) ≡ length es + length news
length-inserts [] es sorted h = omega arith
length-inserts (n ∷ news) es sorted h =
    let order = both_true (below_all place_cmp n.0 news) (is_sorted place_cmp news) sorted in
    let parts = both_true (is_fresh n.0 es) (are_fresh news es) h in
    let rest = length-inserts news (insert_entry place_cmp es n.0 n.1) order.1 (still_fresh n.0 n.1 news es order.0 parts.1) in
    omega (arith, rest, length-fresh n.0 n.1 es parts.0)

-- no cell of an area is left outside it
outside_fresh : (area : Rectangle) (k : Place) (es : CellEntries) → covers area k ≡ true → is_fresh k (without_area es area) ≡ true
outside_fresh area k [] inside = refl
outside_fresh area k (e ∷ es) inside =
    let rest = outside_fresh area k es inside in
    elim (covers area e.0) as (λ b. covers area e.0 ≡ b → is_fresh k (cond (not b) (e ∷ without_area es area) (without_area es area)) ≡ true) [
      | true ↦ λ _. rest
      | false ↦ λ out. both_so _ _ (elsewhere e.0 out (eq_by_cmp place_cmp k e.0) refl) rest
    ] refl
  where
    elsewhere : (q : Place) → covers area q ≡ false → (b : Bool) → eq_by_cmp place_cmp k q ≡ b → not b ≡ true
    elsewhere q out true same = let in_area : covers area q ≡ true = subst (λ p. covers area p ≡ true) (same_places k q same) inside in cc
    elsewhere q out false same = refl

pub area_fresh : (area : Rectangle) (news es : CellEntries) → list_all (λ n. covers area n.0) news ≡ true → are_fresh news (without_area es area) ≡ true
area_fresh area [] es h = refl
area_fresh area (n ∷ news) es h =
    let parts = both_true (covers area n.0) (list_all (λ n. covers area n.0) news) h in
    both_so _ _ (outside_fresh area n.0 es parts.0) (area_fresh area news es parts.1)

-- the cells of an area and those outside it are all
pub length-parted : (area : Rectangle) (es : CellEntries) → length (without_area es area) + length (within_area es area) ≡ length es
length-parted area [] = refl
length-parted area (e ∷ es) =
    let rest = length-parted area es in
    elim (covers area e.0) as (λ b. length (cond (not b) (e ∷ without_area es area) (without_area es area)) + length (cond b (e ∷ within_area es area) (within_area es area)) ≡ suc (length es)) [
      | true ↦ omega (arith, rest)
      | false ↦ omega (arith, rest)
    ]

-- contents at rising places are in order
before_all : (p : Place) (at : Place → Content) (qs : List Place) → AllByRecursion (IsBefore p) qs → below_all place_cmp p (map (λ q. (q, at q)) qs) ≡ true
before_all p at [] h = refl
before_all p at (q ∷ qs) h = both_so _ _ (ap is_lt h.0) (before_all p at qs h.1)

pub rising-sorted : (at : Place → Content) (qs : List Place) → Rises qs → is_sorted place_cmp (map (λ q. (q, at q)) qs) ≡ true
rising-sorted at [] h = refl
rising-sorted at (q ∷ qs) h = both_so _ _ (before_all q at qs h.0) (rising-sorted at qs h.1)
