-- The cells of rising numbers are in order, and are those of the runs that have the numbers.
use Rattle.std.proofs.Common.{◌≡◌, ℕ, zero, suc, ◌+◌, ◌≤◌, ◌<◌, true, ◌||◌, nat_eq, List, [], ◌∷◌, map, refl, sym, ap, subst, ◌∙◌, ⊎_elim, eq-eqb, arith}
use Rattle.std.specs.List.{AllByRecursion, Contains, list_any}
use Rattle.std.specs.List.Sorted.{IsPermutation}
use Rattle.std.proofs.lemmas.Bool.{and_parts, eqb-true, false≢true, leb-true, or_cases}
use Rattle.std.proofs.lemmas.List.Folds.{Any-from_list_any, list_any-from_Any}
use Rattle.std.proofs.lemmas.List.Sorted.{list_any-IsPermutation}
use Rattle.calc_addr.specs.Places.{IsBefore, IsRows, Place, Rows}
use Rattle.calc_addr.proofs.Walking.Places.{AllPairs-from_rises, Rises}
use Rattle.run_unions.specs.Emitted.{IsEmitted, has, rises}
use Rattle.run_unions.specs.Keys.{has_key, key_of, place_at}
use Rattle.run_unions.specs.Unions.{AreUnion, is_in}
use Rattle.run_unions.proofs.Emitting.{or_right}
use Rattle.run_unions.proofs.Numbers.{cell_in_run, number_in_run, rising_before}

all_behind : (k low high : ℕ) (ks : List ℕ) → k < low → rises low ks high ≡ true → AllByRecursion (IsBefore (place_at k)) (map place_at ks)
all_behind k low high [] h r = tt
all_behind k low high (x ∷ xs) h r =
    let parts = and_parts _ _ r in
    let le : low ≤ x = leb-true _ _ parts.0 in
    (rising_before k x (omega arith), all_behind k (x + 1) high xs (omega arith) parts.1)

in_order : (low high : ℕ) (ks : List ℕ) → rises low ks high ≡ true → Rises (map place_at ks)
in_order low high [] r = tt
in_order low high (x ∷ xs) r = let parts = and_parts _ _ r in (all_behind x (x + 1) high xs (omega arith) parts.1, in_order (x + 1) high xs parts.1)

-- an element of a mapped list
mapped : (ks : List ℕ) (q : Place) → Contains (map place_at ks) q → (k : ℕ) × (has ks k ≡ true) × (place_at k ≡ q)
mapped [] q (i, within, is) = absurd (omega arith)
mapped (k ∷ ks) q (zero, within, is) = (k, ap (λ b. b || has ks k) (eq-eqb k k refl), is)
mapped (k ∷ ks) q (suc i, within, is) =
    let rest = mapped ks q (i, omega arith, is) in
    (rest.0, or_right (nat_eq rest.0 k) (has ks rest.0) rest.1, rest.2)

contained : (ks : List ℕ) (k : ℕ) → has ks k ≡ true → Contains (map place_at ks) (place_at k)
contained [] k h = absurd (false≢true h)
contained (x ∷ xs) k h =
    ⊎_elim (λ (e : nat_eq k x ≡ true). (zero, omega arith, ap place_at (sym (eqb-true k x e))))
    (λ (e : has xs k ≡ true). let rest = contained xs k e in (suc rest.0, omega (arith, rest.1), rest.2))
    (or_cases (nat_eq k x) (has xs k) h)

pub union : (old now : List Place) (sorted runs : List Rows) → IsPermutation runs sorted → (e : IsEmitted old now sorted) → AreUnion runs (map place_at e.keys)
union old now sorted runs moved e = record {
  in_order = AllPairs-from_rises _ (in_order 0 e.next e.keys e.rise);
  exact = λ q. (only q, all q);
}
  where
    only : (q : Place) → Contains (map place_at e.keys) q → list_any (is_in q) runs ≡ true
    only q c =
        let number = mapped e.keys q c in
        let run = Any-from_list_any (has_key number.0) sorted (sym (e.each number.0) ∙ number.1) in
        let rows : IsRows run.1 = subst IsRows run.3 (e.rows run.0 run.1 run.2) in
        let here : is_in q run.1 ≡ true = subst (λ (p : Place). is_in p run.1 ≡ true) number.2 (number_in_run run.1 number.0 rows run.4) in
        list_any-IsPermutation (is_in q) runs sorted moved ∙ list_any-from_Any (is_in q) sorted (run.0, run.1, run.2, run.3, here)

    all : (q : Place) → list_any (is_in q) runs ≡ true → Contains (map place_at e.keys) q
    all q h =
        let run = Any-from_list_any (is_in q) sorted (sym (list_any-IsPermutation (is_in q) runs sorted moved) ∙ h) in
        let rows : IsRows run.1 = subst IsRows run.3 (e.rows run.0 run.1 run.2) in
        let here = cell_in_run run.1 q rows run.4 in
        subst (Contains (map place_at e.keys)) here.1
        (contained e.keys (key_of q) (e.each (key_of q) ∙ list_any-from_Any (has_key (key_of q)) sorted (run.0, run.1, run.2, run.3, here.0)))
