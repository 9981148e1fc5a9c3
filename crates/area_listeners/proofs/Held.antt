-- The pairs that contracts see are those at the spots.
use Rattle.std.proofs.Common.{◌≡◌, ℕ, Bool, true, false, cond, not, ◌&&◌, ◌||◌, List, [], ◌∷◌, map, nat_lt, refl, sym, ap, ◌∙◌, arith}
use Rattle.std.specs.Prelude.{◌==◌}
use Rattle.std.specs.List.{All, list_any}
use Rattle.std.specs.declared.cmp.Ordering.{Ordering}
use Rattle.std.specs.declared.cmp.Ordering.TheVariants.{Less, Equal, Greater}
use Rattle.std.specs.Ordering.{is_eq, nat_cmp, ordering_then}
use Rattle.std.proofs.lemmas.Bool.{false≢true}
use Rattle.std.proofs.lemmas.Bool.Decides.{nat_tests}
use Rattle.ears.proofs.Meetings.{both_ways}
use Rattle.area_listeners.specs.declared.listener.Listener.{Listener}
use Rattle.area_listeners.specs.declared.spot.Spot.{Spot}
use Rattle.area_listeners.specs.Pairs.{holds, is_same}
use Rattle.area_listeners.specs.Spots.{IsPlaced, compared, listener_of, spot_of}
use Rattle.area_listeners.proofs.Placed.{any_placed}
use Rattle.area_listeners.proofs.Same.{same-eq}

then_eq : (x y : ℕ) (o : Ordering) → is_eq (ordering_then (nat_cmp x y) o) ≡ ((x == y) && is_eq o)
then_eq x y o = by_cases x y o
  where
    by_cases : (x y : ℕ) (o : Ordering) → is_eq (ordering_then (nat_cmp x y) o) ≡ ((x == y) && is_eq o)
    by_cases x y o =
        elim (x == y) as (λ b. (x == y) ≡ b → is_eq (ordering_then (cond (nat_lt x y) Less (cond b Equal Greater)) o) ≡ (b && is_eq o)) [
          | true ↦ λ e. ap (λ b. is_eq (ordering_then (cond b Less Equal) o)) (not_less x y e)
          | false ↦ λ e. elim (nat_lt x y) as (λ b. is_eq (ordering_then (cond b Less Greater) o) ≡ false) [ true ↦ refl | false ↦ refl ]
        ] refl
      where
        not_less : (x y : ℕ) → (x == y) ≡ true → nat_lt x y ≡ false
        not_less x y h = grind (arith, nat_tests)

last_eq : (x y : ℕ) → is_eq (nat_cmp x y) ≡ (x == y)
last_eq x y = elim_then (nat_cmp x y) ∙ then_eq x y Equal ∙ and_true (x == y)
  where
    elim_then : (o : Ordering) → is_eq o ≡ is_eq (ordering_then o Equal)
    elim_then Less = refl
    elim_then Equal = refl
    elim_then Greater = refl

    and_true : (b : Bool) → (b && true) ≡ b
    and_true true = refl
    and_true false = refl

-- the spots are one where all their numbers are
one : (a s : Spot) → is_eq (compared a s)
    ≡ ((a.class == s.class) && ((a.sheet == s.sheet) && ((a.column == s.column) && ((a.first_row == s.first_row) && ((a.last_row == s.last_row) && ((a.first_col == s.first_col) && ((a.last_col == s.last_col) && (a.id == s.id))))))))
one a s =
    then_eq a.class s.class _ ∙ ap (λ b. (a.class == s.class) && b) (then_eq a.sheet s.sheet _
    ∙ ap (λ b. (a.sheet == s.sheet) && b) (then_eq a.column s.column _
    ∙ ap (λ b. (a.column == s.column) && b) (then_eq a.first_row s.first_row _
    ∙ ap (λ b. (a.first_row == s.first_row) && b) (then_eq a.last_row s.last_row _
    ∙ ap (λ b. (a.last_row == s.last_row) && b) (then_eq a.first_col s.first_col _
    ∙ ap (λ b. (a.first_col == s.first_col) && b) (then_eq a.last_col s.last_col _
    ∙ ap (λ b. (a.last_col == s.last_col) && b) (last_eq a.id s.id)))))))

itself : (a : Spot) → is_eq (compared a a) ≡ true
itself a = one a a ∙ all a.class a.sheet a.column a.first_row a.last_row a.first_col a.last_col a.id
  where
    all : (a b c d e f g h : ℕ) → ((a == a) && ((b == b) && ((c == c) && ((d == d) && ((e == e) && ((f == f) && ((g == g) && (h == h)))))))) ≡ true
    all a b c d e f g h = grind (arith, nat_tests)

-- a pair is the one at a spot where it would stand there
pub same_spot : (x : Listener) (s : Spot) → s ≡ spot_of (listener_of s) → is_same x (listener_of s) ≡ is_eq (compared (spot_of x) s)
same_spot x s place =
    both_ways _ _
    (λ h. ap (λ y. is_eq (compared (spot_of y) s)) (same-eq x (listener_of s) h) ∙ ap (λ t. is_eq (compared t s)) (sym place) ∙ itself s)
    (λ h.
    reordered ((spot_of x).class == s.class) (x.area.sheet == s.sheet) ((spot_of x).column == s.column) (x.area.first_row == s.first_row) (x.area.last_row == s.last_row)
    (x.area.first_col == s.first_col) (x.area.last_col == s.last_col) (x.id == s.id) (sym (one (spot_of x) s) ∙ h))
  where
    reordered : (a b c d e f g h : Bool) → (a && (b && (c && (d && (e && (f && (g && h))))))) ≡ true → (h && ((b && (f && g)) && (d && e))) ≡ true
    reordered true true true true true true true true is = refl
    reordered false b c d e f g h is = absurd (false≢true is)
    reordered true false c d e f g h is = absurd (false≢true is)
    reordered true true false d e f g h is = absurd (false≢true is)
    reordered true true true false e f g h is = absurd (false≢true is)
    reordered true true true true false f g h is = absurd (false≢true is)
    reordered true true true true true false g h is = absurd (false≢true is)
    reordered true true true true true true false h is = absurd (false≢true is)
    reordered true true true true true true true false is = absurd (false≢true is)

pub any_map : {X Y : Type 0} (p : Y → Bool) (f : X → Y) (xs : List X) → list_any p (map f xs) ≡ list_any (λ x. p (f x)) xs
any_map p f [] = refl
any_map p f (x ∷ xs) = ap (λ b. p (f x) || b) (any_map p f xs)

-- whether a pair is there, by its spot
pub held : (keys : List Spot) → All IsPlaced keys → (x : Listener) → holds (map listener_of keys) x ≡ list_any (λ s. is_eq (compared (spot_of x) s)) keys
held keys placed x = any_map (is_same x) listener_of keys ∙ any_placed IsPlaced (λ s. is_same x (listener_of s)) (λ s. is_eq (compared (spot_of x) s)) (λ s is. same_spot x s is.place) keys placed

same_turned : (x l : Listener) → is_same l x ≡ is_same x l
same_turned x l = grind (arith, nat_tests)

-- the spot that is put in or taken out
pub same_one : (x l : Listener) → is_eq (compared (spot_of l) (spot_of x)) ≡ is_same x l
same_one x l = sym (same_spot l (spot_of x) refl) ∙ same_turned x l

pub put_in : (s o : Bool) → cond s true o ≡ (o || s)
put_in true true = refl
put_in true false = refl
put_in false true = refl
put_in false false = refl

pub taken_out : (s o : Bool) → cond s false o ≡ (o && not s)
taken_out true true = refl
taken_out true false = refl
taken_out false true = refl
taken_out false false = refl
