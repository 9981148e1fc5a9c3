-- What two parts of a text spell together.
use Rattle.std.proofs.Common.{◌≡◌, ℕ, ◌-◌, ◌≤◌, Bool, true, false, cond, ◌&&◌, List, refl, ap, arith}
use Rattle.std.specs.Prelude.{nat_le, nat_eq, codes, map, drop}
use Rattle.std.specs.List.{list_any, before_first, starts_with}
use Rattle.std.specs.Char.{to_ascii_lowercase}
use Rattle.std.specs.Str.Parse.{digits_value}
use Rattle.std.proofs.lemmas.Bool.{and_parts, leb-true}
use Rattle.calc_addr.specs.declared.read.Spelled.{Spelled}
use Rattle.calc_addr.specs.declared.read.Spelled.TheVariants.{Is, Outside, Not}
use Rattle.calc_addr.specs.Spelling.{both, are_digits_or_zero, from_zero, is_point, sheet_of, sheet_part, undollared, up_to}

pub first_is : {A B : Type 0} (x : Spelled A) (y : Spelled B) (a : A) (b : B) → ◌≡◌ {A = Spelled (A × B)} (Is (a, b)) (both (λ u v. (u, v)) x y) → x ≡ Is a
first_is {A} {B} (Is u) (Is v) a b e =
    let pairs : ◌≡◌ {A = A × B} (u, v) (a, b) = cc in
    let firsts : u ≡ a = ap (λ p. p.0) pairs in
    cc
first_is (Is u) Outside a b e = cc
first_is (Is u) Not a b e = cc
first_is Outside (Is v) a b e = cc
first_is Outside Outside a b e = cc
first_is Outside Not a b e = cc
first_is Not y a b e = cc

inside : (b : Bool) (v n : ℕ) → (b ≡ true → v ≤ 16) → from_zero (cond b (Is v) Outside) ≡ Is n → n ≤ 15
inside true v n h e =
    let same : v - 1 ≡ n = cc in
    omega (arith, h refl)
inside false v n h e = cc

numbered : (b : Bool) (v n : ℕ) → cond b (from_zero (up_to 16 v)) Not ≡ Is n → n ≤ 15
numbered true v n e =
    inside (nat_le 1 v && nat_le v 16) v n (λ h. leb-true v 16 (and_parts (nat_le 1 v) (nat_le v 16) h).1) e
numbered false v n e = cc

lettered : (b form : Bool) (v n : ℕ) → cond b (cond form (from_zero (up_to 16 v)) Not) Not ≡ Is n → n ≤ 15
lettered true form v n e = numbered form v n e
lettered false form v n e = cc

pub sheet_of-inside : (word : List ℕ) (n : ℕ) → sheet_of word ≡ Is n → n ≤ 15
sheet_of-inside word n e =
    let digits = drop 5 word in
    lettered (starts_with nat_eq (map to_ascii_lowercase word) (codes "sheet")) (are_digits_or_zero digits) (digits_value 10 digits) n e

part_inside : (b : Bool) (x : Spelled ℕ) (n : ℕ) → (x ≡ Is n → n ≤ 15) → cond b x (Is 0) ≡ Is n → n ≤ 15
part_inside true x n h e = h e
part_inside false x n h e =
    let same : 0 ≡ n = cc in
    omega arith

pub sheet_part_inside : (text : List ℕ) (n : ℕ) → sheet_part text ≡ Is n → n ≤ 15
sheet_part_inside text n e =
    let word = undollared (before_first is_point text) in
    part_inside (list_any is_point text) (sheet_of word) n (sheet_of-inside word n) e
