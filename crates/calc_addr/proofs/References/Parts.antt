-- What the parts of a text in brackets are, where the whole is something.
use Rattle.std.proofs.Common.{◌≡◌, ℕ, List, Option, Some, None, option_map, refl, ap}
use Rattle.calc_addr.specs.Bracketed.{end_of, inside, together}
use Rattle.calc_addr.specs.declared.ends.End.{End}
use Rattle.calc_addr.specs.declared.read.Spelled.{Spelled}
use Rattle.calc_addr.specs.declared.read.Spelled.TheVariants.{Is, Outside, Not}

-- what lies inside is spelled
pub inside_is : (x : Spelled ℕ) (n : ℕ) → inside x ≡ Some n → x ≡ Is n
inside_is (Is m) n e = cc
inside_is Outside n e = cc
inside_is Not n e = cc

-- an end is at its coordinate
pub end_is : (text : List ℕ) (o : Option ℕ) (e : End) → end_of text o ≡ Some e → o ≡ Some e.at
end_is text None e h = cc
end_is text (Some n) e h = ap (option_map (λ (x : End). x.at)) h

-- both parts of what is together
pub record ArePair {A B C : Type 0} (f : A → B → C) (x : Option A) (y : Option B) (c : C) : Type 0 where
  pub first : A
  pub second : B
  pub first_is : x ≡ Some first
  pub second_is : y ≡ Some second
  pub made : f first second ≡ c

pub pair_of : {A B C : Type 0} (f : A → B → C) (x : Option A) (y : Option B) (c : C) → together f x y ≡ Some c → ArePair f x y c
pair_of f (Some a) (Some b) c e = record { first = a; second = b; first_is = refl; second_is = refl; made = cc }
pair_of f (Some a) None c e = cc
pair_of f None y c e = cc
