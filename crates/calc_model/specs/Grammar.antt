-- Which texts spell a formula, and which tree it is, after OpenFormula's expression syntax: the bytes of each
-- piece, and its tree. A token takes the blanks behind it, and those before the first token follow the formula's
-- front.
--
-- The levels of operators bind from 0, the tightest, to 6: a primary behind prefix operators; that with percent
-- signs behind it; powers; products and quotients; sums and differences; joined texts; comparisons. An infix
-- operator associates to the left.
use Rattle.std.specs.Prelude.{◌≡◌, ℕ, suc, true, false, ◌==◌, ◌||◌, Bool, List, [], ◌∷◌, ◌++◌, Some, codes, map}
use Rattle.std.specs.Char.{to_ascii_uppercase}
use Rattle.std.specs.Str.{is_utf8}
use Rattle.calc_num.specs.Spelling.{reading}
use Rattle.calc_num.specs.declared.parse.Reading.TheVariants as readings
use Rattle.calc_addr.specs.Bracketed.{spelled_reference}
use Rattle.calc_addr.specs.References.{Reference}
use Rattle.calc_model.specs.declared.fault.Fault.{Fault}
use Rattle.calc_model.specs.declared.fault.Fault.TheVariants.{Over}
use Rattle.calc_model.specs.declared.tree.Op.{Op}
use Rattle.calc_model.specs.declared.tree.Op.TheVariants.{Pow, Mul, Div, Add, Sub, Cat, Eq, Ne, Lt, Le, Gt, Ge}
use Rattle.calc_model.specs.declared.tree.Tree.{Tree}
use Rattle.calc_model.specs.declared.tree.Tree.TheVariants as t
use Rattle.calc_model.specs.Contents.{is_error_constant}
use Rattle.calc_model.specs.Tokens.{are_blanks, is_identifier, is_name, quoted}
use Rattle.calc_model.specs.ValueTexts.{fault_text}

-- how an infix operator is written
abbrev pub op_text : Op → List ℕ
op_text Pow = codes "^"
op_text Mul = codes "*"
op_text Div = codes "/"
op_text Add = codes "+"
op_text Sub = codes "-"
op_text Cat = codes "&"
op_text Eq = codes "="
op_text Ne = codes "<>"
op_text Lt = codes "<"
op_text Le = codes "<="
op_text Gt = codes ">"
op_text Ge = codes ">="

-- the level of an infix operator
abbrev pub op_level : Op → ℕ
op_level Pow = 2
op_level Mul = 3
op_level Div = 3
op_level Add = 4
op_level Sub = 4
op_level Cat = 5
op_level Eq = 6
op_level Ne = 6
op_level Lt = 6
op_level Le = 6
op_level Gt = 6
op_level Ge = 6

-- the text begins with a sign
abbrev pub is_signed : List ℕ → Bool
is_signed [] = false
is_signed (byte ∷ rest) = (byte == 43) || (byte == 45)

-- a token that is an operand by itself, without the blanks behind it
pub data IsOperand : List ℕ → Tree → Type 0 where
  number : (text : List ℕ) (n : _) → is_signed text ≡ false → reading text ≡ readings.Number n → IsOperand text (t.Number n)
  large_number : (text : List ℕ) → is_signed text ≡ false → reading text ≡ readings.TooLarge → IsOperand text (t.Bad Over)
  string : (text : List ℕ) → is_utf8 text ≡ true → IsOperand (quoted text) (t.Words text)
  reference : (text : List ℕ) (r : Reference) → spelled_reference text ≡ Some r → IsOperand (codes "[" ++ text ++ codes "]") (t.Ref r)
  error : (fault : Fault) → is_error_constant fault ≡ true → IsOperand (fault_text fault) (t.Bad fault)
  name : (text : List ℕ) → is_name text ≡ true → IsOperand text (t.Name text)

-- a function's name in capitals
abbrev pub in_capitals : List ℕ → List ℕ
in_capitals text = map to_ascii_uppercase text

mutual
  pub data IsPrimary : List ℕ → Tree → Type 0 where
    operand : {text : List ℕ} {x : Tree} (blanks : List ℕ) → IsOperand text x → are_blanks blanks ≡ true → IsPrimary (text ++ blanks) x
    parenthesis : {text : List ℕ} {x : Tree} (first last : List ℕ) → are_blanks first ≡ true → IsLevel 6 text x → are_blanks last ≡ true → IsPrimary (40 ∷ (first ++ (text ++ (41 ∷ last)))) (t.Paren x)
    call : {text : List ℕ} {args : List Tree} (name blanks first last : List ℕ) → is_identifier name ≡ true → are_blanks blanks ≡ true → are_blanks first ≡ true → AreArgs text args → are_blanks last ≡ true → IsPrimary (name ++ (blanks ++ (40 ∷ (first ++ (text ++ (41 ∷ last)))))) (t.Call (in_capitals name) args)

  -- the parameters of a call: none, or one and more behind semicolons
  pub data AreArgs : List ℕ → List Tree → Type 0 where
    none : AreArgs [] []
    some : {text : List ℕ} {args : List Tree} → AreSomeArgs text args → AreArgs text args

  pub data AreSomeArgs : List ℕ → List Tree → Type 0 where
    one : {text : List ℕ} {x : Tree} → IsLevel 6 text x → AreSomeArgs text (x ∷ [])
    more : {front text : List ℕ} {args : List Tree} {x : Tree} (blanks : List ℕ) → AreSomeArgs front args → are_blanks blanks ≡ true → IsLevel 6 text x → AreSomeArgs (front ++ (59 ∷ (blanks ++ text))) (args ++ x ∷ [])

  pub data IsLevel : ℕ → List ℕ → Tree → Type 0 where
    primary : {text : List ℕ} {x : Tree} → IsPrimary text x → IsLevel 0 text x
    plus : {text : List ℕ} {x : Tree} (blanks : List ℕ) → are_blanks blanks ≡ true → IsLevel 0 text x → IsLevel 0 (43 ∷ (blanks ++ text)) (t.Plus x)
    minus : {text : List ℕ} {x : Tree} (blanks : List ℕ) → are_blanks blanks ≡ true → IsLevel 0 text x → IsLevel 0 (45 ∷ (blanks ++ text)) (t.Minus x)
    percent : {text : List ℕ} {x : Tree} (blanks : List ℕ) → IsLevel 1 text x → are_blanks blanks ≡ true → IsLevel 1 (text ++ (37 ∷ blanks)) (t.Percent x)
    looser : {level : ℕ} {text : List ℕ} {x : Tree} → IsLevel level text x → IsLevel (suc level) text x
    operated : {level : ℕ} {left right : List ℕ} {x y : Tree} (op : Op) (blanks : List ℕ) → IsLevel (suc level) left x → op_level op ≡ suc level → are_blanks blanks ≡ true → IsLevel level right y → IsLevel (suc level) (left ++ (op_text op ++ (blanks ++ right))) (t.Binary op x y)

-- what a formula's text begins with
pub data IsFront : List ℕ → Type 0 where
  short : IsFront (codes "=")
  doubled : IsFront (codes "==")
  long : IsFront (codes "of:=")
  long_doubled : IsFront (codes "of:==")

-- The text spells the formula: its front, and then, behind any blanks, a comparison.
pub record Spells (text : List ℕ) (tree : Tree) : Type 0 where
  pub front : List ℕ
  pub blanks : List ℕ
  pub comparison : List ℕ
  pub is_front : IsFront front
  pub are_blank : are_blanks blanks ≡ true
  pub spelled : IsLevel 6 comparison tree
  pub joined : text ≡ front ++ (blanks ++ comparison)
