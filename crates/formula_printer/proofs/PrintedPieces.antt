-- The pieces that are printed without a blank are pieces of their levels.
use Rattle.std.proofs.Common.{◌≡◌, ℕ, suc, ◌-◌, true, List, [], ◌∷◌, ◌++◌, map, refl, sym, ap, ◌∙◌, subst, append_assoc}
use Rattle.std.specs.Prelude.{codes}
use Rattle.std.specs.List.{AllByRecursion, join_with_byte}
use Rattle.std.proofs.lemmas.List.{append-nil}
use Rattle.calc_model.specs.declared.tree.Op.{Op}
use Rattle.calc_model.specs.declared.tree.Tree.{Tree}
use Rattle.calc_model.specs.declared.tree.Tree.TheVariants as t
use Rattle.calc_model.specs.Grammar.{in_capitals, op_level, op_text, IsPrimary, IsLevel, AreArgs, AreSomeArgs, call, minus, more, none, one, operated, parenthesis, percent, plus, primary, some}
use Rattle.calc_model.specs.Tokens.{is_identifier}
use Rattle.calc_model.proofs.GrammarLevels.{level_some}

-- an infix operator between its operands
pub printed_binary : (op : Op) (left right : List ℕ) (x y : Tree) → IsLevel (op_level op) left x → IsLevel (op_level op - 1) right y → IsLevel (op_level op) (left ++ op_text op ++ right) (t.Binary op x y)
printed_binary op left right x y is_left is_right =
    let level = op_level op - 1 in
    let Left : ℕ → Type 0 = λ n. IsLevel n left x in
    let Whole : ℕ → Type 0 = λ n. IsLevel n (left ++ op_text op ++ right) (t.Binary op x y) in
    let Spelled : List ℕ → Type 0 = λ text. IsLevel (suc level) text (t.Binary op x y) in
    let some = level_some op in
    subst Whole (sym some)
    (subst Spelled (sym (append_assoc left (op_text op) right))
    (operated op [] (subst Left some is_left) some refl is_right))

-- parameters behind the first
abbrev behind_first : List (List ℕ) → List ℕ
behind_first [] = []
behind_first (text ∷ texts) = 59 ∷ (text ++ behind_first texts)

join_with_byte-first : (text : List ℕ) (texts : List (List ℕ)) → join_with_byte 59 (text ∷ texts) ≡ text ++ behind_first texts
join_with_byte-first text [] = sym (append-nil text)
join_with_byte-first text (next ∷ texts) = ap (λ rest. text ++ (59 ∷ rest)) (join_with_byte-first next texts)

-- each tree is a comparison
abbrev pub AreComparisons : (Tree → List ℕ) → List Tree → Type 0
AreComparisons print trees = AllByRecursion (λ x. IsLevel 6 (print x) x) trees

more_args : (print : Tree → List ℕ) (xs : List Tree) → AreComparisons print xs → (front : List ℕ) (args : List Tree) → AreSomeArgs front args → AreSomeArgs (front ++ behind_first (map print xs)) (args ++ xs)
more_args print [] each front args before =
    let Texts : List ℕ → Type 0 = λ text. AreSomeArgs text (args ++ []) in
    let Args : List Tree → Type 0 = λ trees. AreSomeArgs front trees in
    subst Texts (sym (append-nil front)) (subst Args (sym (append-nil args)) before)
more_args print (x ∷ xs) each front args before =
    let behind = behind_first (map print xs) in
    let Texts : List ℕ → Type 0 = λ text. AreSomeArgs text (args ++ x ∷ xs) in
    let Args : List Tree → Type 0 = λ trees. AreSomeArgs ((front ++ (59 ∷ print x)) ++ behind) trees in
    subst Texts (append_assoc front (59 ∷ print x) behind)
    (subst Args (append_assoc args (x ∷ []) xs)
    (more_args print xs each.1 (front ++ (59 ∷ print x)) (args ++ x ∷ []) (more [] before refl each.0)))

pub printed_args : (print : Tree → List ℕ) (args : List Tree) → AreComparisons print args → AreArgs (join_with_byte 59 (map print args)) args
printed_args print [] each = none
printed_args print (x ∷ xs) each =
    let Texts : List ℕ → Type 0 = λ text. AreSomeArgs text (x ∷ xs) in
    some (subst Texts (sym (join_with_byte-first (print x) (map print xs))) (more_args print xs each.1 (print x) (x ∷ []) (one each.0)))

-- a call by its name in capitals
pub printed_call : (name text : List ℕ) (args : List Tree) → is_identifier name ≡ true → in_capitals name ≡ name → AreArgs text args → IsLevel 0 (name ++ codes "(" ++ text ++ codes ")") (t.Call name args)
printed_call name text args identifier same is =
    let Texts : List ℕ → Type 0 = λ bytes. IsPrimary bytes (t.Call name args) in
    let Names : List ℕ → Type 0 = λ capitals. IsPrimary (name ++ (40 ∷ (text ++ (41 ∷ [])))) (t.Call capitals args) in
    let joined : name ++ codes "(" ++ text ++ codes ")" ≡ name ++ (40 ∷ (text ++ (41 ∷ []))) =
    append_assoc (name ++ codes "(") text (codes ")") ∙ append_assoc name (codes "(") (text ++ codes ")") in
    primary (subst Texts (sym joined) (subst Names same (call name [] [] [] identifier refl refl is refl)))

pub printed_parenthesis : (text : List ℕ) (x : Tree) → IsLevel 6 text x → IsLevel 0 (codes "(" ++ text ++ codes ")") (t.Paren x)
printed_parenthesis text x is = primary (parenthesis [] [] refl is refl)

pub printed_plus : (text : List ℕ) (x : Tree) → IsLevel 0 text x → IsLevel 0 (codes "+" ++ text) (t.Plus x)
printed_plus text x is = plus [] refl is

pub printed_minus : (text : List ℕ) (x : Tree) → IsLevel 0 text x → IsLevel 0 (codes "-" ++ text) (t.Minus x)
printed_minus text x is = minus [] refl is

pub printed_percent : (text : List ℕ) (x : Tree) → IsLevel 1 text x → IsLevel 1 (text ++ codes "%") (t.Percent x)
printed_percent text x is = percent [] is refl
