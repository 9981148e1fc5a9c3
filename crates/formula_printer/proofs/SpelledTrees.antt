-- The printed text of a well formed tree spells it.
use Rattle.std.proofs.Common.{◌≡◌, ℕ, ◌-◌, ◌≤◌, ◌&&◌, Bool, true, List, [], ◌∷◌, ◌++◌, map, refl, sym, subst, arith}
use Rattle.std.specs.Prelude.{codes, nat_le}
use Rattle.std.specs.List.{AllByRecursion, join_with_byte, list_all}
use Rattle.std.proofs.lemmas.Bool.{and_parts, leb-true}
use Rattle.calc_num.specs.Numbers.{printed}
use Rattle.calc_addr.specs.Bracketed.{printed_reference}
use Rattle.calc_model.specs.declared.tree.Op.{Op}
use Rattle.calc_model.specs.declared.tree.Tree.{Tree}
use Rattle.calc_model.specs.declared.tree.Tree.TheVariants as t
use Rattle.calc_model.specs.Formed.{Form, form_of, form_step, stands_within, is_well_formed}
use Rattle.calc_model.specs.Grammar.{op_level, op_text, IsLevel, Spells, error, name, short, string}
use Rattle.calc_model.specs.Printed.{printed_tree}
use Rattle.calc_model.specs.Tokens.{has_no_small_letter, is_identifier, quoted}
use Rattle.calc_model.specs.ValueTexts.{fault_text}
use Rattle.calc_model.proofs.TreeFolds as fold
use Rattle.calc_model.proofs.TreeInduction.{tree_ind}
use Rattle.formula_printer.proofs.PrintedOperands.{in_capitals-same, printed_bracket, printed_number, level_of_operand}
use Rattle.formula_printer.proofs.PrintedTrees.{printed_tree-Binary, printed_tree-Bad, printed_tree-Call, printed_tree-Minus, printed_tree-Name, printed_tree-Number, printed_tree-Paren, printed_tree-Percent, printed_tree-Plus, printed_tree-Ref, printed_tree-Words}
use Rattle.calc_model.proofs.GrammarLevels.{level_most, loosened}
use Rattle.formula_printer.proofs.PrintedPieces.{AreComparisons, printed_args, printed_binary, printed_call, printed_minus, printed_parenthesis, printed_percent, printed_plus}

-- a tree of this form has a level, and where it is formed, the text spells it there
record IsPlaced (form : Form) (text : List ℕ) (x : Tree) : Type 0 where
  most : form.level ≤ 6
  spelled : form.formed ≡ true → IsLevel form.level text x

abbrev Placed : Tree → Type 0
Placed x = IsPlaced (form_of x) (printed_tree x) x

-- in a place that allows the level
in_place : (k : ℕ) (x : Tree) → Placed x → stands_within k (form_of x) ≡ true → IsLevel k (printed_tree x) x
in_place k x is formed =
    let form = form_of x in
    let parts = and_parts form.formed (nat_le form.level k) formed in
    loosened (printed_tree x) x k form.level (leb-true form.level k parts.1) (is.spelled parts.0)

-- a tree whose form and text are known
placed : (x : Tree) (form : Form) (text : List ℕ) → form_of x ≡ form → printed_tree x ≡ text → form.level ≤ 6 → (form.formed ≡ true → IsLevel form.level text x) → Placed x
placed x form text is_form is_text most spelled =
    let Forms : Form → Type 0 = λ f. IsPlaced f (printed_tree x) x in
    let Texts : List ℕ → Type 0 = λ bytes. IsPlaced form bytes x in
    subst Forms (sym is_form) (subst Texts (sym is_text) record { most = most; spelled = spelled })

at_tightest : (x : Tree) (formed : Bool) (text : List ℕ) → form_of x ≡ record { level = 0; formed = formed } → printed_tree x ≡ text → (formed ≡ true → IsLevel 0 text x) → Placed x
at_tightest x formed text is_form is_text spelled = placed x (record { level = 0; formed = formed }) text is_form is_text (omega arith) spelled

all_in_place : (args : List Tree) → AllByRecursion Placed args → list_all (stands_within 6) (map form_of args) ≡ true → AreComparisons printed_tree args
all_in_place [] each formed = tt
all_in_place (x ∷ xs) each formed =
    let parts = and_parts (stands_within 6 (form_of x)) (list_all (stands_within 6) (map form_of xs)) formed in
    (in_place 6 x each.0 parts.0, all_in_place xs each.1 parts.1)

placed_call : (n : List ℕ) (args : List Tree) → AllByRecursion Placed args → Placed (t.Call n args)
placed_call n args each =
    let spelled = is_identifier n && has_no_small_letter n in
    let formed = list_all (stands_within 6) (map form_of args) in
    let text = join_with_byte 59 (map printed_tree args) in
    at_tightest (t.Call n args) (spelled && formed) (n ++ codes "(" ++ text ++ codes ")") (fold.at-Call Form form_step n args) (printed_tree-Call n args)
    (λ allowed.
    let parts = and_parts spelled formed allowed in
    let names = and_parts (is_identifier n) (has_no_small_letter n) parts.0 in
    printed_call n text args names.0 (in_capitals-same n names.1) (printed_args printed_tree args (all_in_place args each parts.1)))

placed_binary : (op : Op) (x y : Tree) → Placed x → Placed y → Placed (t.Binary op x y)
placed_binary op x y left right =
    let formed = stands_within (op_level op) (form_of x) && stands_within (op_level op - 1) (form_of y) in
    placed (t.Binary op x y) (record { level = op_level op; formed = formed }) (printed_tree x ++ op_text op ++ printed_tree y) (fold.at-Binary Form form_step op x y) (printed_tree-Binary op x y) (level_most op)
    (λ allowed.
    let parts = and_parts (stands_within (op_level op) (form_of x)) (stands_within (op_level op - 1) (form_of y)) allowed in
    printed_binary op (printed_tree x) (printed_tree y) x y (in_place (op_level op) x left parts.0) (in_place (op_level op - 1) y right parts.1))

every_placed : (x : Tree) → Placed x
every_placed = tree_ind Placed record {
  number = λ n. at_tightest (t.Number n) _ (printed n) (fold.at-Number Form form_step n) (printed_tree-Number n) (λ allowed. level_of_operand (printed n) (t.Number n) (printed_number n allowed));
  words = λ text. at_tightest (t.Words text) _ (quoted text) (fold.at-Words Form form_step text) (printed_tree-Words text) (λ allowed. level_of_operand (quoted text) (t.Words text) (string text allowed));
  bad = λ fault. at_tightest (t.Bad fault) _ (fault_text fault) (fold.at-Bad Form form_step fault) (printed_tree-Bad fault) (λ allowed. level_of_operand (fault_text fault) (t.Bad fault) (error fault allowed));
  reference = λ r. at_tightest (t.Ref r) _ (codes "[" ++ printed_reference r ++ codes "]") (fold.at-Ref Form form_step r) (printed_tree-Ref r) (λ allowed. level_of_operand (codes "[" ++ printed_reference r ++ codes "]") (t.Ref r) (printed_bracket r allowed));
  name = λ text. at_tightest (t.Name text) _ text (fold.at-Name Form form_step text) (printed_tree-Name text) (λ allowed. level_of_operand text (t.Name text) (name text allowed));
  call = placed_call;
  paren = λ x is. at_tightest (t.Paren x) (stands_within 6 (form_of x)) (codes "(" ++ printed_tree x ++ codes ")") (fold.at-Paren Form form_step x) (printed_tree-Paren x) (λ allowed. printed_parenthesis (printed_tree x) x (in_place 6 x is allowed));
  plus = λ x is. at_tightest (t.Plus x) (stands_within 0 (form_of x)) (codes "+" ++ printed_tree x) (fold.at-Plus Form form_step x) (printed_tree-Plus x) (λ allowed. printed_plus (printed_tree x) x (in_place 0 x is allowed));
  minus = λ x is. at_tightest (t.Minus x) (stands_within 0 (form_of x)) (codes "-" ++ printed_tree x) (fold.at-Minus Form form_step x) (printed_tree-Minus x) (λ allowed. printed_minus (printed_tree x) x (in_place 0 x is allowed));
  percent = λ x is. placed (t.Percent x) (record { level = 1; formed = stands_within 1 (form_of x) }) (printed_tree x ++ codes "%") (fold.at-Percent Form form_step x) (printed_tree-Percent x) (omega arith) (λ allowed. printed_percent (printed_tree x) x (in_place 1 x is allowed));
  binary = placed_binary;
}

-- the printed text of a formula that can be
pub printed_tree-spelled : (tree : Tree) → is_well_formed tree ≡ true → Spells (codes "=" ++ printed_tree tree) tree
unfolding is_well_formed
printed_tree-spelled tree formed =
    let is = every_placed tree in
    record {
      front = codes "=";
      blanks = [];
      comparison = printed_tree tree;
      is_front = short;
      are_blank = refl;
      spelled = loosened (printed_tree tree) tree 6 (form_of tree).level is.most (is.spelled formed);
      joined = refl;
    }
