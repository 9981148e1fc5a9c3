-- The printed text of a tree at each kind of node.
use Rattle.std.proofs.Common.{◌≡◌, ℕ, ℤ, List, ◌++◌, map}
use Rattle.std.specs.Prelude.{codes}
use Rattle.std.specs.List.{join_with_byte}
use Rattle.calc_num.specs.Numbers.{printed}
use Rattle.calc_addr.specs.Bracketed.{printed_reference}
use Rattle.calc_addr.specs.References.{Reference}
use Rattle.calc_model.specs.declared.fault.Fault.{Fault}
use Rattle.calc_model.specs.declared.tree.Op.{Op}
use Rattle.calc_model.specs.declared.tree.Tree.{Tree}
use Rattle.calc_model.specs.declared.tree.Tree.TheVariants as t
use Rattle.calc_model.specs.Grammar.{op_text}
use Rattle.calc_model.specs.Printed.{printed_step, printed_tree}
use Rattle.calc_model.specs.Tokens.{quoted}
use Rattle.calc_model.specs.ValueTexts.{fault_text}
use Rattle.calc_model.proofs.TreeFolds as fold

pub printed_tree-Number : (n : ℤ) → printed_tree (t.Number n) ≡ printed n
unfolding printed_tree
printed_tree-Number n = fold.at-Number (List ℕ) printed_step n

pub printed_tree-Words : (text : List ℕ) → printed_tree (t.Words text) ≡ quoted text
unfolding printed_tree
printed_tree-Words text = fold.at-Words (List ℕ) printed_step text

pub printed_tree-Bad : (fault : Fault) → printed_tree (t.Bad fault) ≡ fault_text fault
unfolding printed_tree
printed_tree-Bad fault = fold.at-Bad (List ℕ) printed_step fault

pub printed_tree-Ref : (r : Reference) → printed_tree (t.Ref r) ≡ codes "[" ++ printed_reference r ++ codes "]"
unfolding printed_tree
printed_tree-Ref r = fold.at-Ref (List ℕ) printed_step r

pub printed_tree-Name : (name : List ℕ) → printed_tree (t.Name name) ≡ name
unfolding printed_tree
printed_tree-Name name = fold.at-Name (List ℕ) printed_step name

pub printed_tree-Call : (name : List ℕ) (args : List Tree) → printed_tree (t.Call name args) ≡ name ++ codes "(" ++ join_with_byte 59 (map printed_tree args) ++ codes ")"
unfolding printed_tree
printed_tree-Call name args = fold.at-Call (List ℕ) printed_step name args

pub printed_tree-Paren : (x : Tree) → printed_tree (t.Paren x) ≡ codes "(" ++ printed_tree x ++ codes ")"
unfolding printed_tree
printed_tree-Paren x = fold.at-Paren (List ℕ) printed_step x

pub printed_tree-Plus : (x : Tree) → printed_tree (t.Plus x) ≡ codes "+" ++ printed_tree x
unfolding printed_tree
printed_tree-Plus x = fold.at-Plus (List ℕ) printed_step x

pub printed_tree-Minus : (x : Tree) → printed_tree (t.Minus x) ≡ codes "-" ++ printed_tree x
unfolding printed_tree
printed_tree-Minus x = fold.at-Minus (List ℕ) printed_step x

pub printed_tree-Percent : (x : Tree) → printed_tree (t.Percent x) ≡ printed_tree x ++ codes "%"
unfolding printed_tree
printed_tree-Percent x = fold.at-Percent (List ℕ) printed_step x

pub printed_tree-Binary : (op : Op) (x y : Tree) → printed_tree (t.Binary op x y) ≡ printed_tree x ++ op_text op ++ printed_tree y
unfolding printed_tree
printed_tree-Binary op x y = fold.at-Binary (List ℕ) printed_step op x y

pub ruleset printing = (printed_tree-Number, printed_tree-Words, printed_tree-Bad, printed_tree-Ref, printed_tree-Name, printed_tree-Call, printed_tree-Paren, printed_tree-Plus, printed_tree-Minus, printed_tree-Percent, printed_tree-Binary)
