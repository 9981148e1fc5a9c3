-- The printed text of contents. An empty one prints nothing, a constant its value's text, a raw text itself, and
-- a formula `=` and its tree: numbers in their decimal form, texts in quotes, references in brackets in capitals
-- with their marks, operators at their operands, and no blank.
use Rattle.std.specs.Prelude.{ℕ, List, [], ◌++◌, codes}
use Rattle.std.specs.List.{join_with_byte}
use Rattle.calc_num.specs.Numbers.{printed}
use Rattle.calc_addr.specs.Bracketed.{printed_reference}
use Rattle.calc_model.specs.declared.tree.Tree.{Tree}
use Rattle.calc_model.specs.declared.tree.Tree.TheOpen.{Tree-F}
use Rattle.calc_model.specs.declared.tree.Tree.TheFolds.{fold-Tree}
use Rattle.calc_model.specs.declared.content.Content.{Content}
use Rattle.calc_model.specs.declared.content.Content.TheVariants.{Empty, Constant, Formula, Raw}
use Rattle.calc_model.specs.Grammar.{op_text}
use Rattle.calc_model.specs.Tokens.{quoted}
use Rattle.calc_model.specs.ValueTexts.{fault_text, text_of}

-- the text of a node, from those of its children
abbrev pub printed_step : Tree-F (List ℕ) → List ℕ
printed_step (Tree-F.Number n) = printed n
printed_step (Tree-F.Words text) = quoted text
printed_step (Tree-F.Bad fault) = fault_text fault
printed_step (Tree-F.Ref reference) = codes "[" ++ printed_reference reference ++ codes "]"
printed_step (Tree-F.Name name) = name
printed_step (Tree-F.Call name args) = name ++ codes "(" ++ join_with_byte 59 args ++ codes ")"
printed_step (Tree-F.Paren child) = codes "(" ++ child ++ codes ")"
printed_step (Tree-F.Plus child) = codes "+" ++ child
printed_step (Tree-F.Minus child) = codes "-" ++ child
printed_step (Tree-F.Percent child) = child ++ codes "%"
printed_step (Tree-F.Binary op left right) = left ++ op_text op ++ right

unfoldable pub printed_tree : Tree → List ℕ
printed_tree tree = fold-Tree (List ℕ) printed_step tree

abbrev pub printed_content : Content → List ℕ
printed_content Empty = []
printed_content (Constant value) = text_of value
printed_content (Formula tree) = codes "=" ++ printed_tree tree
printed_content (Raw text) = text
