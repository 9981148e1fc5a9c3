-- Which trees a formula can be: each child stands at a level of the grammar that its place allows, each number is
-- in range and isn't negative, each error is one of the eight constants, each reference lies in the sheets with
-- its ends in order, names and the names of calls are spelled so, the latter without small letters, and the
-- counts are within the limits.
use Rattle.std.specs.Prelude.{ℕ, ℤ, pos, negsuc, ◌-◌, ◌&&◌, nat_le, Bool, true, false}
use Rattle.std.specs.List.{list_all}
use Rattle.std.specs.Str.{is_utf8}
use Rattle.calc_num.specs.Decimals.{is_raw}
use Rattle.calc_addr.specs.ValidReferences.{is_valid_reference}
use Rattle.calc_model.specs.declared.tree.Tree.{Tree}
use Rattle.calc_model.specs.declared.tree.Tree.TheOpen.{Tree-F}
use Rattle.calc_model.specs.declared.tree.Tree.TheFolds.{fold-Tree}
use Rattle.calc_model.specs.Contents.{is_error_constant}
use Rattle.calc_model.specs.Grammar.{op_level}
use Rattle.calc_model.specs.Limits.{is_in_limits}
use Rattle.calc_model.specs.Tokens.{has_no_small_letter, is_identifier, is_name}

-- What a node is to the node around it: the level of the grammar at which it stands, and whether it is formed.
pub record Form : Type 0 where
  pub level : ℕ
  pub formed : Bool

-- formed, and at that level or one that binds tighter
abbrev pub stands_within : ℕ → Form → Bool
stands_within level child = child.formed && nat_le child.level level

abbrev pub is_not_negative : ℤ → Bool
is_not_negative (pos n) = true
is_not_negative (negsuc n) = false

-- the form of a node, from those of its children
abbrev pub form_step : Tree-F Form → Form
form_step (Tree-F.Number n) = record { level = 0; formed = is_raw n && is_not_negative n }
form_step (Tree-F.Words text) = record { level = 0; formed = is_utf8 text }
form_step (Tree-F.Bad fault) = record { level = 0; formed = is_error_constant fault }
form_step (Tree-F.Ref reference) = record { level = 0; formed = is_valid_reference reference }
form_step (Tree-F.Name name) = record { level = 0; formed = is_name name }
form_step (Tree-F.Call name args) = record { level = 0; formed = is_identifier name && has_no_small_letter name && list_all (stands_within 6) args }
form_step (Tree-F.Paren child) = record { level = 0; formed = stands_within 6 child }
form_step (Tree-F.Plus child) = record { level = 0; formed = stands_within 0 child }
form_step (Tree-F.Minus child) = record { level = 0; formed = stands_within 0 child }
form_step (Tree-F.Percent child) = record { level = 1; formed = stands_within 1 child }
form_step (Tree-F.Binary op left right) = record { level = op_level op; formed = stands_within (op_level op) left && stands_within (op_level op - 1) right }

abbrev pub form_of : Tree → Form
form_of = fold-Tree Form form_step

unfoldable pub is_well_formed : Tree → Bool
is_well_formed tree = (form_of tree).formed

-- a tree that a formula can be
abbrev pub is_formed : Tree → Bool
is_formed tree = is_well_formed tree && is_in_limits tree
