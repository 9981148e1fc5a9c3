-- A table of codes: for each number the code that has it, if one is live. A code is a relative form and the
-- number of its uses.
use Rattle.std.specs.Prelude.{◌≡◌, ◌≢◌, ◌<◌, ◌+◌, ◌^◌, ℕ, ◌==◌, Bool, true, List, count_by, Option, Some, None, is_some, IsSome, sum_by, option_map, slice_index_or, if◌then◌else◌, refl}
use Rattle.std.specs.Option.{option_map_or}
use Rattle.std.specs.List.{list_all}
use Rattle.std.specs.Coded.{Coded, code_by, coded×, coded_ℕ}
use Rattle.calc_addr.specs.Places.{Place}
use Rattle.calc_model.specs.contracts.tree.Tree as coded_tree
use Rattle.calc_model.specs.declared.tree.Tree.{Tree}
use Rattle.calc_model.specs.declared.tree.Tree.TheVariants.{Bad}
use Rattle.calc_model.specs.declared.fault.Fault.TheVariants.{Syntax}
use Rattle.formula_code.specs.Nodes.{postfix}
use Rattle.formula_code.specs.Relative.{absolute, relative}
use Rattle.formula_code.specs.Tokens.{is_valid_node}

pub record Code : Type 0 where
  pub form : Tree
  pub uses : ℕ

abbrev pub code_of_code : Coded Code
code_of_code = code_by (Tree × ℕ) (coded× coded_tree.the_row.coded coded_ℕ) (λ c. (c.form, c.uses)) (λ p. record { form = p.0; uses = p.1 }) (λ _. refl)

abbrev pub Codes : Type 0
Codes = List (Option Code)

-- the code with that number, if it is live
abbrev pub code_at : Codes → ℕ → Option Code
code_at codes id = slice_index_or codes id None

abbrev pub IsLive : Codes → ℕ → Type 0
IsLive codes id = IsSome (code_at codes id)

-- how many codes are live
abbrev pub live_count : Codes → ℕ
live_count codes = count_by is_some codes

-- a live code's form, and its uses; a code that isn't live has none
abbrev pub form_at : Codes → ℕ → Tree
form_at codes id = option_map_or (λ (code : Code). code.form) (code_at codes id) (Bad Syntax)

abbrev pub slot_uses : Option Code → ℕ
slot_uses slot = option_map_or (λ (code : Code). code.uses) slot 0

abbrev pub uses_at : Codes → ℕ → ℕ
uses_at codes id = slot_uses (code_at codes id)

-- the uses of all codes
abbrev pub total_uses : Codes → ℕ
total_uses codes = sum_by slot_uses codes

-- the tree of a code for a formula at home
abbrev pub tree_at : Codes → ℕ → Place → Tree
tree_at codes id home = absolute home (form_at codes id)

-- each reference lies in the sheet, with its ends in order
abbrev pub has_valid_references : Tree → Bool
has_valid_references tree = list_all is_valid_node (postfix tree)

-- The code is live, and its references at home lie in the sheet, with their ends in order.
pub record IsCodeAt (codes : Codes) (id : ℕ) (home : Place) : Type 0 where
  pub live : IsLive codes id
  pub valid : has_valid_references (tree_at codes id home) ≡ true

-- The number has this code now, or none, and each other number has what it had.
pub record Changes (old new : Codes) (id : ℕ) (code : Option Code) : Type 0 where
  pub changed : code_at new id ≡ code
  pub others : (other : ℕ) → other ≢ id → code_at new other ≡ code_at old other

-- the code, if there is one, with so many uses
abbrev pub with_new_uses : ℕ → Option Code → Option Code
with_new_uses uses = option_map (λ (code : Code). record code { uses = uses })

-- Each number has what it had.
abbrev pub IsSame : Codes → Codes → Type 0
IsSame old new = (id : ℕ) → code_at new id ≡ code_at old id

-- a form with so many uses, and no code where there is none
abbrev pub with_uses : Tree → ℕ → Option Code
with_uses form uses = if uses == 0 then None else Some (record { form = form; uses = uses })

-- the number's code is live, with that form
pub record HasForm (codes : Codes) (id : ℕ) (form : Tree) : Type 0 where
  pub live : IsLive codes id
  pub same : form_at codes id ≡ form

-- Two live codes are one exactly where their forms are.
abbrev pub AreApart : Codes → Type 0
AreApart codes = (id other : ℕ) → IsLive codes id → IsLive codes other → form_at codes id ≡ form_at codes other → id ≡ other

-- Each live code has a use.
abbrev pub AreUsed : Codes → Type 0
AreUsed codes = (id : ℕ) → IsLive codes id → 0 < uses_at codes id

-- another use of a code, or the first one of a form
abbrev pub used_again : Codes → ℕ → Tree → Option Code
used_again codes id form = Some (record { form = form; uses = uses_at codes id + 1 })

-- There is room for one code more, and for one use more of each.
pub record HasRoom (codes : Codes) : Type 0 where
  pub codes_left : live_count codes < 2 ^ 24
  pub uses_left : (id : ℕ) → uses_at codes id + 1 < 2 ^ 32

-- The number has the form of the tree at home, and one use more. It had that form before, or none. At home it has
-- the tree.
pub record IsInterned (old new : Codes) (home : Place) (tree : Tree) (id : ℕ) : Type 0 where
  pub changes : Changes old new id (used_again old id (relative home tree))
  pub kept : IsLive old id → form_at old id ≡ relative home tree
  pub tree_back : tree_at new id home ≡ tree
  pub at_home : IsCodeAt new id home
