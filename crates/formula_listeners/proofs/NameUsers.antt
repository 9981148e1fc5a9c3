-- What formulas read that don't use a name, whatever it stands for.
use Rattle.std.proofs.Common.{◌≡◌, ◌≤◌, ℕ, suc, ◌+◌, Bool, true, false, cond, ◌&&◌, nat_le, List, [], ◌∷◌, ◌++◌, map, Option, Some, unwrap_or, refl, sym, ap, subst, ◌∙◌, arith}
use Rattle.std.specs.List.{All, Any}
use Rattle.std.specs.Str.{str_to_ascii_uppercase}
use Rattle.std.proofs.lemmas.List.Elements.{All-head, All-tail}
use Rattle.calc_addr.specs.declared.cell.TheConstants.{LAST_ROW}
use Rattle.calc_addr.specs.Places.{Place, Rectangle}
use Rattle.calc_model.specs.Books.{NameEntries, entry_named}
use Rattle.calc_model.specs.Ears.{ReadArea, area_at}
use Rattle.calc_model.specs.UsedNames.{is_same_name}
use Rattle.calc_model.specs.NamedAreas.{name_cmp, with_name, without_name}
use Rattle.calc_model.specs.Books.{looked_up}
use Rattle.calc_model.proofs.EntriesFound.{find-insert_entry, find-remove_entry}
use Rattle.calc_model.proofs.NamedReads.{exact_names}
use Rattle.run_tables.specs.Runs.{entry}
use Rattle.formula_code.specs.declared.node.Node.{Node}
use Rattle.formula_code.specs.declared.node.Node.TheVariants.{Number, Words, Bad, Ref, Name, Call, Paren, Plus, Minus, Percent, Binary}
use Rattle.formula_code.specs.Codes.{Codes, IsCodeAt, form_at}
use Rattle.formula_code.specs.Ears.{ears_of, named_ears, node_ears}
use Rattle.formula_code.specs.Homes.{rows_below}
use Rattle.formula_code.specs.Names.{IsNamed, UsesName}
use Rattle.formula_code.specs.Nodes.{postfix}
use Rattle.formula_code.specs.Tokens.{absolute_node}
use Rattle.formula_code.proofs.Forms.{nodes_of_tree}
use Rattle.formula_code.proofs.RunReads.{ears_give_reads}
use Rattle.formula_groups.specs.declared.group.Group.{Group}
use Rattle.formula_groups.specs.Groups.{codes_of, group_run, groups_of}
use Rattle.formula_code.specs.Coded.{areas_by_code, code_in_row}
use Rattle.formula_listeners.specs.Renamed.{AgreeElsewhere}
use Rattle.formula_listeners.proofs.GroupWalks.{row_code}

pub agree_named : (entries : NameEntries) (name : List ℕ) (area : Rectangle) → AgreeElsewhere name entries (with_name entries name area)
unfolding entry_named
agree_named entries name area other apart =
    ap looked_up (find-insert_entry name_cmp exact_names (str_to_ascii_uppercase name) (str_to_ascii_uppercase other) apart entries (Some area))

pub agree_unnamed : (entries : NameEntries) (name : List ℕ) → AgreeElsewhere name entries (without_name entries name)
unfolding entry_named
agree_unnamed entries name other apart =
    ap looked_up (find-remove_entry name_cmp exact_names (str_to_ascii_uppercase name) (str_to_ascii_uppercase other) apart entries)

module _ (name : List ℕ) (before after : NameEntries) (agree : AgreeElsewhere name before after) (home : Place) where
  apart : (other : List ℕ) → (IsNamed name (Name other) → ⊥) → is_same_name name other ≡ false
  apart other unused = elim (is_same_name name other) as (λ b. is_same_name name other ≡ b → b ≡ false) [
    | true ↦ λ is. absurd (unused (sym (exact_names.alone (str_to_ascii_uppercase name) (str_to_ascii_uppercase other) is)))
    | false ↦ λ _. refl
  ] refl

  node_same : (node : Node) → (IsNamed name node → ⊥) → node_ears home after (absolute_node home node) ≡ node_ears home before (absolute_node home node)
  node_same (Ref r) unused = refl
  node_same (Name other) unused = ap named_ears (agree other (apart other unused))
  node_same (Number n) unused = refl
  node_same (Words text) unused = refl
  node_same (Bad fault) unused = refl
  node_same (Call called args) unused = refl
  node_same Paren unused = refl
  node_same Plus unused = refl
  node_same Minus unused = refl
  node_same Percent unused = refl
  node_same (Binary op) unused = refl

  nodes_same : (nodes : List Node) → (Any (IsNamed name) nodes → ⊥) → ears_of home after (map (absolute_node home) nodes) ≡ ears_of home before (map (absolute_node home) nodes)
  unfolding ears_of
  nodes_same [] unused = refl
  nodes_same (node ∷ nodes) unused =
      ap (λ es. es ++ ears_of home after (map (absolute_node home) nodes)) (node_same node (λ is. unused (0, node, omega arith, refl, is)))
      ∙ ap (λ es. node_ears home before (absolute_node home node) ++ es) (nodes_same nodes (λ at. unused (suc at.0, at.1, omega (arith, at.2), at.3, at.4)))

  module _ (codes : Codes) (id : ℕ) (at : IsCodeAt codes id home) where
    by_ears : (names : NameEntries) → areas_by_code codes names home id ≡ map (λ e. area_at e 0) (ears_of home names (map (absolute_node home) (postfix (form_at codes id))))
    by_ears names =
        sym (ap (λ nodes. map (λ e. area_at e 0) (ears_of home names nodes)) (nodes_of_tree home (form_at codes id))
        ∙ ears_give_reads codes id 0 home names at
        ∙ ap (λ p. areas_by_code codes names p id) here)
      where
        here : rows_below home 0 ≡ home
        here = let row : home.row + 0 ≡ home.row = omega arith in ap (λ n. record home { row = n }) row

    pub code_same : (UsesName (form_at codes id) name → ⊥) → areas_by_code codes before home id ≡ areas_by_code codes after home id
    code_same unused = by_ears before ∙ ap (map (λ (e : ReadArea). area_at e 0)) (sym (nodes_same (postfix (form_at codes id)) unused)) ∙ sym (by_ears after)

-- what holds of the code of each group that begins in the sheet holds of the code of each row
module _ (P : ℕ → Type 0) where
  by_entry : (gs : List Group) (row id : ℕ) → All (λ (g : Group). P g.code) gs → entry row (map group_run gs) ≡ Some id → P id
  by_entry [] row id all is = cc
  by_entry (g ∷ gs) row id all is =
      either (nat_le g.first row && nat_le row g.last) (entry row (map group_run gs)) (by_entry gs row id (All-tail (λ (x : Group). P x.code) g gs all)) is
    where
      either : (b : Bool) (o : Option ℕ) → (o ≡ Some id → P id) → cond b (Some g.code) o ≡ Some id → P id
      either true o later here = subst (λ (o : Option ℕ). P (unwrap_or o g.code)) here (All-head (λ (x : Group). P x.code) g gs all)
      either false o later there = later there

  pub by_row : (gs : List Group) → gs ≡ groups_of (codes_of gs) → All (λ (g : Group). P g.code) gs → (row id : ℕ) → 1 ≤ row → row ≤ LAST_ROW → code_in_row (codes_of gs) row ≡ Some id → P id
  by_row gs are all row id from to is = by_entry gs row id all (row_code gs are row from to ∙ is)
