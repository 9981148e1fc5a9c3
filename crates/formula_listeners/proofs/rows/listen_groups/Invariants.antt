use Rattle.std.proofs.Common.{◌≡◌, ℕ, false, List}
use Rattle.calc_addr.specs.Places.{Place, Rows}
use Rattle.calc_model.specs.Books.{NameEntries}
use Rattle.formula_code.specs.Codes.{Codes}
use Rattle.formula_groups.specs.declared.group.Group.{Group}
use Rattle.listener_hub.specs.Hubs.{areas_read}
use Rattle.listener_hub.specs.Known.{Known}
use Rattle.formula_listeners.proofs.GroupWalks.{held_by}
use Rattle.formula_listeners.proofs.rows.listen_groups.Given as goal

-- the groups before this one are held
pub record AreHeld (groups : List Group) (codes : Codes) (names : NameEntries) (rows : Rows) (old now : Known) (i : ℕ) : Type 0 where
  pub ready : now.spent ≡ false
  pub areas : (q : Place) → areas_read now q ≡ held_by groups codes names rows (areas_read old) i q

abbrev pub invariant-loop-group : goal.invariant-loop-group
invariant-loop-group g l = AreHeld l.groups l.codes (g.N.NameTable.entries l.names) l.rows l.fn.hub l.hub l.group-index
