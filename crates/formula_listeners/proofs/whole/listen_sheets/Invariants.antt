use Rattle.std.proofs.Common.{◌≡◌, ℕ, false, cond, ◌&&◌, nat_lt, None, List}
use Rattle.calc_addr.specs.Places.{Place}
use Rattle.calc_model.specs.Books.{NameEntries, is_place}
use Rattle.formula_code.specs.Codes.{Codes}
use Rattle.formula_groups.specs.GroupRows.{GroupRows, columns_of}
use Rattle.listener_hub.specs.Hubs.{areas_read}
use Rattle.listener_hub.specs.Known.{Known}
use Rattle.formula_code.specs.Coded.{coded_areas}
use Rattle.formula_listeners.proofs.whole.listen_sheets.Given as goal

-- the sheets before this one are held
pub record AreHeld (codes : Codes) (names : NameEntries) (groups : List GroupRows) (sheet : ℕ) (now : Known) : Type 0 where
  pub ready : now.spent ≡ false
  pub areas : (q : Place) → areas_read now q ≡ cond (is_place q && nat_lt q.sheet sheet) (coded_areas codes names (columns_of groups) q) None

abbrev pub invariant-loop-sheet : goal.invariant-loop-sheet
invariant-loop-sheet g l = AreHeld l.codes (g.N.NameTable.entries l.names) l.groups l.sheet l.hub
