use Rattle.std.proofs.Common.{◌≡◌, ℕ, false, cond, List}
use Rattle.calc_addr.specs.Places.{Place, Rectangle}
use Rattle.calc_model.specs.Books.{NameEntries}
use Rattle.formula_code.specs.Codes.{Codes}
use Rattle.formula_groups.specs.GroupRows.{GroupRows, columns_of}
use Rattle.listener_hub.specs.Hubs.{areas_read}
use Rattle.listener_hub.specs.Known.{Known}
use Rattle.formula_code.specs.Coded.{coded_areas}
use Rattle.formula_listeners.proofs.AreaCells.{is_before}
use Rattle.formula_listeners.proofs.areas.listen_area.Given as goal

-- the columns before this one are held
pub record AreHeld (codes : Codes) (names : NameEntries) (groups : List GroupRows) (area : Rectangle) (col : ℕ) (old now : Known) : Type 0 where
  pub ready : now.spent ≡ false
  pub areas : (q : Place) → areas_read now q ≡ cond (is_before area col q) (coded_areas codes names (columns_of groups) q) (areas_read old q)

abbrev pub invariant-loop-col : goal.invariant-loop-col
invariant-loop-col g l = AreHeld l.codes (g.N.NameTable.entries l.names) l.groups l.fn.area l.col l.fn.hub l.hub
