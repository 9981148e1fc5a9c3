use Rattle.std.proofs.Common.{◌≡◌, ℕ, false, true, cond, List}
use Rattle.calc_addr.specs.Places.{Place, Rectangle, covers}
use Rattle.calc_model.specs.Books.{NameEntries}
use Rattle.formula_code.specs.Codes.{Codes}
use Rattle.formula_groups.specs.GroupRows.{GroupRows, columns_of}
use Rattle.listener_hub.specs.Hubs.{areas_read}
use Rattle.listener_hub.specs.Known.{Known}
use Rattle.formula_code.specs.Coded.{coded_areas}
use Rattle.formula_listeners.specs.Renamed.{AgreeElsewhere}
use Rattle.formula_listeners.proofs.AreaCells.{is_before}
use Rattle.formula_listeners.proofs.users.renew_area.Given as goal

-- the columns before this one are held with the names as they are
pub record AreRenewed (codes : Codes) (name : List ℕ) (names : NameEntries) (groups : List GroupRows) (area : Rectangle) (col : ℕ) (old now : Known) : Type 0 where
  pub ready : now.spent ≡ false
  pub areas : (before : NameEntries) → AgreeElsewhere name before names → ((q : Place) → covers area q ≡ true → areas_read old q ≡ coded_areas codes before (columns_of groups) q) → (q : Place) → areas_read now q ≡ cond (is_before area col q) (coded_areas codes names (columns_of groups) q) (areas_read old q)

abbrev pub invariant-loop-col : goal.invariant-loop-col
invariant-loop-col g l = AreRenewed l.codes l.name (g.N.NameTable.entries l.names) l.groups l.fn.area l.col l.fn.hub l.hub
