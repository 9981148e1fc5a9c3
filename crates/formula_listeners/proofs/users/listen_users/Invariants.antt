use Rattle.std.proofs.Common.{◌≡◌, ℕ, false, true, cond, ◌&&◌, nat_lt, List}
use Rattle.calc_addr.specs.Places.{Place}
use Rattle.calc_model.specs.Books.{NameEntries, is_place}
use Rattle.formula_code.specs.Codes.{Codes}
use Rattle.formula_groups.specs.GroupRows.{GroupRows, columns_of}
use Rattle.listener_hub.specs.Hubs.{areas_read}
use Rattle.listener_hub.specs.Known.{Known}
use Rattle.formula_code.specs.Coded.{coded_areas}
use Rattle.formula_listeners.specs.Renamed.{AgreeElsewhere}
use Rattle.formula_listeners.proofs.users.listen_users.Given as goal

-- the sheets before this one are held with the names as they are
pub record AreRenewed (codes : Codes) (name : List ℕ) (names : NameEntries) (groups : List GroupRows) (sheet : ℕ) (old now : Known) : Type 0 where
  pub ready : now.spent ≡ false
  pub areas : (before : NameEntries) → AgreeElsewhere name before names → ((q : Place) → is_place q ≡ true → areas_read old q ≡ coded_areas codes before (columns_of groups) q) → (q : Place) → areas_read now q ≡ cond (is_place q && nat_lt q.sheet sheet) (coded_areas codes names (columns_of groups) q) (areas_read old q)

abbrev pub invariant-loop-sheet : goal.invariant-loop-sheet
invariant-loop-sheet g l = AreRenewed l.codes l.name (g.N.NameTable.entries l.names) l.groups l.sheet l.fn.hub l.hub
