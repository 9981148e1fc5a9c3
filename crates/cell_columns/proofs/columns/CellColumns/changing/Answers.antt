use Rattle.std.proofs.Common.{◌≡◌, List, map, true, Option, ℕ, sym, ap, subst, ◌∙◌}
use Rattle.std.specs.List.{list_all}
use Rattle.calc_addr.specs.Places.{Place}
use Rattle.calc_model.specs.Books.{content_at, is_formula}
use Rattle.calc_model.specs.CellEdits.{CellEntries}
use Rattle.kept_codes.specs.declared.cells.TheConstants.{COLUMNS}
use Rattle.cell_columns.specs.Cells.{cells_only}
use Rattle.kept_codes.specs.Gathered.{Gathers, InColumns}
use Rattle.cell_columns.specs.Shifted.{AllKeepOrAre, AllStayIn}
use Rattle.cell_columns.specs.Lent.{codes_of, slots_of}
use Rattle.cell_columns.specs.Uses.{codes_in}
use Rattle.cell_columns.proofs.Visited.{keep_or_are, only_formulas, visited}
use Rattle.cell_columns.proofs.columns.CellColumns.changing.Goals as goal

pub push_changing-requires-clause-formulas : goal.push_changing-requires-clause-formulas
push_changing-requires-clause-formulas c q id within =
    visited c.self.inside.table (slots_of c.self.inside.columns.items) c.self.invariant.sheets c.args.change (subst (AllStayIn c.args.change) (sym c.self.view_is) c.requires.stay) q id
    (subst (λ (all : List (List (Option ℕ))). InColumns all COLUMNS q id) (ap codes_of c.deref.ensures.value ∙ c.self.invariant.grouped) within)

pub returns-clause-formulas : goal.returns-clause-formulas
returns-clause-formulas c =
    let places : List Place = c.push_changing.new.out.items in
    let first = subst (λ (all : List (List (Option ℕ))). Gathers c.self.inside.table c.args.change (InColumns all COLUMNS) c.new-cells.result.items places) (ap codes_of c.deref.ensures.value ∙ c.self.invariant.grouped) c.in_ok-push_changing.ensures in
    let gathers = subst (λ (old : List Place). Gathers c.self.inside.table c.args.change (InColumns (map codes_in (slots_of c.self.inside.columns.items)) COLUMNS) old places) c.new-cells.ensures.items first in
    subst (λ (es : CellEntries). list_all (λ q. is_formula (content_at (cells_only es) q)) places ≡ true) c.self.view_is
    (only_formulas c.self.inside.table (slots_of c.self.inside.columns.items) c.self.invariant.sheets c.args.change (subst (AllStayIn c.args.change) (sym c.self.view_is) c.requires.stay) places gathers)

pub returns-clause-others : goal.returns-clause-others
returns-clause-others c =
    let places : List Place = c.push_changing.new.out.items in
    let first = subst (λ (all : List (List (Option ℕ))). Gathers c.self.inside.table c.args.change (InColumns all COLUMNS) c.new-cells.result.items places) (ap codes_of c.deref.ensures.value ∙ c.self.invariant.grouped) c.in_ok-push_changing.ensures in
    let gathers = subst (λ (old : List Place). Gathers c.self.inside.table c.args.change (InColumns (map codes_in (slots_of c.self.inside.columns.items)) COLUMNS) old places) c.new-cells.ensures.items first in
    subst (λ (es : CellEntries). AllKeepOrAre c.args.change es places) c.self.view_is
    (keep_or_are c.self.inside.table (slots_of c.self.inside.columns.items) c.self.invariant.sheets c.args.change (subst (AllStayIn c.args.change) (sym c.self.view_is) c.requires.stay) places gathers)
