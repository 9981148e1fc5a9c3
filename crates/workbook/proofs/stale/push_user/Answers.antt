use Rattle.std.proofs.Common.{◌≡◌, Vec, Global, sym, ap, ◌∙◌}
use Rattle.std.specs.List.{list_any}
use Rattle.calc_addr.specs.Places.{covers}
use Rattle.calc_addr.specs.declared.cell.Area.{Area}
use Rattle.calc_model.specs.Books.{content_at}
use Rattle.calc_model.specs.Touched.{CellSet}
use Rattle.workbook.specs.Touched.{uses_any}
use Rattle.workbook.proofs.Tests.{joins, pushed_area, stays_out}
use Rattle.workbook.proofs.stale.push_user.Goals as goal
use Rattle.workbook.proofs.stale.push_user.Goals.{then-branch+in_ok-push, else-branch}

pub returns : goal.returns
returns c = λ q.
    let old : CellSet = λ q. list_any (λ area. covers area q) c.args.areas.now.items in
    let test : CellSet = λ q. uses_any c.args.names.now (content_at c.args.parts.now q) in
    let used : c.in_ok-is_used_by.field-0 ≡ test c.args.cell = c.in_ok-is_used_by.ensures ∙ ap (uses_any c.args.names.now) c.in_ok-content.ensures.content in
    elim c.if-branch.branch [
      | then-branch+in_ok-push w ↦
          joins old (λ q. list_any (λ area. covers area q) c.if-branch.areas.items) test c.args.cell q (sym used ∙ w.if-branch.true)
          (ap (λ (v : Vec Area Global). list_any (λ area. covers area q) v.items) w.areas-is ∙ pushed_area c.args.areas.now.items w.push.new.self.items w.area_of.result c.args.cell q w.in_ok-push.ensures.items w.area_of.ensures)
      | else-branch w ↦
          ap (λ (v : Vec Area Global). list_any (λ area. covers area q) v.items) w.areas-is ∙ stays_out old test c.args.cell q (sym used ∙ w.if-branch.false)
    ]
