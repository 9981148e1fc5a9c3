use Rattle.std.proofs.Common.{◌≡◌, length, subst, sym, ◌∙◌}
use Rattle.std.proofs.lemmas.Result.{on_ok_weaker}
use Rattle.calc_model.specs.Val.{val}
use Rattle.workbook.specs.Workbook.{values_of}
use Rattle.calc_cli.specs.Output.{with_watcher}
use Rattle.calc_cli.specs.Sessions.{SessionState, session_of}
use Rattle.calc_cli.proofs.SessionSteps.{attached_session}
use Rattle.calc_cli.proofs.session.Session.attach.Goals as goal

pub returns-in-Some : goal.returns-in-Some
returns-in-Some g c =
    let before : SessionState = record { workbook = c.self.inside.workbook; watchers = c.self.inside.desktop; stock = length c.self.inside.stock.items } in
    let after : SessionState = record { workbook = c.self.inside.workbook; watchers = c.attach.new.self; stock = length c.take_one.new.stock.items } in
    let shown : values_of before.workbook ≡ val before.workbook.book = subst (λ (s : SessionState). values_of s.workbook ≡ val s.workbook.book) (sym c.self.view_is) c.requires.values in
    on_ok_weaker c.attach.result
    (λ attached. subst (λ (now : SessionState). session_of after ≡ with_watcher (session_of now) c.args.area) c.self.view_is
    (attached_session before c.attach.new.self (length c.take_one.new.stock.items) c.args.area _ _ (c.values.ensures.values ∙ shown) c.in-Some.ensures.told attached c.take_one.ensures.less))
    c.attach.ensures.ok
