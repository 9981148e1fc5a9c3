use Rattle.std.proofs.Common.{length, ap, refl, subst, sym, true, false}
use Rattle.std.specs.Prelude.{Err, Ok}
use Rattle.calc_script.specs.declared.command.Cause.TheVariants as causes
use Rattle.calc_model.specs.Step.{step}
use Rattle.calc_cli.specs.Output.{edited, refusal_text}
use Rattle.calc_cli.specs.Sessions.{Replies, SessionState, session_of}
use Rattle.calc_cli.proofs.SessionSteps.{edited_session, refused_session, replied}
use Rattle.calc_cli.proofs.replies.make_edit.Goals as goal
use Rattle.calc_cli.proofs.replies.make_edit.Goals.{in-Ok+in_ok-edit_text-in-Ok, in-Err-Refused, in-Err-Dead}

pub returns : goal.returns
returns g c =
    let before : SessionState = record { workbook = c.session.inside.workbook; watchers = c.session.inside.desktop; stock = length c.session.inside.stock.items } in
    let after : SessionState = record before { workbook = c.edit.new.self } in
    subst (λ (now : SessionState). Replies c.match-edit.result (session_of after) (edited (session_of now) c.args.number c.args.edit.now (step now.workbook.book c.args.edit.now))) c.session.view_is
    (elim c.match-edit.branch [
      | in-Ok+in_ok-edit_text-in-Ok w ↦
          let text = w.in_ok-edit_text-in-Ok.field-0.items in
          subst (λ result. Replies result (session_of after) (edited (session_of before) c.args.number c.args.edit.now (step before.workbook.book c.args.edit.now))) (sym w.result-is)
          (replied (Ok w.accept.result) (session_of after) _ text false w.accept.ensures.text w.accept.ensures.refused
          (edited_session before c.edit.new.self c.args.number c.args.edit.now text w.in-Ok.ensures.done w.in_ok-edit_text-in-Ok.ensures))
      | in-Err-Refused w ↦
          let cause = w.in-Err-Refused.cause in
          subst (λ result. Replies result (session_of after) (edited (session_of before) c.args.number c.args.edit.now (step before.workbook.book c.args.edit.now))) (sym w.result-is)
          (replied w.refuse.result (session_of after) _ (refusal_text c.args.number (causes.Edit cause)) true w.refuse.ensures.text w.refuse.ensures.refused
          (refused_session before c.edit.new.self c.args.number c.args.edit.now cause _ (w.in-Err-Refused.ensures.refused cause (ap Err w.in-Err-Refused.field-0-is)) refl))
      | in-Err-Dead w ↦
          subst (λ result. Replies result (session_of after) (edited (session_of before) c.args.number c.args.edit.now (step before.workbook.book c.args.edit.now))) (sym w.result-is) tt
    ])
