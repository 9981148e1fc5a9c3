-- What becomes of a session when its workbook is edited, and when a watcher is attached.
use Rattle.std.proofs.Common.{◌≡◌, ℕ, ◌-◌, ◌++◌, ◌∷◌, [], true, false, List, ap, sym, ◌∙◌}
use Rattle.std.specs.Prelude.{Bool, Err, IfOk, Ok, Result}
use Rattle.std.specs.declared.alloc.AllocError.{AllocError}
use Rattle.calc_addr.specs.Places.{Rectangle}
use Rattle.calc_model.specs.Meanings.{values_in}
use Rattle.calc_model.specs.Scalars.{CellValues}
use Rattle.calc_model.specs.Step.{step}
use Rattle.calc_model.specs.Val.{val}
use Rattle.calc_model.specs.declared.edit.Edit.{Edit}
use Rattle.calc_model.specs.declared.edit.EditCause.{EditCause}
use Rattle.calc_script.specs.declared.command.Cause.TheVariants as causes
use Rattle.calc_watch.specs.Reports.{Watched, watched}
use Rattle.calc_watch.specs.declared.report.Report.{Report}
use Rattle.workbook.specs.Workbook.{IsRefused, Made, State, mended, stale_of}
use Rattle.calc_cli.specs.declared.replies.Reply.{Reply}
use Rattle.calc_cli.specs.Output.{Answer, Session, edit_text, edited, refusal_text, with_watcher}
use Rattle.calc_cli.specs.Sessions.{Replies, SessionState, session_of}

pub edited_session : (before : SessionState) (after : State) (number : ℕ) (edit : Edit) (text : List ℕ) → Made before.workbook edit after → text ≡ edit_text edit after.book → edited (session_of before) number edit (step before.workbook.book edit) ≡ record { session = session_of (record before { workbook = after }); text = text; refused = false }
edited_session before after number edit text made is =
    ap (edited (session_of before) number edit) made.step
    ∙ (λ i. record {
      session = record { book = after.book; stale = λ q. sym (made.stale q) i; watchers = before.watchers; stock = before.stock };
      text = sym is i;
      refused = false;
    })

pub refused_session : (before : SessionState) (after : State) (number : ℕ) (edit : Edit) (cause : EditCause) (text : List ℕ) → IsRefused (mended before.workbook) edit cause after → text ≡ refusal_text number (causes.Edit cause) → edited (session_of before) number edit (step before.workbook.book edit) ≡ record { session = session_of (record before { workbook = after }); text = text; refused = true }
unfolding stale_of
refused_session before after number edit cause text refused is =
    ap (edited (session_of before) number edit) refused.step
    ∙ (λ i. record { session = session_of (record before { workbook = sym refused.kept i }); text = sym is i; refused = true })

-- a reply that has the text of an answer, and its refusal
pub replied : (result : Result Reply AllocError) (session : Session) (answer : Answer) (text : List ℕ) (refused : Bool) → IfOk result (λ (reply : Reply). reply.text.items ≡ text) → IfOk result (λ (reply : Reply). reply.refused ≡ refused) → answer ≡ record { session = session; text = text; refused = refused } → Replies result session answer
replied (Ok reply) session answer text refused text_is refused_is same = same ∙ (λ i. record { session = session; text = sym text_is i; refused = sym refused_is i })
replied (Err wanting) session answer text refused text_is refused_is same = tt

pub attached_session : (before : SessionState) (watchers : List Watched) (stock : ℕ) (area : Rectangle) (values : CellValues) (told : List Report) → values ≡ val before.workbook.book → told ≡ [] → watchers ≡ before.watchers ++ watched area (values_in values area) told ∷ [] → stock ≡ before.stock - 1 → session_of (record before { watchers = watchers; stock = stock }) ≡ with_watcher (session_of before) area
attached_session before watchers stock area values told shown none attached less =
    ap (λ ws. session_of (record before { watchers = ws; stock = stock })) attached
    ∙ (λ i. session_of (record before { watchers = before.watchers ++ watched area (values_in (shown i) area) (none i) ∷ []; stock = less i }))
