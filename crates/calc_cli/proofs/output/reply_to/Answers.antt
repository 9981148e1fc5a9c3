use Rattle.std.proofs.Common.{◌≡◌, subst, sym, true}
use Rattle.calc_script.specs.Commands.{is_makeable_line}
use Rattle.calc_script.proofs.SmallBooks.{make_small_books}
use Rattle.formula_reader.specs.Fields.{field_of}
use Rattle.formula_reader.proofs.Meaning.{field_reads}
use Rattle.calc_cli.specs.Output.{answer}
use Rattle.calc_cli.specs.Sessions.{Replies, session_of}
use Rattle.calc_cli.proofs.output.reply_to.Goals as goal

pub returns : goal.returns
returns g c =
    subst (λ line. Replies c.answer_line.result (session_of c.answer_line.new.session) (answer (session_of c.args.session.now) c.args.number line)) (c.in_ok-line.ensures field_of field_reads) c.answer_line.ensures

pub answer_line-requires : goal.answer_line-requires
answer_line-requires g c = subst (λ line. is_makeable_line line ≡ true) (sym (c.in_ok-line.ensures field_of field_reads)) (make_small_books field_of c.args.line.now)
