use Rattle.std.proofs.Common.{rules, ◌≡◌, ◌∙◌, ap₂, codes, Some}
use Rattle.std.specs.Prelude.{pos}
use Rattle.std.proofs.lemmas.Result.{IfOk-weaker}
use Rattle.clap.specs.Words.{app_of, new_app, rule_of, with_rule}
use Rattle.clap.specs.Simple.{on_top}
use Rattle.clap.specs.declared.builder.value_parser.ValueParser.TheVariants as vp
use Rattle.calc_words.specs.Args.{IsBook, IsWorkers}
use Rattle.calc_words.specs.Words.{bare, book_rule, workers_rule}
use Rattle.calc_words.proofs.Calc.{has_args, made}
use Rattle.calc_words.proofs.command.Goals as goal

pub returns-clause-app : goal.returns-clause-app
returns-clause-app c =
    let given = c.value_parser-2.ensures.given in
    let narrowed = rw c.value_parser.ensures at c.range.ensures in
    let parser : c.range.result ≡ vp.Signed (pos 1) (pos 64) = rw (c.new-2.ensures.start, c.new-2.ensures.end) at narrowed in
    let is_parser : c.default_value-workers.result.value_parser ≡ Some (vp.Signed (pos 1) (pos 64)) = search rules in
    let workers : rule_of c.default_value-workers.result ≡ workers_rule = search rules in
    let book : rule_of c.required-book.result ≡ book_rule = search rules in
    let start : app_of c.disable_help_flag.result ≡ on_top bare (new_app (codes "calc")) = search rules in
    IfOk-weaker c.arg-2.result _ _ (λ command added. added.shape (search rules)
    ∙ ap₂ with_rule (c.in_ok-arg.ensures.shape (search rules) ∙ ap₂ with_rule start workers) book ∙ made) c.arg-2.ensures

pub returns-clause-args : goal.returns-clause-args
returns-clause-args c =
    let given = c.value_parser-2.ensures.given in
    let narrowed = rw c.value_parser.ensures at c.range.ensures in
    let parser : c.range.result ≡ vp.Signed (pos 1) (pos 64) = rw (c.new-2.ensures.start, c.new-2.ensures.end) at narrowed in
    let workers : IsWorkers c.default_value-workers.result = record {
      takes = record { id = search rules; action = search rules; whole = search rules; least = search rules };
      parser = search rules;
      always = search rules;
      default = search rules;
    } in
    let book : IsBook c.required-book.result = record {
      takes = record { id = search rules; action = search rules; whole = search rules; least = search rules };
      required = search rules;
    } in
    IfOk-weaker c.arg-2.result _ _ (λ command added. has_args c.disable_help_flag.result c.in_ok-arg.field-0 command
    c.default_value-workers.result c.required-book.result c.in_ok-arg.ensures added (search rules) (search rules) (search rules)
    (search rules) (search rules) (search rules) (search rules) (search rules) workers book) c.arg-2.ensures
