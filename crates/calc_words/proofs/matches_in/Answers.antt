use Rattle.std.proofs.Common.{rules, map, subst, refl, IfOk, true≢false, ◌≢◌}
use Rattle.clap.specs.Words.{IsParsedFrom, app_of, kind_of}
use Rattle.clap.specs.declared.error.kind.ErrorKind.TheVariants as kind
use Rattle.calc_words.proofs.Calc.{has_values}
use Rattle.calc_words.proofs.Found.{found_rows, has_fault, no_fault}
use Rattle.calc_words.proofs.matches_in.Goals as goal

pub returns-in-Ok-clause-refused : goal.returns-in-Ok-clause-refused
returns-in-Ok-clause-refused c =
    let parse = c.try_get_matches_from in
    let none = no_fault (app_of c.in_ok-command.field-0) (map (λ w. w.now) c.args.words.now) parse.result c.in-Ok.matches
    c.in_ok-command.ensures.app parse.ensures.kinds c.in-Ok.is in
    ((λ e. absurd (true≢false e)), (λ some. absurd (some none)))

pub returns-in-Ok-clause-rows : goal.returns-in-Ok-clause-rows
returns-in-Ok-clause-rows c =
    let parse = c.try_get_matches_from in
    found_rows (app_of c.in_ok-command.field-0) (map (λ w. w.now) c.args.words.now) parse.result c.in-Ok.matches
    c.in_ok-command.ensures.app parse.ensures.matches c.in-Ok.is

pub returns-in-Ok-clause-values : goal.returns-in-Ok-clause-values
returns-in-Ok-clause-values c =
    let parse = c.try_get_matches_from in
    let args = c.in_ok-command.ensures.args in
    has_values c.in_ok-command.field-0 c.in-Ok.matches args
    (subst (λ r. IfOk r (IsParsedFrom c.in_ok-command.field-0)) c.in-Ok.is parse.ensures.parsed) args.workers

pub returns-clause-refused : goal.returns-clause-refused
returns-clause-refused c =
    let parse = c.try_get_matches_from in
    let known : kind_of c.in-Err-2.field-0 ≢ kind.OutOfMemory = search rules in
    let some = has_fault (app_of c.in_ok-command.field-0) (map (λ w. w.now) c.args.words.now) parse.result c.in-Err-2.field-0
    c.in_ok-command.ensures.app parse.ensures.kinds c.in-Err-2.is known in
    ((λ _. some), (λ _. refl))
