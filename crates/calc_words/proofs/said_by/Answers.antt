use Rattle.std.proofs.Common.{rules, ◌≡◌, Some, codes}
use Rattle.clap.specs.Words.{first_value, found_of, without_minus}
use Rattle.calc_words.proofs.Found.{said_of}
use Rattle.std.specs.Str.Parse.{digits_value, without_leading_plus}
use Rattle.calc_words.proofs.said_by.Goals as goal

pub returns-clause-said : goal.returns-clause-said
returns-clause-said c =
    let values = c.requires.values in
    let text = without_minus values.text in
    let read = c.get_one.ensures.value text values.workers in
    let number : c.in-Some-Some.workers ≡ digits_value 10 (without_leading_plus text) = (rw c.in-Some-Some.is-0 at read).0.1 in
    let book : first_value (found_of c.args.matches.now) (codes "book") ≡ Some c.of-book.result = search rules in
    said_of (found_of c.args.matches.now) text c.of-book.result c.in-Some-Some.workers values.workers book number
