use Rattle.std.proofs.Common.{sym, ap, ◌∙◌, rules}
use Rattle.std.specs.Prelude.{position}
use Rattle.calc_io.specs.Shelf.{is_named}
use Rattle.calc_io.proofs.Finding.{none_found, one_found}
use Rattle.calc_io.proofs.shelf.Shelf.open.Goals as goal

pub returns-in_default-clause-found : goal.returns-in_default-clause-found
returns-in_default-clause-found c =
    let none = none_found c.args.name.now c.args.self.now.books.items
    (sym c.in_default.is ∙ c.find_book.ensures ∙ ap (position (is_named c.args.name.now)) c.deref.ensures.value) in
    rw none (search rules)

pub returns-clause-found : goal.returns-clause-found
returns-clause-found c =
    let one = one_found c.args.name.now c.args.self.now.books.items c.in-Some.place
    (sym c.in-Some.is ∙ c.find_book.ensures ∙ ap (position (is_named c.args.name.now)) c.deref.ensures.value) in
    rw one (search rules)

pub returns-clause-opened : goal.returns-clause-opened
returns-clause-opened c =
    one_found c.args.name.now c.args.self.now.books.items c.in-Some.place
    (sym c.in-Some.is ∙ c.find_book.ensures ∙ ap (position (is_named c.args.name.now)) c.deref.ensures.value)
