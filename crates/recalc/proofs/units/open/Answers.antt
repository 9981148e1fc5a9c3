use Rattle.std.proofs.Common.{◌≡◌, [], ◌∷◌, ◌++◌, sym, subst, ap, ◌∙◌}
use Rattle.std.specs.Prelude.{option_to_list}
use Rattle.recalc.specs.CodedUnits.{AreCodedUnits, IsOpen}
use Rattle.recalc.proofs.UnitLists.{end, opened_kept, opened_taken}
use Rattle.recalc.proofs.units.open.Goals as goal

pub returns-then-takes-clause-open : goal.returns-then-takes-clause-open
returns-then-takes-clause-open c = λ columns cells is are.
    let grown : c.args.units.now.items ≡ c.pop.new.self.items ++ c.in-Some.unit ∷ [] = c.pop.ensures.items ∙ ap (λ last. c.pop.new.self.items ++ option_to_list last) c.in-Some.is in
    let yes = c.takes.ensures.yes c.if-takes.true in
    opened_taken columns cells c.args.part.now is c.pop.new.self.items c.in-Some.unit (subst (AreCodedUnits columns cells) grown are) yes.0 yes.1

pub returns-clause-open : goal.returns-clause-open
returns-clause-open c = λ columns cells is are.
    let grown : c.args.units.now.items ≡ c.pop.new.self.items ++ c.in-Some.unit ∷ [] = c.pop.ensures.items ∙ ap (λ last. c.pop.new.self.items ++ option_to_list last) c.in-Some.is in
    let old = subst (AreCodedUnits columns cells) grown are in
    subst (λ units. IsOpen columns cells units c.args.part.now c.args.part.now.first) (sym c.in_ok-push.ensures.items)
    (opened_kept columns cells c.args.part.now is c.pop.new.self.items c.in-Some.unit old (c.takes.ensures.no c.if-takes.false (end columns c.pop.new.self.items c.in-Some.unit old.each).part.rows.in_order))
