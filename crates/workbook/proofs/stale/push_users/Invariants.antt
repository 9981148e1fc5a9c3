use Rattle.std.specs.List.{list_any}
use Rattle.calc_addr.specs.Places.{covers}
use Rattle.calc_model.specs.Books.{content_at}
use Rattle.workbook.specs.Touched.{uses_any}
use Rattle.workbook.proofs.Tests.{Walked}
use Rattle.workbook.proofs.stale.push_users.Given as goal

abbrev pub invariant-loop-place : goal.invariant-loop-place
invariant-loop-place l = Walked l.formulas l.place (λ q. uses_any l.names (content_at l.parts q)) (λ q. list_any (λ area. covers area q) l.initial.areas.items) (λ q. list_any (λ area. covers area q) l.areas.items)
