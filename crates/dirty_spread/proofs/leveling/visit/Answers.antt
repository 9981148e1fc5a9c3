use Rattle.std.proofs.Common.{◌≡◌, ◌≤◌, List, length, sym, subst, ◌∙◌}
use Rattle.std.proofs.Math.ListN.{set}
use Rattle.calc_addr.specs.Places.{Rectangle}
use Rattle.dirty_spread.specs.declared.look.Frame.{Frame}
use Rattle.dirty_spread.specs.Levels.{IsCircleBeside, IsLooked, IsOpen, IsOrdering, read_by}
use Rattle.dirty_spread.specs.Waves.{Problem, problem_of}
use Rattle.dirty_spread.proofs.Cells.{on_ok}
use Rattle.dirty_spread.proofs.Orders.{circle, descend, never_circle, never_open, settle, settle_less}
use Rattle.dirty_spread.proofs.leveling.visit.Goals as goal

pub returns-then-levels-cursor-eq-NEW-clause-ordering : goal.returns-then-levels-cursor-eq-NEW-clause-ordering
returns-then-levels-cursor-eq-NEW-clause-ordering g c =
    let p : Problem = problem_of (g.H.Dependents.areas c.args.hub.now) c.args.stale.now c.args.circles.now in
    let areas : c.deref.result.now ≡ read_by p c.args.frame.now.place = c.deref.ensures.value ∙ c.in_ok-read_areas.ensures in
    let opened = subst (λ (as' : List Rectangle). IsOpen p.stale as' c.args.levels.now c.in-Open.cursor.next) areas c.in-Open.ensures.0 in
    let looked = subst (λ (as' : List Rectangle). IsLooked p.stale p.circular as' c.args.levels.now c.in-Open.cursor) areas c.in-Open.ensures.1 in
    let ordering = descend p c.args.levels.now c.args.path.now.items c.args.frame.now c.requires.ordering c.in-Open.cursor opened looked c.if-levels-cursor-eq-NEW.true in
    on_ok c.descend.result
    (λ path. subst (λ ls. IsOrdering p ls c.descend.new.path.items) (sym c.descend.ensures.levels) (subst (λ (fs : List Frame). IsOrdering p (set c.args.levels.now c.in-Open.cursor.next 1) fs) (sym path) ordering))
    c.descend.ensures.path

pub returns-in-Settled-clause-ordering : goal.returns-in-Settled-clause-ordering
returns-in-Settled-clause-ordering g c =
    let p : Problem = problem_of (g.H.Dependents.areas c.args.hub.now) c.args.stale.now c.args.circles.now in
    let areas : c.deref.result.now ≡ read_by p c.args.frame.now.place = c.deref.ensures.value ∙ c.in_ok-read_areas.ensures in
    let all = subst (λ (as' : List Rectangle). length as' ≤ c.in-Settled.cursor.area) areas c.in-Settled.ensures.0 in
    let looked = subst (λ (as' : List Rectangle). IsLooked p.stale p.circular as' c.args.levels.now c.in-Settled.cursor) areas c.in-Settled.ensures.1 in
    settle p c.args.levels.now c.args.path.now.items c.args.frame.now c.requires.ordering c.in-Settled.cursor all looked

pub returns-in-Settled-clause-less : goal.returns-in-Settled-clause-less
returns-in-Settled-clause-less g c =
    let p : Problem = problem_of (g.H.Dependents.areas c.args.hub.now) c.args.stale.now c.args.circles.now in
    let areas : c.deref.result.now ≡ read_by p c.args.frame.now.place = c.deref.ensures.value ∙ c.in_ok-read_areas.ensures in
    let all = subst (λ (as' : List Rectangle). length as' ≤ c.in-Settled.cursor.area) areas c.in-Settled.ensures.0 in
    let looked = subst (λ (as' : List Rectangle). IsLooked p.stale p.circular as' c.args.levels.now c.in-Settled.cursor) areas c.in-Settled.ensures.1 in
    settle_less p c.args.levels.now c.args.path.now.items c.args.frame.now c.requires.ordering c.in-Settled.cursor all looked

pub returns-else-levels-cursor-eq-NEW-clause-ordering : goal.returns-else-levels-cursor-eq-NEW-clause-ordering
returns-else-levels-cursor-eq-NEW-clause-ordering g c =
    let p : Problem = problem_of (g.H.Dependents.areas c.args.hub.now) c.args.stale.now c.args.circles.now in
    let areas : c.deref.result.now ≡ read_by p c.args.frame.now.place = c.deref.ensures.value ∙ c.in_ok-read_areas.ensures in
    let opened = subst (λ (as' : List Rectangle). IsOpen p.stale as' c.args.levels.now c.in-Open.cursor.next) areas c.in-Open.ensures.0 in
    subst (λ (fs : List Frame). IsOrdering p c.close_path.new.levels fs) (sym c.close_path.ensures.empty)
    (circle p c.args.levels.now c.args.path.now.items c.args.frame.now c.requires.ordering
    (never_open p c.args.levels.now c.args.path.now.items c.args.frame.now c.requires.ordering c.in-Open.cursor.next opened c.if-levels-cursor-eq-NEW.false)
    c.close_path.new.levels c.close_path.ensures.closed c.close_path.ensures.all)

pub returns-in-Circle-clause-ordering : goal.returns-in-Circle-clause-ordering
returns-in-Circle-clause-ordering g c =
    let p : Problem = problem_of (g.H.Dependents.areas c.args.hub.now) c.args.stale.now c.args.circles.now in
    let areas : c.deref.result.now ≡ read_by p c.args.frame.now.place = c.deref.ensures.value ∙ c.in_ok-read_areas.ensures in
    let beside = subst (λ (as' : List Rectangle). IsCircleBeside p.stale p.circular as' c.in-Circle.ensures.0) areas c.in-Circle.ensures.1 in
    subst (λ (fs : List Frame). IsOrdering p c.close_path-in-Circle.new.levels fs) (sym c.close_path-in-Circle.ensures.empty)
    (circle p c.args.levels.now c.args.path.now.items c.args.frame.now c.requires.ordering
    (never_circle p c.args.levels.now c.args.path.now.items c.args.frame.now c.requires.ordering c.in-Circle.ensures.0 beside)
    c.close_path-in-Circle.new.levels c.close_path-in-Circle.ensures.closed c.close_path-in-Circle.ensures.all)
