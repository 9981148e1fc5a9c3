use Rattle.std.proofs.Common.{◌≡◌, ℕ, ◌<◌, List, [], length, sym, ap, subst, ◌∙◌, arith}
use Rattle.std.specs.Prelude.{slice_index_or}
use Rattle.std.proofs.lemmas.List.{get_or-map}
use Rattle.formula_groups.specs.GroupRows.{GroupRows, columns_of}
use Rattle.formula_groups.specs.Groups.{groups_of}
use Rattle.kept_codes.specs.Gathered.{Gathers, InGroups}
use Rattle.kept_codes.proofs.Gathering.{column_more}
use Rattle.kept_codes.proofs.changing.push_changing.Goals as goal

-- the groups of a column
groups_are : (groups : List GroupRows) (n : ℕ) (d : GroupRows) → n < length groups → d ≡ slice_index_or groups n d → groups_of d.entries ≡ groups_of (slice_index_or (columns_of groups) n [])
groups_are groups n d inside is = ap groups_of (ap (λ (g : GroupRows). g.entries) is ∙ sym (get_or-map (λ (g : GroupRows). g.entries) groups n d [] inside))

pub push_groups-requires-clause-formulas : goal.push_groups-requires-clause-formulas
push_groups-requires-clause-formulas c q id within =
    let n : ℕ = c.loop-number.number in
    let inside : n < length c.args.groups.now = omega (arith, c.loop-number-test.true, c.requires.all) in
    c.requires.formulas q id (record {
      number = n;
      to = c.loop-number-test.true;
      within = subst (λ gs. InGroups n gs q id) (c.groups.ensures ∙ groups_are c.args.groups.now n c.index-groups-number.result inside c.index-groups-number.is) within;
    })

pub loop-number-preserved : goal.loop-number-preserved
loop-number-preserved c =
    let n : ℕ = c.loop-number.number in
    let inside : n < length c.args.groups.now = omega (arith, c.loop-number-test.true, c.requires.all) in
    column_more c.args.codes.now c.args.change (columns_of c.args.groups.now) n c.args.out.now.items c.loop-number.out.items c.push_groups.new.out.items c.loop-number.invariant
    (subst (λ gs. Gathers c.args.codes.now c.args.change (InGroups n gs) c.loop-number.out.items c.push_groups.new.out.items) (c.groups.ensures ∙ groups_are c.args.groups.now n c.index-groups-number.result inside c.index-groups-number.is) c.in_ok-push_groups.ensures)
