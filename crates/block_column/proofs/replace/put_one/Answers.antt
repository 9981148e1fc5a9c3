use Rattle.std.proofs.Common.{◌≡◌, ◌++◌, ◌∷◌, take, drop, suc, ap, sym, ◌∙◌, arith}
use Rattle.std.specs.Option.{option_to_list}
use Rattle.std.proofs.lemmas.List.{set_split}
use Rattle.block_column.proofs.replace.put_one.Goals as goal

pub returns-then-low-high-2-clause-items : goal.returns-then-low-high-2-clause-items
returns-then-low-high-2-clause-items g c =
    let items = c.args.store.now.items in
    let next : suc c.args.low ≡ c.args.high = omega arith in
    c.replace.ensures.items
    ∙ set_split items c.args.low c.in-Some.item (omega arith)
    ∙ ap (λ n. take c.args.low items ++ c.in-Some.item ∷ drop n items) next
    ∙ ap (λ o. take c.args.low items ++ (option_to_list o ++ drop c.args.high items)) (sym c.in-Some.is)

pub returns-then-low-high-clause-items : goal.returns-then-low-high-clause-items
returns-then-low-high-clause-items g c =
    let items = c.args.store.now.items in
    let next : suc c.args.low ≡ c.args.high = omega arith in
    c.remove.ensures.items
    ∙ ap (λ n. take c.args.low items ++ drop n items) next
    ∙ ap (λ o. take c.args.low items ++ (option_to_list o ++ drop c.args.high items)) (sym c.in-None.is)
