use Rattle.std.proofs.Common.{◌≡◌, ◌<◌, ℕ, ℤ, pos, List, get_or, length, arith, sym, ap, ◌∙◌, not, int_lt, int_le}
use Rattle.std.proofs.lemmas.Int.{ints}
use Rattle.calc_model.specs.declared.tree.Op.{Op}
use Rattle.calc_model.specs.declared.tree.Op.TheVariants.{Eq, Ne, Lt, Le, Gt, Ge}
use Rattle.lane_kernels.specs.Comparisons.{truth, truths, holds}
use Rattle.lane_kernels.proofs.Written.{lanes_written}
use Rattle.lane_kernels.proofs.choices.compare.Goals as goal

told : (op : Op) (a b out : List ℤ) → length b ≡ length a → length out ≡ length a → ((k : ℕ) → k < length a → get_or out k (pos 0) ≡ truth (holds op (get_or a k (pos 0)) (get_or b k (pos 0)))) → out ≡ truths op a b
told op a b out paired room each = lanes_written (λ left right. truth (holds op left right)) a b (pos 0) (pos 0) out (sym paired) room each

not_less : (x y : ℤ) → not (int_lt y x) ≡ int_le x y
not_less x y = grind (arith, ints)

pub returns-in-Eq : goal.returns-in-Eq
returns-in-Eq c =
    rw c.in-Eq.is (told Eq c.args.a.now c.args.b.now c.tell_equal.new.out c.requires.paired (omega arith)
    (λ k inside. c.tell_equal.ensures k (omega arith)))

pub returns-in-Ne : goal.returns-in-Ne
returns-in-Ne c =
    rw c.in-Ne.is (told Ne c.args.a.now c.args.b.now c.tell_equal-in-Ne.new.out c.requires.paired (omega arith)
    (λ k inside. c.tell_equal-in-Ne.ensures k (omega arith)))

pub returns-in-Lt : goal.returns-in-Lt
returns-in-Lt c =
    rw c.in-Lt.is (told Lt c.args.a.now c.args.b.now c.tell_less.new.out c.requires.paired (omega arith)
    (λ k inside. c.tell_less.ensures k (omega arith)))

pub returns-in-Ge : goal.returns-in-Ge
returns-in-Ge c =
    rw c.in-Ge.is (told Ge c.args.a.now c.args.b.now c.tell_less-in-Ge.new.out c.requires.paired (omega arith)
    (λ k inside. c.tell_less-in-Ge.ensures k (omega arith) ∙ ap truth (not_less (get_or c.args.b.now k (pos 0)) (get_or c.args.a.now k (pos 0)))))

pub returns-in-Gt : goal.returns-in-Gt
returns-in-Gt c =
    rw c.in-Gt.is (told Gt c.args.a.now c.args.b.now c.tell_less-in-Gt.new.out c.requires.paired (omega arith)
    (λ k inside. c.tell_less-in-Gt.ensures k (omega arith)))

pub returns-in-Le : goal.returns-in-Le
returns-in-Le c =
    rw c.in-Le.is (told Le c.args.a.now c.args.b.now c.tell_less-in-Le.new.out c.requires.paired (omega arith)
    (λ k inside. c.tell_less-in-Le.ensures k (omega arith) ∙ ap truth (not_less (get_or c.args.a.now k (pos 0)) (get_or c.args.b.now k (pos 0)))))
