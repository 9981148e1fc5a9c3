-- Levels of the grammar: what stands at one stands at each looser one, and those of infix operators are 2 to 6.
use Rattle.std.proofs.Common.{◌≡◌, ℕ, zero, suc, ◌-◌, ◌≤◌, List, refl, subst, inl, inr, arith}
use Rattle.std.proofs.lemmas.Bool.{cases_lt}
use Rattle.calc_model.specs.declared.tree.Op.{Op}
use Rattle.calc_model.specs.declared.tree.Op.TheVariants.{Pow, Mul, Div, Add, Sub, Cat, Eq, Ne, Lt, Le, Gt, Ge}
use Rattle.calc_model.specs.declared.tree.Tree.{Tree}
use Rattle.calc_model.specs.Grammar.{IsLevel, looser, op_level}

pub loosened : (text : List ℕ) (x : Tree) (k level : ℕ) → level ≤ k → IsLevel level text x → IsLevel k text x
loosened text x zero level within is =
    let Spelled : ℕ → Type 0 = λ n. IsLevel n text x in
    let same : level ≡ 0 = omega arith in
    subst Spelled same is
loosened text x (suc k) level within is =
    let Spelled : ℕ → Type 0 = λ n. IsLevel n text x in
    elim (cases_lt k level) [
      | inl above ↦ let same : level ≡ suc k = omega arith in subst Spelled same is
      | inr below ↦ looser (loosened text x k level below is)
    ]

-- what holds of each infix operator
pub each_op : (P : Op → Type 0) → P Pow → P Mul → P Div → P Add → P Sub → P Cat → P Eq → P Ne → P Lt → P Le → P Gt → P Ge → (op : Op) → P op
each_op P pow mul div add sub cat eq ne lt le gt ge Pow = pow
each_op P pow mul div add sub cat eq ne lt le gt ge Mul = mul
each_op P pow mul div add sub cat eq ne lt le gt ge Div = div
each_op P pow mul div add sub cat eq ne lt le gt ge Add = add
each_op P pow mul div add sub cat eq ne lt le gt ge Sub = sub
each_op P pow mul div add sub cat eq ne lt le gt ge Cat = cat
each_op P pow mul div add sub cat eq ne lt le gt ge Eq = eq
each_op P pow mul div add sub cat eq ne lt le gt ge Ne = ne
each_op P pow mul div add sub cat eq ne lt le gt ge Lt = lt
each_op P pow mul div add sub cat eq ne lt le gt ge Le = le
each_op P pow mul div add sub cat eq ne lt le gt ge Gt = gt
each_op P pow mul div add sub cat eq ne lt le gt ge Ge = ge

pub level_most : (op : Op) → op_level op ≤ 6
level_most = each_op (λ op. op_level op ≤ 6) (omega arith) (omega arith) (omega arith) (omega arith) (omega arith) (omega arith) (omega arith) (omega arith) (omega arith) (omega arith) (omega arith) (omega arith)

pub level_some : (op : Op) → op_level op ≡ suc (op_level op - 1)
level_some = each_op (λ op. op_level op ≡ suc (op_level op - 1)) refl refl refl refl refl refl refl refl refl refl refl refl
