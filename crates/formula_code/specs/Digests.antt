-- A number for each relative form, equal for equal forms, by which a form is looked up.
use Rattle.std.specs.Prelude.{ℕ, ◌+◌, ◌*◌, ◌%◌, ◌^◌, unsigned_abs, List, fold}
use Rattle.calc_addr.specs.Places.{Place}
use Rattle.calc_addr.specs.References.{Reference}
use Rattle.calc_model.specs.declared.tree.Op.{Op}
use Rattle.calc_model.specs.declared.tree.Op.TheVariants.{Pow, Mul, Div, Add, Sub, Cat, Eq, Ne, Lt, Le, Gt, Ge}
use Rattle.calc_model.specs.declared.tree.Tree.{Tree}
use Rattle.calc_model.specs.declared.tree.Tree.TheOpen.{Tree-F}
use Rattle.calc_model.specs.declared.tree.Tree.TheFolds.{fold-Tree}
use Rattle.formula_code.specs.declared.digest.TheConstants.{FACTOR}
use Rattle.formula_code.specs.Relative.{relative_reference}

-- the digest with one more number
unfoldable pub mixed : ℕ → ℕ → ℕ
mixed digest part = (digest * FACTOR % 2 ^ 64 + part) % 2 ^ 64

abbrev pub text_digest : ℕ → List ℕ → ℕ
text_digest kind text = fold mixed kind text

abbrev pub op_number : Op → ℕ
op_number Pow = 11
op_number Mul = 12
op_number Div = 13
op_number Add = 14
op_number Sub = 15
op_number Cat = 16
op_number Eq = 17
op_number Ne = 18
op_number Lt = 19
op_number Le = 20
op_number Gt = 21
op_number Ge = 22

-- by a reference with distances
abbrev pub reference_digest : Reference → ℕ
reference_digest r = mixed (mixed (mixed (mixed (mixed 4 r.area.sheet) r.area.first_col) r.area.last_col) r.area.first_row) r.area.last_row

-- the digest of a node, from those of its children, and for a reference
abbrev pub digest_step : (Reference → ℕ) → Tree-F ℕ → ℕ
digest_step by (Tree-F.Number n) = mixed 1 (unsigned_abs n % 2 ^ 64)
digest_step by (Tree-F.Words text) = text_digest 2 text
digest_step by (Tree-F.Bad fault) = 3
digest_step by (Tree-F.Ref reference) = by reference
digest_step by (Tree-F.Name name) = text_digest 5 name
digest_step by (Tree-F.Call name args) = fold mixed (text_digest 6 name) args
digest_step by (Tree-F.Paren child) = mixed 7 child
digest_step by (Tree-F.Plus child) = mixed 8 child
digest_step by (Tree-F.Minus child) = mixed 9 child
digest_step by (Tree-F.Percent child) = mixed 10 child
digest_step by (Tree-F.Binary op left right) = mixed (mixed (op_number op) left) right

-- the digest of a relative form
unfoldable pub form_digest : Tree → ℕ
form_digest = fold-Tree ℕ (digest_step reference_digest)

-- the digest of the relative form of a tree at home
abbrev pub digest_at : Place → Tree → ℕ
digest_at home = fold-Tree ℕ (digest_step (λ r. reference_digest (relative_reference home r)))
