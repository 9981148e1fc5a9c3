-- The digest that is computed for a tree at home is that of its relative form.
use Rattle.std.proofs.Common.{◌≡◌, ℕ, map}
use Rattle.std.proofs.lemmas.Simd.{map-map}
use Rattle.calc_addr.specs.Places.{Place}
use Rattle.calc_model.specs.declared.tree.Tree.{Tree}
use Rattle.calc_model.specs.declared.tree.Tree.TheOpen.{Tree-F}
use Rattle.calc_model.proofs.TreeFolds.{at-Number, at-Words, at-Bad, at-Ref, at-Name, at-Call, at-Paren, at-Plus, at-Minus, at-Percent, at-Binary}
use Rattle.calc_model.proofs.TreeInduction.{tree_ind}
use Rattle.formula_code.specs.Digests.{digest_at, digest_step, form_digest, reference_digest}
use Rattle.formula_code.specs.Relative.{relative, relative_reference}
use Rattle.calc_model.proofs.Replaced.{replaced-Number, replaced-Words, replaced-Bad, replaced-Ref, replaced-Name, replaced-Call, replaced-Paren, replaced-Plus, replaced-Minus, replaced-Percent, replaced-Binary, map_known}

module _ (home : Place) where
  abbrev tree_step : Tree-F ℕ → ℕ
  tree_step = digest_step (λ r. reference_digest (relative_reference home r))

  abbrev form_step : Tree-F ℕ → ℕ
  form_step = digest_step reference_digest

  abbrev IsDigest : Tree → Type 0
  IsDigest x = digest_at home x ≡ form_digest (relative home x)

  pub digest_is : (x : Tree) → IsDigest x
  unfolding form_digest
  digest_is = tree_ind IsDigest (record {
    number = λ n. rw (at-Number _ tree_step n, replaced-Number _ n, at-Number _ form_step n);
    words = λ text. rw (at-Words _ tree_step text, replaced-Words _ text, at-Words _ form_step text);
    bad = λ fault. rw (at-Bad _ tree_step fault, replaced-Bad _ fault, at-Bad _ form_step fault);
    reference = λ r. rw (at-Ref _ tree_step r, replaced-Ref _ r, at-Ref _ form_step (relative_reference home r));
    name = λ name. rw (at-Name _ tree_step name, replaced-Name _ name, at-Name _ form_step name);
    call = λ name args known.
        rw (at-Call _ tree_step name args, replaced-Call _ name args, at-Call _ form_step name (map (relative home) args), map-map form_digest (relative home) args, map_known (digest_at home) (λ x. form_digest (relative home x)) args known);
    paren = λ x is. rw (at-Paren _ tree_step x, replaced-Paren _ x, at-Paren _ form_step (relative home x), is);
    plus = λ x is. rw (at-Plus _ tree_step x, replaced-Plus _ x, at-Plus _ form_step (relative home x), is);
    minus = λ x is. rw (at-Minus _ tree_step x, replaced-Minus _ x, at-Minus _ form_step (relative home x), is);
    percent = λ x is. rw (at-Percent _ tree_step x, replaced-Percent _ x, at-Percent _ form_step (relative home x), is);
    binary = λ op x y left right.
        rw (at-Binary _ tree_step op x y, replaced-Binary _ op x y, at-Binary _ form_step op (relative home x) (relative home y), left, right);
  })
