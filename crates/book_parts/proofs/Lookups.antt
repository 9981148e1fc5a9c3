-- Looking a key up in a map's entries.
use Rattle.std.proofs.Common.{◌≡◌, List, [], ◌∷◌, Some, cond, refl, ap}
use Rattle.std.specs.Map.{lookup}
use Rattle.std.specs.BTreeMap.{is_at}
use Rattle.std.specs.FinMap.Entries.{find}
use Rattle.std.specs.declared.cmp.Ordering.{Ordering}

pub find-lookup : {K X : Type 0} (R : K → K → Ordering) (q : K) (es : List (K × X)) → find R q es ≡ lookup (is_at (R q)) es
find-lookup R q [] = refl
find-lookup R q (e ∷ es) = ap (cond (is_at (R q) e.0) (Some e.1)) (find-lookup R q es)
