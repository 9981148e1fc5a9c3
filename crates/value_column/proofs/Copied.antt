-- Rows that show copied numbers.
use Rattle.std.proofs.Common.{◌≡◌, ℕ, zero, suc, ℤ, pos, ◌+◌, ◌-◌, ◌^◌, ◌<◌, ◌≤◌, ◌&&◌, Bool, true, false, nat_lt, nat_le, List, [], ◌++◌, take, drop, length, replicate, get_or, cond, vec_len, refl, sym, ap, ◌∙◌, inl, inr, ◌⊎◌, arith}
use Rattle.std.proofs.lemmas.Bool.{cond-true, cond-false, lt-ltb, le-leb, lt-leb, le-ltb, cases_lt, and_from, and_left, and_right}
use Rattle.std.proofs.lemmas.List.{get_or_append_left, get_or-append_right, get_or-take, get_or-drop, get_or_default, length-take-le, length-replicate}
use Rattle.calc_model.specs.declared.fault.Fault.{Fault}
use Rattle.calc_model.specs.declared.fault.Fault.TheVariants.{NA}
use Rattle.calc_model.specs.declared.value.Value.TheVariants as value
use Rattle.value_column.specs.declared.lane.Tag.{Tag}
use Rattle.value_column.specs.declared.lane.Tag.TheVariants as tag
use Rattle.value_column.specs.declared.lanes.Lanes.{Lanes}
use Rattle.value_column.specs.Rows.{value_in, value_at, written}

pub put-rows : {T : Type 0} (xs vs : List T) (d e : T) (a b r : ℕ) → a + length vs ≡ b → a ≤ length xs → get_or (take a xs ++ (vs ++ drop b xs)) r d ≡ cond (nat_le a r && nat_lt r b) (get_or vs (r - a) e) (get_or xs r d)
put-rows {T} xs vs d e a b r end within = at (cases_lt r a) (cases_lt r b)
  where
    front : length (take a xs) ≡ a
    front = length-take-le a xs (omega arith)

    at : (r < a) ⊎ (a ≤ r) → (r < b) ⊎ (b ≤ r) → get_or (take a xs ++ (vs ++ drop b xs)) r d ≡ cond (nat_le a r && nat_lt r b) (get_or vs (r - a) e) (get_or xs r d)
    at (inl h) l =
        get_or_append_left (take a xs) (vs ++ drop b xs) d r (omega (arith, front)) ∙ get_or-take a xs r d h
        ∙ sym (cond-false (nat_le a r && nat_lt r b) (get_or vs (r - a) e) (get_or xs r d) (and_left (nat_le a r) (nat_lt r b) (lt-leb a r h)))
    at (inr h) (inl l) =
        get_or-append_right (take a xs) (vs ++ drop b xs) a r d front h
        ∙ get_or_append_left vs (drop b xs) d (r - a) (omega arith) ∙ get_or_default vs (r - a) d e (omega arith)
        ∙ sym (cond-true (nat_le a r && nat_lt r b) (get_or vs (r - a) e) (get_or xs r d) (and_from _ _ (le-leb a r h) (lt-ltb r b l)))
    at (inr h) (inr l) =
        let place : b + (r - a - length vs) ≡ r = omega arith in
        get_or-append_right (take a xs) (vs ++ drop b xs) a r d front h
        ∙ get_or-append_right vs (drop b xs) (length vs) (r - a) d refl (omega arith)
        ∙ get_or-drop b xs (r - a - length vs) d ∙ ap (λ i. get_or xs i d) place
        ∙ sym (cond-false (nat_le a r && nat_lt r b) (get_or vs (r - a) e) (get_or xs r d) (and_right (nat_le a r) (nat_lt r b) (le-ltb r b l)))

all-same : (n i : ℕ) → get_or (replicate n tag.Small) i tag.Small ≡ tag.Small
all-same zero i = refl
all-same (suc n) zero = refl
all-same (suc n) (suc i) = all-same n i

small-choice : (b : Bool) (t : Tag) (n s w : ℤ) (x : List ℕ) (f : Fault) → value_in (cond b tag.Small t) (cond b n s) w x f ≡ cond b (value.Number n) (value_in t s w x f)
small-choice true t n s w x f = refl
small-choice false t n s w x f = refl

-- the rows with numbers copied in
pub copied : (t u : Lanes) (a b : ℕ) (items : List ℤ) → a + length items ≡ b → a ≤ vec_len t.tags → a ≤ vec_len t.small
    → u.tags.items ≡ take a t.tags.items ++ (replicate (b - a) tag.Small ++ drop b t.tags.items) → u.small.items ≡ take a t.small.items ++ (items ++ drop b t.small.items) → u.wide ≡ t.wide → u.words ≡ t.words → u.bad ≡ t.bad
    → (r : ℕ) → value_at u r ≡ written a (length items) (λ k. value.Number (get_or items k (pos 0))) (value_at t) r
copied t u a b items end tags_in small_in tags small wide words bad r =
    ap (λ n. value_in (get_or u.tags.items r tag.Blank) (get_or u.small.items r (pos 0)) n (get_or u.words.items r []) (get_or u.bad.items r NA)) (ap (λ v. get_or v.items r (pos (2 ^ 63))) wide)
    ∙ ap (λ n. value_in (get_or u.tags.items r tag.Blank) (get_or u.small.items r (pos 0)) (get_or t.wide.items r (pos (2 ^ 63))) n (get_or u.bad.items r NA)) (ap (λ v. get_or v.items r []) words)
    ∙ ap (λ n. value_in (get_or u.tags.items r tag.Blank) (get_or u.small.items r (pos 0)) (get_or t.wide.items r (pos (2 ^ 63))) (get_or t.words.items r []) n) (ap (λ v. get_or v.items r NA) bad)
    ∙ ap (λ g. value_in g (get_or u.small.items r (pos 0)) (get_or t.wide.items r (pos (2 ^ 63))) (get_or t.words.items r []) (get_or t.bad.items r NA)) (tag-at r)
    ∙ ap (λ n. value_in (cond (nat_le a r && nat_lt r b) tag.Small (get_or t.tags.items r tag.Blank)) n (get_or t.wide.items r (pos (2 ^ 63))) (get_or t.words.items r []) (get_or t.bad.items r NA)) (small-at r)
    ∙ small-choice (nat_le a r && nat_lt r b) (get_or t.tags.items r tag.Blank) (get_or items (r - a) (pos 0)) (get_or t.small.items r (pos 0)) (get_or t.wide.items r (pos (2 ^ 63))) (get_or t.words.items r []) (get_or t.bad.items r NA)
    ∙ ap (λ n. cond (nat_le a r && nat_lt r n) (value.Number (get_or items (r - a) (pos 0))) (value_at t r)) (sym end)
  where
    longs : length (replicate (b - a) tag.Small) ≡ b - a
    longs = length-replicate (b - a) tag.Small

    ones : (r : ℕ) → get_or (replicate (b - a) tag.Small) (r - a) tag.Small ≡ tag.Small
    ones r = all-same (b - a) (r - a)

    tag-at : (r : ℕ) → get_or u.tags.items r tag.Blank ≡ cond (nat_le a r && nat_lt r b) tag.Small (get_or t.tags.items r tag.Blank)
    tag-at r =
        ap (λ v. get_or v r tag.Blank) tags ∙ put-rows t.tags.items (replicate (b - a) tag.Small) tag.Blank tag.Small a b r (omega (arith, longs)) (omega (arith, t.tags.ok))
        ∙ ap (λ g. cond (nat_le a r && nat_lt r b) g (get_or t.tags.items r tag.Blank)) (ones r)

    small-at : (r : ℕ) → get_or u.small.items r (pos 0) ≡ cond (nat_le a r && nat_lt r b) (get_or items (r - a) (pos 0)) (get_or t.small.items r (pos 0))
    small-at r = ap (λ v. get_or v r (pos 0)) small ∙ put-rows t.small.items items (pos 0) (pos 0) a b r end (omega (arith, t.small.ok))
