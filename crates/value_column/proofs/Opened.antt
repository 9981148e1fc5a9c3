-- Lanes with rows put in.
use Rattle.std.proofs.Common.{◌≡◌, ℕ, ℤ, pos, ◌+◌, ◌-◌, ◌^◌, ◌<◌, ◌≤◌, Bool, true, false, cond, nat_lt, List, [], get_or, vec_len, refl, sym, ap, subst, ◌∙◌, inl, inr, ◌⊎◌, arith}
use Rattle.std.proofs.lemmas.Bool.{cond-true, cond-false, lt-ltb, le-ltb, cases_lt}
use Rattle.std.proofs.lemmas.List.{get_or_past}
use Rattle.calc_num.specs.Decimals.{IsRaw}
use Rattle.calc_addr.specs.declared.cell.TheConstants.{LAST_ROW}
use Rattle.calc_model.specs.declared.fault.Fault.{Fault}
use Rattle.calc_model.specs.declared.fault.Fault.TheVariants.{NA}
use Rattle.calc_model.specs.declared.value.Value.TheVariants as value
use Rattle.value_column.specs.declared.lane.Tag.{Tag}
use Rattle.value_column.specs.declared.lane.Tag.TheVariants as tag
use Rattle.value_column.specs.declared.lanes.Lanes.{Lanes}
use Rattle.value_column.specs.Lanes.{opened}
use Rattle.value_column.specs.Rows.{AreLanes, LaneHas, is_small, value_in, value_at}

-- a lane with rows put in
pub record Opened {T : Type 0} (a n : ℕ) (d : T) (xs ys : List T) : Type 0 where
  pub items : (r : ℕ) → r < LAST_ROW → get_or ys r d ≡ opened a n d (λ q. get_or xs q d) r

-- the rows in front, those put in, and those behind
pub in_front : {T : Type 0} (a n r : ℕ) (d : T) (f : ℕ → T) → r < a → opened a n d f r ≡ f r
in_front a n r d f h = cond-true (nat_lt r a) _ _ (lt-ltb r a h)

pub put_in : {T : Type 0} (a n r : ℕ) (d : T) (f : ℕ → T) → a ≤ r → r < a + n → opened a n d f r ≡ d
put_in a n r d f h k = cond-false (nat_lt r a) _ _ (le-ltb r a h) ∙ cond-true (nat_lt r (a + n)) _ _ (lt-ltb r (a + n) k)

pub behind : {T : Type 0} (a n r : ℕ) (d : T) (f : ℕ → T) → a + n ≤ r → opened a n d f r ≡ f (r - n)
behind a n r d f h = cond-false (nat_lt r a) _ _ (le-ltb r a (omega arith)) ∙ cond-false (nat_lt r (a + n)) _ _ (le-ltb r (a + n) h)

value-opened : (b c : Bool) (t t2 : Tag) (n n2 w w2 : ℤ) (x x2 : List ℕ) (f f2 : Fault) → value_in (cond b t (cond c tag.Blank t2)) (cond b n (cond c (pos 0) n2)) (cond b w (cond c (pos (2 ^ 63)) w2)) (cond b x (cond c [] x2)) (cond b f (cond c NA f2)) ≡ cond b (value_in t n w x f) (cond c value.Blank (value_in t2 n2 w2 x2 f2))
value-opened true c t t2 n n2 w w2 x x2 f f2 = refl
value-opened false true t t2 n n2 w w2 x x2 f f2 = refl
value-opened false false t t2 n n2 w w2 x x2 f f2 = refl

value-same : (t t2 : Tag) (n n2 w w2 : ℤ) (x x2 : List ℕ) (f f2 : Fault) → t ≡ t2 → n ≡ n2 → w ≡ w2 → x ≡ x2 → f ≡ f2 → value_in t n w x f ≡ value_in t2 n2 w2 x2 f2
value-same t t2 n n2 w w2 x x2 f f2 a b c d e = ap (λ v. value_in v n w x f) a ∙ ap (λ v. value_in t2 v w x f) b ∙ ap (λ v. value_in t2 n2 v x f) c ∙ ap (λ v. value_in t2 n2 w2 v f) d ∙ ap (value_in t2 n2 w2 x2) e

pub values-opened : (t u : Lanes) (a n : ℕ) → Opened a n tag.Blank t.tags.items u.tags.items → Opened a n (pos 0) t.small.items u.small.items → Opened a n (pos (2 ^ 63)) t.wide.items u.wide.items → Opened a n [] t.words.items u.words.items → Opened a n NA t.bad.items u.bad.items
    → (r : ℕ) → r < LAST_ROW → value_at u r ≡ opened a n value.Blank (value_at t) r
values-opened t u a n tags small wide words bad r h =
    value-same _ _ _ _ _ _ _ _ _ _ (tags.items r h) (small.items r h) (wide.items r h) (words.items r h) (bad.items r h)
    ∙ value-opened (nat_lt r a) (nat_lt r (a + n)) (get_or t.tags.items r tag.Blank) (get_or t.tags.items (r - n) tag.Blank) (get_or t.small.items r (pos 0)) (get_or t.small.items (r - n) (pos 0)) (get_or t.wide.items r (pos (2 ^ 63))) (get_or t.wide.items (r - n) (pos (2 ^ 63))) (get_or t.words.items r []) (get_or t.words.items (r - n) []) (get_or t.bad.items r NA) (get_or t.bad.items (r - n) NA)

-- how far a lane reaches then
pub record Reaches (a n old new : ℕ) : Type 0 where
  pub front : (r : ℕ) → r < a → r < old → r < new
  pub back : (r : ℕ) → r + n < LAST_ROW → a ≤ r → r < old → r + n < new

lane-front : (t u : Lanes) (a n r : ℕ) (g : Tag) → Reaches a n (vec_len t.small) (vec_len u.small) → Reaches a n (vec_len t.wide) (vec_len u.wide) → Reaches a n (vec_len t.words) (vec_len u.words) → Reaches a n (vec_len t.bad) (vec_len u.bad) → r < a → LaneHas t r g → LaneHas u r g
lane-front t u a n r tag.Blank s w x f h l = tt
lane-front t u a n r tag.Small s w x f h l = s.front r h l
lane-front t u a n r tag.Wide s w x f h l = w.front r h l
lane-front t u a n r tag.Words s w x f h l = x.front r h l
lane-front t u a n r tag.Bad s w x f h l = f.front r h l

lane-back : (t u : Lanes) (a n r : ℕ) (g : Tag) → Reaches a n (vec_len t.small) (vec_len u.small) → Reaches a n (vec_len t.wide) (vec_len u.wide) → Reaches a n (vec_len t.words) (vec_len u.words) → Reaches a n (vec_len t.bad) (vec_len u.bad) → r + n < LAST_ROW → a ≤ r → LaneHas t r g → LaneHas u (r + n) g
lane-back t u a n r tag.Blank s w x f m h l = tt
lane-back t u a n r tag.Small s w x f m h l = s.back r m h l
lane-back t u a n r tag.Wide s w x f m h l = w.back r m h l
lane-back t u a n r tag.Words s w x f m h l = x.back r m h l
lane-back t u a n r tag.Bad s w x f m h l = f.back r m h l

pub lanes-opened : (t u : Lanes) (a n : ℕ) → AreLanes t → Opened a n tag.Blank t.tags.items u.tags.items → Opened a n (pos (2 ^ 63)) t.wide.items u.wide.items → Reaches a n (vec_len t.small) (vec_len u.small) → Reaches a n (vec_len t.wide) (vec_len u.wide) → Reaches a n (vec_len t.words) (vec_len u.words) → Reaches a n (vec_len t.bad) (vec_len u.bad) → vec_len u.tags ≤ LAST_ROW → vec_len u.wide ≤ LAST_ROW → AreLanes u
lanes-opened t u a n h tags wide s w x f rows most = record { rows = rows; wide = most; raw = raw; large = large; tagged = tagged }
  where
    plain_raw : IsRaw (pos (2 ^ 63))
    plain_raw = refl

    plain_large : is_small (pos (2 ^ 63)) ≡ false
    plain_large = refl

    raw-in : (r : ℕ) → r < LAST_ROW → (r < a) ⊎ (a ≤ r) → (r < a + n) ⊎ (a + n ≤ r) → IsRaw (get_or u.wide.items r (pos (2 ^ 63)))
    raw-in r m (inl k) l = subst IsRaw (sym (wide.items r m ∙ in_front a n r (pos (2 ^ 63)) (λ q. get_or t.wide.items q (pos (2 ^ 63))) k)) (h.raw r)
    raw-in r m (inr k) (inl l) = subst IsRaw (sym (wide.items r m ∙ put_in a n r (pos (2 ^ 63)) (λ q. get_or t.wide.items q (pos (2 ^ 63))) k l)) plain_raw
    raw-in r m (inr k) (inr l) = subst IsRaw (sym (wide.items r m ∙ behind a n r (pos (2 ^ 63)) (λ q. get_or t.wide.items q (pos (2 ^ 63))) l)) (h.raw (r - n))

    raw-at : (r : ℕ) → (r < LAST_ROW) ⊎ (LAST_ROW ≤ r) → IsRaw (get_or u.wide.items r (pos (2 ^ 63)))
    raw-at r (inl m) = raw-in r m (cases_lt r a) (cases_lt r (a + n))
    raw-at r (inr m) = subst IsRaw (sym (get_or_past u.wide.items r (pos (2 ^ 63)) (omega (arith, u.wide.ok)))) plain_raw

    raw : (r : ℕ) → IsRaw (get_or u.wide.items r (pos (2 ^ 63)))
    raw r = raw-at r (cases_lt r LAST_ROW)

    large-in : (r : ℕ) → r < LAST_ROW → (r < a) ⊎ (a ≤ r) → (r < a + n) ⊎ (a + n ≤ r) → is_small (get_or u.wide.items r (pos (2 ^ 63))) ≡ false
    large-in r m (inl k) l = ap is_small (wide.items r m ∙ in_front a n r (pos (2 ^ 63)) (λ q. get_or t.wide.items q (pos (2 ^ 63))) k) ∙ h.large r
    large-in r m (inr k) (inl l) = ap is_small (wide.items r m ∙ put_in a n r (pos (2 ^ 63)) (λ q. get_or t.wide.items q (pos (2 ^ 63))) k l) ∙ plain_large
    large-in r m (inr k) (inr l) = ap is_small (wide.items r m ∙ behind a n r (pos (2 ^ 63)) (λ q. get_or t.wide.items q (pos (2 ^ 63))) l) ∙ h.large (r - n)

    large-at : (r : ℕ) → (r < LAST_ROW) ⊎ (LAST_ROW ≤ r) → is_small (get_or u.wide.items r (pos (2 ^ 63))) ≡ false
    large-at r (inl m) = large-in r m (cases_lt r a) (cases_lt r (a + n))
    large-at r (inr m) = ap is_small (get_or_past u.wide.items r (pos (2 ^ 63)) (omega (arith, u.wide.ok))) ∙ plain_large

    large : (r : ℕ) → is_small (get_or u.wide.items r (pos (2 ^ 63))) ≡ false
    large r = large-at r (cases_lt r LAST_ROW)

    tagged-in : (r : ℕ) → r < LAST_ROW → (r < a) ⊎ (a ≤ r) → (r < a + n) ⊎ (a + n ≤ r) → LaneHas u r (get_or u.tags.items r tag.Blank)
    tagged-in r m (inl k) l =
        subst (LaneHas u r) (sym (tags.items r m ∙ in_front a n r tag.Blank (λ q. get_or t.tags.items q tag.Blank) k))
        (lane-front t u a n r (get_or t.tags.items r tag.Blank) s w x f k (h.tagged r))
    tagged-in r m (inr k) (inl l) = subst (LaneHas u r) (sym (tags.items r m ∙ put_in a n r tag.Blank (λ q. get_or t.tags.items q tag.Blank) k l)) tt
    tagged-in r m (inr k) (inr l) =
        let back : r - n + n ≡ r = omega arith in
        subst (LaneHas u r) (sym (tags.items r m ∙ behind a n r tag.Blank (λ q. get_or t.tags.items q tag.Blank) l))
        (subst (λ v. LaneHas u v (get_or t.tags.items (r - n) tag.Blank)) back (lane-back t u a n (r - n) (get_or t.tags.items (r - n) tag.Blank) s w x f (omega arith) (omega arith) (h.tagged (r - n))))

    tagged-at : (r : ℕ) → (r < LAST_ROW) ⊎ (LAST_ROW ≤ r) → LaneHas u r (get_or u.tags.items r tag.Blank)
    tagged-at r (inl m) = tagged-in r m (cases_lt r a) (cases_lt r (a + n))
    tagged-at r (inr m) = subst (LaneHas u r) (sym (get_or_past u.tags.items r tag.Blank (omega (arith, u.tags.ok)))) tt

    tagged : (r : ℕ) → LaneHas u r (get_or u.tags.items r tag.Blank)
    tagged r = tagged-at r (cases_lt r LAST_ROW)

-- the same over a lane that was given room before
pub opened-by : {T : Type 0} (a n : ℕ) (d : T) (xs ys zs : List T) → ys ≡ xs → ((r : ℕ) → r < LAST_ROW → get_or zs r d ≡ opened a n d (λ q. get_or ys q d) r) → Opened a n d xs zs
opened-by a n d xs ys zs e h = record { items = λ r m. h r m ∙ ap (λ v. opened a n d (λ q. get_or v q d) r) e }

pub reaches-by : (a n old mid new : ℕ) → mid ≡ old → ((r : ℕ) → r < a → r < mid → r < new) → ((r : ℕ) → r + n < LAST_ROW → a ≤ r → r < mid → r + n < new) → Reaches a n old new
reaches-by a n old mid new e f b = record { front = λ r h k. f r h (omega arith); back = λ r m h k. b r m h (omega arith) }
