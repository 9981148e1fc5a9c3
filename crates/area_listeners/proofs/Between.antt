-- Which spots stand between two corners.
use Rattle.std.proofs.Common.{◌≡◌, ℕ, ◌≤◌, ◌<◌, Bool, true, false, cond, not, ◌&&◌, ◌||◌, nat_lt, refl, sym, ap, ◌∙◌, arith}
use Rattle.std.specs.Prelude.{◌==◌}
use Rattle.std.specs.declared.cmp.Ordering.{Ordering}
use Rattle.std.specs.declared.cmp.Ordering.TheVariants.{Less, Equal, Greater}
use Rattle.std.specs.Ordering.{is_le, nat_cmp, ordering_then}
use Rattle.std.proofs.lemmas.Bool.{and_parts}
use Rattle.std.proofs.lemmas.Bool.Decides.{nat_tests}
use Rattle.area_listeners.specs.declared.gathering.Window.{Window}
use Rattle.area_listeners.specs.declared.spot.Spot.{Spot}
use Rattle.area_listeners.specs.Spots.{compared, corner, is_between}

then_le : (x y : ℕ) (o : Ordering) → is_le (ordering_then (nat_cmp x y) o) ≡ (nat_lt x y || ((x == y) && is_le o))
then_le x y o =
    elim (nat_lt x y) as (λ b. is_le (ordering_then (cond b Less (cond (x == y) Equal Greater)) o) ≡ (b || ((x == y) && is_le o))) [
      | true ↦ refl
      | false ↦ elim (x == y) as (λ b. is_le (ordering_then (cond b Equal Greater) o) ≡ (b && is_le o)) [ true ↦ refl | false ↦ refl ]
    ]

-- what is left of the order where the row is the same
abbrev rest : Spot → Ordering
rest s = ordering_then (nat_cmp 0 s.last_row) (ordering_then (nat_cmp 0 s.first_col) (ordering_then (nat_cmp 0 s.last_col) (nat_cmp 0 s.id)))

nothing_below : (n : ℕ) (o : Ordering) → is_le o ≡ true → is_le (ordering_then (nat_cmp 0 n) o) ≡ true
nothing_below n o h = then_le 0 n o ∙ below n (is_le o) h
  where
    below : (n : ℕ) (b : Bool) → b ≡ true → (nat_lt 0 n || ((0 == n) && b)) ≡ true
    below n b h = grind (arith, nat_tests)

rest_le : (s : Spot) → is_le (rest s) ≡ true
rest_le s = nothing_below s.last_row _ (nothing_below s.first_col _ (nothing_below s.last_col (nat_cmp 0 s.id) (last s.id)))
  where
    last : (n : ℕ) → is_le (nat_cmp 0 n) ≡ true
    last n = nothing_last (nat_cmp 0 n) (nothing_below n Equal refl)
      where
        nothing_last : (o : Ordering) → is_le (ordering_then o Equal) ≡ true → is_le o ≡ true
        nothing_last Less h = refl
        nothing_last Equal h = refl
        nothing_last Greater h = h

-- the order by numbers
abbrev by_numbers : Window → ℕ → ℕ → Spot → Bool
by_numbers w column row s =
    nat_lt w.class s.class || ((w.class == s.class) && (nat_lt w.sheet s.sheet || ((w.sheet == s.sheet)
    && (nat_lt column s.column || ((column == s.column) && (nat_lt row s.first_row || ((row == s.first_row) && is_le (rest s))))))))

said : (w : Window) (column row : ℕ) (s : Spot) → is_le (compared (corner w column row) s) ≡ by_numbers w column row s
said w column row s =
    then_le w.class s.class _
    ∙ ap (λ b. nat_lt w.class s.class || ((w.class == s.class) && b)) (then_le w.sheet s.sheet _
    ∙ ap (λ b. nat_lt w.sheet s.sheet || ((w.sheet == s.sheet) && b)) (then_le column s.column _
    ∙ ap (λ b. nat_lt column s.column || ((column == s.column) && b)) (then_le row s.first_row (rest s))))

inside_low : (c l column lo row : ℕ) (h : ℕ) (r : Bool) → r ≡ true → l ≤ column → lo ≤ row
    → (nat_lt c c || ((c == c) && (nat_lt h h || ((h == h) && (nat_lt l column || ((l == column) && (nat_lt lo row || ((lo == row) && r)))))))) ≡ true
inside_low c l column lo row h r e f g = grind (arith, nat_tests)

inside_high : (c u column hi row : ℕ) (h : ℕ) (r : Bool) → column ≤ u → row < hi
    → (nat_lt c c || ((c == c) && (nat_lt h h || ((h == h) && (nat_lt u column || ((u == column) && (nat_lt hi row || ((hi == row) && r)))))))) ≡ false
inside_high c u column hi row h r f g = grind (arith, nat_tests)

abbrev by_class : Window → Spot → ℕ → ℕ → ℕ → ℕ → Bool
by_class w s k t column row =
    nat_lt w.class k || ((w.class == k) && (nat_lt w.sheet t || ((w.sheet == t)
    && (nat_lt column s.column || ((column == s.column) && (nat_lt row s.first_row || ((row == s.first_row) && is_le (rest s))))))))

pub is_inside : (w : Window) (l u : ℕ) (s : Spot) → s.class ≡ w.class → s.sheet ≡ w.sheet → l ≤ s.column → s.column ≤ u → w.first ≤ s.first_row → s.first_row < w.end → is_between w l u s ≡ true
is_inside w l u s class sheet a b c d =
    let low : is_le (compared (corner w l w.first) s) ≡ true =
    said w l w.first s ∙ ap (λ k. by_class w s k s.sheet l w.first) class ∙ ap (λ k. by_class w s w.class k l w.first) sheet ∙ inside_low w.class l s.column w.first s.first_row w.sheet (is_le (rest s)) (rest_le s) a c in
    let high : is_le (compared (corner w u w.end) s) ≡ false =
    said w u w.end s ∙ ap (λ k. by_class w s k s.sheet u w.end) class ∙ ap (λ k. by_class w s w.class k u w.end) sheet ∙ inside_high w.class u s.column w.end s.first_row w.sheet (is_le (rest s)) b d in
    ap (λ x. x && not (is_le (compared (corner w u w.end) s))) low ∙ ap not high

lower : (c k : ℕ) (a : Bool) → (nat_lt c k || ((c == k) && a)) ≡ true → (c ≤ k) × (c ≡ k → a ≡ true)
lower c k a h = (below c k a h, same c k a h)
  where
    below : (c k : ℕ) (a : Bool) → (nat_lt c k || ((c == k) && a)) ≡ true → c ≤ k
    below c k a h = grind (arith, nat_tests)

    same : (c k : ℕ) (a : Bool) → (nat_lt c k || ((c == k) && a)) ≡ true → c ≡ k → a ≡ true
    same c k a h e = grind (arith, nat_tests)

upper : (c k : ℕ) (a : Bool) → (nat_lt c k || ((c == k) && a)) ≡ false → (k ≤ c) × (c ≡ k → a ≡ false)
upper c k a h = (above c k a h, same c k a h)
  where
    above : (c k : ℕ) (a : Bool) → (nat_lt c k || ((c == k) && a)) ≡ false → k ≤ c
    above c k a h = grind (arith, nat_tests)

    same : (c k : ℕ) (a : Bool) → (nat_lt c k || ((c == k) && a)) ≡ false → c ≡ k → a ≡ false
    same c k a h e = grind (arith, nat_tests)

not_true : (b : Bool) → not b ≡ true → b ≡ false
not_true true h = sym h
not_true false h = refl

-- a spot between two corners is of their class, and in their column if that is one
pub class_between : (w : Window) (l u : ℕ) (s : Spot) → is_between w l u s ≡ true → (s.class ≡ w.class) × (l ≡ u → s.column ≡ l)
class_between w l u s h =
    let parts = and_parts _ _ h in
    let low = lower w.class s.class _ (sym (said w l w.first s) ∙ parts.0) in
    let high = upper w.class s.class _ (sym (said w u w.end s) ∙ not_true _ parts.1) in
    let class : w.class ≡ s.class = omega (arith, low.0, high.0) in
    let low_sheet = lower w.sheet s.sheet _ (low.1 class) in
    let high_sheet = upper w.sheet s.sheet _ (high.1 class) in
    let sheet : w.sheet ≡ s.sheet = omega (arith, low_sheet.0, high_sheet.0) in
    let from : l ≤ s.column = (lower l s.column _ (low_sheet.1 sheet)).0 in
    let to : s.column ≤ u = (upper u s.column _ (high_sheet.1 sheet)).0 in
    (sym class, λ same. omega (arith, from, to, same))
