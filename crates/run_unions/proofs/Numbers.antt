-- Numbers of cells and the cells of numbers.
use Rattle.std.proofs.Common.{◌≡◌, ◌⊎◌, ℕ, ◌+◌, ◌-◌, ◌*◌, ◌/◌, ◌%◌, ◌≤◌, ◌<◌, true, ◌&&◌, nat_le, inl, inr, refl, sym, ap, subst, ◌∙◌, ⊎_elim, eq-eqb, arith}
use Rattle.std.specs.Prelude.{◌==◌}
use Rattle.std.proofs.lemmas.Bool.{and_from, and_parts, cases_lt, eqb-true, leb-true}
use Rattle.std.proofs.lemmas.Bool.Decides.{nat_tests}
use Rattle.calc_addr.specs.Places.{IsBefore, IsRows, Place, Rows}
use Rattle.run_unions.specs.Keys.{first_key, has_key, key_of, last_key, place_at}
use Rattle.run_unions.specs.Unions.{is_in}

same_place : {s t c d r q : ℕ} → s ≡ t → c ≡ d → r ≡ q → ◌≡◌ {A = Place} (record { sheet = s; col = c; row = r }) (record { sheet = t; col = d; row = q })
same_place a b c = cc

column_part : (c x : ℕ) → x < 1048576 → (c * 1048576 + x) / 1048576 ≡ c
column_part c x h = omega arith

row_part : (c x : ℕ) → x < 1048576 → (c * 1048576 + x) % 1048576 ≡ x
row_part c x h = omega arith

sheet_part : (s c : ℕ) → c < 1024 → (s * 1024 + c) / 1024 ≡ s
sheet_part s c h = omega arith

col_part : (s c : ℕ) → c < 1024 → (s * 1024 + c) % 1024 ≡ c
col_part s c h = omega arith

-- the number of a column, and how far below its first row
pub place_parts : (sheet col x k : ℕ) → 1 ≤ col → col ≤ 1024 → x < 1048576 → k ≡ (sheet * 1024 + (col - 1)) * 1048576 + x → place_at k ≡ record { sheet = sheet; col = col; row = x + 1 }
place_parts sheet col x k low high within is =
    let column : k / 1048576 ≡ sheet * 1024 + (col - 1) = ap (λ n. n / 1048576) is ∙ column_part (sheet * 1024 + (col - 1)) x within in
    let row : k % 1048576 ≡ x = ap (λ n. n % 1048576) is ∙ row_part (sheet * 1024 + (col - 1)) x within in
    same_place (ap (λ n. n / 1024) column ∙ sheet_part sheet (col - 1) (omega arith))
    (ap (λ n. n % 1024 + 1) column ∙ ap (λ n. n + 1) (col_part sheet (col - 1) (omega arith)) ∙ back col low)
    (ap (λ n. n + 1) row)
  where
    back : (c : ℕ) → 1 ≤ c → c - 1 + 1 ≡ c
    back c h = omega arith

row_in : (first last x base k : ℕ) → base + (first - 1) ≤ k → k ≤ base + (last - 1) → x ≡ k - base → 1 ≤ first → first ≤ last → (nat_le first (x + 1) && nat_le (x + 1) last) ≡ true
row_in first last x base k low high is from order = grind (arith, nat_tests)

-- the number of a run's cell is that of the cell
pub number_in_run : (run : Rows) (k : ℕ) → IsRows run → has_key k run ≡ true → is_in (place_at k) run ≡ true
number_in_run run k rows h =
    let base : ℕ = (run.sheet * 1024 + (run.col - 1)) * 1048576 in
    let parts = and_parts (nat_le (first_key run) k) (nat_le k (last_key run)) h in
    let low : base + (run.first - 1) ≤ k = leb-true _ _ parts.0 in
    let high : k ≤ base + (run.last - 1) = leb-true _ _ parts.1 in
    let x : ℕ = k - base in
    let is : k ≡ base + x = above base (run.first - 1) k low in
    let small : x < 1048576 = little base k run.last high rows.to rows.from rows.in_order in
    subst (λ (p : Place). is_in p run ≡ true) (sym (place_parts run.sheet run.col x k rows.col_from rows.col_to small is))
    (and_from _ _ (and_from _ _ (eq-eqb run.sheet run.sheet refl) (eq-eqb run.col run.col refl)) (row_in run.first run.last x base k low high refl rows.from rows.in_order))
  where
    above : (base n k : ℕ) → base + n ≤ k → k ≡ base + (k - base)
    above base n k h = omega arith

    little : {first : ℕ} (base k last : ℕ) → k ≤ base + (last - 1) → last ≤ 1048576 → 1 ≤ first → first ≤ last → k - base < 1048576
    little base k last h to from order = omega arith

key_row : (base first last row : ℕ) → nat_le first row ≡ true → nat_le row last ≡ true → (nat_le (base + (first - 1)) (base + (row - 1)) && nat_le (base + (row - 1)) (base + (last - 1))) ≡ true
key_row base first last row h k = grind (arith, nat_tests)

pub cell_in_run : (run : Rows) (q : Place) → IsRows run → is_in q run ≡ true → (has_key (key_of q) run ≡ true) × (place_at (key_of q) ≡ q)
cell_in_run run q rows h =
    let parts = and_parts _ _ h in
    let column = and_parts (q.sheet == run.sheet) (q.col == run.col) parts.0 in
    let row = and_parts (nat_le run.first q.row) (nat_le q.row run.last) parts.1 in
    let sheet : q.sheet ≡ run.sheet = eqb-true _ _ column.0 in
    let col : q.col ≡ run.col = eqb-true _ _ column.1 in
    let low : run.first ≤ q.row = leb-true _ _ row.0 in
    let high : q.row ≤ run.last = leb-true _ _ row.1 in
    let from : 1 ≤ run.first = rows.from in
    let to : run.last ≤ 1048576 = rows.to in
    let key : key_of q ≡ (run.sheet * 1024 + (run.col - 1)) * 1048576 + (q.row - 1) =
    ap (λ s. (s * 1024 + (q.col - 1)) * 1048576 + (q.row - 1)) sheet ∙ ap (λ c. (run.sheet * 1024 + (c - 1)) * 1048576 + (q.row - 1)) col in (
      subst (λ k. has_key k run ≡ true) (sym key) (key_row ((run.sheet * 1024 + (run.col - 1)) * 1048576) run.first run.last q.row row.0 row.1),
      place_parts run.sheet run.col (q.row - 1) (key_of q) rows.col_from rows.col_to (omega arith) key ∙ same_place (sym sheet) (sym col) (back q.row (omega arith)),
    )
  where
    back : (r : ℕ) → 1 ≤ r → r - 1 + 1 ≡ r
    back r h = omega arith

in_order : (s t c d r q : ℕ) → (s < t) ⊎ ((s ≡ t) × ((c < d) ⊎ ((c ≡ d) × (r < q)))) → IsBefore (record { sheet = s; col = c; row = r }) (record { sheet = t; col = d; row = q })
in_order s t c d r q (inl h) = grind (arith, nat_tests)
in_order s t c d r q (inr (e, inl h)) = grind (arith, nat_tests)
in_order s t c d r q (inr (e, inr (i, h))) = grind (arith, nat_tests)

by_rows : (a b : ℕ) → a < b → (a / 1048576 < b / 1048576) ⊎ ((a / 1048576 ≡ b / 1048576) × (a % 1048576 < b % 1048576))
by_rows a b h = ⊎_elim (λ (k : a / 1048576 < b / 1048576). inl k) (λ (k : b / 1048576 ≤ a / 1048576). inr (omega arith, omega arith)) (cases_lt (a / 1048576) (b / 1048576))

by_cols : (a b : ℕ) → a < b → (a / 1024 < b / 1024) ⊎ ((a / 1024 ≡ b / 1024) × (a % 1024 < b % 1024))
by_cols a b h = ⊎_elim (λ (k : a / 1024 < b / 1024). inl k) (λ (k : b / 1024 ≤ a / 1024). inr (omega arith, omega arith)) (cases_lt (a / 1024) (b / 1024))

next_below : (a b : ℕ) → a < b → a + 1 < b + 1
next_below a b h = omega arith

pub rising_before : (a b : ℕ) → a < b → IsBefore (place_at a) (place_at b)
rising_before a b h =
    in_order (a / 1048576 / 1024) (b / 1048576 / 1024) (a / 1048576 % 1024 + 1) (b / 1048576 % 1024 + 1) (a % 1048576 + 1) (b % 1048576 + 1)
    (⊎_elim
    (λ (k : a / 1048576 < b / 1048576).
    ⊎_elim (λ (l : a / 1048576 / 1024 < b / 1048576 / 1024). inl l)
    (λ (l : (a / 1048576 / 1024 ≡ b / 1048576 / 1024) × (a / 1048576 % 1024 < b / 1048576 % 1024)). inr (l.0, inl (next_below _ _ l.1)))
    (by_cols (a / 1048576) (b / 1048576) k))
    (λ (k : (a / 1048576 ≡ b / 1048576) × (a % 1048576 < b % 1048576)).
    inr (ap (λ n. n / 1024) k.0, inr (ap (λ n. n % 1024 + 1) k.0, next_below _ _ k.1)))
    (by_rows a b h))
