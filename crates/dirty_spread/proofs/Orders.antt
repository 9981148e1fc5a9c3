-- Levels of stale cells, one step more.
use Rattle.std.proofs.Common.{◌≡◌, ◌≢◌, ℕ, zero, suc, ◌+◌, ◌-◌, ◌*◌, ◌<◌, ◌≤◌, ◌⊎◌, true, false, not, cond, List, [], ◌∷◌, ◌++◌, length, get_or, inl, inr, refl, sym, ap, subst, ◌∙◌, ⊎_elim, length-append, arith}
use Rattle.std.specs.Prelude.{◌==◌, if◌then◌else◌}
use Rattle.std.specs.List.{All, AllPairs, Contains, count_by}
use Rattle.std.proofs.Math.ListN.{set}
use Rattle.std.proofs.Math.Seq.{get_or-append_seam}
use Rattle.std.proofs.lemmas.Bool.Decides.{nat_tests}
use Rattle.std.proofs.lemmas.Bool.{cases_eq, cases_lt, cases_Bool}
use Rattle.std.proofs.lemmas.List.{get_or-set_other, get_or-set_same, get_or_append_left, length-set}
use Rattle.std.proofs.lemmas.List.Elements.{All-contains, All-push, Contains-append_left, Contains-push, Contains-push_cases}
use Rattle.std.proofs.lemmas.List.Quantifiers.{all_pairs_push}
use Rattle.std.proofs.lemmas.List.Sums.{count_by-le-length, sum_by-set}
use Rattle.calc_addr.specs.Places.{Place, Rectangle, covers}
use Rattle.calc_model.specs.Touched.{CellSet}
use Rattle.dirty_spread.specs.declared.look.Cursor.{Cursor}
use Rattle.dirty_spread.specs.declared.look.Frame.{Frame}
use Rattle.dirty_spread.specs.Finding.{at}
use Rattle.dirty_spread.specs.Levels.{AreLevels, IsCircleBeside, IsClosable, IsClosed, IsLooked, IsOpen, IsOrdering, IsSettled, Leads, area_at, is_in_one, level, read_by, rest}
use Rattle.dirty_spread.specs.Waves.{Problem, has, is_done}
use Rattle.dirty_spread.proofs.Beside.{has_held, held_has}
use Rattle.dirty_spread.proofs.Dones.{area_of_one, done_by, good_other, good_stale, later_than, leads_itself, leads_on, never_around, never_by, never_on, never_read, reader_later}
use Rattle.dirty_spread.proofs.Found.{at_holds, at_of}

-- levels that agree where a cell has a wave
abbrev pub KeepsWaves : List ℕ → List ℕ → Type 0
KeepsWaves old new = (i : ℕ) → 3 ≤ level old i → level new i ≡ level old i

pub looked_kept : (cells : List Place) (circular : CellSet) (areas : List Rectangle) (old new : List ℕ) (cursor : Cursor) → KeepsWaves old new → IsLooked cells circular areas old cursor → IsLooked cells circular areas new cursor
looked_kept cells circular areas old new cursor keeps h = record {
  low = h.low;
  within = h.within;
  settled = λ j i lj hj hi c. moved i (h.settled j i lj hj hi c);
  beside = h.beside;
  part = λ i m low c. moved i (h.part i m low c);
  attained = ⊎_elim (λ (e : cursor.greatest ≡ 2). inl e)
      (λ (one : (i : ℕ) × (i < length cells) × is_in_one areas (at cells i) × (level old i ≡ cursor.greatest)).
      ⊎_elim (λ (e : cursor.greatest ≡ 2). inl e)
      (λ (ne : cursor.greatest ≡ 2 → ⊥). inr (one.0, one.1, one.2, keeps one.0 (big one.3 ne) ∙ one.3))
      (cases_eq cursor.greatest 2))
      h.attained;
}
  where
    moved : (i : ℕ) → IsSettled old cursor.greatest i → IsSettled new cursor.greatest i
    moved i s = let e = keeps i s.0 in (subst (λ n. 3 ≤ n) (sym e) s.0, subst (λ n. n ≤ cursor.greatest) (sym e) s.1)

    big : {x : ℕ} → x ≡ cursor.greatest → (cursor.greatest ≡ 2 → ⊥) → 3 ≤ x
    big {x = x} e ne = let low : 2 ≤ cursor.greatest = h.low in omega arith

pub level_same : (levels : List ℕ) (i v : ℕ) → i < length levels → level (set levels i v) i ≡ v
level_same levels i v within = get_or-set_same levels i v 0 within

pub level_other : (levels : List ℕ) (i j v : ℕ) → (j ≡ i → ⊥) → level (set levels i v) j ≡ level levels j
level_other levels i j v ne = get_or-set_other levels i j v 0 ne

pub set_keeps : (levels : List ℕ) (i v : ℕ) → level levels i ≤ 2 → KeepsWaves levels (set levels i v)
set_keeps levels i v low j high = level_other levels i j v (λ e. let same : level levels j ≡ level levels i = ap (level levels) e in absurd (omega arith))

abbrev pub new_once : ℕ → ℕ
new_once x = cond (x == 0) 1 0

-- how many cells weren't looked at, after one that was got another level
count_kept : (levels : List ℕ) (i v : ℕ) → i < length levels → level levels i ≡ 1 → count_by (λ x. x == 0) (set levels i (v + 1)) ≡ count_by (λ x. x == 0) levels
count_kept levels i v within is =
    let was : new_once (level levels i) ≡ 0 = ap new_once is in
    omega (arith, sum_by-set new_once levels i (v + 1) 0 within, not_zero v)
  where
    not_zero : (v : ℕ) → new_once (v + 1) ≡ 0
    not_zero v = grind (arith, nat_tests)

-- and after one that wasn't
count_less : (levels : List ℕ) (i : ℕ) → i < length levels → level levels i ≡ 0 → count_by (λ x. x == 0) (set levels i 1) + 1 ≡ count_by (λ x. x == 0) levels
count_less levels i within is =
    let was : new_once (level levels i) ≡ 1 = ap new_once is in
    omega (arith, sum_by-set new_once levels i 1 0 within)

module _ (p : Problem) where
  abbrev n : ℕ
  n = length p.stale

  abbrev IsLooking : List ℕ → Frame → Type 0
  IsLooking levels f = (f.place < n) × (level levels f.place ≡ 1) × IsLooked p.stale p.circular (read_by p f.place) levels f.cursor

  abbrev LeadsTo : Frame → Frame → Type 0
  LeadsTo f g = (f.place ≢ g.place) × Leads p (at p.stale f.place) (at p.stale g.place)

  held : (i : ℕ) → i < n → has p.stale (at p.stale i) ≡ true
  held i within = held_has p.stale (at p.stale i) (at_holds p.stale i within)

  module _ (levels : List ℕ) (front : List Frame) (top : Frame) (h : IsOrdering p levels (front ++ top ∷ [])) where
    path : List Frame
    path = front ++ top ∷ []

    path_length : length (front ++ top ∷ []) ≡ length front + 1
    path_length = length-append front (top ∷ [])

    top_looking : IsLooking levels top
    top_looking = subst (IsLooking levels) (get_or-append_seam front top [] top) (h.looking (length front) top (omega (arith, path_length)))

    front_looking : All (IsLooking levels) front
    front_looking j d less = subst (IsLooking levels) (get_or_append_left front (top ∷ []) d j less) (h.looking j d (omega (arith, path_length)))

    front_leads : AllPairs LeadsTo front
    front_leads i j d less within =
        subst (λ f. LeadsTo f (get_or front j d)) (get_or_append_left front (top ∷ []) d i (omega arith))
        (subst (λ g. LeadsTo (get_or (front ++ top ∷ []) i d) g) (get_or_append_left front (top ∷ []) d j within) (h.leads i j d less (omega (arith, path_length))))

    lead_top : (j : ℕ) (d : Frame) → j < length front → LeadsTo (get_or front j d) top
    lead_top j d less =
        subst (λ f. LeadsTo f top) (get_or_append_left front (top ∷ []) d j less)
        (subst (λ g. LeadsTo (get_or (front ++ top ∷ []) j d) g) (get_or-append_seam front top [] d) (h.leads j (length front) d less (omega (arith, path_length))))

    -- a frame of the path is the top, or leads to it
    of_path : (f : Frame) → Contains (front ++ top ∷ []) f → (Contains front f × LeadsTo f top) ⊎ (top ≡ f)
    of_path f c =
        ⊎_elim (λ (e : Contains front f). inl (e, subst (λ g. LeadsTo g top) e.2 (lead_top e.0 f e.1))) (λ (e : top ≡ f). inr e)
        (Contains-push_cases front top f c)

    leads_top : (f : Frame) → Contains (front ++ top ∷ []) f → Leads p (at p.stale f.place) (at p.stale top.place)
    leads_top f c = ⊎_elim (λ (e : Contains front f × LeadsTo f top). e.1.1) (λ (e : top ≡ f). subst (λ g. Leads p (at p.stale g.place) (at p.stale top.place)) e (leads_itself p (at p.stale top.place))) (of_path f c)

    q : Place
    q = at p.stale top.place

    module _ (cursor : Cursor) (all : length (read_by p top.place) ≤ cursor.area) (looked : IsLooked p.stale p.circular (read_by p top.place) levels cursor) where
      -- each stale cell that is read has a wave
      settled_read : (r : Place) → is_in_one (read_by p top.place) r → has p.stale r ≡ true → (i : ℕ) × (i < n) × (at p.stale i ≡ r) × IsSettled levels cursor.greatest i
      settled_read r c stale =
          let area = area_of_one (read_by p top.place) r c in
          let stands = at_of p.stale r (has_held p.stale r stale) in
          (stands.0, stands.1, stands.2, looked.settled area.0 stands.0 (omega (arith, area.1)) area.1 stands.1 (subst (λ x. covers (area_at (read_by p top.place) area.0) x ≡ true) (sym stands.2) area.2))

      done_top : (k : ℕ) → cursor.greatest ≡ k + 2 → is_done p (suc k) (at p.stale top.place) ≡ true
      done_top k e = done_by p k (at p.stale top.place) (λ r c. ⊎_elim (stale_case r c) (other_case r c) (cases_Bool (has p.stale r)))
        where
          wave_of : (i : ℕ) → i < n → IsSettled levels cursor.greatest i → is_done p k (at p.stale i) ≡ true
          wave_of i within s =
              let m : ℕ = level levels i - 3 in
              let is : level levels i ≡ m + 3 = omega (arith, s.0) in
              later_than p (suc m) k (at p.stale i) (omega (arith, s.0, s.1)) (h.wave i m within is).0

          stale_case : (r : Place) → is_in_one (read_by p top.place) r → has p.stale r ≡ true → (if has p.stale r then is_done p k r else not (p.circular r)) ≡ true
          stale_case r c e = let one = settled_read r c e in good_stale p k r e (subst (λ x. is_done p k x ≡ true) one.2 (wave_of one.0 one.1 one.3))

          other_case : (r : Place) → is_in_one (read_by p top.place) r → has p.stale r ≡ false → (if has p.stale r then is_done p k r else not (p.circular r)) ≡ true
          other_case r c e = let area = area_of_one (read_by p top.place) r c in good_other p k r e (looked.beside area.0 r (omega (arith, area.1)) area.1 area.2 e)

      not_done_top : (k : ℕ) → cursor.greatest ≡ k + 2 → is_done p k (at p.stale top.place) ≡ false
      not_done_top zero e = refl
      not_done_top (suc k) e =
          ⊎_elim (λ (none : cursor.greatest ≡ 2). absurd (omega arith))
          (λ (one : (i : ℕ) × (i < n) × is_in_one (read_by p top.place) (at p.stale i) × (level levels i ≡ cursor.greatest)).
          let is : level levels one.0 ≡ k + 3 = one.3 ∙ e ∙ (omega arith) in
          reader_later p (at p.stale top.place) (at p.stale one.0) one.2 (held one.0 one.1) k (h.wave one.0 k one.1 is).1)
          looked.attained

      new : List ℕ
      new = set levels top.place (cursor.greatest + 1)

      top_within : top.place < length levels
      top_within = omega (arith, top_looking.0, h.size)

      new_top : level (set levels top.place (cursor.greatest + 1)) top.place ≡ cursor.greatest + 1
      new_top = level_same levels top.place (cursor.greatest + 1) top_within

      other : (i : ℕ) → (i ≡ top.place → ⊥) → level (set levels top.place (cursor.greatest + 1)) i ≡ level levels i
      other i ne = level_other levels top.place i (cursor.greatest + 1) ne

      keeps : KeepsWaves levels (set levels top.place (cursor.greatest + 1))
      keeps = set_keeps levels top.place (cursor.greatest + 1) (omega (arith, top_looking.1))

      count_same : count_by (λ x. x == 0) (set levels top.place (cursor.greatest + 1)) ≡ count_by (λ x. x == 0) levels
      count_same = count_kept levels top.place cursor.greatest top_within top_looking.1

      rest_less : rest (set levels top.place (cursor.greatest + 1)) front + 1 ≡ rest levels (front ++ top ∷ [])
      rest_less = omega (arith, count_same, path_length)

      greatest_bound : cursor.greatest + rest levels (front ++ top ∷ []) ≤ 2 * n + 3
      greatest_bound =
          ⊎_elim (λ (none : cursor.greatest ≡ 2). omega (arith, h.room))
          (λ (one : (i : ℕ) × (i < n) × is_in_one (read_by p top.place) (at p.stale i) × (level levels i ≡ cursor.greatest)). omega (arith, h.bound one.0, one.3))
          looked.attained

      wave_after : (i k : ℕ) → i < n → level (set levels top.place (cursor.greatest + 1)) i ≡ k + 3 → (is_done p (suc k) (at p.stale i) ≡ true) × (is_done p k (at p.stale i) ≡ false)
      wave_after i k within is =
          ⊎_elim (λ (e : i ≡ top.place).
          let greatest : cursor.greatest ≡ k + 2 = omega (arith, new_top, subst (λ j. level (set levels top.place (cursor.greatest + 1)) j ≡ k + 3) e is) in
          subst (λ j. (is_done p (suc k) (at p.stale j) ≡ true) × (is_done p k (at p.stale j) ≡ false)) (sym e) (done_top k greatest, not_done_top k greatest))
          (λ (ne : i ≡ top.place → ⊥). h.wave i k within (sym (other i ne) ∙ is))
          (cases_eq i top.place)

      pub settle_less : rest (set levels top.place (cursor.greatest + 1)) front < rest levels (front ++ top ∷ [])
      settle_less = omega (arith, rest_less)

      pub settle : IsOrdering p (set levels top.place (cursor.greatest + 1)) front
      settle = record {
        size = length-set levels top.place (cursor.greatest + 1) ∙ h.size;
        wave = wave_after;
        circular = λ i k within is. ⊎_elim (λ (e : i ≡ top.place). absurd (omega (arith, looked.low, new_top, subst (λ j. level (set levels top.place (cursor.greatest + 1)) j ≡ 2) e is)))
            (λ (ne : i ≡ top.place → ⊥). h.circular i k within (sym (other i ne) ∙ is)) (cases_eq i top.place);
        on_path = λ i is. ⊎_elim (λ (e : i ≡ top.place). absurd (omega (arith, looked.low, new_top, subst (λ j. level (set levels top.place (cursor.greatest + 1)) j ≡ 1) e is)))
            (λ (ne : i ≡ top.place → ⊥).
            let f = h.on_path i (sym (other i ne) ∙ is) in
            ⊎_elim (λ (c : Contains front f.0 × LeadsTo f.0 top). (f.0, c.0, f.2)) (λ (c : top ≡ f.0). absurd (ne (sym f.2 ∙ ap (λ (g : Frame). g.place) (sym c)))) (of_path f.0 f.1))
            (cases_eq i top.place);
        looking = λ j d less.
            let f = front_looking j d less in
            (f.0, other (get_or front j d).place (lead_top j d less).0 ∙ f.1, looked_kept p.stale p.circular (read_by p (get_or front j d).place) levels (set levels top.place (cursor.greatest + 1)) (get_or front j d).cursor keeps f.2);
        leads = front_leads;
        room = omega (arith, rest_less, h.room);
        bound = λ i. ⊎_elim (λ (e : i ≡ top.place). subst (λ j. level (set levels top.place (cursor.greatest + 1)) j + rest (set levels top.place (cursor.greatest + 1)) front ≤ 2 * n + 3) (sym e) (omega (arith, new_top, rest_less, greatest_bound)))
            (λ (ne : i ≡ top.place → ⊥). omega (arith, other i ne, rest_less, h.bound i)) (cases_eq i top.place);
      }

    module _ (cursor : Cursor) (opened : IsOpen p.stale (read_by p top.place) levels cursor.next) (looked : IsLooked p.stale p.circular (read_by p top.place) levels cursor) (is_new : level levels cursor.next ≡ 0) where
      abbrev again : Frame
      again = record { place = top.place; cursor = cursor }

      abbrev beyond : Frame
      beyond = record { place = cursor.next; cursor = record { area = 0; next = 0; greatest = 2 } }

      abbrev after : List ℕ
      after = set levels cursor.next 1

      abbrev longer : List Frame
      longer = (front ++ again ∷ []) ++ beyond ∷ []

      next_within : cursor.next < length levels
      next_within = omega (arith, opened.within, h.size)

      next_level : level after cursor.next ≡ 1
      next_level = level_same levels cursor.next 1 next_within

      unchanged : (i : ℕ) → (i ≡ cursor.next → ⊥) → level after i ≡ level levels i
      unchanged i ne = level_other levels cursor.next i 1 ne

      -- what is looked at isn't new
      old_place : (i : ℕ) → level levels i ≡ 1 → i ≡ cursor.next → ⊥
      old_place i one e = let same : level levels i ≡ level levels cursor.next = ap (level levels) e in absurd (omega arith)

      still : (f : Frame) → IsLooking levels f → IsLooking after f
      still f l = (l.0, unchanged f.place (old_place f.place l.1) ∙ l.1, looked_kept p.stale p.circular (read_by p f.place) levels after f.cursor (set_keeps levels cursor.next 1 opened.none) l.2)

      start_looked : IsLooked p.stale p.circular (read_by p cursor.next) after (record { area = 0; next = 0; greatest = 2 })
      start_looked = record {
        low = omega arith;
        within = omega arith;
        settled = λ j i lj hj hi c. absurd (omega arith);
        beside = λ j r lj hj c absent. absurd (omega arith);
        part = λ i m low c. absurd (omega arith);
        attained = inl refl;
      }

      again_leads : AllPairs LeadsTo (front ++ again ∷ [])
      again_leads = all_pairs_push LeadsTo front again front_leads (λ k d less. lead_top k d less)

      top_beyond : Leads p (at p.stale top.place) (at p.stale cursor.next)
      top_beyond = leads_on p (at p.stale top.place) (at p.stale top.place) (at p.stale cursor.next) (leads_itself p (at p.stale top.place)) opened.read (held cursor.next opened.within)

      beyond_leads : (k : ℕ) (d : Frame) → k < length (front ++ again ∷ []) → LeadsTo (get_or (front ++ again ∷ []) k d) beyond
      beyond_leads k d less =
          ⊎_elim (λ (l : k < length front).
          let f = lead_top k d l in
          let looking = front_looking k d l in
          subst (λ g. LeadsTo g beyond) (sym (get_or_append_left front (again ∷ []) d k l))
          (old_place (get_or front k d).place looking.1, leads_on p (at p.stale (get_or front k d).place) (at p.stale top.place) (at p.stale cursor.next) f.1 opened.read (held cursor.next opened.within)))
          (λ (le : length front ≤ k).
          let last : length front ≡ k = omega (arith, length-append front (again ∷ [])) in
          subst (λ m. LeadsTo (get_or (front ++ again ∷ []) m d) beyond) last
          (subst (λ g. LeadsTo g beyond) (sym (get_or-append_seam front again [] d)) (old_place top.place top_looking.1, top_beyond)))
          (cases_lt k (length front))

      rest_one : rest after longer + 1 ≡ rest levels (front ++ top ∷ [])
      rest_one = omega (arith, count_less levels cursor.next next_within is_new, path_length, length-append (front ++ again ∷ []) (beyond ∷ []), length-append front (again ∷ []))

      path_after : (i : ℕ) → level after i ≡ 1 → (f : Frame) × Contains longer f × (f.place ≡ i)
      path_after i is =
          ⊎_elim (λ (e : i ≡ cursor.next). (beyond, Contains-push (front ++ again ∷ []) beyond, sym e))
          (λ (ne : i ≡ cursor.next → ⊥).
          let f = h.on_path i (sym (unchanged i ne) ∙ is) in
          ⊎_elim (λ (c : Contains front f.0 × LeadsTo f.0 top). (f.0, Contains-append_left (front ++ again ∷ []) (beyond ∷ []) f.0 (Contains-append_left front (again ∷ []) f.0 c.0), f.2))
          (λ (c : top ≡ f.0). (again, Contains-append_left (front ++ again ∷ []) (beyond ∷ []) again (Contains-push front again), ap (λ (g : Frame). g.place) c ∙ f.2))
          (of_path f.0 f.1))
          (cases_eq i cursor.next)

      pub descend : IsOrdering p (set levels cursor.next 1) ((front ++ record { place = top.place; cursor = cursor } ∷ []) ++ record { place = cursor.next; cursor = record { area = 0; next = 0; greatest = 2 } } ∷ [])
      descend = record {
        size = length-set levels cursor.next 1 ∙ h.size;
        wave = λ i k within is. ⊎_elim (λ (e : i ≡ cursor.next). absurd (omega (arith, next_level, subst (λ j. level after j ≡ k + 3) e is)))
            (λ (ne : i ≡ cursor.next → ⊥). h.wave i k within (sym (unchanged i ne) ∙ is)) (cases_eq i cursor.next);
        circular = λ i k within is. ⊎_elim (λ (e : i ≡ cursor.next). absurd (omega (arith, next_level, subst (λ j. level after j ≡ 2) e is)))
            (λ (ne : i ≡ cursor.next → ⊥). h.circular i k within (sym (unchanged i ne) ∙ is)) (cases_eq i cursor.next);
        on_path = path_after;
        looking = All-push (IsLooking after) (front ++ again ∷ []) beyond
            (All-push (IsLooking after) front again (λ j d less. still (get_or front j d) (front_looking j d less)) (still again (top_looking.0, top_looking.1, looked)))
            (opened.within, next_level, start_looked);
        leads = all_pairs_push LeadsTo (front ++ again ∷ []) beyond again_leads beyond_leads;
        room = omega (arith, rest_one, h.room);
        bound = λ i. ⊎_elim (λ (e : i ≡ cursor.next). subst (λ j. level after j + rest after longer ≤ 2 * n + 3) (sym e) (omega (arith, next_level, rest_one, h.room)))
            (λ (ne : i ≡ cursor.next → ⊥). omega (arith, unchanged i ne, rest_one, h.bound i)) (cases_eq i cursor.next);
      }

      pub descend_less : rest (set levels cursor.next 1) ((front ++ record { place = top.place; cursor = cursor } ∷ []) ++ record { place = cursor.next; cursor = record { area = 0; next = 0; greatest = 2 } } ∷ []) < rest levels (front ++ top ∷ [])
      descend_less = omega (arith, rest_one)

    pub closable : All (IsClosable levels) (front ++ top ∷ [])
    closable j d less = let f = h.looking j d less in (omega (arith, f.0, h.size), inl f.1)

    -- a cell that reads one which leads to it, or is in no wave, is in none
    pub never_open : (next : ℕ) → IsOpen p.stale (read_by p top.place) levels next → (level levels next ≡ 0 → ⊥) → (k : ℕ) → is_done p k (at p.stale top.place) ≡ false
    never_open next opened old =
        ⊎_elim (λ (one : level levels next ≡ 1).
        let f = h.on_path next one in
        never_around p (at p.stale top.place) (at p.stale next) opened.read (held next opened.within) (subst (λ j. Leads p (at p.stale j) (at p.stale top.place)) f.2 (leads_top f.0 f.1)))
        (λ (ne : level levels next ≡ 1 → ⊥).
        never_read p (at p.stale top.place) (at p.stale next) opened.read (held next opened.within) (λ k. h.circular next k opened.within (two ne)))
        (cases_eq (level levels next) 1)
      where
        two : (level levels next ≡ 1 → ⊥) → level levels next ≡ 2
        two ne = let low : level levels next ≤ 2 = opened.none in omega arith

    pub never_circle : (r : Place) → IsCircleBeside p.stale p.circular (read_by p top.place) r → (k : ℕ) → is_done p k (at p.stale top.place) ≡ false
    never_circle r c = never_by p (at p.stale top.place) r c.read c.beside c.circle

    module _ (never : (k : ℕ) → is_done p k (at p.stale top.place) ≡ false) (new : List ℕ) (closed : IsClosed levels new) (all : All (λ f. level new f.place ≡ 2) (front ++ top ∷ [])) where
      never_path : (i : ℕ) → level levels i ≡ 1 → (k : ℕ) → is_done p k (at p.stale i) ≡ false
      never_path i one =
          let f = h.on_path i one in
          subst (λ j. (k : ℕ) → is_done p k (at p.stale j) ≡ false) f.2
          (never_on p (at p.stale f.0.place) (at p.stale top.place) (leads_top f.0 f.1) never)

      two_path : (i : ℕ) → level levels i ≡ 1 → level new i ≡ 2
      two_path i one =
          let f = h.on_path i one in
          subst (λ j. level new j ≡ 2) f.2 (All-contains (λ g. level new g.place ≡ 2) (front ++ top ∷ []) f.0 all f.1)

      rest_none : rest new [] < rest levels (front ++ top ∷ [])
      rest_none = omega (arith, closed.fresh, path_length)

      pub circle : IsOrdering p new []
      circle = record {
        size = closed.size ∙ h.size;
        wave = λ i k within is. ⊎_elim (λ (one : level levels i ≡ 1). absurd (omega (arith, two_path i one)))
            (λ (ne : level levels i ≡ 1 → ⊥). h.wave i k within (sym (closed.same i ne) ∙ is)) (cases_eq (level levels i) 1);
        circular = λ i k within is. ⊎_elim (λ (one : level levels i ≡ 1). never_path i one k)
            (λ (ne : level levels i ≡ 1 → ⊥). h.circular i k within (sym (closed.same i ne) ∙ is)) (cases_eq (level levels i) 1);
        on_path = λ i is. ⊎_elim (λ (one : level levels i ≡ 1). absurd (omega (arith, two_path i one)))
            (λ (ne : level levels i ≡ 1 → ⊥). absurd (ne (sym (closed.same i ne) ∙ is))) (cases_eq (level levels i) 1);
        looking = λ j d less. absurd (omega arith);
        leads = λ i j d less within. absurd (omega arith);
        room = omega (arith, rest_none, h.room);
        bound = λ i. ⊎_elim (λ (one : level levels i ≡ 1). omega (arith, two_path i one, rest_none, h.bound i))
            (λ (ne : level levels i ≡ 1 → ⊥). omega (arith, closed.same i ne, rest_none, h.bound i)) (cases_eq (level levels i) 1);
      }

      pub circle_less : rest new [] < rest levels (front ++ top ∷ [])
      circle_less = rest_none

  module _ (levels : List ℕ) (h : IsOrdering p levels []) (place : ℕ) (in_list : place < length levels) (is_new : level levels place ≡ 0) where
    abbrev begun : List ℕ
    begun = set levels place 1

    abbrev first : Frame
    first = record { place = place; cursor = record { area = 0; next = 0; greatest = 2 } }

    begun_place : level begun place ≡ 1
    begun_place = level_same levels place 1 in_list

    elsewhere : (i : ℕ) → (i ≡ place → ⊥) → level begun i ≡ level levels i
    elsewhere i ne = level_other levels place i 1 ne

    rest_begun : rest begun (first ∷ []) + 1 ≡ rest levels []
    rest_begun = omega (arith, count_less levels place in_list is_new)

    pub begin_kept : (i : ℕ) → level (set levels place 1) i ≡ 0 → level levels i ≡ 0
    begin_kept i is = ⊎_elim (λ (e : i ≡ place). ap (level levels) e ∙ is_new) (λ (ne : i ≡ place → ⊥). sym (elsewhere i ne) ∙ is) (cases_eq i place)

    pub begin_place : level (set levels place 1) place ≡ 0 → ⊥
    begin_place e = absurd (omega (arith, begun_place))

    no_frame : (f : Frame) → Contains [] f → ⊥
    no_frame f (k, within, is) = omega arith

    start_looking : IsLooking begun first
    start_looking = (
      omega (arith, h.size),
      begun_place,
      record {
        low = omega arith;
        within = omega arith;
        settled = λ j i lj hj hi c. absurd (omega arith);
        beside = λ j r lj hj c absent. absurd (omega arith);
        part = λ i m low c. absurd (omega arith);
        attained = inl refl;
      },
    )

    pub begin : IsOrdering p (set levels place 1) (record { place = place; cursor = record { area = 0; next = 0; greatest = 2 } } ∷ [])
    begin = record {
      size = length-set levels place 1 ∙ h.size;
      wave = λ i k within is. ⊎_elim (λ (e : i ≡ place). absurd (omega (arith, begun_place, subst (λ j. level begun j ≡ k + 3) e is)))
          (λ (ne : i ≡ place → ⊥). h.wave i k within (sym (elsewhere i ne) ∙ is)) (cases_eq i place);
      circular = λ i k within is. ⊎_elim (λ (e : i ≡ place). absurd (omega (arith, begun_place, subst (λ j. level begun j ≡ 2) e is)))
          (λ (ne : i ≡ place → ⊥). h.circular i k within (sym (elsewhere i ne) ∙ is)) (cases_eq i place);
      on_path = λ i is. ⊎_elim (λ (e : i ≡ place). (first, Contains-push [] first, sym e))
          (λ (ne : i ≡ place → ⊥). let f = h.on_path i (sym (elsewhere i ne) ∙ is) in absurd (no_frame f.0 f.1)) (cases_eq i place);
      looking = All-push (IsLooking begun) [] first (λ j d less. absurd (omega arith)) start_looking;
      leads = λ i j d less within. absurd (omega arith);
      room = omega (arith, rest_begun, h.room);
      bound = λ i. ⊎_elim (λ (e : i ≡ place). subst (λ j. level begun j + rest begun (first ∷ []) ≤ 2 * n + 3) (sym e) (omega (arith, begun_place, rest_begun, h.room)))
          (λ (ne : i ≡ place → ⊥). omega (arith, elsewhere i ne, rest_begun, h.bound i)) (cases_eq i place);
    }

  -- where none is being looked at, each that was looked at has its wave or none
  pub finished : (levels : List ℕ) → IsOrdering p levels [] → ((i : ℕ) → i < n → level levels i ≢ 0) → AreLevels p levels
  finished levels h looked = record {
    size = h.size;
    wave = h.wave;
    circular = h.circular;
    settled = λ i within. ⊎_elim (λ (one : level levels i ≡ 1). let f = h.on_path i one in absurd (no_frames f.0 f.1))
        (λ (ne : level levels i ≡ 1 → ⊥). above (level levels i) (looked i within) ne) (cases_eq (level levels i) 1);
    bound = λ i. omega (arith, h.bound i);
  }
    where
      no_frames : (f : Frame) → Contains [] f → ⊥
      no_frames f (k, within, is) = omega arith

      above : (x : ℕ) → (x ≡ 0 → ⊥) → (x ≡ 1 → ⊥) → 2 ≤ x
      above zero a b = absurd (a refl)
      above (suc zero) a b = absurd (b refl)
      above (suc (suc x)) a b = omega arith

  -- at first none was looked at
  pub unlooked : (levels : List ℕ) → length levels ≡ n → ((i : ℕ) → level levels i ≡ 0) → IsOrdering p levels []
  unlooked levels size none = record {
    size = size;
    wave = λ i k within is. absurd (omega (arith, none i));
    circular = λ i k within is. absurd (omega (arith, none i));
    on_path = λ i is. absurd (omega (arith, none i));
    looking = λ j d less. absurd (omega arith);
    leads = λ i j d less within. absurd (omega arith);
    room = omega (arith, count_by-le-length (λ x. x == 0) levels);
    bound = λ i. omega (arith, none i, count_by-le-length (λ x. x == 0) levels);
  }
