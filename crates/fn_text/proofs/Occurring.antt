-- Where a text stands among the bytes of another, it stands among its characters, and the other way round.
use Rattle.std.proofs.Common.{◌≡◌, ℕ, zero, suc, ◌+◌, ◌-◌, ◌<◌, ◌≤◌, Bool, true, false, List, [], ◌∷◌, ◌++◌, drop, get_or, length, take, Option, Some, None, refl, sym, ap, subst, cond, inl, inr, ◌∙◌, arith}
use Rattle.std.specs.Prelude.{nat_eq}
use Rattle.std.specs.List.{find, range_with_len, starts_with}
use Rattle.std.specs.Str.{IsCharBoundary, IsUtf8, chars, encode_utf8_all}
use Rattle.std.proofs.Math.Seq.{drop-append_seam}
use Rattle.std.proofs.lemmas.Bool.{cases_eq, false_from_ne_true}
use Rattle.std.proofs.lemmas.Bool.Decides.{Decides-eqb}
use Rattle.std.proofs.lemmas.List.{drop-drop, get_or-append-add, get_or-drop, get_or_append_left, get_or_default, length-append, length-drop, length-take-le, same_lists, take-append-drop, take-append-le, get_or-take}
use Rattle.std.proofs.lemmas.Slice.Eq.{starts_is}
use Rattle.std.proofs.lemmas.Str.{IsCharBoundary-start, IsUtf8-take, chars-append, encodes-append, encodes-chars, length-le-encodes}
use Rattle.calc_addr.specs.Places.{Place}
use Rattle.calc_model.specs.Arguments.{meanings_of}
use Rattle.calc_model.specs.Scalars.{CellValues}
use Rattle.calc_model.specs.Texts.{find_, place_of}
use Rattle.calc_model.specs.declared.arg.Arg.{Arg}
use Rattle.calc_model.specs.declared.fault.Fault.TheVariants.{BadValue}
use Rattle.calc_model.specs.declared.value.Value.TheVariants.{Bad}
use Rattle.memchr.specs.Find.{FindsNeedle, NoneBefore, OccursAt}
use Rattle.fn_text.specs.Finding.{IsFirst, stands_behind}

-- the first number from a on that passes
pub first-from : (p : ℕ → Bool) (a n i : ℕ) → i < n → p (a + i) ≡ true → ((k : ℕ) → k < i → p (a + k) ≡ false) → find p (range_with_len a n) ≡ Some (a + i)
first-from p a zero i h here before = absurd (omega (arith, h))
first-from p a (suc n) zero h here before =
    let e : a + 0 ≡ a = omega arith in
    ap (λ b. cond b (Some a) (find p (range_with_len (a + 1) n))) (ap p (sym e) ∙ here) ∙ ap Some (sym e)
first-from p a (suc n) (suc i) h here before =
    let e : a ≡ a + 0 = omega arith in
    let f : a + 1 + i ≡ a + suc i = omega arith in
    ap (λ b. cond b (Some a) (find p (range_with_len (a + 1) n))) (ap p e ∙ before 0 (omega arith))
    ∙ first-from p (a + 1) n i (omega (arith, h)) (ap p f ∙ here) (λ k below.
    let g : a + 1 + k ≡ a + suc k = omega arith in
    ap p g ∙ before (suc k) (omega (arith, below)))
    ∙ ap Some f

pub none-from : (p : ℕ → Bool) (a n : ℕ) → ((k : ℕ) → k < n → p (a + k) ≡ false) → find p (range_with_len a n) ≡ None
none-from p a zero none = refl
none-from p a (suc n) none =
    let e : a ≡ a + 0 = omega arith in
    ap (λ b. cond b (Some a) (find p (range_with_len (a + 1) n))) (ap p e ∙ none 0 (omega arith))
    ∙ none-from p (a + 1) n (λ k below.
    let g : a + 1 + k ≡ a + suc k = omega arith in
    ap p g ∙ none (suc k) (omega (arith, below)))

-- what stands in a list between two parts occurs there
occurs-between : (hay front needle rest : List ℕ) → hay ≡ front ++ (needle ++ rest) → OccursAt hay needle (length front)
occurs-between hay front needle rest e = record {
  fits = omega (arith, ap length e, length-append front (needle ++ rest), length-append needle rest);
  reads = λ j below.
      ap (λ xs. get_or xs (length front + j) 0) e ∙ get_or-append-add front (needle ++ rest) j 0 ∙ get_or_append_left needle rest 0 j below;
}

-- what occurs stands there
pub stands : (hay needle : List ℕ) (at : ℕ) → OccursAt hay needle at → drop at hay ≡ needle ++ drop (length needle) (drop at hay)
stands hay needle at h =
    let rest = drop at hay in
    let fits : length needle ≤ length rest = omega (arith, h.fits, length-drop at hay) in
    let size : length (take (length needle) rest) ≡ length needle = length-take-le (length needle) rest fits in
    let same : take (length needle) rest ≡ needle =
    same_lists (take (length needle) rest) needle size (λ k d below.
    let inside : k < length needle = omega (arith, below, size) in
    get_or-take (length needle) rest k d inside ∙ get_or-drop at hay k d
    ∙ get_or_default hay (at + k) d 0 (omega (arith, inside, h.fits)) ∙ h.reads k inside ∙ get_or_default needle k 0 d inside) in
    sym (take-append-drop (length needle) rest) ∙ ap (λ xs. xs ++ drop (length needle) rest) same

pub found-in : (hay words needle sought : List ℕ) (r s : Option ℕ) → hay ≡ words → needle ≡ sought → r ≡ s → FindsNeedle hay needle 0 r → FindsNeedle words sought 0 s
found-in hay words needle sought r s e f same h =
    subst (FindsNeedle words sought 0) same (subst (λ n. FindsNeedle words n 0 r) f (subst (λ w. FindsNeedle w needle 0 r) e h))

module _ (sought words : List ℕ) (sought_valid : IsUtf8 sought) (words_valid : IsUtf8 words) where
  -- among characters, so among bytes
  to-bytes : (k : ℕ) → k ≤ length (chars words) → stands_behind (chars sought) (chars words) k ≡ true → OccursAt words sought (length (encode_utf8_all (take k (chars words))))
  to-bytes k within here =
      let cs = chars words in
      let rest = drop (length (chars sought)) (drop k cs) in
      let split : drop k cs ≡ chars sought ++ rest = (starts_is Decides-eqb (drop k cs) (chars sought) _ refl).0 here in
      occurs-between words (encode_utf8_all (take k cs)) sought (encode_utf8_all rest)
      (sym (encodes-chars words words_valid) ∙ ap encode_utf8_all (sym (take-append-drop k cs)) ∙ encodes-append (take k cs) (drop k cs)
      ∙ ap (λ xs. encode_utf8_all (take k cs) ++ xs) (ap encode_utf8_all split ∙ encodes-append (chars sought) rest ∙ ap (λ xs. xs ++ encode_utf8_all rest) (encodes-chars sought sought_valid)))

  -- it begins where a character does
  pub boundary-at : (at : ℕ) → OccursAt words sought at → NoneBefore (OccursAt words sought) 0 (length words + 1) at → IsCharBoundary words at
  boundary-at at here first = (
    omega (arith, first.high),
    λ inside high. elim (cases_eq (length sought) 0) [
      | inl none ↦ at_front (empty_at_front none) inside high
      | inr some ↦ first_byte (omega (arith, some)) high
    ],
  )
    where
      at_front : at ≡ 0 → at < length words → 128 ≤ get_or words at 0 → 192 ≤ get_or words at 0
      at_front e inside high = (subst (IsCharBoundary words) (sym e) (IsCharBoundary-start words words_valid)).1 inside high

      empty_at_front : length sought ≡ 0 → at ≡ 0
      empty_at_front none =
          elim (cases_eq at 0) [
            | inl e ↦ e
            | inr some ↦ absurd (first.before 0 (omega arith) (omega (arith, some)) (record { fits = omega (arith, none); reads = λ j below. absurd (omega (arith, below, none)) }))
          ]

      first_byte : 0 < length sought → 128 ≤ get_or words at 0 → 192 ≤ get_or words at 0
      first_byte some high =
          let e : at + 0 ≡ at = omega arith in
          let same : get_or words at 0 ≡ get_or sought 0 0 = ap (λ k. get_or words k 0) (sym e) ∙ here.reads 0 some in
          omega (arith, same, (IsCharBoundary-start sought sought_valid).1 some (omega (arith, same, high)))

  -- among bytes, so among characters
  module _ (at : ℕ) (here : OccursAt words sought at) (boundary : IsCharBoundary words at) where
    abbrev pub front : List ℕ
    front = chars (take at words)

    split : chars words ≡ front ++ (chars sought ++ chars (drop (length sought) (drop at words)))
    split =
        ap chars (sym (take-append-drop at words)) ∙ chars-append (take at words) (drop at words) (IsUtf8-take words at words_valid boundary)
        ∙ ap (λ xs. front ++ xs) (ap chars (stands words sought at here) ∙ chars-append sought (drop (length sought) (drop at words)) sought_valid)

    to-characters : stands_behind (chars sought) (chars words) (length front) ≡ true
    to-characters =
        (starts_is Decides-eqb (drop (length front) (chars words)) (chars sought) _ refl).1 (chars (drop (length sought) (drop at words)))
        (ap (drop (length front)) split ∙ drop-append_seam front (chars sought ++ chars (drop (length sought) (drop at words))))

    earlier : (k : ℕ) → k < length front → length (encode_utf8_all (take k (chars words))) < at
    earlier k below =
        let same : take k (chars words) ≡ take k front = ap (take k) split ∙ take-append-le k front _ (omega (arith, below)) in
        let bytes = ap length (sym (encodes-chars (take at words) (IsUtf8-take words at words_valid boundary)) ∙ ap encode_utf8_all (sym (take-append-drop k front)) ∙ encodes-append (take k front) (drop k front)) in
        omega (arith, ap (λ xs. length (encode_utf8_all xs)) same, bytes, length-append (encode_utf8_all (take k front)) (encode_utf8_all (drop k front)), length-le-encodes (drop k front), length-drop k front, below, length-take-le at words boundary.0)

    pub first-at : NoneBefore (OccursAt words sought) 0 (length words + 1) at → (count : ℕ) → count ≡ length front → IsFirst (chars sought) (chars words) count
    first-at first count is =
        let size = ap length split ∙ length-append front (chars sought ++ chars (drop (length sought) (drop at words))) in
        subst (IsFirst (chars sought) (chars words)) (sym is)
        (record {
          within = omega (arith, size);
          here = to-characters;
          before = λ k below.
              false_from_ne_true (stands_behind (chars sought) (chars words) k) (λ there. first.before (length (encode_utf8_all (take k (chars words)))) (omega arith) (earlier k below) (to-bytes k (omega (arith, size, below)) there));
        })

  pub nowhere : FindsNeedle words sought 0 None → (k : ℕ) → k ≤ length (chars words) → stands_behind (chars sought) (chars words) k ≡ false
  nowhere none k within =
      let cs = chars words in
      let bytes = ap length (sym (encodes-chars words words_valid) ∙ ap encode_utf8_all (sym (take-append-drop k cs)) ∙ encodes-append (take k cs) (drop k cs)) in
      false_from_ne_true (stands_behind (chars sought) cs k) (λ there. none (length (encode_utf8_all (take k cs))) (omega arith) (omega (arith, bytes, length-append (encode_utf8_all (take k cs)) (encode_utf8_all (drop k cs)))) (to-bytes k within there))

-- the place in the whole text, from that in what is left behind its start
module _ (sought characters rest : List ℕ) (start : ℕ) (some : 1 ≤ start) (left : rest ≡ drop (start - 1) characters) where
  at_place : (k : ℕ) → starts_with nat_eq (drop (start + k - 1) characters) sought ≡ stands_behind sought rest k
  at_place k =
      let e : start + k - 1 ≡ start - 1 + k = omega (arith, some) in
      ap (λ n. starts_with nat_eq (drop n characters) sought) e ∙ ap (λ xs. starts_with nat_eq xs sought) (sym (drop-drop k (start - 1) characters) ∙ ap (drop k) (sym left))

  pub place-found : (count : ℕ) → IsFirst sought rest count → start - 1 ≤ length characters → place_of sought characters start ≡ Some (start + count)
  place-found count is within =
      first-from (λ place. starts_with nat_eq (drop (place - 1) characters) sought) start (length characters + 1 + 1 - start) count
      (omega (arith, is.within, ap length left, length-drop (start - 1) characters, within, some))
      (at_place count ∙ is.here) (λ k below. at_place k ∙ is.before k below)

  pub place-missed : ((k : ℕ) → k ≤ length rest → stands_behind sought rest k ≡ false) → place_of sought characters start ≡ None
  place-missed none =
      none-from (λ place. starts_with nat_eq (drop (place - 1) characters) sought) start (length characters + 1 + 1 - start)
      (λ k below. at_place k ∙ none k (omega (arith, ap length left, length-drop (start - 1) characters, below, some)))

-- FIND takes two parameters or three
module _ (home : Place) (v : CellValues) where
  pub too-few : (args : List Arg) → length args < 2 → Bad BadValue ≡ find_ (meanings_of home v args)
  too-few [] h = refl
  too-few (x ∷ []) h = refl
  too-few (x ∷ y ∷ args) h = absurd (omega (arith, h))

  pub too-many : (args : List Arg) → 4 ≤ length args → Bad BadValue ≡ find_ (meanings_of home v args)
  too-many [] h = absurd (omega (arith, h))
  too-many (x ∷ []) h = absurd (omega (arith, h))
  too-many (x ∷ y ∷ []) h = absurd (omega (arith, h))
  too-many (x ∷ y ∷ z ∷ []) h = absurd (omega (arith, h))
  too-many (x ∷ y ∷ z ∷ w ∷ args) h = refl
