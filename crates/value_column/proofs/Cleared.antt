-- Rows of a lane that are made plain.
use Rattle.std.proofs.Common.{◌≡◌, ℕ, ◌+◌, ◌-◌, ◌<◌, ◌≤◌, ◌&&◌, nat_lt, nat_le, List, ◌++◌, take, drop, length, replicate, get_or, cond, min, sym, ap, ◌∙◌, inl, inr, ◌⊎◌, arith}
use Rattle.std.proofs.lemmas.Bool.{cond-true, cond-false, lt-ltb, le-leb, lt-leb, le-ltb, cases_lt, and_from, and_left, and_right}
use Rattle.std.proofs.lemmas.List.{get_or_append_left, get_or-append_right, get_or-take, get_or-drop, get_or-replicate, get_or_past, length-take-le, length-replicate}

pub plain-rows : {T : Type 0} (xs : List T) (d : T) (a b e r : ℕ) → e ≡ min b (length xs) → a < e → get_or (take a xs ++ (replicate (e - a) d ++ drop e xs)) r d ≡ cond (nat_le a r && nat_lt r b) d (get_or xs r d)
plain-rows {T} xs d a b e r end order = at (cases_lt r a) (cases_lt r e) (cases_lt r b)
  where
    front : length (take a xs) ≡ a
    front = length-take-le a xs (omega arith)

    at : (r < a) ⊎ (a ≤ r) → (r < e) ⊎ (e ≤ r) → (r < b) ⊎ (b ≤ r) → get_or (take a xs ++ (replicate (e - a) d ++ drop e xs)) r d ≡ cond (nat_le a r && nat_lt r b) d (get_or xs r d)
    at (inl h) k l =
        get_or_append_left (take a xs) (replicate (e - a) d ++ drop e xs) d r (omega (arith, front)) ∙ get_or-take a xs r d h
        ∙ sym (cond-false (nat_le a r && nat_lt r b) d (get_or xs r d) (and_left (nat_le a r) (nat_lt r b) (lt-leb a r h)))
    at (inr h) (inl k) l =
        get_or-append_right (take a xs) (replicate (e - a) d ++ drop e xs) a r d front h
        ∙ get_or_append_left (replicate (e - a) d) (drop e xs) d (r - a) (omega (arith, length-replicate {A = T} (e - a) d)) ∙ get_or-replicate (e - a) (r - a) d d (omega arith)
        ∙ sym (cond-true (nat_le a r && nat_lt r b) d (get_or xs r d) (and_from _ _ (le-leb a r h) (lt-ltb r b (omega arith))))
    at (inr h) (inr k) l =
        get_or-append_right (take a xs) (replicate (e - a) d ++ drop e xs) a r d front h
        ∙ get_or-append_right (replicate (e - a) d) (drop e xs) (e - a) (r - a) d (length-replicate (e - a) d) (omega arith)
        ∙ get_or-drop e xs (r - a - (e - a)) d ∙ ap (λ i. get_or xs i d) place ∙ behind l
      where
        place : e + (r - a - (e - a)) ≡ r
        place = omega arith

        behind : (r < b) ⊎ (b ≤ r) → get_or xs r d ≡ cond (nat_le a r && nat_lt r b) d (get_or xs r d)
        behind (inl m) = get_or_past xs r d (omega arith) ∙ sym (cond-true (nat_le a r && nat_lt r b) d (get_or xs r d) (and_from _ _ (le-leb a r h) (lt-ltb r b m)))
        behind (inr m) = sym (cond-false (nat_le a r && nat_lt r b) d (get_or xs r d) (and_right (nat_le a r) (nat_lt r b) (le-ltb r b m)))
