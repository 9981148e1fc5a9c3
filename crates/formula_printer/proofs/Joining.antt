-- Parameters joined by a byte, one more at a time.
use Rattle.std.proofs.Common.{◌≡◌, ℕ, ◌+◌, ◌<◌, ◌==◌, if◌then◌else◌, List, [], ◌∷◌, ◌++◌, length, map, take, get_or, refl, sym, ap, ◌∙◌, arith, append_assoc}
use Rattle.std.specs.List.{join_with_byte}
use Rattle.std.proofs.lemmas.Bool.{cond-false, ne_eqb}
use Rattle.std.proofs.lemmas.List.{length-map, length-take-le, map-append, take_more}

-- what stands before a part: the byte, but before the first nothing
abbrev separator : ℕ → ℕ → List ℕ
separator byte at = if at == 0 then [] else byte ∷ []

separator-later : (byte at : ℕ) → 0 < at → separator byte at ≡ byte ∷ []
separator-later byte at later = cond-false (at == 0) [] (byte ∷ []) (ne_eqb at 0 (omega arith))

pub join_with_byte-push : (byte : ℕ) (parts : List (List ℕ)) (part : List ℕ) → join_with_byte byte (parts ++ part ∷ []) ≡ join_with_byte byte parts ++ (separator byte (length parts) ++ part)
join_with_byte-push byte [] part = refl
join_with_byte-push byte (first ∷ []) part = refl
join_with_byte-push byte (first ∷ next ∷ parts) part =
    ap (λ text. first ++ (byte ∷ text)) (join_with_byte-push byte (next ∷ parts) part)
    ∙ ap (λ text. first ++ (byte ∷ (join_with_byte byte (next ∷ parts) ++ (text ++ part)))) (separator-later byte (length (next ∷ parts)) (omega arith) ∙ sym (separator-later byte (length (first ∷ next ∷ parts)) (omega arith)))
    ∙ sym (append_assoc first (byte ∷ join_with_byte byte (next ∷ parts)) (separator byte (length (first ∷ next ∷ parts)) ++ part))

-- one more item of a list, printed behind those before it
pub joined_more : {X : Type 0} (print : X → List ℕ) (byte at : ℕ) (items : List X) (item : X) (old out new before : List ℕ) → at < length items → item ≡ get_or items at item → out ≡ old ++ join_with_byte byte (map print (take at items)) → before ≡ separator byte at → new ≡ out ++ (before ++ print item) → new ≡ old ++ join_with_byte byte (map print (take (at + 1) items))
joined_more print byte at items item old out new before inside is done between gained =
    let front = map print (take at items) in
    let many : length front ≡ at = length-map (take at items) print ∙ length-take-le at items (omega arith) in
    let more : take (at + 1) items ≡ take at items ++ item ∷ [] = take_more items at item inside ∙ ap (λ x. take at items ++ x ∷ []) (sym is) in
    let printed : map print (take (at + 1) items) ≡ front ++ print item ∷ [] = ap (map print) more ∙ map-append print (take at items) (item ∷ []) in
    gained
    ∙ ap (λ text. out ++ (text ++ print item)) between
    ∙ ap (λ text. text ++ (separator byte at ++ print item)) done
    ∙ append_assoc old (join_with_byte byte front) (separator byte at ++ print item)
    ∙ ap (λ n. old ++ (join_with_byte byte front ++ (separator byte n ++ print item))) (sym many)
    ∙ ap (λ text. old ++ text) (sym (join_with_byte-push byte front (print item)))
    ∙ ap (λ parts. old ++ join_with_byte byte parts) (sym printed)
