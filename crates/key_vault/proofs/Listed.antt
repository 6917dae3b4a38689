-- Ids in order, and their texts.
use Rattle.std.proofs.Common.{◌≡◌, ℕ, zero, suc, ◌+◌, ◌<◌, List, [], ◌∷◌, ◌++◌, length, get_or, take, Bool, true, false, refl, sym, ap, ◌∙◌, append_assoc, arith, codes}
use Rattle.std.specs.Prelude.{if◌then◌else◌, ◌==◌}
use Rattle.std.specs.List.{flat_map}
use Rattle.std.proofs.lemmas.Bool.Decides.{nat_tests}
use Rattle.std.proofs.lemmas.List.{append-nil, take_more, flat_map_more}
use Rattle.key_vault.specs.Texts.{quoted, further, listed}

-- one id more at the end
listed_further : (kid : List ℕ) (kids : List (List ℕ)) (more : List ℕ) → listed ((kid ∷ kids) ++ more ∷ []) ≡ listed (kid ∷ kids) ++ further more
listed_further kid kids more = sym (flat_map_more further (quoted kid) kids more)

abbrev with_comma : ℕ → List ℕ → List ℕ
with_comma i text = if i == 0 then text else text ++ codes ","

not_first : (i : ℕ) (text : List ℕ) → with_comma (suc i) text ≡ text ++ codes ","
not_first i text = let e : (suc i == 0) ≡ false = grind (arith, nat_tests) in rw e refl

listed_next : (kids : List (List ℕ)) (i : ℕ) (kid : List ℕ) → i < length kids → listed (take i kids ++ kid ∷ []) ≡ with_comma i (listed (take i kids)) ++ quoted kid
listed_next kids zero kid lt = append-nil (quoted kid)
listed_next [] (suc i) kid lt = absurd (omega arith)
listed_next (k ∷ kids) (suc i) kid lt = listed_further k (take i kids) kid
    ∙ sym (append_assoc (listed (k ∷ take i kids)) (codes ",") (quoted kid))
    ∙ ap (λ (l : List ℕ). l ++ quoted kid) (sym (not_first i (listed (k ∷ take i kids))))

comma_behind : (i : ℕ) (start text : List ℕ) → with_comma i (start ++ text) ≡ start ++ with_comma i text
comma_behind zero start text = refl
comma_behind (suc i) start text = not_first i (start ++ text) ∙ append_assoc start text (codes ",") ∙ ap (λ (l : List ℕ). start ++ l) (sym (not_first i text))

pub listed_more : (kids : List (List ℕ)) (i : ℕ) (kid start before comma after : List ℕ) → i < length kids → kid ≡ get_or kids i kid → before ≡ start ++ listed (take i kids)
    → comma ≡ with_comma i before → after ≡ comma ++ quoted kid → after ≡ start ++ listed (take (i + 1) kids)
listed_more kids i kid start before comma after lt is e1 e2 e3 =
    let more : take (i + 1) kids ≡ take i kids ++ kid ∷ [] = take_more kids i kid lt ∙ ap (λ (k : List ℕ). take i kids ++ k ∷ []) (sym is) in
    e3
    ∙ ap (λ (l : List ℕ). l ++ quoted kid) (e2 ∙ ap (with_comma i) e1 ∙ comma_behind i start (listed (take i kids)))
    ∙ append_assoc start (with_comma i (listed (take i kids))) (quoted kid)
    ∙ ap (λ (l : List ℕ). start ++ l) (sym (listed_next kids i kid lt))
    ∙ ap (λ (ks : List (List ℕ)). start ++ listed ks) (sym more)
