-- The parts of a request put together.
use Rattle.std.proofs.Common.{◌≡◌, ℕ, ◌<◌, ◌≤◌, List, [], ◌∷◌, ◌++◌, length, get_or, take, drop, sym, subst, ap, ◌∙◌, append_assoc, arith, codes}
use Rattle.std.specs.List.{flat_map}
use Rattle.std.proofs.lemmas.List.{take_all}
use Rattle.clearkey_json.specs.Base64url.{base64url}
use Rattle.clearkey_json.specs.Request.{further, request_text}

first_of : (kids : List (List ℕ)) (k : List ℕ) → 0 < length kids → k ≡ get_or kids 0 k → kids ≡ k ∷ drop 1 kids
first_of [] k some is = absurd (omega arith)
first_of (j ∷ kids) k some is = ap (λ x. x ∷ kids) (sym is)

regrouped : (h e m t : List ℕ) → ((h ++ e) ++ m) ++ t ≡ (h ++ (e ++ m)) ++ t
regrouped h e m t = ap (λ x. x ++ t) (append_assoc h e m)

put_together : (h e m t text first all : List ℕ) → first ≡ h ++ e → text ≡ first ++ m → all ≡ text ++ t → all ≡ (h ++ (e ++ m)) ++ t
put_together h e m t text first all e1 e2 e3 = rw (e3, e2, e1) (regrouped h e m t)

pub request_is : (kids : List (List ℕ)) (k : List ℕ) (items : List (List ℕ)) (n : ℕ) (text first all : List ℕ) → 0 < length kids → k ≡ get_or kids 0 k → items ≡ drop 1 kids
    → length items ≤ n → first ≡ codes "{\"kids\":[\"" ++ base64url k
    → text ≡ first ++ flat_map further (take n items) → all ≡ text ++ codes "\"],\"type\":\"temporary\"}" → all ≡ request_text kids
unfolding request_text
request_is kids k items n text first all some is rest past e1 e2 e3 =
    let shorter : flat_map further (take n items) ≡ flat_map further (drop 1 kids) = ap (flat_map further) (take_all n items past ∙ rest) in
    let whole = put_together (codes "{\"kids\":[\"") (base64url k) (flat_map further (drop 1 kids)) (codes "\"],\"type\":\"temporary\"}") text first all e1 (e2 ∙ ap (λ x. first ++ x) shorter) e3 in
    subst (λ (ks : List (List ℕ)). all ≡ request_text ks) (sym (first_of kids k some is)) whole
