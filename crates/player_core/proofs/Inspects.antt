-- The lines of fragments, one fragment more.
use Rattle.std.proofs.Common.{suc, ◌≡◌, ℕ, ◌+◌, ◌<◌, ◌≤◌, List, [], ◌∷◌, ◌++◌, length, take, get_or, ap, ◌∙◌, sym, append_assoc, append-nil, arith}
use Rattle.std.proofs.lemmas.List.{take_more, length-take-le}
use Rattle.eme_types.specs.declared.media.Fragment.{Fragment}
use Rattle.player_core.specs.Inspect.{fragment_lines, lines_from}

lines_push : (n : ℕ) (xs : List Fragment) (x : Fragment) → lines_from n (xs ++ x ∷ []) ≡ lines_from n xs ++ fragment_lines (n + length xs) x
lines_push n [] x = append-nil (fragment_lines n x) ∙ ap (λ k. fragment_lines k x) (let e : n ≡ n + 0 = omega arith in e)
lines_push n (y ∷ xs) x =
    let k : n + 1 + length xs ≡ n + suc (length xs) = omega arith in
    ap (λ (t : List ℕ). fragment_lines n y ++ t) (lines_push (n + 1) xs x ∙ ap (λ m. lines_from (n + 1) xs ++ fragment_lines m x) k) ∙ sym (append_assoc (fragment_lines n y) (lines_from (n + 1) xs) (fragment_lines (n + suc (length xs)) x))

lines_more : (xs : List Fragment) (i : ℕ) (x : Fragment) → i < length xs → x ≡ get_or xs i x → lines_from 1 (take (i + 1) xs) ≡ lines_from 1 (take i xs) ++ fragment_lines (i + 1) x
lines_more xs i x lt is =
    let many : length (take i xs) ≡ i = length-take-le i xs (let le : i ≤ length xs = omega (arith, lt) in le) in
    let k : 1 + length (take i xs) ≡ i + 1 = omega (arith, many) in
    ap (lines_from 1) (take_more xs i x lt ∙ ap (λ y. take i xs ++ y ∷ []) (sym is)) ∙ (lines_push 1 (take i xs) x ∙ ap (λ m. lines_from 1 (take i xs) ++ fragment_lines m x) k)

-- the lines of one fragment more
pub put_fragment_lines : (old now next : List ℕ) (xs : List Fragment) (i : ℕ) (x : Fragment) → i < length xs → x ≡ get_or xs i x → now ≡ old ++ lines_from 1 (take i xs) → next ≡ now ++ fragment_lines (i + 1) x → next ≡ old ++ lines_from 1 (take (i + 1) xs)
put_fragment_lines old now next xs i x lt is e more =
    more ∙ (ap (λ (t : List ℕ). t ++ fragment_lines (i + 1) x) e ∙ (append_assoc old (lines_from 1 (take i xs)) (fragment_lines (i + 1) x) ∙ ap (λ (t : List ℕ). old ++ t) (sym (lines_more xs i x lt is))))
