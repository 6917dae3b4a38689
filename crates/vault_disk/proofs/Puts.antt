-- Bytes that are put, one or many.
use Rattle.std.proofs.Common.{◌≡◌, ℕ, zero, suc, ◌+◌, ◌-◌, ◌<◌, ◌≤◌, List, [], ◌∷◌, ◌++◌, length, take, drop, set, get_or, refl, sym, ap, ◌∙◌, arith, append_assoc, length-append}
use Rattle.std.proofs.lemmas.List.{length-take-le, drop-drop, take_more}
use Rattle.vault_disk.specs.declared.step.Step.{Step}
use Rattle.vault_disk.specs.declared.step.Step.TheVariants.{Wrote}
use Rattle.vault_disk.specs.Content.{put_at, wrote}

pub put_at-inside : (xs : List ℕ) (place byte : ℕ) → place < length xs → put_at xs place byte ≡ set xs place byte
put_at-inside [] place byte lt = absurd (omega arith)
put_at-inside (x ∷ xs) zero byte lt = refl
put_at-inside (x ∷ xs) (suc place) byte lt = ap (λ (l : List ℕ). x ∷ l) (put_at-inside xs place byte (omega arith))

pub put_at-past : (xs : List ℕ) (place byte : ℕ) → length xs < place → put_at xs place byte ≡ xs
put_at-past [] zero byte lt = absurd (omega arith)
put_at-past [] (suc place) byte lt = refl
put_at-past (x ∷ xs) zero byte lt = absurd (omega arith)
put_at-past (x ∷ xs) (suc place) byte lt = ap (λ (l : List ℕ). x ∷ l) (put_at-past xs place byte (omega arith))

put_at-front : (back : List ℕ) (byte : ℕ) → put_at back zero byte ≡ byte ∷ drop 1 back
put_at-front [] byte = refl
put_at-front (x ∷ xs) byte = refl

pub put_at-append : (front back : List ℕ) (place byte : ℕ) → length front ≡ place → put_at (front ++ back) place byte ≡ front ++ byte ∷ drop 1 back
put_at-append [] back zero byte is = put_at-front back byte
put_at-append [] back (suc place) byte is = absurd (omega arith)
put_at-append (x ∷ front) back zero byte is = absurd (omega arith)
put_at-append (x ∷ front) back (suc place) byte is = ap (λ (l : List ℕ). x ∷ l) (put_at-append front back place byte (omega arith))

pub put_at-end : (xs : List ℕ) (place byte : ℕ) → length xs ≡ place → put_at xs place byte ≡ xs ++ byte ∷ []
put_at-end [] zero byte is = refl
put_at-end [] (suc place) byte is = absurd (omega arith)
put_at-end (x ∷ xs) zero byte is = absurd (omega arith)
put_at-end (x ∷ xs) (suc place) byte is = ap (λ (l : List ℕ). x ∷ l) (put_at-end xs place byte (omega arith))

-- one byte more of a write
pub puts_more : (old bytes : List ℕ) (place i byte : ℕ) → place ≤ length old → i < length bytes → byte ≡ get_or bytes i byte
    → put_at (take place old ++ take i bytes ++ drop (place + i) old) (place + i) byte ≡ take place old ++ take (i + 1) bytes ++ drop (place + (i + 1)) old
puts_more old bytes place i byte inside lt is =
    let front = take place old ++ take i bytes in
    let long : length front ≡ place + i = omega (arith, length-append (take place old) (take i bytes), length-take-le place old inside, length-take-le i bytes (omega arith)) in
    let put : put_at (front ++ drop (place + i) old) (place + i) byte ≡ front ++ byte ∷ drop 1 (drop (place + i) old) = put_at-append front (drop (place + i) old) (place + i) byte long in
    let e : place + i + 1 ≡ place + (i + 1) = omega arith in
    let behind : drop 1 (drop (place + i) old) ≡ drop (place + (i + 1)) old = drop-drop 1 (place + i) old ∙ ap (λ (n : ℕ). drop n old) e in
    let more : take (i + 1) bytes ≡ take i bytes ++ byte ∷ [] = take_more bytes i byte lt ∙ ap (λ (b : ℕ). take i bytes ++ b ∷ []) (sym is) in
    put
    ∙ ap (λ (l : List ℕ). front ++ byte ∷ l) behind
    ∙ sym (append_assoc front (byte ∷ []) (drop (place + (i + 1)) old))
    ∙ ap (λ (l : List ℕ). l ++ drop (place + (i + 1)) old) (append_assoc (take place old) (take i bytes) (byte ∷ []))
    ∙ ap (λ (l : List ℕ). take place old ++ l ++ drop (place + (i + 1)) old) (sym more)

wrote-append : (place : ℕ) (xs ys : List ℕ) → wrote place (xs ++ ys) ≡ wrote place xs ++ wrote (place + length xs) ys
wrote-append place [] ys = let e : place + 0 ≡ place = omega arith in rw e refl
wrote-append place (x ∷ xs) ys =
    let e : place + 1 + length xs ≡ place + suc (length xs) = omega arith in
    ap (λ (l : List Step). Wrote place x ∷ l) (wrote-append (place + 1) xs ys ∙ ap (λ (n : ℕ). wrote (place + 1) xs ++ wrote n ys) e)

-- and its step
pub wrote_more : (steps : List Step) (bytes : List ℕ) (place i byte : ℕ) → i < length bytes → byte ≡ get_or bytes i byte
    → (steps ++ wrote place (take i bytes)) ++ Wrote (place + i) byte ∷ [] ≡ steps ++ wrote place (take (i + 1) bytes)
wrote_more steps bytes place i byte lt is =
    let more : take (i + 1) bytes ≡ take i bytes ++ byte ∷ [] = take_more bytes i byte lt ∙ ap (λ (b : ℕ). take i bytes ++ b ∷ []) (sym is) in
    let e : place + length (take i bytes) ≡ place + i = omega (arith, length-take-le i bytes (omega arith)) in
    append_assoc steps (wrote place (take i bytes)) (Wrote (place + i) byte ∷ [])
    ∙ ap (λ (n : ℕ). steps ++ (wrote place (take i bytes) ++ Wrote n byte ∷ [])) (sym e)
    ∙ ap (λ (l : List Step). steps ++ l) (sym (wrote-append place (take i bytes) (byte ∷ [])))
    ∙ ap (λ (l : List ℕ). steps ++ wrote place l) (sym more)
