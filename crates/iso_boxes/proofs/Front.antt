-- Where no rule is broken, all was read before the first broken rule: what a reader of a file's fragments one by one stands on.
use Rattle.std.proofs.Common.{◌≡◌, List, [], ◌∷◌, Result, Ok, Err, refl, ap, ◌∙◌}
use Rattle.iso_boxes.specs.Walk.{Found}
use Rattle.iso_boxes.specs.Children.{◌>>=◌, each_knowing, onward, read_before}

tail : {E A : Type 0} (x : A) (rest : Result (List A) E) (before xs : List A) → ((ys : List A) → rest ≡ Ok ys → before ≡ ys) → (rest >>= λ ys. Ok (x ∷ ys)) ≡ Ok xs → x ∷ before ≡ xs
tail x (Err e) before xs h eq = absurd cc
tail {A = A} x (Ok ys) before xs h eq =
    let f : List A → List A = λ zs. x ∷ zs in
    let g : x ∷ ys ≡ xs = cc in
    ap f (h ys refl) ∙ g

step : {E A : Type 0} (one : Result A E) (rest : A → Result (List A) E) (before : A → List A) (xs : List A) → ((x : A) (ys : List A) → rest x ≡ Ok ys → before x ≡ ys)
    → (one >>= λ x. (rest x >>= λ ys. Ok (x ∷ ys))) ≡ Ok xs → onward one before ≡ xs
step (Err e) rest before xs h eq = absurd cc
step (Ok x) rest before xs h eq = tail x (rest x) (before x) xs (h x) eq

pub all_before : {E A K : Type 0} (read : K → Found → Result A E) (learn : K → A → K) (known : K) (bs : List Found) (xs : List A) → each_knowing read learn known bs ≡ Ok xs → read_before read learn known bs ≡ xs
unfolding each_knowing read_before
all_before read learn known [] xs eq = cc
all_before read learn known (b ∷ bs) xs eq = step (read known b) (λ x. each_knowing read learn (learn known x) bs) (λ x. read_before read learn (learn known x) bs) xs (λ x ys e. all_before read learn (learn known x) bs ys e) eq
