-- What samples give up to the first stop: as many as there are when a track is at rest, and one more at each publication.
use Rattle.std.proofs.Common.{zero, suc, ◌≡◌, ℕ, ◌+◌, ◌-◌, ◌≤◌, List, [], ◌∷◌, ◌++◌, length, drop, Option, Some, None, refl, ap, sym, ◌∙◌, arith, append-nil, append_assoc, length-append}
use Rattle.std.specs.Prelude.{slice_get}
use Rattle.eme_types.specs.declared.sample.EncSample.{EncSample}
use Rattle.cdm_world.specs.Tracks.{Picks}
use Rattle.cdm_world.proofs.ItemsAt.{get_here}
use Rattle.cdm_state.proofs.Plain.{some_alone}
use Rattle.output_order.specs.Complete.{IsFront}
use Rattle.serial_play.specs.Serial.{passed, up_to, gives}

-- ---- what samples give

-- a sample that passes, where all before it do
pub gives_more : (p : Picks) (xs : List EncSample) (i : ℕ) (x : EncSample) (b : List ℕ) → i ≤ length (gives p xs) → slice_get xs i ≡ Some x → passed p x ≡ Some b → slice_get (gives p xs) i ≡ Some b
gives_more p [] i x b le at passes = absurd cc
gives_more p (y ∷ xs) zero x b le at passes =
    let first : passed p y ≡ Some b = ap (passed p) (some_alone y x at) ∙ passes in
    ap (λ (o : Option (List ℕ)). slice_get (up_to o (gives p xs)) zero) first
gives_more p (y ∷ xs) (suc i) x b le at passes = go (passed p y) le (λ less. gives_more p xs i x b less at passes) where
  go : (o : Option (List ℕ)) → suc i ≤ length (up_to o (gives p xs)) → (i ≤ length (gives p xs) → slice_get (gives p xs) i ≡ Some b) → slice_get (up_to o (gives p xs)) (suc i) ≡ Some b
  go None le rest = absurd (omega (arith, le))
  go (Some c) le rest = rest (omega (arith, le))

-- nothing comes behind a sample that does not pass
pub gives_stops : (p : Picks) (xs : List EncSample) (i : ℕ) (x : EncSample) → slice_get xs i ≡ Some x → passed p x ≡ None → length (gives p xs) ≤ i
gives_stops p [] i x at stops = absurd cc
gives_stops p (y ∷ xs) zero x at stops =
    let first : passed p y ≡ None = ap (passed p) (some_alone y x at) ∙ stops in
    let none : length (up_to (passed p y) (gives p xs)) ≡ 0 = ap (λ (o : Option (List ℕ)). length (up_to o (gives p xs))) first in
    omega (arith, none)
gives_stops p (y ∷ xs) (suc i) x at stops = go (passed p y) (gives_stops p xs i x at stops) where
  go : (o : Option (List ℕ)) → length (gives p xs) ≤ i → length (up_to o (gives p xs)) ≤ suc i
  go None le = omega arith
  go (Some c) le = omega (arith, le)

-- nor behind the last sample
pub gives_within : (p : Picks) (xs : List EncSample) (i : ℕ) → slice_get xs i ≡ None → length (gives p xs) ≤ i
gives_within p [] i at = omega arith
gives_within p (y ∷ xs) zero at = absurd cc
gives_within p (y ∷ xs) (suc i) at = go (passed p y) (gives_within p xs i at) where
  go : (o : Option (List ℕ)) → length (gives p xs) ≤ i → length (up_to o (gives p xs)) ≤ suc i
  go None le = omega arith
  go (Some c) le = omega (arith, le)

-- ---- what is out, and what the samples behind it give

-- what stands behind the first items
get_dropped : {A : Type 0} (xs : List A) (f i : ℕ) → f ≤ i → slice_get (drop f xs) (i - f) ≡ slice_get xs i
get_dropped xs zero i le = ap (slice_get xs) (let same : i - 0 ≡ i = omega arith in same)
get_dropped xs (suc f) zero le = absurd (omega (arith, le))
get_dropped [] (suc f) (suc i) le = refl
get_dropped (x ∷ xs) (suc f) (suc i) le = ap (slice_get (drop f xs)) (let same : suc i - suc f ≡ i - f = omega arith in same) ∙ get_dropped xs f i (omega (arith, le))

get_behind : {A : Type 0} (xs ys : List A) (i : ℕ) → length xs ≤ i → slice_get (xs ++ ys) i ≡ slice_get ys (i - length xs)
get_behind [] ys i le = ap (slice_get ys) (let same : i ≡ i - 0 = omega arith in same)
get_behind (x ∷ xs) ys zero le = absurd (omega (arith, le))
get_behind (x ∷ xs) ys (suc i) le = get_behind xs ys i (omega (arith, le)) ∙ ap (slice_get ys) (let same : i - length xs ≡ suc i - suc (length xs) = omega arith in same)

-- these outputs, and behind them what the samples from there on give
abbrev pub and_gives : Picks → List (List ℕ) → List EncSample → List (List ℕ)
and_gives p was xs = was ++ gives p (drop (length was) xs)

-- these bytes stand at the index
abbrev pub HasAt : List (List ℕ) → ℕ → List ℕ → Type 0
HasAt outputs i bytes = slice_get outputs i ≡ Some bytes

-- a sample that passes, where all from the first outputs to it do
pub moved_more : (p : Picks) (os : List (List ℕ)) (xs : List EncSample) (i : ℕ) (x : EncSample) (b : List ℕ) → length os ≤ i → i ≤ length (and_gives p os xs) → slice_get xs i ≡ Some x → passed p x ≡ Some b → HasAt (and_gives p os xs) i b
moved_more p was xs i x b from le at passes =
    let long : length (and_gives p was xs) ≡ length was + length (gives p (drop (length was) xs)) = length-append was (gives p (drop (length was) xs)) in
    let within : i - length was ≤ length (gives p (drop (length was) xs)) = omega (arith, long, le, from) in
    get_behind was (gives p (drop (length was) xs)) i from ∙ gives_more p (drop (length was) xs) (i - length was) x b within (get_dropped xs (length was) i from ∙ at) passes

-- a sample that does not pass
pub moved_stops : (p : Picks) (was : List (List ℕ)) (xs : List EncSample) (i : ℕ) (x : EncSample) → length was ≤ i → slice_get xs i ≡ Some x → passed p x ≡ None → length (and_gives p was xs) ≤ i
moved_stops p was xs i x from at stops =
    let long : length (and_gives p was xs) ≡ length was + length (gives p (drop (length was) xs)) = length-append was (gives p (drop (length was) xs)) in
    let less : length (gives p (drop (length was) xs)) ≤ i - length was = gives_stops p (drop (length was) xs) (i - length was) x (get_dropped xs (length was) i from ∙ at) stops in
    omega (arith, long, less, from)

-- all samples are out
pub moved_within : (p : Picks) (was : List (List ℕ)) (xs : List EncSample) (i : ℕ) → length was ≤ i → slice_get xs i ≡ None → length (and_gives p was xs) ≤ i
moved_within p was xs i from at =
    let long : length (and_gives p was xs) ≡ length was + length (gives p (drop (length was) xs)) = length-append was (gives p (drop (length was) xs)) in
    let less : length (gives p (drop (length was) xs)) ≤ i - length was = gives_within p (drop (length was) xs) (i - length was) (get_dropped xs (length was) i from ∙ at) in
    omega (arith, long, less, from)

-- ---- fronts

pub front_here : {A : Type 0} (front rest : List A) → IsFront front (front ++ rest)
front_here front rest = record { rest = rest; is = refl }

pub front_length : {A : Type 0} (front whole : List A) → IsFront front whole → length front ≤ length whole
front_length front whole f =
    let long : length front + length f.rest ≡ length whole = sym (length-append front f.rest) ∙ ap length f.is in
    omega (arith, long)

-- a front and the item behind it
pub front_more : {A : Type 0} (front whole : List A) (x : A) → IsFront front whole → slice_get whole (length front) ≡ Some x → IsFront (front ++ x ∷ []) whole
front_more {A} front whole x f at = go f.rest f.is where
  go : (rest : List A) → front ++ rest ≡ whole → IsFront (front ++ x ∷ []) whole
  go [] is = absurd (let none : slice_get front (length front) ≡ Some x = ap (λ (ys : List A). slice_get ys (length front)) (sym (append-nil front) ∙ is) ∙ at in past front none) where
    past : (ys : List A) → slice_get ys (length ys) ≡ Some x → ⊥
    past [] e = cc
    past (y ∷ ys) e = past ys e
  go (y ∷ rest) is =
      let here : slice_get (front ++ y ∷ rest) (length front) ≡ Some y = get_here front y rest in
      let same : y ≡ x = some_alone y x (sym here ∙ (ap (λ (ys : List A). slice_get ys (length front)) is ∙ at)) in
      record { rest = rest; is = append_assoc front (x ∷ []) rest ∙ (ap (λ (z : A). front ++ z ∷ rest) (sym same) ∙ is) }

-- a front that is not shorter is all
pub front_all : {A : Type 0} (front whole : List A) → IsFront front whole → length whole ≤ length front → front ≡ whole
front_all {A} front whole f le = go f.rest f.is where
  go : (rest : List A) → front ++ rest ≡ whole → front ≡ whole
  go [] is = sym (append-nil front) ∙ is
  go (y ∷ rest) is = absurd (let long : length front + suc (length rest) ≡ length whole = sym (length-append front (y ∷ rest)) ∙ ap length is in omega (arith, long, le))
