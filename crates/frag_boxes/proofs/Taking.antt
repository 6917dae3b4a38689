-- A walk takes its boxes of the bytes, so what is read of them has no more parts than there are bytes.
use Rattle.std.proofs.Common.{◌≡◌, ℕ, zero, suc, ◌+◌, ◌-◌, ◌≤◌, Bool, true, false, cond, List, [], ◌∷◌, length, take, drop, Option, Some, None, Result, Ok, Err, refl, subst, arith}
use Rattle.std.specs.Prelude.{IfSome}
use Rattle.std.proofs.lemmas.Bool.{ltb-false}
use Rattle.std.proofs.lemmas.List.{length-drop, length-take-le}
use Rattle.iso_boxes.specs.declared.walk.BoxFault.{BoxFault}
use Rattle.iso_boxes.specs.Walk.{Found, Left, Walked, lengths, cut, first_box, boxes_given, next_box, left_behind, after_next, continued, walk_of, boxes_left, walk}
use Rattle.iso_boxes.specs.Children.{◌>>=◌, each_knowing, ended, all_knowing}
use Rattle.iso_boxes.proofs.Walking.{not_err, lengths_min}
use Rattle.frag_boxes.specs.Counts.{count_of}

-- what a first step gave, and what became of it
pub then_ok : {E A B : Type 0} (r : Result A E) (f : A → Result B E) (y : B) → (r >>= f) ≡ Ok y → (x : A) × (r ≡ Ok x) × (f x ≡ Ok y)
then_ok (Ok x) f y h = (x, refl, h)
then_ok (Err e) f y h = absurd cc

-- where the answer is the other one
pub not_else : {A E : Type 0} (c : Bool) (r : Result A E) (e : E) (y : A) → cond c r (Err e) ≡ Ok y → r ≡ Ok y
not_else true r e y h = h
not_else false r e y h = absurd cc

-- ---- the boxes of a walk

abbrev pub total : {A : Type 0} → (A → ℕ) → List A → ℕ
total size [] = 0
total size (x ∷ xs) = size x + total size xs

pub counted_total : {A : Type 0} (inner : A → ℕ) (xs : List A) → count_of inner xs ≡ total (λ x. 1 + inner x) xs
counted_total inner [] = refl
counted_total inner (x ∷ xs) = omega (arith, counted_total inner xs)

abbrev pub body_len : Found → ℕ
body_len b = length b.body

-- the header and the body
abbrev pub whole : Found → ℕ
whole b = (b.body_place - b.place) + length b.body

abbrev Took : List ℕ → Found × List ℕ → Type 0
Took bytes x = (8 ≤ x.0.body_place - x.0.place) × (whole x.0 + length x.1 ≤ length bytes)

cut_took : (bytes : List ℕ) (place : ℕ) (o : Option (ℕ × ℕ)) → IfSome o (λ l. 8 ≤ l.0) → (x : Found × List ℕ) → cut bytes place o ≡ Ok x → Took bytes x
cut_took bytes place None min x h = absurd cc
cut_took bytes place (Some l) min x h =
    let p = not_err _ _ _ _ h in
    let q = not_err _ _ _ _ p.1 in
    let low : l.0 ≤ l.1 = ltb-false _ _ p.0 in
    let high : l.1 ≤ length bytes = ltb-false _ _ q.0 in
    let e : (record { kind = take 4 (drop 4 bytes); place = place; body = drop l.0 (take l.1 bytes); body_place = place + l.0 }, drop l.1 bytes) ≡ x = cc in
    let header : 8 ≤ place + l.0 - place = omega (arith, min) in
    let all : (place + l.0 - place) + length (drop l.0 (take l.1 bytes)) + length (drop l.1 bytes) ≤ length bytes = omega (arith, low, high, length-drop l.0 (take l.1 bytes), length-take-le l.1 bytes high, length-drop l.1 bytes) in
    subst (Took bytes) e (header, all)

next_at : (c : Bool) (w : Left) (r : Result (Found × List ℕ) BoxFault) → ((x : Found × List ℕ) → r ≡ Ok x → Took w.bytes x) → (b : Found) → cond c (Ok None) (boxes_given r) ≡ Ok (Some b)
    → Took w.bytes (b, (cond c w (left_behind w r)).bytes)
next_at true w r took b h = absurd cc
next_at false w (Ok x) took b h =
    let e : x.0 ≡ b = cc in
    subst (λ (b : Found). Took w.bytes (b, x.1)) e (took x refl)
next_at false w (Err f) took b h = absurd cc

next_took : (w : Left) (b : Found) → next_box w ≡ Ok (Some b) → Took w.bytes (b, (after_next w).bytes)
unfolding next_box after_next first_box
next_took w b h = next_at _ w (first_box w.bytes w.place w.top) (cut_took w.bytes w.place (lengths w.bytes w.top) (lengths_min w.bytes w.top)) b h

-- a size of a box that is no more than its header of 8 bytes at least and its body
abbrev Fits : (Found → ℕ) → Type 0
Fits size = (b : Found) → 8 ≤ b.body_place - b.place → size b ≤ whole b

continued_took : (size : Found → ℕ) (r : Result (Option Found) BoxFault) (rest : Walked) (n m : ℕ) → total size rest.boxes ≤ m → ((b : Found) → r ≡ Ok (Some b) → size b + m ≤ n) → total size (continued r rest).boxes ≤ n
continued_took size (Ok None) rest n m le h = omega arith
continued_took size (Ok (Some b)) rest n m le h = let t = h b refl in omega (arith, t, le)
continued_took size (Err f) rest n m le h = omega arith

took_all : (size : Found → ℕ) → Fits size → (n : ℕ) (w : Left) → total size (walk_of n w).boxes ≤ length w.bytes
unfolding walk_of
took_all size fits zero w = omega arith
took_all size fits (suc n) w = continued_took size (next_box w) (walk_of n (after_next w)) (length w.bytes) (length (after_next w).bytes) (took_all size fits n (after_next w)) (λ b h.
    let t = next_took w b h in
    let few = fits b t.0 in
    let all = t.1 in
    omega (arith, few, all))

all_took : (size : Found → ℕ) → Fits size → (bytes : List ℕ) (base : ℕ) (top : Bool) → total size (walk bytes base top).boxes ≤ length bytes
unfolding walk boxes_left
all_took size fits bytes base top = took_all size fits (length bytes) (record { bytes = bytes; place = base; top = top })

-- the boxes of a walk have together no more bytes than were walked
pub whole_took : (bytes : List ℕ) (base : ℕ) (top : Bool) → total whole (walk bytes base top).boxes ≤ length bytes
whole_took bytes base top = all_took whole (λ b header. omega arith) bytes base top

-- nor are they and the bytes of their bodies more
pub walk_took : (bytes : List ℕ) (base : ℕ) (top : Bool) → count_of body_len (walk bytes base top).boxes ≤ length bytes
walk_took bytes base top =
    let t = all_took (λ b. 1 + body_len b) (λ b header. omega (arith, header)) bytes base top in
    omega (arith, t, counted_total body_len (walk bytes base top).boxes)

-- ---- what is read of boxes

-- a reader of boxes whose parts are no more than some size of the box
abbrev pub Within : {E A K : Type 0} → (Found → ℕ) → (A → ℕ) → (K → Found → Result A E) → Type 0
Within {A = A} {K = K} most size read = (known : K) (b : Found) (x : A) → read known b ≡ Ok x → size x ≤ most b

each_within : {E A K : Type 0} (most : Found → ℕ) (size : A → ℕ) (read : K → Found → Result A E) (learn : K → A → K) → Within most size read → (known : K) (bs : List Found) (xs : List A) → each_knowing read learn known bs ≡ Ok xs → total size xs ≤ total most bs
unfolding each_knowing
each_within {A = A} most size read learn small known [] xs h =
    let e : [] ≡ xs = cc in
    subst (λ (ys : List A). total size ys ≤ 0) e (omega arith)
each_within {A = A} most size read learn small known (b ∷ bs) xs h =
    let p = then_ok (read known b) _ xs h in
    let q = then_ok (each_knowing read learn (learn known p.0) bs) _ xs p.2 in
    let one = small known b p.0 p.1 in
    let more = each_within most size read learn small (learn known p.0) bs q.0 q.1 in
    let e : p.0 ∷ q.0 ≡ xs = cc in
    subst (λ (ys : List A). total size ys ≤ most b + total most bs) e (omega (arith, one, more))

pub all_within : {E A K : Type 0} (most : Found → ℕ) (header : BoxFault → E) (size : A → ℕ) (read : K → Found → Result A E) (learn : K → A → K) → Within most size read → (known : K) (w : Walked) (xs : List A) → all_knowing header read learn known w ≡ Ok xs → total size xs ≤ total most w.boxes
unfolding all_knowing
all_within {A = A} most header size read learn small known w xs h =
    let p = then_ok (each_knowing read learn known w.boxes) _ xs h in
    let q = then_ok (ended header w.fault) _ xs p.2 in
    let e : p.0 ≡ xs = cc in
    subst (λ (ys : List A). total size ys ≤ total most w.boxes) e (each_within most size read learn small known w.boxes p.0 p.1)

-- a reader of boxes whose parts are no more than the box and its body
abbrev pub Small : {E A K : Type 0} → (A → ℕ) → (K → Found → Result A E) → Type 0
Small size read = Within (λ b. 1 + length b.body) size read

pub each_small : {E A K : Type 0} (size : A → ℕ) (read : K → Found → Result A E) (learn : K → A → K) → Small size read → (known : K) (bs : List Found) (xs : List A) → each_knowing read learn known bs ≡ Ok xs → total size xs ≤ count_of body_len bs
each_small size read learn small known bs xs h =
    let t = each_within (λ b. 1 + length b.body) size read learn small known bs xs h in
    omega (arith, t, counted_total body_len bs)

pub all_small : {E A K : Type 0} (header : BoxFault → E) (size : A → ℕ) (read : K → Found → Result A E) (learn : K → A → K) → Small size read → (known : K) (w : Walked) (xs : List A) → all_knowing header read learn known w ≡ Ok xs → total size xs ≤ count_of body_len w.boxes
all_small header size read learn small known w xs h =
    let t = all_within (λ b. 1 + length b.body) header size read learn small known w xs h in
    omega (arith, t, counted_total body_len w.boxes)

abbrev pub some_size : {A : Type 0} → Option A → ℕ
some_size None = 0
some_size (Some x) = 1
