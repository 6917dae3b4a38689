-- A box lies where it says.
use Rattle.std.proofs.Common.{◌≡◌, ℕ, zero, suc, ◌+◌, ◌-◌, ◌≤◌, Bool, true, false, cond, List, length, take, drop, Option, Some, None, Result, Ok, Err, refl, sym, subst, ◌∙◌, arith}
use Rattle.std.specs.Prelude.{IfOk, IfSome}
use Rattle.std.specs.Option.{option_map}
use Rattle.std.specs.Result.{result_map_both}
use Rattle.std.specs.List.{All}
use Rattle.std.proofs.lemmas.Bool.{ltb-false}
use Rattle.std.proofs.lemmas.List.{length-drop, length-take-le, drop-take, drop-drop, take-take, take_all}
use Rattle.std.proofs.lemmas.List.Elements.{All-nil, All-cons}
use Rattle.iso_boxes.specs.declared.walk.BoxRef.{BoxRef}
use Rattle.iso_boxes.specs.declared.walk.BoxFault.{BoxFault}
use Rattle.iso_boxes.specs.Walk.{Found, Left, Walked, StandsIn, LiesIn, lengths, cut, first_box, boxes_given, next_box, left_behind, after_next, continued, walk_of, boxes_left, walk, found}
use Rattle.iso_boxes.proofs.Walking.{not_err, lengths_min}

part_of : (bytes : List ℕ) (from to : ℕ) → from ≤ to → drop from (take to bytes) ≡ take (to - from) (drop from bytes)
part_of bytes from to le =
    let e : from + (to - from) ≡ to = omega arith in
    subst (λ (t : ℕ). drop from (take t bytes) ≡ take (to - from) (drop from bytes)) e (drop-take from (to - from) bytes)

-- what stands between two places of the bytes
cut_out : (bytes : List ℕ) (place from to : ℕ) → from ≤ to → to ≤ length bytes → StandsIn bytes place (drop from (take to bytes)) (place + from)
cut_out bytes place from to le high =
    let size : length (drop from (take to bytes)) ≡ to - from = omega (arith, length-drop from (take to bytes), length-take-le to bytes high) in
    let behind : place + from - place ≡ from = omega arith in
    record { from = omega arith; to = omega arith; same = rw (size, behind) (part_of bytes from to le) }

-- what stands behind a place of the bytes
behind : (bytes : List ℕ) (place from : ℕ) → from ≤ length bytes → StandsIn bytes place (drop from bytes) (place + (length bytes - length (drop from bytes)))
behind bytes place from high =
    let size : length bytes - length (drop from bytes) ≡ from = omega (arith, length-drop from bytes) in
    let back : place + from - place ≡ from = omega arith in
    let long = length-drop from bytes in
    rw size (record { from = omega arith; to = omega arith; same = rw back (sym (take_all (length (drop from bytes)) (drop from bytes) (omega arith))) })

pub stands_whole : (bytes : List ℕ) (base : ℕ) → StandsIn bytes base bytes base
stands_whole bytes base =
    let none : base - base ≡ 0 = omega arith in
    record { from = omega arith; to = omega arith; same = rw none (sym (take_all (length bytes) bytes (omega arith))) }

-- a part of a part
same_part : (outer mid part : List ℕ) (m n d e : ℕ) → n + e ≤ m → mid ≡ take m (drop d outer) → part ≡ take n (drop e mid) → part ≡ take n (drop (d + e) outer)
same_part outer mid part m n d e fits p q =
    let inner : drop e mid ≡ take (m - e) (drop e (drop d outer)) = rw p (part_of (drop d outer) e m (omega arith)) in
    let low : n ≤ m - e = omega arith in
    q ∙ rw (inner, take-take n (m - e) (drop e (drop d outer)) low, drop-drop e d outer) refl

pub stands_nested : (outer : List ℕ) (base : ℕ) (mid : List ℕ) (at : ℕ) (part : List ℕ) (place : ℕ) → StandsIn outer base mid at → StandsIn mid at part place → StandsIn outer base part place
stands_nested outer base mid at part place s t =
    let p : at - base + (place - at) ≡ place - base = omega (arith, s.from, t.from) in
    let fits : length part + (place - at) ≤ length mid = omega (arith, t.from, t.to) in
    record {
      from = omega (arith, s.from, t.from);
      to = omega (arith, s.to, t.to);
      same = rw p at (same_part outer mid part (length mid) (length part) (at - base) (place - at) fits s.same t.same);
    }

pub lies_nested : (bytes : List ℕ) (base : ℕ) (part : List ℕ) (place : ℕ) (b : Found) → StandsIn bytes base part place → LiesIn part place b → LiesIn bytes base b
lies_nested bytes base part place b s l = record { from = omega (arith, s.from, l.from); header = l.header; body = stands_nested bytes base part place b.body b.body_place s l.body }

-- the first box and what is behind it
abbrev Laid : List ℕ → ℕ → Found × List ℕ → Type 0
Laid bytes place x = LiesIn bytes place x.0 × StandsIn bytes place x.1 (place + (length bytes - length x.1))

cut_laid : (bytes : List ℕ) (place : ℕ) (o : Option (ℕ × ℕ)) → IfSome o (λ l. 8 ≤ l.0) → (x : Found × List ℕ) → cut bytes place o ≡ Ok x → Laid bytes place x
cut_laid bytes place None min x h = absurd cc
cut_laid bytes place (Some l) min x h =
    let p = not_err _ _ _ _ h in
    let q = not_err _ _ _ _ p.1 in
    let low : l.0 ≤ l.1 = ltb-false _ _ p.0 in
    let high : l.1 ≤ length bytes = ltb-false _ _ q.0 in
    let e : (record { kind = take 4 (drop 4 bytes); place = place; body = drop l.0 (take l.1 bytes); body_place = place + l.0 }, drop l.1 bytes) ≡ x = cc in
    subst (Laid bytes place) e (
      record { from = omega arith; header = omega arith; body = cut_out bytes place l.0 l.1 low high },
      behind bytes place l.1 high,
    )

next_at : (c : Bool) (w : Left) (r : Result (Found × List ℕ) BoxFault) → ((x : Found × List ℕ) → r ≡ Ok x → Laid w.bytes w.place x) → (b : Found) → cond c (Ok None) (boxes_given r) ≡ Ok (Some b)
    → LiesIn w.bytes w.place b × StandsIn w.bytes w.place (cond c w (left_behind w r)).bytes (cond c w (left_behind w r)).place
next_at true w r laid b h = absurd cc
next_at false w (Ok x) laid b h =
    let e : x.0 ≡ b = cc in
    let l = laid x refl in
    (subst (LiesIn w.bytes w.place) e l.0, l.1)
next_at false w (Err f) laid b h = absurd cc

next_laid : (w : Left) (b : Found) → next_box w ≡ Ok (Some b) → LiesIn w.bytes w.place b × StandsIn w.bytes w.place (after_next w).bytes (after_next w).place
unfolding next_box after_next first_box
next_laid w b h = next_at _ w (first_box w.bytes w.place w.top) (cut_laid w.bytes w.place (lengths w.bytes w.top) (lengths_min w.bytes w.top)) b h

continued_lies : (P : Found → Type 0) (r : Result (Option Found) BoxFault) (rest : Walked) → ((b : Found) → r ≡ Ok (Some b) → P b × All P rest.boxes) → All P (continued r rest).boxes
continued_lies P (Ok None) rest h = All-nil P
continued_lies P (Ok (Some b)) rest h = let p = h b refl in All-cons P b rest.boxes p.0 p.1
continued_lies P (Err f) rest h = All-nil P

all_lie : (n : ℕ) (bytes : List ℕ) (base : ℕ) (w : Left) → StandsIn bytes base w.bytes w.place → All (LiesIn bytes base) (walk_of n w).boxes
unfolding walk_of
all_lie zero bytes base w s = All-nil (LiesIn bytes base)
all_lie (suc n) bytes base w s = continued_lies (LiesIn bytes base) (next_box w) (walk_of n (after_next w)) (λ b h.
    let l = next_laid w b h in
    (lies_nested bytes base w.bytes w.place b s l.0, all_lie n bytes base (after_next w) (stands_nested bytes base w.bytes w.place (after_next w).bytes (after_next w).place s l.1)))

pub boxes_lie : (bytes : List ℕ) (base : ℕ) (top : Bool) → All (LiesIn bytes base) (walk bytes base top).boxes
unfolding walk boxes_left
boxes_lie bytes base top = all_lie (length bytes) bytes base (record { bytes = bytes; place = base; top = top }) (stands_whole bytes base)

-- what a call of next_box gives
given_lies : (r : Result (Option BoxRef) BoxFault) (s : Result (Option Found) BoxFault) (P : Found → Type 0) → result_map_both (option_map found) (λ f. f) r ≡ s → ((b : Found) → s ≡ Ok (Some b) → P b) → IfOk r (λ o. IfSome o (λ b. P (found b)))
given_lies (Ok None) s P e h = tt
given_lies (Ok (Some b)) s P e h = h (found b) (sym e)
given_lies (Err f) s P e h = tt

pub next_lies : (r : Result (Option BoxRef) BoxFault) (w : Left) → result_map_both (option_map found) (λ f. f) r ≡ next_box w → IfOk r (λ o. IfSome o (λ b. LiesIn w.bytes w.place (found b)))
next_lies r w e = given_lies r (next_box w) (LiesIn w.bytes w.place) e (λ b h. (next_laid w b h).0)

-- no more boxes than bytes
continued_few : (r : Result (Option Found) BoxFault) (rest : Walked) (n : ℕ) → length rest.boxes ≤ n → length (continued r rest).boxes ≤ suc n
continued_few (Ok None) rest n h = omega arith
continued_few (Ok (Some b)) rest n h = omega arith
continued_few (Err f) rest n h = omega arith

few : (n : ℕ) (w : Left) → length (walk_of n w).boxes ≤ n
unfolding walk_of
few zero w = omega arith
few (suc n) w = continued_few (next_box w) (walk_of n (after_next w)) n (few n (after_next w))

pub few_boxes : (bytes : List ℕ) (base : ℕ) (top : Bool) → length (walk bytes base top).boxes ≤ length bytes
unfolding walk boxes_left
few_boxes bytes base top = few (length bytes) (record { bytes = bytes; place = base; top = top })
