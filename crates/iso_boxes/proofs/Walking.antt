-- A walk goes on with what a call of next_box leaves.
use Rattle.std.proofs.Common.{◌≡◌, ℕ, zero, suc, ◌<◌, ◌≤◌, Bool, true, false, cond, ltb, List, length, drop, Option, Some, None, Result, Ok, Err, refl, ap, arith}
use Rattle.std.specs.Prelude.{IfSome, ◌==◌, ◌&&◌}
use Rattle.std.specs.Option.{option_map}
use Rattle.std.specs.Result.{result_map_both}
use Rattle.std.proofs.lemmas.Bool.{ltb-false, eqb-true, eq-eqb}
use Rattle.std.proofs.lemmas.List.{length-drop}
use Rattle.iso_boxes.specs.declared.walk.BoxRef.{BoxRef}
use Rattle.iso_boxes.specs.declared.walk.BoxFault.{BoxFault}
use Rattle.iso_boxes.specs.Walk.{be32, be64, Found, Left, Walked, lengths, cut, first_box, boxes_given, next_box, left_behind, after_next, continued, walk_of, boxes_left, found, Steps, Rests}

pub not_err : {A E : Type 0} (b : Bool) (e : E) (r : Result A E) (y : A) → cond b (Err e) r ≡ Ok y → (b ≡ false) × (r ≡ Ok y)
not_err true e r y h = absurd cc
not_err false e r y h = (refl, h)

pub second_is : {A B E : Type 0} (r : Result (A × B) E) (x y : A × B) → r ≡ Ok x → r ≡ Ok y → x.1 ≡ y.1
second_is {A = A} {B = B} r x y p q = let e : x ≡ y = cc in ap (λ (z : A × B). z.1) e

min_at : (a b c d : Bool) (n m k : ℕ) → IfSome {T = ℕ × ℕ} (cond a None (cond b (cond c None (Some (16, n))) (cond d (Some (8, m)) (Some (8, k))))) (λ l. 8 ≤ l.0)
min_at true b c d n m k = tt
min_at false true true d n m k = tt
min_at false true false d n m k = omega arith
min_at false false c true n m k = omega arith
min_at false false c false n m k = omega arith

pub lengths_min : (bytes : List ℕ) (top : Bool) → IfSome (lengths bytes top) (λ l. 8 ≤ l.0)
unfolding lengths
lengths_min bytes top = min_at (ltb (length bytes) 8) (be32 bytes == 1) (ltb (length bytes) 16) (be32 bytes == 0 && top) (be64 (drop 8 bytes)) (length bytes) (be32 bytes)

cut_shorter : (bytes : List ℕ) (place : ℕ) (o : Option (ℕ × ℕ)) → IfSome o (λ l. 8 ≤ l.0) → (x : Found × List ℕ) → cut bytes place o ≡ Ok x → length x.1 < length bytes
cut_shorter bytes place None min x h = absurd cc
cut_shorter bytes place (Some l) min x h =
    let p = not_err _ _ _ _ h in
    let q = not_err _ _ _ _ p.1 in
    let e = second_is _ _ _ q.1 refl in
    let low : l.0 ≤ l.1 = ltb-false _ _ p.0 in
    let high : l.1 ≤ length bytes = ltb-false _ _ q.0 in
    rw e (omega (arith, length-drop l.1 bytes))

first_shorter : (bytes : List ℕ) (place : ℕ) (top : Bool) (x : Found × List ℕ) → first_box bytes place top ≡ Ok x → length x.1 < length bytes
unfolding first_box
first_shorter bytes place top x h = cut_shorter bytes place (lengths bytes top) (lengths_min bytes top) x h

shorter_at : (c : Bool) (w : Left) (r : Result (Found × List ℕ) BoxFault) → ((x : Found × List ℕ) → r ≡ Ok x → length x.1 < length w.bytes)
    → (b : Found) → cond c (Ok None) (boxes_given r) ≡ Ok (Some b) → length (cond c w (left_behind w r)).bytes < length w.bytes
shorter_at true w r less b h = absurd cc
shorter_at false w (Ok x) less b h = less x refl
shorter_at false w (Err f) less b h = absurd cc

next_shorter : (w : Left) (b : Found) → next_box w ≡ Ok (Some b) → length (after_next w).bytes < length w.bytes
unfolding next_box after_next
next_shorter w b h = shorter_at _ w (first_box w.bytes w.place w.top) (first_shorter w.bytes w.place w.top) b h

pub empty_next : (w : Left) → length w.bytes ≡ 0 → next_box w ≡ Ok None
unfolding next_box
empty_next w e = rw e refl

same_tail : (r : Result (Option Found) BoxFault) (x y : Walked) → ((b : Found) → r ≡ Ok (Some b) → x ≡ y) → continued r x ≡ continued r y
same_tail (Ok None) x y h = refl
same_tail (Ok (Some b)) x y h = ap (continued (Ok (Some b))) (h b refl)
same_tail (Err f) x y h = refl

enough : (m n : ℕ) (w : Left) → length w.bytes ≤ m → length w.bytes ≤ n → walk_of m w ≡ walk_of n w
unfolding walk_of
enough zero zero w p q = refl
enough zero (suc n) w p q = rw (empty_next w (omega arith)) refl
enough (suc m) zero w p q = rw (empty_next w (omega arith)) refl
enough (suc m) (suc n) w p q = same_tail (next_box w) _ _ (λ b h.
    let less = next_shorter w b h in
    enough m n (after_next w) (omega arith) (omega arith))

goes_on_at : (n : ℕ) (w : Left) → length w.bytes ≡ n → walk_of n w ≡ continued (next_box w) (boxes_left (after_next w))
unfolding walk_of boxes_left
goes_on_at zero w e = rw (empty_next w e) refl
goes_on_at (suc n) w e = same_tail (next_box w) _ _ (λ b h.
    let less = next_shorter w b h in
    enough n (length (after_next w).bytes) (after_next w) (omega arith) (omega arith))

pub goes_on : (w : Left) → boxes_left w ≡ continued (next_box w) (boxes_left (after_next w))
unfolding boxes_left
goes_on w = goes_on_at (length w.bytes) w refl

steps_at : (r : Result (Option BoxRef) BoxFault) (s : Result (Option Found) BoxFault) (old new : Walked) → result_map_both (option_map found) (λ f. f) r ≡ s → old ≡ continued s new → Steps r old new
steps_at (Ok None) s old new e h = rw (← e) at h
steps_at (Ok (Some b)) s old new e h = rw (← e) at h
steps_at (Err f) s old new e h = rw (← e) at h

pub steps_of : (r : Result (Option BoxRef) BoxFault) (old new : Left) → result_map_both (option_map found) (λ f. f) r ≡ next_box old → new ≡ after_next old → Steps r (boxes_left old) (boxes_left new)
steps_of r old new e after = rw after (steps_at r (next_box old) _ _ e (goes_on old))

rests_at : (r : Result (Option BoxRef) BoxFault) (c : Bool) (w : Left) (f : Result (Found × List ℕ) BoxFault) → result_map_both (option_map found) (λ f. f) r ≡ cond c (Ok None) (boxes_given f) → Rests r w (cond c w (left_behind w f))
rests_at (Ok None) true w f e = refl
rests_at (Ok None) false w (Ok x) e = absurd cc
rests_at (Ok None) false w (Err g) e = refl
rests_at (Ok (Some b)) c w f e = tt
rests_at (Err g) true w f e = refl
rests_at (Err g) false w (Ok x) e = absurd cc
rests_at (Err g) false w (Err h) e = refl

pub rests_of : (r : Result (Option BoxRef) BoxFault) (old new : Left) → result_map_both (option_map found) (λ f. f) r ≡ next_box old → new ≡ after_next old → Rests r old new
unfolding next_box after_next
rests_of r old new e after = rw after (rests_at r _ old (first_box old.bytes old.place old.top) e)

end_at : (r : Result (Option BoxRef) BoxFault) (c : Bool) (f : Result (Found × List ℕ) BoxFault) → result_map_both (option_map found) (λ f. f) r ≡ cond c (Ok None) (boxes_given f) → (r ≡ Ok None → c ≡ true) × (c ≡ true → r ≡ Ok None)
end_at (Ok None) true f e = (λ h. refl, λ h. refl)
end_at (Ok (Some b)) true f e = absurd cc
end_at (Err g) true f e = absurd cc
end_at (Ok None) false (Ok x) e = absurd cc
end_at (Ok None) false (Err g) e = absurd cc
end_at (Ok (Some b)) false f e = (λ h. absurd cc, λ h. absurd cc)
end_at (Err g) false f e = (λ h. absurd cc, λ h. absurd cc)

pub end_of : (r : Result (Option BoxRef) BoxFault) (old : Left) → result_map_both (option_map found) (λ f. f) r ≡ next_box old → (r ≡ Ok None → length old.bytes ≡ 0) × (length old.bytes ≡ 0 → r ≡ Ok None)
unfolding next_box
end_of r old e =
    let ends = end_at r (length old.bytes == 0) (first_box old.bytes old.place old.top) e in
    (λ h. eqb-true _ _ (ends.0 h), λ h. ends.1 (eq-eqb _ _ h))
