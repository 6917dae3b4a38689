use Rattle.std.proofs.Common.{◌≡◌, ℕ, List, ◌+◌, ◌<◌, ◌^◌, length, Option}
use Rattle.std.specs.Prelude.{find, bytes_eq, IfSome}
use Rattle.std.specs.Option.{option_map, option_or}
use Rattle.iso_boxes.specs.declared.walk.BoxRef.{BoxRef}
use Rattle.iso_boxes.specs.Walk.{Found, Walked, found, inside, boxes_left}
use Rattle.iso_boxes.proofs.walk.first_inside.Given as goal

pub record IsSoFar (kind : List ℕ) (seen : Option BoxRef) (old new : Walked) : Type 0 where
  pub first : option_or (option_map found seen) (find (λ (b : Found). bytes_eq b.kind kind) new.boxes) ≡ find (λ (b : Found). bytes_eq b.kind kind) old.boxes
  pub fits : IfSome seen (λ b. b.body_place + length b.body.now < 2 ^ 64)
  pub end : new.fault ≡ old.fault

abbrev pub invariant-loop-inner : goal.invariant-loop-inner
invariant-loop-inner l = IsSoFar l.kind l.first (inside (found l.at)) (boxes_left l.boxes)

abbrev pub decreases-loop-inner : goal.decreases-loop-inner
decreases-loop-inner l = length l.boxes.bytes
