use Rattle.std.proofs.Common.{◌≡◌, ◌<◌, ◌+◌, ◌∙◌, ℕ, List, Some, length, length-append, ap, arith}
use Rattle.std.specs.Prelude.{slice_get}
use Rattle.key_claims.specs.declared.track.Output.{Output}
use Rattle.key_claims.specs.declared.track.Output.TheVariants.{Same}
use Rattle.key_claims.specs.TracksState.{FedTrack}
use Rattle.key_claims.specs.TrackValue.{shown}
use Rattle.key_claims.proofs.Shown.{shown_length, shown_put}
use Rattle.key_claims.proofs.track.Track.put_same.Goals as goal

pub put-requires : goal.put-requires
put-requires c =
    let s = c.self.inside in
    let n = shown_length s.fed.0 s.outputs.0 c.self.invariant.within in
    let lt : length (shown s.fed.0 s.outputs.0) < length s.fed.0 = rw (← c.self.view_is) at c.requires in
    omega (arith, n, lt, c.self.invariant.within, c.self.invariant.room_)

pub invariant_of-self : goal.invariant_of-self
invariant_of-self c =
    let s = c.self.inside in
    let n = shown_length s.fed.0 s.outputs.0 c.self.invariant.within in
    let lt : length (shown s.fed.0 s.outputs.0) < length s.fed.0 = rw (← c.self.view_is) at c.requires in
    let m : length c.put.new.self.0 ≡ length s.outputs.0 + 1 = ap (λ (xs : List Output). length xs) c.put.ensures.items ∙ length-append s.outputs.0 _ in
    record { within = omega (arith, m, n, lt); room_ = omega (arith, m, n, lt, c.put.ensures.spare, c.self.invariant.room_) }

pub returns : goal.returns
returns c =
    let s = c.self.inside in
    let n = shown_length s.fed.0 s.outputs.0 c.self.invariant.within in
    rw (← c.self.view_is, c.put.ensures.items) (λ x at. (let here : slice_get s.fed.0 (length s.outputs.0) ≡ Some x = rw n at at in ap (λ (os : List (List ℕ)). let t : FedTrack = record { id = s.id; fed = s.fed.0; outputs = os; waiting = s.waiting } in t) (shown_put s.fed.0 s.outputs.0 Same x here)))
