use Rattle.std.proofs.Common.{◌≡◌, ◌≤◌, ◌+◌, ◌-◌, ◌++◌, ◌∙◌, ℕ, List, length, length-append, ap, arith}
use Rattle.eme_types.specs.declared.sample.EncSample.{EncSample}
use Rattle.key_claims.specs.TracksState.{FedTrack}
use Rattle.key_claims.specs.TrackValue.{shown}
use Rattle.key_claims.proofs.Shown.{shown_length, shown_fed}
use Rattle.key_claims.proofs.track.Track.add.Goals as goal

pub invariant_of-self : goal.invariant_of-self
invariant_of-self c =
    let s = c.self.inside in
    let n = shown_length s.fed.0 s.outputs.0 c.self.invariant.within in
    let room : (length s.fed.0 - length (shown s.fed.0 s.outputs.0)) + length c.args.samples.items ≤ s.outputs.1 = rw (← c.self.view_is) at c.requires.room in
    let m : length c.put_all.new.self.0 ≡ length s.fed.0 + length c.args.samples.items = ap (λ (xs : List EncSample). length xs) c.put_all.ensures.items ∙ length-append s.fed.0 c.args.samples.items in
    record { within = omega (arith, m, c.self.invariant.within); room_ = omega (arith, m, n, room, c.self.invariant.within) }

pub returns-clause-fed : goal.returns-clause-fed
returns-clause-fed c =
    let s = c.self.inside in
    rw (← c.self.view_is, c.put_all.ensures.items) (ap (λ (os : List (List ℕ)). let t : FedTrack = record { id = s.id; fed = s.fed.0 ++ c.args.samples.items; outputs = os; waiting = s.waiting } in t) (shown_fed s.fed.0 c.args.samples.items s.outputs.0 c.self.invariant.within))
