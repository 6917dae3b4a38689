use Rattle.std.proofs.Common.{ℕ, ◌≡◌, ◌≤◌, ◌<◌, length, None}
use Rattle.key_claims.specs.Choice.{claim_pick}
use Rattle.key_claims.proofs.choice.work_on.Given as goal

-- none of the samples before can be claimed
abbrev pub invariant-loop-index : goal.invariant-loop-index
invariant-loop-index g l = (i : ℕ) → length l.track.track.outputs ≤ i → i < l.index → claim_pick (g.P.Picks.picks l.sessions) l.claims l.track.track i ≡ None
