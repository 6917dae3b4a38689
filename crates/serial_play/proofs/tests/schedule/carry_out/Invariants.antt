use Rattle.std.proofs.Common.{◌≡◌, ◌≤◌, length}
use Rattle.std.specs.Prelude.{MatchOption}
use Rattle.cdm_state.specs.Contract.{IsOpen}
use Rattle.serial_play.proofs.tests.schedule.carry_out.Given as goal

-- the claims that are held wait for their deliveries
abbrev pub invariant-loop-i : goal.invariant-loop-i
invariant-loop-i l = (l.cdm.tracks ≡ l.media.tracks) × (l.lines ≤ length l.script) × MatchOption l.hands.one (Unit {0}) (λ c. IsOpen l.cdm c) × MatchOption l.hands.other (Unit {0}) (λ c. IsOpen l.cdm c)
