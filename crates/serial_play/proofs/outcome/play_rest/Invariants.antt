use Rattle.std.proofs.Common.{◌≡◌, ℕ, IsTrue, List, length}
use Rattle.std.specs.List.{list_all}
use Rattle.eme_types.specs.Fed.{are_well_formed}
use Rattle.serial_play.specs.Serial.{Serial}
use Rattle.serial_play.proofs.Playing.{FeedsOn}
use Rattle.serial_play.proofs.outcome.play_rest.Given as goal

-- the fragments that are left lead where all of them lead
abbrev pub invariant-rest : goal.invariant-rest
invariant-rest l = record { feeds : FeedsOn l.fn.play l.play; formed : IsTrue (list_all are_well_formed l.play.left.now) }

abbrev pub decreases-rest : goal.decreases-rest
decreases-rest l = length l.play.left.now
