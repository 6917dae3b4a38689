use Rattle.std.proofs.Common.{◌≡◌, map}
use Rattle.serial_play.specs.Answer.{text_of}
use Rattle.serial_play.proofs.outcome.texts_of.Given as goal

abbrev pub invariant-loop-track : goal.invariant-loop-track
invariant-loop-track l = l.texts ≡ map text_of l.yielded
