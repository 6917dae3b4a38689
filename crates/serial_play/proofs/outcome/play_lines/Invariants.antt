use Rattle.std.proofs.Common.{true, drop}
use Rattle.eme_types.specs.declared.media.Media.{Media}
use Rattle.serial_play.specs.Answer.{HasPlayed}
use Rattle.serial_play.proofs.outcome.play_lines.Given as goal

-- the script is played up to the line
abbrev pub invariant-loop-line : goal.invariant-loop-line
invariant-loop-line l = (media : Media) → HasPlayed l.script media l.script true l.fn.play → HasPlayed l.script media (drop l.line-index l.script) l.agreeing l.play
