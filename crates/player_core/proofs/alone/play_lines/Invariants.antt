use Rattle.eme_types.specs.declared.media.Media.{Media}
use Rattle.player_core.specs.Course.{HasGone}
use Rattle.player_core.proofs.alone.play_lines.Given as goal

-- the lines so far
abbrev pub invariant-loop-line : goal.invariant-loop-line
invariant-loop-line l = (media : Media) → HasGone l.script media 0 l.fn.left.items l.fn.cdm → HasGone l.script media l.line-index l.left.items l.cdm
