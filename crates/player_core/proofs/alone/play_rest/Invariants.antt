use Rattle.std.proofs.Common.{length}
use Rattle.eme_types.specs.declared.media.Media.{Media}
use Rattle.player_core.specs.Course.{HasGone, HasFollowed}
use Rattle.player_core.proofs.alone.play_rest.Given as goal

-- what follows the last line, up to the next fragment
abbrev pub invariant-rest : goal.invariant-rest
invariant-rest l = (media : Media) → HasGone l.script media (length l.script) l.fn.left.items l.fn.cdm → HasFollowed l.script media l.left.items l.cdm

abbrev pub decreases-rest : goal.decreases-rest
decreases-rest l = length l.left.items
