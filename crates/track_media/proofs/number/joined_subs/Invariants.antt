use Rattle.std.proofs.Common.{◌≡◌, length}
use Rattle.text_words.specs.Pieces.{cut}
use Rattle.track_media.specs.Text.{all_subs}
use Rattle.track_media.proofs.SubsampleLemmas.{joined_subs}
use Rattle.track_media.proofs.number.joined_subs.Given as goal

abbrev pub invariant-loop-text : goal.invariant-loop-text
invariant-loop-text l = joined_subs l.subs (all_subs l.pieces) ≡ all_subs (cut 44 l.word)

abbrev pub decreases-loop-text : goal.decreases-loop-text
decreases-loop-text l = length l.pieces
