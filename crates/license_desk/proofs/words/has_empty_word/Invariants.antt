use Rattle.std.proofs.Common.{◌≡◌, length}
use Rattle.std.specs.List.{list_any}
use Rattle.text_words.specs.Fronts.{is_nothing}
use Rattle.license_desk.specs.Words.{has_empty_word}
use Rattle.license_desk.proofs.words.has_empty_word.Given as goal

abbrev pub invariant-loop-word : goal.invariant-loop-word
invariant-loop-word l = list_any is_nothing l.words ≡ has_empty_word l.line

abbrev pub decreases-loop-word : goal.decreases-loop-word
decreases-loop-word l = length l.words
