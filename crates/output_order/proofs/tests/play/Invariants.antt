use Rattle.output_order.specs.News.{IsMarkOf}
use Rattle.output_order.proofs.tests.play.Given as goal

-- all was told
abbrev pub invariant-loop-word : goal.invariant-loop-word
invariant-loop-word g l = IsMarkOf l.cdm.tracks l.cdm.history l.told.mark
