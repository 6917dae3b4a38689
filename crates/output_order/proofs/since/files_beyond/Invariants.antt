use Rattle.output_order.proofs.Beyond.{AreTold}
use Rattle.output_order.proofs.since.files_beyond.Given as goal

-- the files of the tracks so far
abbrev pub invariant-loop-at : goal.invariant-loop-at
invariant-loop-at l = AreTold l.cdm.tracks l.cdm.history l.mark.entries l.tracks l.at l.texts l.published
