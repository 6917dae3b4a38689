use Rattle.std.proofs.Common.{◌≡◌, drop}
use Rattle.frag_boxes.specs.Moov.{trex_of}
use Rattle.frag_boxes.proofs.moov.trex_of.Given as goal

abbrev pub invariant-loop-t : goal.invariant-loop-t
invariant-loop-t l = trex_of l.id (drop l.t-index l.trexes) ≡ trex_of l.id l.fn.trexes
