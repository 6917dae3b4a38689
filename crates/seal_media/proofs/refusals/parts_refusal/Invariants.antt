use Rattle.std.proofs.Common.{◌≡◌, drop}
use Rattle.seal_media.specs.Refusals.{parts_refusal}
use Rattle.seal_media.proofs.refusals.parts_refusal.Given as goal

abbrev pub invariant-loop-part : goal.invariant-loop-part
invariant-loop-part l = parts_refusal l.number (drop l.part-index l.parts) ≡ parts_refusal l.number l.fn.parts
