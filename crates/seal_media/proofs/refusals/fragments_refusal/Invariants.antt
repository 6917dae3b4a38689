use Rattle.std.proofs.Common.{◌≡◌, drop}
use Rattle.seal_media.specs.Refusals.{fragment_number, fragments_refusal}
use Rattle.seal_media.proofs.refusals.fragments_refusal.Given as goal

abbrev pub invariant-loop-fragment : goal.invariant-loop-fragment
invariant-loop-fragment l = record {
  number : l.number ≡ fragment_number l.fragment-index;
  rest : fragments_refusal l.fragment-index (drop l.fragment-index l.fragments) ≡ fragments_refusal 0 l.fn.fragments;
}
