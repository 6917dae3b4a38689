use Rattle.std.proofs.Common.{◌≡◌, take}
use Rattle.std.specs.List.{flat_map}
use Rattle.sample_aux.specs.Spans.{box_bytes}
use Rattle.sample_aux.proofs.inits.pssh_bytes.Given as goal

abbrev pub invariant-loop-span : goal.invariant-loop-span
invariant-loop-span l = l.bytes ≡ flat_map (λ s. box_bytes l.file s) (take l.span-index l.spans)
