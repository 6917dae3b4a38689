use Rattle.std.proofs.Common.{◌≡◌, drop}
use Rattle.iso_boxes.specs.Reading.{one_each}
use Rattle.iso_boxes.proofs.Repeating.{with_front}
use Rattle.prot_boxes.specs.Senc.{item}
use Rattle.prot_boxes.proofs.senc.read_items.Given as goal

abbrev pub invariant-loop-size : goal.invariant-loop-size
invariant-loop-size l = with_front l.items (one_each (item l.flag2) (drop l.size-index l.sizes) l.rest) ≡ one_each (item l.flag2) l.fn.sizes l.fn.bytes
