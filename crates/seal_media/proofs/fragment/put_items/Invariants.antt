use Rattle.std.proofs.Common.{◌≡◌, ◌+◌, ◌++◌, drop, true}
use Rattle.std.specs.List.{flat_map}
use Rattle.prot_boxes.specs.Senc.{item_body}
use Rattle.seal_media.specs.Views.{items_from}
use Rattle.seal_media.proofs.fragment.put_items.Given as goal

abbrev pub invariant-loop-sample : goal.invariant-loop-sample
invariant-loop-sample l = record {
  number : l.number ≡ l.fn.number + l.sample-index;
  body : l.body ++ flat_map (item_body true) (items_from l.plan l.number (drop l.sample-index l.samples)) ≡ l.fn.body ++ flat_map (item_body true) (items_from l.plan l.fn.number l.fn.samples);
}
