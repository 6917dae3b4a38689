use Rattle.std.proofs.Common.{◌≡◌, ◌++◌, take}
use Rattle.std.specs.List.{flat_map}
use Rattle.prot_boxes.specs.Senc.{sub_body}
use Rattle.prot_boxes.proofs.senc.put_each_sub.Given as goal

abbrev pub invariant-loop-sub : goal.invariant-loop-sub
invariant-loop-sub l = l.body ≡ l.fn.body ++ flat_map sub_body (take l.sub-index l.subs)
