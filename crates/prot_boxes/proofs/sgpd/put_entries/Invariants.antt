use Rattle.std.proofs.Common.{◌≡◌, ◌++◌, take}
use Rattle.std.specs.List.{flat_map}
use Rattle.prot_boxes.specs.Sgpd.{entry_body}
use Rattle.prot_boxes.proofs.sgpd.put_entries.Given as goal

abbrev pub invariant-loop-seig : goal.invariant-loop-seig
invariant-loop-seig l = l.body ≡ l.fn.body ++ flat_map entry_body (take l.seig-index l.seigs)
