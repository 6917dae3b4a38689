use Rattle.std.proofs.Common.{◌≡◌, take}
use Rattle.std.specs.List.{flat_map}
use Rattle.init_data.specs.InitData.{common_kids}
use Rattle.init_data.proofs.kids.all_common_kids.Given as goal

abbrev pub invariant-loop-pssh : goal.invariant-loop-pssh
invariant-loop-pssh l = l.kids.items ≡ flat_map common_kids (take l.pssh-index l.pssh-items)
