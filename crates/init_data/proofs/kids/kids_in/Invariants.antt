use Rattle.std.proofs.Common.{◌≡◌, map, drop}
use Rattle.serde_json.specs.View.{view}
use Rattle.eme_types.specs.FirstFault.{read_each}
use Rattle.eme_types.proofs.ReadEach.{with_front}
use Rattle.init_data.specs.InitData.{kid_in}
use Rattle.init_data.proofs.kids.kids_in.Given as goal

abbrev pub invariant-loop-value : goal.invariant-loop-value
invariant-loop-value l = read_each kid_in (map view l.values) ≡ with_front l.kids.items (read_each kid_in (map view (drop l.value-index l.values)))
