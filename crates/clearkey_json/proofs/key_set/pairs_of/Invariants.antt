use Rattle.std.proofs.Common.{◌≡◌, map, drop}
use Rattle.serde_json.specs.View.{view}
use Rattle.eme_types.specs.FirstFault.{read_each}
use Rattle.clearkey_json.specs.KeySet.{pair_of}
use Rattle.eme_types.proofs.ReadEach.{with_front}
use Rattle.clearkey_json.proofs.key_set.pairs_of.Given as goal

abbrev pub invariant-loop-object : goal.invariant-loop-object
invariant-loop-object l = read_each pair_of (map view l.objects) ≡ with_front l.pairs (read_each pair_of (map view (drop l.object-index l.objects)))
