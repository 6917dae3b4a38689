use Rattle.std.proofs.Common.{◌≡◌, map, drop}
use Rattle.std.specs.List.{All}
use Rattle.serde_json.specs.View.{view}
use Rattle.eme_types.specs.FirstFault.{read_each}
use Rattle.eme_types.proofs.ReadEach.{with_front}
use Rattle.key_system_access.specs.Configs.{capability_of}
use Rattle.key_system_access.specs.Utf8.{IsCapabilityUtf8}
use Rattle.key_system_access.proofs.configs.capabilities_in.Given as goal

abbrev pub invariant-loop-value : goal.invariant-loop-value
invariant-loop-value l = record {
  read : read_each capability_of (map view l.values) ≡ with_front l.capabilities (read_each capability_of (map view (drop l.value-index l.values)));
  utf8 : All IsCapabilityUtf8 l.capabilities;
}
