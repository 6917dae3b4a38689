use Rattle.std.proofs.Common.{◌≡◌, map, drop}
use Rattle.std.specs.List.{All}
use Rattle.std.specs.Str.{IsUtf8}
use Rattle.serde_json.specs.View.{view}
use Rattle.eme_types.specs.FirstFault.{read_each}
use Rattle.eme_types.proofs.ReadEach.{with_front}
use Rattle.key_system_access.specs.Configs.{text_of}
use Rattle.key_system_access.proofs.configs.texts_in.Given as goal

abbrev pub invariant-loop-value : goal.invariant-loop-value
invariant-loop-value l = record {
  read : read_each text_of (map view l.values) ≡ with_front l.texts (read_each text_of (map view (drop l.value-index l.values)));
  utf8 : All IsUtf8 l.texts;
}
