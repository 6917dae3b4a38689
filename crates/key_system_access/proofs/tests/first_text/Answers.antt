use Rattle.std.proofs.Common.{◌≡◌, ◌<◌, length}
use Rattle.std.proofs.lemmas.List.Elements.{All-get_or}
use Rattle.key_system_access.specs.Utf8.{IsConfigUtf8}
use Rattle.key_system_access.proofs.tests.first_text.Goals as goal

pub config_text-requires : goal.config_text-requires
config_text-requires c = rw c.config-item.is (All-get_or IsConfigUtf8 c.args.configs.now 0 _ c.in-len1-up.len_at_least c.requires)
