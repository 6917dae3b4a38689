-- A command as bytes tell it.
use Rattle.key_vault.specs.declared.command.Command.{Command}
use Rattle.key_vault.specs.declared.command.Command.TheVariants.{Store, Release, Ack}
use Rattle.key_vault.specs.declared.frame.Told.{Told}
use Rattle.key_vault.specs.declared.frame.Told.TheVariants.{Stores, Releases, Acks}

abbrev pub command_of : Told → Command
command_of (Stores label licence) = Store label.now licence.now
command_of (Releases label) = Release label.now
command_of (Acks label) = Ack label.now
