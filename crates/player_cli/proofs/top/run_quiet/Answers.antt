use Rattle.std.proofs.Common.{map}
use Rattle.std.specs.Prelude.{string_bytes}
use Rattle.player_cli.specs.Command.{quiet_command}
use Rattle.player_cli.proofs.DoneWhole.{done_whole}
use Rattle.player_cli.proofs.top.run_quiet.Goals as goal

pub returns-clause-complete : goal.returns-clause-complete
returns-clause-complete g c = done_whole (quiet_command (map string_bytes c.args.words.now)) c.run_quietly.result (g.S.Shelf.state c.args.shelf.now) (g.S.Shelf.state c.run_quietly.new.shelf) c.run_quietly.ensures
