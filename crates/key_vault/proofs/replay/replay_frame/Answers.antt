use Rattle.std.proofs.Common.{sym, subst}
use Rattle.key_vault.specs.declared.fault.OpenFault.{OpenFault}
use Rattle.key_vault.specs.Told.{command_of}
use Rattle.key_vault.specs.Opening.{RefusesFrame}
use Rattle.key_vault.proofs.Alike.{frame_refused}
use Rattle.key_vault.proofs.replay.replay_frame.Goals as goal

pub returns-in-Err-clause-refused : goal.returns-in-Err-clause-refused
returns-in-Err-clause-refused c =
    subst (λ (f : OpenFault). RefusesFrame c.args.behind.now c.args.records.now.items c.args.gate f) (sym c.refused_as.ensures)
    (frame_refused c.args.behind.now c.args.records.now.items c.args.gate c.in-Some.count (command_of c.in-Some.told) c.in-Err.fault c.in-Some.ensures c.in-Err.ensures.follows)
