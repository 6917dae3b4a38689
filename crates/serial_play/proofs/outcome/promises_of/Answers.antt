use Rattle.std.proofs.Common.{ℕ, List, Option, Some, None, slice_get, ap, ◌∙◌, sym}
use Rattle.eme_types.specs.declared.call.Settled.{Settled}
use Rattle.serial_play.proofs.Ending.{all_settled}
use Rattle.serial_play.proofs.outcome.promises_of.Goals as goal

-- each promise is settled
pub results_of-requires : goal.results_of-requires
results_of-requires c n at =
    all_settled c.args.sessions.now.machine c.keeps.ensures.owed c.requires n (ap (λ (ps : List (Option Settled)). slice_get ps n) (sym c.promises.ensures) ∙ at)
