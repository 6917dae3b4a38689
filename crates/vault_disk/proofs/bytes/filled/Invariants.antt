use Rattle.std.proofs.Common.{◌≡◌, take}
use Rattle.vault_disk.specs.Content.{begun, replayed, filled}
use Rattle.vault_disk.proofs.bytes.filled.Given as goal

abbrev pub invariant-loop-step : goal.invariant-loop-step
invariant-loop-step l =
    let content = replayed (begun l.first) (take l.step-index l.steps) in
    record {
      seen : l.seen.items ≡ content.seen;
      image : l.image.items ≡ filled l.fill content.written content.synced;
    }
