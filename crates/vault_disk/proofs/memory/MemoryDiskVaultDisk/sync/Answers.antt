use Rattle.std.proofs.Common.{◌≡◌, ◌+◌, ◌-◌, ◌++◌, [], ◌∷◌, ◌∙◌, sym, ap, arith, List}
use Rattle.vault_disk.specs.declared.step.Step.{Step}
use Rattle.vault_disk.specs.declared.step.Step.TheVariants.{Synced}
use Rattle.vault_disk.specs.Memory.{Memory}
use Rattle.vault_disk.proofs.Written.{At, sync_seen, sync_only, sync_crash}
use Rattle.vault_disk.proofs.memory.MemoryDiskVaultDisk.sync.Goals as goal

pub returns-clause-seen : goal.returns-clause-seen
returns-clause-seen c =
    let m = c.args.self.now in
    let view = c.self.view_is ∙ c.count.ensures.counted in
    let first = ap (λ (n : Memory). n.first) view in
    let noted = ap (λ (n : Memory). n.steps) view in
    let grown : c.push_reserved.new.self.items ≡ m.steps ++ Synced ∷ [] = c.push_reserved.ensures.items ∙ ap (λ (l : List Step). l ++ Synced ∷ []) noted in
    sync_seen m.first c.self.inside.first m.steps c.push_reserved.new.self.items first grown

pub returns-clause-durable : goal.returns-clause-durable
returns-clause-durable c =
    let m = c.args.self.now in
    let view = c.self.view_is ∙ c.count.ensures.counted in
    let first = ap (λ (n : Memory). n.first) view in
    let noted = ap (λ (n : Memory). n.steps) view in
    let grown : c.push_reserved.new.self.items ≡ m.steps ++ Synced ∷ [] = c.push_reserved.ensures.items ∙ ap (λ (l : List Step). l ++ Synced ∷ []) noted in
    sync_only m.first c.self.inside.first m.steps c.push_reserved.new.self.items first grown

pub returns-clause-crash : goal.returns-clause-crash
returns-clause-crash c =
    let m = c.args.self.now in
    let view = c.self.view_is ∙ c.count.ensures.counted in
    let first = ap (λ (n : Memory). n.first) view in
    let noted = ap (λ (n : Memory). n.steps) view in
    let grown : c.push_reserved.new.self.items ≡ m.steps ++ Synced ∷ [] = c.push_reserved.ensures.items ∙ ap (λ (l : List Step). l ++ Synced ∷ []) noted in
    sync_crash m.first c.self.inside.first m.steps c.push_reserved.new.self.items first grown

pub invariant_of-self : goal.invariant_of-self
invariant_of-self c =
    let m = c.args.self.now in
    let view = c.self.view_is ∙ c.count.ensures.counted in
    let first = ap (λ (n : Memory). n.first) view in
    let noted = ap (λ (n : Memory). n.steps) view in
    let grown : c.push_reserved.new.self.items ≡ m.steps ++ Synced ∷ [] = c.push_reserved.ensures.items ∙ ap (λ (l : List Step). l ++ Synced ∷ []) noted in
    let seen : c.self.inside.content.items ≡ (At m.first m.steps).seen = c.self.invariant.0 ∙ ap (λ (n : Memory). (At n.first n.steps).seen) view in
    let spare : c.self.inside.spare ≡ m.spare = ap (λ (n : Memory). n.spare) view in (
      seen ∙ sym (sync_seen m.first c.self.inside.first m.steps c.push_reserved.new.self.items first grown),
      omega (arith, c.self.invariant.1, c.push_reserved.ensures.len, c.push_reserved.ensures.capacity),
      omega (arith, c.self.invariant.2),
    )
