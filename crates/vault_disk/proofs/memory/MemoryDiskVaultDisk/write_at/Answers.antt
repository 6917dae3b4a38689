use Rattle.std.proofs.Common.{◌≡◌, ◌+◌, ◌-◌, ◌++◌, ◌∙◌, sym, ap, arith, List, length, take, drop}
use Rattle.vault_disk.specs.declared.step.Step.{Step}
use Rattle.vault_disk.specs.Content.{wrote}
use Rattle.vault_disk.specs.Memory.{Memory}
use Rattle.vault_disk.proofs.Written.{At, holds, torn, tears, elapses}
use Rattle.vault_disk.proofs.memory.MemoryDiskVaultDisk.write_at.Goals as goal

pub invariant_of-self : goal.invariant_of-self
invariant_of-self c =
    let m = c.args.self.now in
    let view = c.self.view_is ∙ c.count-fails.ensures.counted in
    let first = ap (λ (n : Memory). n.first) view in
    let noted = ap (λ (n : Memory). n.steps) view in
    let grown : c.write_bytes.new.steps.items ≡ m.steps ++ wrote c.args.place c.args.bytes.now = c.write_bytes.ensures.steps ∙ ap (λ (l : List Step). l ++ wrote c.args.place c.args.bytes.now) noted in
    let seen : c.self.inside.content.items ≡ (At m.first m.steps).seen = c.self.invariant.0 ∙ ap (λ (n : Memory). (At n.first n.steps).seen) view in
    let spare : c.self.inside.spare ≡ m.spare = ap (λ (n : Memory). n.spare) view in
    let room = c.requires.room in
    let whole = holds m.first c.self.inside.first m.steps c.write_bytes.new.steps.items c.args.place c.args.bytes.now first grown c.requires.inside in (
      c.write_bytes.ensures.bytes ∙ ap (λ l. take c.args.place l ++ c.args.bytes.now ++ drop (c.args.place + length c.args.bytes.now) l) seen ∙ sym whole,
      omega (arith, c.self.invariant.1, c.write_bytes.ensures.noted, c.write_bytes.ensures.rooms.1, room),
      omega (arith, c.self.invariant.2, c.write_bytes.ensures.longer, c.write_bytes.ensures.rooms.0, room),
    )

pub returns-then-fails-clause-holds : goal.returns-then-fails-clause-holds
returns-then-fails-clause-holds c =
    let m = c.args.self.now in
    let view = c.self.view_is ∙ c.count-fails.ensures.counted in
    let first = ap (λ (n : Memory). n.first) view in
    let noted = ap (λ (n : Memory). n.steps) view in
    let grown : c.write_bytes.new.steps.items ≡ m.steps ++ wrote c.args.place c.args.bytes.now = c.write_bytes.ensures.steps ∙ ap (λ (l : List Step). l ++ wrote c.args.place c.args.bytes.now) noted in
    holds m.first c.self.inside.first m.steps c.write_bytes.new.steps.items c.args.place c.args.bytes.now first grown c.requires.inside

pub returns-then-fails-clause-torn : goal.returns-then-fails-clause-torn
returns-then-fails-clause-torn c =
    let m = c.args.self.now in
    let view = c.self.view_is ∙ c.count-fails.ensures.counted in
    let first = ap (λ (n : Memory). n.first) view in
    let noted = ap (λ (n : Memory). n.steps) view in
    let grown : c.write_bytes.new.steps.items ≡ m.steps ++ wrote c.args.place c.args.bytes.now = c.write_bytes.ensures.steps ∙ ap (λ (l : List Step). l ++ wrote c.args.place c.args.bytes.now) noted in
    torn m.first c.self.inside.first m.steps c.write_bytes.new.steps.items c.args.place c.args.bytes.now first grown

pub returns-then-fails-clause-crash : goal.returns-then-fails-clause-crash
returns-then-fails-clause-crash c =
    let m = c.args.self.now in
    let view = c.self.view_is ∙ c.count-fails.ensures.counted in
    let first = ap (λ (n : Memory). n.first) view in
    let noted = ap (λ (n : Memory). n.steps) view in
    let grown : c.write_bytes.new.steps.items ≡ m.steps ++ wrote c.args.place c.args.bytes.now = c.write_bytes.ensures.steps ∙ ap (λ (l : List Step). l ++ wrote c.args.place c.args.bytes.now) noted in
    tears m.first c.self.inside.first m.steps c.write_bytes.new.steps.items c.args.place c.args.bytes.now first grown

pub returns-then-fails-clause-time : goal.returns-then-fails-clause-time
returns-then-fails-clause-time c =
    let m = c.args.self.now in
    let view = c.self.view_is ∙ c.count-fails.ensures.counted in
    let first = ap (λ (n : Memory). n.first) view in
    let noted = ap (λ (n : Memory). n.steps) view in
    let grown : c.write_bytes.new.steps.items ≡ m.steps ++ wrote c.args.place c.args.bytes.now = c.write_bytes.ensures.steps ∙ ap (λ (l : List Step). l ++ wrote c.args.place c.args.bytes.now) noted in
    elapses m.first c.self.inside.first m.steps c.write_bytes.new.steps.items c.args.place c.args.bytes.now first grown

pub invariant_of-self-2 : goal.invariant_of-self-2
invariant_of-self-2 c =
    let m = c.args.self.now in
    let view = c.self.view_is ∙ c.count-fails.ensures.counted in
    let first = ap (λ (n : Memory). n.first) view in
    let noted = ap (λ (n : Memory). n.steps) view in
    let grown : c.write_bytes.new.steps.items ≡ m.steps ++ wrote c.args.place c.args.bytes.now = c.write_bytes.ensures.steps ∙ ap (λ (l : List Step). l ++ wrote c.args.place c.args.bytes.now) noted in
    let seen : c.self.inside.content.items ≡ (At m.first m.steps).seen = c.self.invariant.0 ∙ ap (λ (n : Memory). (At n.first n.steps).seen) view in
    let spare : c.self.inside.spare ≡ m.spare = ap (λ (n : Memory). n.spare) view in
    let room = c.requires.room in
    let whole = holds m.first c.self.inside.first m.steps c.write_bytes.new.steps.items c.args.place c.args.bytes.now first grown c.requires.inside in (
      c.write_bytes.ensures.bytes ∙ ap (λ l. take c.args.place l ++ c.args.bytes.now ++ drop (c.args.place + length c.args.bytes.now) l) seen ∙ sym whole,
      omega (arith, c.self.invariant.1, c.write_bytes.ensures.noted, c.write_bytes.ensures.rooms.1, room),
      omega (arith, c.self.invariant.2, c.write_bytes.ensures.longer, c.write_bytes.ensures.rooms.0, room),
    )

pub returns-clause-holds : goal.returns-clause-holds
returns-clause-holds c =
    let m = c.args.self.now in
    let view = c.self.view_is ∙ c.count-fails.ensures.counted in
    let first = ap (λ (n : Memory). n.first) view in
    let noted = ap (λ (n : Memory). n.steps) view in
    let grown : c.write_bytes.new.steps.items ≡ m.steps ++ wrote c.args.place c.args.bytes.now = c.write_bytes.ensures.steps ∙ ap (λ (l : List Step). l ++ wrote c.args.place c.args.bytes.now) noted in
    holds m.first c.self.inside.first m.steps c.write_bytes.new.steps.items c.args.place c.args.bytes.now first grown c.requires.inside

pub returns-clause-torn : goal.returns-clause-torn
returns-clause-torn c =
    let m = c.args.self.now in
    let view = c.self.view_is ∙ c.count-fails.ensures.counted in
    let first = ap (λ (n : Memory). n.first) view in
    let noted = ap (λ (n : Memory). n.steps) view in
    let grown : c.write_bytes.new.steps.items ≡ m.steps ++ wrote c.args.place c.args.bytes.now = c.write_bytes.ensures.steps ∙ ap (λ (l : List Step). l ++ wrote c.args.place c.args.bytes.now) noted in
    torn m.first c.self.inside.first m.steps c.write_bytes.new.steps.items c.args.place c.args.bytes.now first grown

pub returns-clause-crash : goal.returns-clause-crash
returns-clause-crash c =
    let m = c.args.self.now in
    let view = c.self.view_is ∙ c.count-fails.ensures.counted in
    let first = ap (λ (n : Memory). n.first) view in
    let noted = ap (λ (n : Memory). n.steps) view in
    let grown : c.write_bytes.new.steps.items ≡ m.steps ++ wrote c.args.place c.args.bytes.now = c.write_bytes.ensures.steps ∙ ap (λ (l : List Step). l ++ wrote c.args.place c.args.bytes.now) noted in
    tears m.first c.self.inside.first m.steps c.write_bytes.new.steps.items c.args.place c.args.bytes.now first grown

pub returns-clause-time : goal.returns-clause-time
returns-clause-time c =
    let m = c.args.self.now in
    let view = c.self.view_is ∙ c.count-fails.ensures.counted in
    let first = ap (λ (n : Memory). n.first) view in
    let noted = ap (λ (n : Memory). n.steps) view in
    let grown : c.write_bytes.new.steps.items ≡ m.steps ++ wrote c.args.place c.args.bytes.now = c.write_bytes.ensures.steps ∙ ap (λ (l : List Step). l ++ wrote c.args.place c.args.bytes.now) noted in
    elapses m.first c.self.inside.first m.steps c.write_bytes.new.steps.items c.args.place c.args.bytes.now first grown
