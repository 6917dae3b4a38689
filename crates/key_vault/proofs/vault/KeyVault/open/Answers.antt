use Rattle.std.proofs.Common.{◌≡◌, ◌+◌, ◌<◌, ◌≤◌, [], ◌∷◌, ◌++◌, ℕ, List, Bool, length, take, refl, sym, ◌∙◌, ap, subst, arith, length-append}
use Rattle.std.specs.Prelude.{IsTrue}
use Rattle.vault_disk.specs.Disk.{DiskState, Only}
use Rattle.key_vault.specs.declared.fault.OpenFault.{OpenFault}
use Rattle.key_vault.specs.declared.fault.OpenFault.TheVariants.{NotEmpty, NotVault, Disk, OutOfMemory}
use Rattle.key_vault.specs.File.{file_of, IsVault, IsBroken}
use Rattle.key_vault.specs.Opening.{IsReplayed, Refuses, RefusesDisk}
use Rattle.key_vault.proofs.Prefix.{vault_room, prefix_vault, prefix_broken}
use Rattle.key_vault.proofs.vault.KeyVault.open.Goals as goal

pub returns-in-Ok-replay-clause-opened : goal.returns-in-Ok-replay-clause-opened
returns-in-Ok-replay-clause-opened g c =
    let old = g.D.VaultDisk.state c.args.disk in
    let disk = c.read_file.ensures.disk in
    let read = c.in-Ok-replay.ensures.ok in
    let cs = read.commands in
    let room = vault_room [] 0 cs read.file_is.accepted (omega arith) in
    let whole : (told : IsTrue old.tells) → IsVault old.seen cs = λ (told : IsTrue old.tells). prefix_vault old.seen cs (subst (λ (l : List ℕ). IsVault l cs) (c.deref.ensures.value ∙ c.in-Ok.ensures.bytes told) read.file_is) in
    record {
      opened = refl;
      gate = record {
        within = omega (arith, read.at);
        inside = λ same told_now.
            let told = subst (λ (b : Bool). IsTrue b) disk.tells told_now in
            let file = whole told in
            omega (arith, read.at, ap length disk.seen, ap length file.bytes, length-append (file_of cs) (file.gate ∷ file.rest));
      };
      disk = disk;
      stands = λ told.
          let file = whole told in (
            cs,
            file,
            record {
              opened = refl;
              rests = record {
                tells = subst (λ (b : Bool). IsTrue b) (sym disk.tells) told;
                file = subst (λ (l : List ℕ). IsVault l cs) (sym disk.seen) file;
                at = read.at;
                durable = λ f left. c.in-Ok.ensures.durable told f left ∙ sym disk.seen;
              };
              records = read.records_are;
            },
          );
    }

refused_for : {D : Type 0} (state : D → DiskState) (may_leave : D → List ℕ → Type 0) (left_since : D → ℕ → List ℕ → Type 0) (old new : D) (bytes : List ℕ) (fault : OpenFault)
    → (IsTrue (state old).tells → bytes ≡ take 16777216 (state old).seen) → Refuses bytes fault → RefusesDisk state may_leave left_since old new fault
refused_for state may_leave left_since old new bytes NotEmpty is refused = absurd refused
refused_for state may_leave left_since old new bytes (NotVault place) is refused = λ told. prefix_broken (state old).seen place (subst (λ (l : List ℕ). IsBroken l place) (is told) refused)
refused_for state may_leave left_since old new bytes Disk is refused = absurd refused
refused_for state may_leave left_since old new bytes OutOfMemory is refused = tt

pub returns-clause-refused : goal.returns-clause-refused
returns-clause-refused g c =
    refused_for g.D.VaultDisk.state g.D.VaultDisk.may_leave g.D.VaultDisk.left_since c.args.disk c.read_file.new.disk c.deref.result.now c.in-Err-replay.fault
    (λ told. c.deref.ensures.value ∙ c.in-Ok.ensures.bytes told) c.in-Err-replay.ensures.refused
