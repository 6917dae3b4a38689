use Rattle.std.proofs.Common.{◌≡◌, ◌≢◌, ℕ, ◌+◌, ◌<◌, ◌≤◌, List, [], ◌∷◌, ◌++◌, length, take, drop, get_or, Bool, false, refl, sym, ◌∙◌, ap, subst, arith, length-append}
use Rattle.std.specs.Prelude.{IsTrue, Ok}
use Rattle.std.proofs.lemmas.List.{length-take-le}
use Rattle.vault_disk.specs.Disk.{DiskState}
use Rattle.key_vault.specs.declared.command.Command.{Command}
use Rattle.key_vault.specs.Records.{vault}
use Rattle.key_vault.specs.Rules.{allowed}
use Rattle.key_vault.specs.File.{frame, file_of}
use Rattle.key_vault.specs.Gates.{IsShutOrOpen}
use Rattle.key_vault.specs.Crash.{IsBeforeOrAfter}
use Rattle.key_vault.proofs.Vaults.{file_of-push, length_behind, open_is_vault, weaker, before_or_after, around, open_long}
use Rattle.key_vault.proofs.vault.KeyVault.append.Goals as goal

pub returns-in-Ok : goal.returns-in-Ok
returns-in-Ok g c =
    let v = c.args.self.now in
    let behind = c.args.behind.now in
    let file = (g.D.VaultDisk.state v.disk).seen in
    record {
      fault = tt;
      records = refl;
      gate = record {
        within = omega (arith, c.requires.fits);
        inside = λ same told_now.
            let told = subst (λ (b : Bool). IsTrue b) c.commit.ensures.tells told_now in
            let lt = c.requires.gate.inside c.requires.opened told in
            let front_long : length (take v.gate file) ≡ v.gate = length-take-le v.gate file (omega arith) in
            let stands = c.in-Ok.ensures.written told (take v.gate file) (drop (v.gate + 1) file) (get_or file v.gate 0) (around file v.gate lt) front_long in
            let long = open_long (take v.gate file) behind (g.D.VaultDisk.state c.commit.new.disk).seen stands.0 in
            omega (arith, long, front_long);
      };
      next = refl;
      reopen = refl;
      written = λ cs k bytes last rests.
          let here = subst (λ (n : ℕ). allowed k (vault cs) n ≡ Ok tt) rests.at last in
          let stands = c.in-Ok.ensures.written rests.tells (file_of cs) rests.file.rest rests.file.gate rests.file.bytes (sym rests.at) in
          record {
            tells = subst (λ (b : Bool). IsTrue b) (sym c.commit.ensures.tells) rests.tells;
            file = open_is_vault cs k behind (g.D.VaultDisk.state c.commit.new.disk).seen bytes rests.file.accepted here stands.0;
            at = omega (arith, rests.at, ap length bytes, length_behind k, ap length (file_of-push cs k), length-append (file_of cs) (frame k));
            durable = stands.1;
          };
      any_moment = λ cs k bytes last rests.
          let here = subst (λ (n : ℕ). allowed k (vault cs) n ≡ Ok tt) rests.at last in
          weaker (λ d. (g.D.VaultDisk.state d).moment) g.D.VaultDisk.left_since v.disk c.commit.new.disk (IsShutOrOpen (file_of cs) behind) (IsBeforeOrAfter cs k)
          (λ f p. before_or_after cs k behind f bytes rests.file.accepted here p)
          (c.commit.ensures.any_moment rests.tells (file_of cs) rests.file.rest rests.file.gate rests.file.closed rests.file.bytes (sym rests.at) rests.durable);
      cause = record { later = c.commit.ensures.cause.later; failed = λ is. absurd cc };
    }

pub returns-in-Err : goal.returns-in-Err
returns-in-Err g c =
    let v = c.args.self.now in
    let behind = c.args.behind.now in
    record {
      fault = refl;
      records = refl;
      gate = record { within = c.requires.gate.within; inside = λ same told. absurd cc };
      next = tt;
      reopen = refl;
      written = tt;
      any_moment = λ cs k bytes last rests.
          let here = subst (λ (n : ℕ). allowed k (vault cs) n ≡ Ok tt) rests.at last in
          weaker (λ d. (g.D.VaultDisk.state d).moment) g.D.VaultDisk.left_since v.disk c.commit.new.disk (IsShutOrOpen (file_of cs) behind) (IsBeforeOrAfter cs k)
          (λ f p. before_or_after cs k behind f bytes rests.file.accepted here p)
          (c.commit.ensures.any_moment rests.tells (file_of cs) rests.file.rest rests.file.gate rests.file.closed rests.file.bytes (sym rests.at) rests.durable);
      cause = record { later = c.commit.ensures.cause.later; failed = λ is. c.in-Err.ensures.cause.failed };
    }
