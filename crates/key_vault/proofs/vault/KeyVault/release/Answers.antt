use Rattle.std.proofs.Common.{◌≡◌, ℕ, List, sym, subst}
use Rattle.std.specs.Prelude.{Result, Ok, Err}
use Rattle.std.proofs.lemmas.Result.{err_from_is_err_and}
use Rattle.key_vault.specs.declared.command.Command.TheVariants.{Release}
use Rattle.key_vault.specs.declared.fault.VaultFault.{VaultFault}
use Rattle.key_vault.specs.Crash.{Appended}
use Rattle.key_vault.proofs.Committed.{committed_ok, committed_err}
use Rattle.key_vault.proofs.vault.KeyVault.release.Goals as goal

pub returns-clause-commits : goal.returns-clause-commits
returns-clause-commits g c =
    let mid = c.prepare_release.new.self in
    let new = c.append.new.self in
    let behind = c.in_ok-behind.behind in
    let appended = subst (λ (l : List ℕ). Appended g.D.VaultDisk.state g.D.VaultDisk.may_leave g.D.VaultDisk.left_since mid new l (Ok tt)) c.as_slice.ensures c.in_ok-append.ensures in
    committed_ok g.D.VaultDisk.state g.D.VaultDisk.may_leave g.D.VaultDisk.left_since c.args.self.now mid new (Release c.args.label.now) behind c.if-self.false c.in_ok-behind.ensures.ok c.in_ok-behind.text appended

pub returns-in_err-append-clause-commits : goal.returns-in_err-append-clause-commits
returns-in_err-append-clause-commits g c =
    let mid = c.prepare_release.new.self in
    let new = c.append.new.self in
    let behind = c.in_ok-behind.behind in
    let p = err_from_is_err_and c.from_residual-in_err-append.result c.from_residual-in_err-append.ensures.1 in
    let appended = subst (λ (l : List ℕ). Appended g.D.VaultDisk.state g.D.VaultDisk.may_leave g.D.VaultDisk.left_since mid new l (Err c.in_err-append.field-0.0)) c.as_slice.ensures c.in_err-append.ensures in
    let same = subst (λ (f : VaultFault). Appended g.D.VaultDisk.state g.D.VaultDisk.may_leave g.D.VaultDisk.left_since mid new behind (Err f)) (sym p.2) appended in
    rw p.1 (committed_err g.D.VaultDisk.state g.D.VaultDisk.may_leave g.D.VaultDisk.left_since c.args.self.now mid new (Release c.args.label.now) behind c.if-self.false c.in_ok-behind.ensures.ok p.0 same)
