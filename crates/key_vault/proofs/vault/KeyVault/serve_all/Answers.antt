use Rattle.std.proofs.Common.{◌≡◌, ◌+◌, ◌++◌, [], ◌∷◌, List, take, drop, sym, ◌∙◌, ap, subst, take-append-drop}
use Rattle.std.specs.Prelude.{Result, Ok, Err}
use Rattle.std.proofs.lemmas.List.{take_more}
use Rattle.std.proofs.lemmas.Result.{err_from_is_err_and}
use Rattle.key_vault.specs.declared.command.Command.{Command}
use Rattle.key_vault.specs.declared.fault.VaultFault.{VaultFault}
use Rattle.key_vault.specs.Served.{Serves}
use Rattle.key_vault.proofs.Lists.{serves_more, serves_front}
use Rattle.key_vault.proofs.vault.KeyVault.serve_all.Goals as goal

pub loop-command-preserved : goal.loop-command-preserved
loop-command-preserved g c =
    let commands = c.args.commands.now in
    let i = c.loop-command.command-index in
    let k = c.command-item.result in
    let more : take (i + 1) commands ≡ take i commands ++ k ∷ [] = take_more commands i k c.loop-command-test.true ∙ ap (λ (x : Command). take i commands ++ x ∷ []) (sym c.command-item.is) in
    subst (λ (l : List Command). Serves g.D.VaultDisk.state g.D.VaultDisk.may_leave g.D.VaultDisk.left_since c.args.self.now c.offer.new.self l (Ok tt)) (sym more)
    (serves_more g.D.VaultDisk.state g.D.VaultDisk.may_leave g.D.VaultDisk.left_since c.args.self.now c.loop-command.self c.offer.new.self (take i commands) k (Ok tt) c.loop-command.invariant c.in_ok-offer.ensures)

pub returns-in_err-offer : goal.returns-in_err-offer
returns-in_err-offer g c =
    let commands = c.args.commands.now in
    let i = c.loop-command.command-index in
    let k = c.command-item.result in
    let more : take (i + 1) commands ≡ take i commands ++ k ∷ [] = take_more commands i k c.loop-command-test.true ∙ ap (λ (x : Command). take i commands ++ x ∷ []) (sym c.command-item.is) in
    let p = err_from_is_err_and c.from_residual.result c.from_residual.ensures.1 in
    let fault = c.in_err-offer.field-0.0 in
    let front = serves_more g.D.VaultDisk.state g.D.VaultDisk.may_leave g.D.VaultDisk.left_since c.args.self.now c.loop-command.self c.offer.new.self (take i commands) k (Err fault) c.loop-command.invariant c.in_err-offer.ensures in
    let whole = serves_front g.D.VaultDisk.state g.D.VaultDisk.may_leave g.D.VaultDisk.left_since c.args.self.now c.offer.new.self (take i commands ++ k ∷ []) (drop (i + 1) commands) fault front in
    let all : (take i commands ++ k ∷ []) ++ drop (i + 1) commands ≡ commands = ap (λ (l : List Command). l ++ drop (i + 1) commands) (sym more) ∙ take-append-drop (i + 1) commands in
    let of_all = subst (λ (l : List Command). Serves g.D.VaultDisk.state g.D.VaultDisk.may_leave g.D.VaultDisk.left_since c.args.self.now c.offer.new.self l (Err fault)) all whole in
    rw p.1 (subst (λ (f : VaultFault). Serves g.D.VaultDisk.state g.D.VaultDisk.may_leave g.D.VaultDisk.left_since c.args.self.now c.offer.new.self commands (Err f)) (sym p.2) of_all)
