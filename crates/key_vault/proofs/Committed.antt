-- From a prepared command and its bytes behind the gate to what the call does.
use Rattle.std.proofs.Common.{◌≡◌, ◌≢◌, ℕ, ◌+◌, List, [], ◌∷◌, ◌++◌, length, Bool, true, false, refl, sym, ◌∙◌, ap, subst, arith}
use Rattle.std.specs.Prelude.{Result, Ok, Err, IsTrue}
use Rattle.vault_disk.specs.Disk.{DiskState, Only, LeavesOnly, Rose}
use Rattle.key_vault.specs.declared.command.Command.{Command}
use Rattle.key_vault.specs.declared.fault.VaultFault.{VaultFault}
use Rattle.key_vault.specs.declared.fault.VaultFault.TheVariants.{Disk}
use Rattle.key_vault.specs.declared.stored.VaultRecord.{VaultRecord}
use Rattle.key_vault.specs.declared.vault.KeyVault.{KeyVault}
use Rattle.key_vault.specs.Bytes.{behind_gate}
use Rattle.key_vault.specs.Records.{after, vault}
use Rattle.key_vault.specs.Rules.{allowed}
use Rattle.key_vault.specs.File.{frame, IsVault}
use Rattle.key_vault.specs.Crash.{Rests, IsBeforeOrAfter, SameDisk, StandsFor, Prepared, Appended, Commits, Leaves}
use Rattle.key_vault.proofs.Moments.{stood_still}
use Rattle.key_vault.proofs.Vaults.{replayed-push, length_behind}

module _ {D : Type 0} (state : D → DiskState) (may_leave : D → List ℕ → Type 0) (left_since : D → ℕ → List ℕ → Type 0) where
  pub still_rests : (old new : D) (gate : ℕ) (cs : List Command) → SameDisk state may_leave left_since old new → Rests (state old) (may_leave old) gate cs → Rests (state new) (may_leave new) gate cs
  still_rests old new gate cs same rests =
      let tells : (state new).tells ≡ (state old).tells = ap (λ (s : DiskState). s.tells) same.others in
      let seen : (state new).seen ≡ (state old).seen = ap (λ (s : DiskState). s.seen) same.others in
      record {
        tells = subst (λ (b : Bool). IsTrue b) (sym tells) rests.tells;
        file = subst (λ (l : List ℕ). IsVault l cs) (sym seen) rests.file;
        at = rests.at;
        durable = λ c left. rests.durable c ((same.crash.here c).1 left) ∙ sym seen;
      }

  module _ (old mid new : KeyVault D) (c : Command) (behind : List ℕ) (opened : old.must_reopen ≡ false) (prepared : Prepared state may_leave left_since old mid c behind) where
    accepted_for : (cs : List Command) → StandsFor state may_leave left_since old cs → allowed c (vault cs) mid.gate ≡ Ok tt
    accepted_for cs stands =
        subst (λ (records : List VaultRecord). allowed c records mid.gate ≡ Ok tt) stands.records
        (subst (λ (n : ℕ). allowed c old.records.items n ≡ Ok tt) (sym prepared.gate) prepared.accepted)

    rests_for : (cs : List Command) → StandsFor state may_leave left_since old cs → Rests (state mid.disk) (may_leave mid.disk) mid.gate cs
    rests_for cs stands =
        subst (λ (n : ℕ). Rests (state mid.disk) (may_leave mid.disk) n cs) (sym prepared.gate) (still_rests old.disk mid.disk old.gate cs prepared.disk stands.rests)

    leaves_for : (result : Result (Unit {0}) VaultFault) → Appended state may_leave left_since mid new behind result → (cs : List Command) → StandsFor state may_leave left_since old cs → Leaves state may_leave left_since old.disk new.disk (IsBeforeOrAfter cs c)
    leaves_for result appended cs stands =
        stood_still (λ d. (state d).moment) left_since old.disk mid.disk new.disk (IsBeforeOrAfter cs c) (may_leave old.disk) (may_leave mid.disk)
        (ap (λ (s : DiskState). s.moment) prepared.disk.others) prepared.disk.crash (appended.any_moment cs c prepared.bytes (accepted_for cs stands) (rests_for cs stands))

    pub committed_ok : {T : Type 0} (x : T) → Appended state may_leave left_since mid new behind (Ok tt) → Commits state may_leave left_since old new c (Ok x)
    committed_ok x appended = record {
      answer = record { reopen = λ due. absurd cc; tried = λ same. rw prepared.accepted refl };
      reopen = appended.reopen ∙ prepared.must_reopen;
      gate = appended.gate;
      kept = tt;
      records = appended.records ∙ prepared.records;
      next = omega (arith, appended.next, prepared.gate, ap length prepared.bytes, length_behind c);
      acknowledged = λ cs stands. record {
        opened = appended.reopen ∙ prepared.must_reopen ∙ opened;
        rests = appended.written cs c prepared.bytes (accepted_for cs stands) (rests_for cs stands);
        records = appended.records ∙ prepared.records ∙ ap (after c) stands.records ∙ sym (replayed-push [] cs c);
      };
      any_moment = leaves_for (Ok tt) appended;
      cause = record {
        later = omega (arith, appended.cause.later, ap (λ (s : DiskState). s.faults) prepared.disk.others);
        failed = λ is. absurd cc;
      };
    }

    committed_disk : {T : Type 0} → Appended state may_leave left_since mid new behind (Err Disk) → Commits state may_leave left_since {T = T} old new c (Err Disk)
    committed_disk appended = record {
      answer = record { reopen = λ due. absurd cc; tried = λ same. rw prepared.accepted refl };
      reopen = appended.reopen;
      gate = appended.gate;
      kept = λ other. absurd (other refl);
      records = tt;
      next = tt;
      acknowledged = tt;
      any_moment = leaves_for (Err Disk) appended;
      cause = record {
        later = omega (arith, appended.cause.later, ap (λ (s : DiskState). s.faults) prepared.disk.others);
        failed = λ is. subst (λ (n : ℕ). Rose n (state new.disk).faults) (ap (λ (s : DiskState). s.faults) prepared.disk.others) (appended.cause.failed refl);
      };
    }

    pub committed_err : {T : Type 0} (fault : VaultFault) → Appended state may_leave left_since mid new behind (Err fault) → Commits state may_leave left_since {T = T} old new c (Err fault)
    committed_err {T} fault appended =
        let is : fault ≡ Disk = appended.fault in
        let of_disk = subst (λ (f : VaultFault). Appended state may_leave left_since mid new behind (Err f)) is appended in
        subst (λ (f : VaultFault). Commits state may_leave left_since {T = T} old new c (Err f)) (sym is) (committed_disk {T = T} of_disk)

    pub committed : (result : Result (Unit {0}) VaultFault) → Appended state may_leave left_since mid new behind result → Commits state may_leave left_since old new c result
    committed (Ok x) appended = committed_ok x appended
    committed (Err fault) appended = committed_err fault appended
