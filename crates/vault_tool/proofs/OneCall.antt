-- A vault that was opened for one call: what the call leaves on the disk, from the opening on.
use Rattle.std.proofs.Common.{◌≡◌, ◌≢◌, ◌⊎◌, inl, inr, ℕ, ◌≤◌, List, ◌++◌, refl, sym, ◌∙◌, ap, subst, arith}
use Rattle.std.specs.Prelude.{Option, Result, Ok, Err, IsTrue, IsOk}
use Rattle.vault_disk.specs.Disk.{DiskState, LeavesOnly, Rose}
use Rattle.key_vault.specs.declared.command.Command.{Command}
use Rattle.key_vault.specs.declared.fault.VaultFault.{VaultFault}
use Rattle.key_vault.specs.declared.fault.VaultFault.TheVariants as fault
use Rattle.key_vault.specs.declared.vault.KeyVault.{KeyVault}
use Rattle.key_vault.specs.Opening.{WritesNothing, IsOpened}
use Rattle.key_vault.specs.Crash.{SameDisk, Kept, StandsFor, Leaves}
use Rattle.key_vault.proofs.Moments.{then_on}
use Rattle.vault_tool.specs.declared.outcome.VaultKind.{VaultKind}
use Rattle.vault_tool.specs.declared.outcome.VaultKind.TheVariants.{Label, Licence, Exists, Unknown, NotHeld, NotReleasing, Full}
use Rattle.vault_tool.specs.declared.outcome.VaultOutcome.TheVariants.{Refused}
use Rattle.vault_tool.specs.Calls.{Call, judged, added}
use Rattle.vault_tool.specs.Called.{IsWithOrWithout, Called}
use Rattle.vault_tool.specs.Outcomes.{fault_outcome, answer_of}
use Rattle.vault_tool.specs.Accepted.{Finds, LeavesVault, Breaks, AnswersWith}

is_accepted : (r : Result (Unit {0}) VaultFault) → IsOk r → r ≡ Ok tt
is_accepted (Ok x) ok = refl
is_accepted (Err e) ok = absurd cc

-- a disk that stands still behind a run
still_leaves : {D : Type 0} (moment : D → ℕ) (left_since : D → ℕ → List ℕ → Type 0) (old mid new : D) (P : List ℕ → Type 0) → LeavesOnly moment left_since old mid P → moment new ≡ moment mid
    → ((t : ℕ) (c : List ℕ) → left_since new t c → left_since mid t c) → LeavesOnly moment left_since old new P
still_leaves moment left_since old mid new P so_far same back = record {
  later = omega (arith, so_far.later, same);
  each = λ c left. so_far.each c (back (moment old) c left);
  before = λ t c le left. so_far.before t c le (back t c left);
}

module _ {D : Type 0} (state : D → DiskState) (may_leave : D → List ℕ → Type 0) (left_since : D → ℕ → List ℕ → Type 0) where
  -- nothing was written, and then the disk stood still
  pub nothing_more : (old mid new : D) → WritesNothing state may_leave left_since old mid → SameDisk state may_leave left_since mid new → WritesNothing state may_leave left_since old new
  nothing_more old mid new first same = record {
    tells = ap (λ (s : DiskState). s.tells) same.others ∙ first.tells;
    seen = ap (λ (s : DiskState). s.seen) same.others ∙ first.seen;
    crash = λ told c left. first.crash told c ((same.crash.here c).1 left);
    any_moment = λ told. still_leaves (λ d. (state d).moment) left_since old mid new (may_leave old) (first.any_moment told) (ap (λ (s : DiskState). s.moment) same.others) (λ t c. (same.crash.ever t c).1);
    later = omega (arith, first.later, ap (λ (s : DiskState). s.faults) same.others);
  }

  module _ (old : D) (v w : KeyVault D) (call : Call) (opened : IsOpened state may_leave left_since old v) where
    abbrev found : Finds state may_leave left_since old v.records.items v.gate
    found told = let s = opened.stands told in record { commands = s.0; file_is = s.1; records_are = s.2.records; at = s.2.rests.at }

    any_moment : ((cs : List Command) → StandsFor state may_leave left_since v cs → Leaves state may_leave left_since v.disk w.disk (IsWithOrWithout cs (added call)))
        → (told : IsTrue (state old).tells) → LeavesVault state may_leave left_since old w.disk (found told).commands call
    any_moment leaves told =
        let s = opened.stands told in
        then_on (λ d. (state d).moment) left_since old v.disk w.disk (may_leave old) (IsWithOrWithout s.0 (added call)) (λ file. may_leave old file ⊎ IsWithOrWithout s.0 (added call) file)
        (λ c p. inl p) (λ c q. inr q) (opened.disk.any_moment told) (leaves s.0 s.2)

    broken : (why : VaultFault) (kind : VaultKind) → fault_outcome why ≡ Refused kind → judged call v.records.items v.gate ≡ Err why → Kept state may_leave left_since v w
        → Breaks state may_leave left_since old w.disk call kind
    broken why kind named is kept = record {
      records = v.records.items;
      gate = v.gate;
      found = found;
      fault = why;
      broken = is;
      named = named;
      kept = nothing_more old v.disk w.disk opened.disk kept.disk;
    }

    pub answered : (result : Result (Option (List ℕ)) VaultFault) → Called state may_leave left_since v w call result → AnswersWith state may_leave left_since old w.disk call (answer_of result)
    answered (Ok text) made = record {
      records = v.records.items;
      gate = v.gate;
      found = found;
      accepted = is_accepted (judged call v.records.items v.gate) (made.answer.tried opened.opened);
      gives = made.text;
      holds = λ told. let s = opened.stands told in (w.gate, (made.acknowledged s.0 s.2).rests);
      any_moment = any_moment made.any_moment;
    }
    answered (Err fault.MustReopen) made = absurd (made.answer.tried opened.opened)
    answered (Err fault.Label) made = broken fault.Label Label refl (made.answer.tried opened.opened) (made.kept (λ is. absurd cc))
    answered (Err fault.Licence) made = broken fault.Licence Licence refl (made.answer.tried opened.opened) (made.kept (λ is. absurd cc))
    answered (Err fault.Exists) made = broken fault.Exists Exists refl (made.answer.tried opened.opened) (made.kept (λ is. absurd cc))
    answered (Err fault.Unknown) made = broken fault.Unknown Unknown refl (made.answer.tried opened.opened) (made.kept (λ is. absurd cc))
    answered (Err fault.NotHeld) made = broken fault.NotHeld NotHeld refl (made.answer.tried opened.opened) (made.kept (λ is. absurd cc))
    answered (Err fault.NotReleasing) made = broken fault.NotReleasing NotReleasing refl (made.answer.tried opened.opened) (made.kept (λ is. absurd cc))
    answered (Err fault.Full) made = broken fault.Full Full refl (made.answer.tried opened.opened) (made.kept (λ is. absurd cc))
    answered (Err fault.Disk) made = record {
      rose =
          let since : Rose (state v.disk).faults (state w.disk).faults = made.cause.failed refl in
          omega (arith, opened.disk.later, since);
      left = inr (record {
        records = v.records.items;
        gate = v.gate;
        found = found;
        accepted = is_accepted (judged call v.records.items v.gate) (made.answer.tried opened.opened);
        any_moment = any_moment made.any_moment;
      });
    }
    answered (Err fault.OutOfMemory) made = nothing_more old v.disk w.disk opened.disk (made.kept (λ is. absurd cc)).disk
