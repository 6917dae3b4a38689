-- Commands that are accepted behind one another.
use Rattle.std.proofs.Common.{◌≡◌, ◌≢◌, zero, suc, ◌⊎◌, inl, inr, ⊎_elim, ℕ, ◌+◌, ◌<◌, ◌≤◌, min, List, [], ◌∷◌, ◌++◌, length, take, drop, Bool, true, false, refl, sym, ◌∙◌, ap, subst, arith, append_assoc, length-append, take-append-drop}
use Rattle.std.specs.Prelude.{Result, Ok, Err, is_ok, IsOk, OnOk, if◌then◌else◌}
use Rattle.std.proofs.lemmas.List.{append-nil, take_all, take_min, take-append-le}
use Rattle.vault_disk.specs.Disk.{DiskState, LeavesOnly, Rose}
use Rattle.key_vault.specs.declared.stored.VaultRecord.{VaultRecord}
use Rattle.key_vault.specs.declared.command.Command.{Command}
use Rattle.key_vault.specs.declared.fault.VaultFault.{VaultFault}
use Rattle.key_vault.specs.declared.fault.VaultFault.TheVariants.{MustReopen, Label, Licence, Exists, Unknown, NotHeld, NotReleasing, Full, Disk, OutOfMemory}
use Rattle.key_vault.specs.declared.vault.KeyVault.{KeyVault}
use Rattle.key_vault.specs.Records.{after, replayed, vault}
use Rattle.key_vault.specs.Rules.{allowed, ObeysOrFails}
use Rattle.key_vault.specs.File.{frame, file_of, AllAllowed, IsVault}
use Rattle.key_vault.specs.Crash.{Rests, IsBeforeOrAfter, HasGate, StandsFor, Kept, Leaves, Commits}
use Rattle.key_vault.specs.Served.{if_accepted, accepted, HasFront, Serves}
use Rattle.key_vault.specs.Serving.{passed}
use Rattle.key_vault.proofs.Moments.{started, stood_still, then_on}
use Rattle.key_vault.proofs.Vaults.{weaker}
use Rattle.key_vault.proofs.Committed.{still_rests}

pub accepted-append : (cs xs ys : List Command) → accepted cs (xs ++ ys) ≡ accepted cs xs ++ accepted (cs ++ accepted cs xs) ys
accepted-append cs [] ys = ap (λ (l : List Command). accepted l ys) (sym (append-nil cs))
accepted-append cs (x ∷ xs) ys =
    let e = if_accepted cs x in
    let more = accepted (cs ++ e) xs in
    ap (λ (l : List Command). e ++ l) (accepted-append (cs ++ e) xs ys)
    ∙ sym (append_assoc e more (accepted ((cs ++ e) ++ more) ys))
    ∙ ap (λ (l : List Command). (e ++ more) ++ accepted l ys) (append_assoc cs e more)

allowed_last : (records : List VaultRecord) (gate : ℕ) (cs : List Command) (c : Command) → AllAllowed records gate (cs ++ c ∷ []) → allowed c (replayed records cs) (gate + length (file_of cs)) ≡ Ok tt
allowed_last records gate [] c all = let e : gate ≡ gate + 0 = omega arith in subst (λ (n : ℕ). allowed c records n ≡ Ok tt) e all.0
allowed_last records gate (x ∷ cs) c all =
    let e : gate + length (frame x) + length (file_of cs) ≡ gate + length (frame x ++ file_of cs) = omega (arith, length-append (frame x) (file_of cs)) in
    subst (λ (n : ℕ). allowed c (replayed (after x records) cs) n ≡ Ok tt) e (allowed_last (after x records) (gate + length (frame x)) cs c all.1)

pub accepted_then : (cs : List Command) (c : Command) → allowed c (vault cs) (length (file_of cs)) ≡ Ok tt → if_accepted cs c ≡ c ∷ []
accepted_then cs c ok = rw ok refl

pub refused_then : (cs : List Command) (c : Command) (fault : VaultFault) → allowed c (vault cs) (length (file_of cs)) ≡ Err fault → if_accepted cs c ≡ []
refused_then cs c fault refused = rw refused refl

-- a file of these commands or of one more is one of a front
front_of : (cs : List Command) (c : Command) (file : List ℕ) → IsBeforeOrAfter cs c file → HasFront cs (c ∷ []) file
front_of cs c file (inl before) = (0, subst (λ (l : List Command). IsVault file l) (sym (append-nil cs)) before)
front_of cs c file (inr behind) =
    let e : 0 + length (file_of cs) ≡ length (file_of cs) = omega arith in
    let ok = subst (λ (n : ℕ). allowed c (vault cs) n ≡ Ok tt) e (allowed_last [] 0 cs c behind.accepted) in
    let one : accepted cs (c ∷ []) ≡ c ∷ [] = ap (λ (l : List Command). l ++ []) (accepted_then cs c ok) in
    (1, subst (λ (l : List Command). IsVault file (cs ++ take 1 l)) (sym one) behind)

-- a front of some is a front of more
pub front_more : (cs xs ys : List Command) (file : List ℕ) → HasFront cs xs file → HasFront cs (xs ++ ys) file
front_more cs xs ys file front =
    let n = front.0 in
    let all = accepted cs xs in
    let k = min n (length all) in
    let same : take n all ≡ take k (accepted cs (xs ++ ys)) =
    sym (take_min n all)
    ∙ sym (take-append-le k all (accepted (cs ++ all) ys) (omega arith))
    ∙ ap (λ (l : List Command). take k l) (sym (accepted-append cs xs ys)) in
    (k, subst (λ (l : List Command). IsVault file (cs ++ l)) same front.1)

-- and so is a front behind all of some
pub front_behind : (cs xs ys : List Command) (file : List ℕ) → HasFront (cs ++ accepted cs xs) ys file → HasFront cs (xs ++ ys) file
front_behind cs xs ys file front =
    let n = front.0 in
    let all = accepted cs xs in
    let more = accepted (cs ++ all) ys in
    let long : length all + n ≡ length all + n = refl in
    let same : (cs ++ all) ++ take n more ≡ cs ++ take (length all + n) (accepted cs (xs ++ ys)) =
    append_assoc cs all (take n more)
    ∙ ap (λ (l : List Command). cs ++ l) (sym (take_past all more n) ∙ ap (λ (l : List Command). take (length all + n) l) (sym (accepted-append cs xs ys))) in
    (length all + n, subst (λ (l : List Command). IsVault file l) same front.1)
  where
    take_past : (xs ys : List Command) (n : ℕ) → take (length xs + n) (xs ++ ys) ≡ xs ++ take n ys
    take_past [] ys n = let e : 0 + n ≡ n = omega arith in ap (λ (k : ℕ). take k ys) e
    take_past (x ∷ xs) ys n = let e : suc (length xs) + n ≡ suc (length xs + n) = omega arith in rw e (ap (λ (l : List Command). x ∷ l) (take_past xs ys n))

module _ {D : Type 0} (state : D → DiskState) (may_leave : D → List ℕ → Type 0) (left_since : D → ℕ → List ℕ → Type 0) where
  abbrev Stands : KeyVault D → List Command → Type 0
  Stands v cs = StandsFor state may_leave left_since v cs

  abbrev Serve : KeyVault D → KeyVault D → List Command → Result (Unit {0}) VaultFault → Type 0
  Serve old new commands result = Serves state may_leave left_since old new commands result

  abbrev Commit : KeyVault D → KeyVault D → Command → Result (Unit {0}) VaultFault → Type 0
  Commit old new c result = Commits state may_leave left_since old new c result

  abbrev Leave : D → D → (List ℕ → Type 0) → Type 0
  Leave old new P = Leaves state may_leave left_since old new P

  kept_stands : (old new : KeyVault D) (cs : List Command) → Kept state may_leave left_since old new → Stands old cs → Stands new cs
  kept_stands old new cs kept stands = record {
    opened = kept.must_reopen ∙ stands.opened;
    rests = still_rests state may_leave left_since old.disk new.disk new.gate cs kept.disk (subst (λ (n : ℕ). Rests (state old.disk) (may_leave old.disk) n cs) (sym kept.gate) stands.rests);
    records = kept.records ∙ stands.records;
  }

  -- the rules at the records and the gate of a vault that stands for commands
  rules_at : (v : KeyVault D) (cs : List Command) (c : Command) → Stands v cs → allowed c v.records.items v.gate ≡ allowed c (vault cs) (length (file_of cs))
  rules_at v cs c stands = ap (λ (records : List VaultRecord). allowed c records v.gate) stands.records ∙ ap (λ (n : ℕ). allowed c (vault cs) n) stands.rests.at

  leaves_front : (old new : KeyVault D) (c : Command) (result : Result (Unit {0}) VaultFault) → Commit old new c result → (cs : List Command) → Stands old cs → Leave old.disk new.disk (HasFront cs (c ∷ []))
  leaves_front old new c result commits cs stands = weaker (λ d. (state d).moment) left_since old.disk new.disk (IsBeforeOrAfter cs c) (HasFront cs (c ∷ [])) (front_of cs c) (commits.any_moment cs stands)

  refused_serves : (old new : KeyVault D) (c : Command) (fault : VaultFault) → Commit old new c (Err fault) → fault ≢ Disk
      → ((cs : List Command) → Stands old cs → allowed c old.records.items old.gate ≡ Err fault) → Serve old new (c ∷ []) (Ok tt)
  refused_serves old new c fault commits other rules = record {
    gate = commits.gate;
    acknowledged = λ cs stands.
        let refused = sym (rules_at old cs c stands) ∙ rules cs stands in
        let none : accepted cs (c ∷ []) ≡ [] = ap (λ (l : List Command). l ++ []) (refused_then cs c fault refused) in
        subst (λ (l : List Command). Stands new l) (sym (append-nil cs) ∙ ap (λ (l : List Command). cs ++ l) (sym none)) (kept_stands old new cs (commits.kept other) stands);
    any_moment = leaves_front old new c (Err fault) commits;
    cause = record { later = commits.cause.later; failed = λ is. absurd cc };
  }

  stopped_serves : (old new : KeyVault D) (c : Command) (fault : VaultFault) → Commit old new c (Err fault) → Serve old new (c ∷ []) (Err fault)
  stopped_serves old new c fault commits = record {
    gate = commits.gate;
    acknowledged = tt;
    any_moment = leaves_front old new c (Err fault) commits;
    cause = record { later = commits.cause.later; failed = commits.cause.failed };
  }

  -- what is passed over was refused by a rule
  pub passed_serves : (old new : KeyVault D) (c : Command) (result : Result (Unit {0}) VaultFault) → Commit old new c result → Serve old new (c ∷ []) (passed result)
  passed_serves old new c (Ok x) commits = record {
    gate = commits.gate;
    acknowledged = λ cs stands.
        let ok : allowed c (vault cs) (length (file_of cs)) ≡ Ok tt = sym (rules_at old cs c stands) ∙ allowed_is (allowed c old.records.items old.gate) (commits.answer.tried stands.opened) in
        let one : accepted cs (c ∷ []) ≡ c ∷ [] = ap (λ (l : List Command). l ++ []) (accepted_then cs c ok) in
        subst (λ (l : List Command). Stands new (cs ++ l)) (sym one) (commits.acknowledged cs stands);
    any_moment = leaves_front old new c (Ok x) commits;
    cause = record { later = commits.cause.later; failed = λ is. absurd cc };
  }
    where
      allowed_is : (r : Result (Unit {0}) VaultFault) → IsOk r → r ≡ Ok tt
      allowed_is (Ok x) ok = refl
      allowed_is (Err e) ok = absurd cc
  passed_serves old new c (Err MustReopen) commits = stopped_serves old new c MustReopen commits
  passed_serves old new c (Err Label) commits = refused_serves old new c Label commits (λ is. absurd cc) (λ cs stands. commits.answer.tried stands.opened)
  passed_serves old new c (Err Licence) commits = refused_serves old new c Licence commits (λ is. absurd cc) (λ cs stands. commits.answer.tried stands.opened)
  passed_serves old new c (Err Exists) commits = refused_serves old new c Exists commits (λ is. absurd cc) (λ cs stands. commits.answer.tried stands.opened)
  passed_serves old new c (Err Unknown) commits = refused_serves old new c Unknown commits (λ is. absurd cc) (λ cs stands. commits.answer.tried stands.opened)
  passed_serves old new c (Err NotHeld) commits = refused_serves old new c NotHeld commits (λ is. absurd cc) (λ cs stands. commits.answer.tried stands.opened)
  passed_serves old new c (Err NotReleasing) commits = refused_serves old new c NotReleasing commits (λ is. absurd cc) (λ cs stands. commits.answer.tried stands.opened)
  passed_serves old new c (Err Full) commits = refused_serves old new c Full commits (λ is. absurd cc) (λ cs stands. commits.answer.tried stands.opened)
  passed_serves old new c (Err Disk) commits = stopped_serves old new c Disk commits
  passed_serves old new c (Err OutOfMemory) commits = stopped_serves old new c OutOfMemory commits

  -- no command yet
  pub none_served : (v : KeyVault D) → ((c : List ℕ) → left_since v.disk (state v.disk).moment c → may_leave v.disk c) → HasGate (state v.disk) v.gate v.must_reopen → Serve v v [] (Ok tt)
  none_served v only_now gate = record {
    gate = gate;
    acknowledged = λ cs stands. subst (λ (l : List Command). Stands v l) (sym (append-nil cs)) stands;
    any_moment = λ cs stands. started (λ d. (state d).moment) left_since v.disk (HasFront cs []) (λ file left.
        let is = stands.rests.durable file (only_now file left) in
        (0, subst (λ (l : List Command). IsVault file l) (sym (append-nil cs)) (subst (λ (f : List ℕ). IsVault f cs) (sym is) stands.rests.file)));
    cause = record { later = omega arith; failed = λ is. absurd cc };
  }

  -- one command more
  pub serves_more : (old mid new : KeyVault D) (xs : List Command) (c : Command) (result : Result (Unit {0}) VaultFault) → Serve old mid xs (Ok tt) → Serve mid new (c ∷ []) result
      → Serve old new (xs ++ c ∷ []) result
  serves_more old mid new xs c result so_far next = record {
    gate = next.gate;
    acknowledged = on_ok result next.acknowledged;
    any_moment = λ cs stands.
        then_on (λ d. (state d).moment) left_since old.disk mid.disk new.disk (HasFront cs xs) (HasFront (cs ++ accepted cs xs) (c ∷ [])) (HasFront cs (xs ++ c ∷ []))
        (front_more cs xs (c ∷ [])) (front_behind cs xs (c ∷ [])) (so_far.any_moment cs stands) (next.any_moment (cs ++ accepted cs xs) (so_far.acknowledged cs stands));
    cause = record {
      later = omega (arith, so_far.cause.later, next.cause.later);
      failed = λ is. let rose = next.cause.failed is in omega (arith, so_far.cause.later, rose);
    };
  }
    where
      on_ok : (r : Result (Unit {0}) VaultFault) → OnOk r ((cs : List Command) → Stands mid cs → Stands new (cs ++ accepted cs (c ∷ [])))
          → OnOk r ((cs : List Command) → Stands old cs → Stands new (cs ++ accepted cs (xs ++ c ∷ [])))
      on_ok (Ok x) f = λ cs stands.
          let all = accepted cs xs in
          let same : (cs ++ all) ++ accepted (cs ++ all) (c ∷ []) ≡ cs ++ accepted cs (xs ++ c ∷ []) = append_assoc cs all (accepted (cs ++ all) (c ∷ [])) ∙ ap (λ (l : List Command). cs ++ l) (sym (accepted-append cs xs (c ∷ []))) in
          subst (λ (l : List Command). Stands new l) same (f (cs ++ all) (so_far.acknowledged cs stands))
      on_ok (Err e) f = tt

  -- a run that ended early
  pub serves_front : (old new : KeyVault D) (xs ys : List Command) (fault : VaultFault) → Serve old new xs (Err fault) → Serve old new (xs ++ ys) (Err fault)
  serves_front old new xs ys fault serves = record {
    gate = serves.gate;
    acknowledged = tt;
    any_moment = λ cs stands. weaker (λ d. (state d).moment) left_since old.disk new.disk (HasFront cs xs) (HasFront cs (xs ++ ys)) (front_more cs xs ys) (serves.any_moment cs stands);
    cause = serves.cause;
  }
