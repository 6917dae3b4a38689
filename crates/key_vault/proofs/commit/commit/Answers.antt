use Rattle.std.proofs.Common.{◌≡◌, ℕ, ◌+◌, [], ◌∷◌, ◌++◌, List, length, drop, inl, refl, sym, ◌∙◌, ap, subst, arith, length-append}
use Rattle.std.specs.Prelude.{IsTrue}
use Rattle.vault_disk.specs.Disk.{DiskState, Holds, Only}
use Rattle.key_vault.specs.Gates.{IsShut, IsShutOrOpen}
use Rattle.key_vault.proofs.Moments.{started, goes_on}
use Rattle.key_vault.proofs.Shut.{staged, opened, first_left, second_left}
use Rattle.key_vault.proofs.commit.commit.Goals as goal

pub returns-in_err-write_at-clause-any_moment : goal.returns-in_err-write_at-clause-any_moment
returns-in_err-write_at-clause-any_moment g c = λ told front rest gt shut is long only.
    let old = c.args.disk.now in
    let behind = c.args.behind.now in
    let P = IsShutOrOpen front behind in
    let first = first_left front rest gt c.args.gate long (length behind) (g.D.VaultDisk.state old).seen _ _ shut is only (c.write_at.ensures.crash told) in
    let at_start = started (λ d. (g.D.VaultDisk.state d).moment) g.D.VaultDisk.left_since old P (λ f left. inl (gt, rest, shut, only f (g.met.D.VaultDisk.only_now old f left) ∙ is)) in
    let d1 = c.write_at.new.self in
    let wrote = goes_on (λ d. (g.D.VaultDisk.state d).moment) g.D.VaultDisk.left_since old old d1 P _ at_start (c.write_at.ensures.time told) (λ f now. inl (first f now)) in
    wrote

pub returns-in_err-sync-clause-any_moment : goal.returns-in_err-sync-clause-any_moment
returns-in_err-sync-clause-any_moment g c = λ told front rest gt shut is long only.
    let old = c.args.disk.now in
    let behind = c.args.behind.now in
    let P = IsShutOrOpen front behind in
    let first = first_left front rest gt c.args.gate long (length behind) (g.D.VaultDisk.state old).seen _ _ shut is only (c.write_at.ensures.crash told) in
    let at_start = started (λ d. (g.D.VaultDisk.state d).moment) g.D.VaultDisk.left_since old P (λ f left. inl (gt, rest, shut, only f (g.met.D.VaultDisk.only_now old f left) ∙ is)) in
    let d1 = c.write_at.new.self in
    let wrote = goes_on (λ d. (g.D.VaultDisk.state d).moment) g.D.VaultDisk.left_since old old d1 P _ at_start (c.write_at.ensures.time told) (λ f now. inl (first f now)) in
    let d2 = c.sync.new.self in
    let told1 = subst (λ b. IsTrue b) (sym c.write_at.ensures.tells) told in
    let synced = goes_on (λ d. (g.D.VaultDisk.state d).moment) g.D.VaultDisk.left_since old d1 d2 P _ wrote (c.sync.ensures.time told1) (λ f now. inl (first f (c.sync.ensures.crash told1 f now))) in
    synced

pub returns-in_err-write_at-2-clause-any_moment : goal.returns-in_err-write_at-2-clause-any_moment
returns-in_err-write_at-2-clause-any_moment g c = λ told front rest gt shut is long only.
    let old = c.args.disk.now in
    let behind = c.args.behind.now in
    let P = IsShutOrOpen front behind in
    let first = first_left front rest gt c.args.gate long (length behind) (g.D.VaultDisk.state old).seen _ _ shut is only (c.write_at.ensures.crash told) in
    let at_start = started (λ d. (g.D.VaultDisk.state d).moment) g.D.VaultDisk.left_since old P (λ f left. inl (gt, rest, shut, only f (g.met.D.VaultDisk.only_now old f left) ∙ is)) in
    let d1 = c.write_at.new.self in
    let wrote = goes_on (λ d. (g.D.VaultDisk.state d).moment) g.D.VaultDisk.left_since old old d1 P _ at_start (c.write_at.ensures.time told) (λ f now. inl (first f now)) in
    let d2 = c.sync.new.self in
    let told1 = subst (λ b. IsTrue b) (sym c.write_at.ensures.tells) told in
    let synced = goes_on (λ d. (g.D.VaultDisk.state d).moment) g.D.VaultDisk.left_since old d1 d2 P _ wrote (c.sync.ensures.time told1) (λ f now. inl (first f (c.sync.ensures.crash told1 f now))) in
    let tail = drop (c.args.gate + 1 + length behind) (front ++ gt ∷ rest) in
    let holds = subst (λ (f : List ℕ). Holds f (c.args.gate + 1) behind (g.D.VaultDisk.state d1).seen) is (c.in_ok-write_at.ensures.written told) in
    let stands : (g.D.VaultDisk.state d1).seen ≡ front ++ gt ∷ (behind ++ tail) = staged front rest gt c.args.gate long behind _ holds in
    let told2 = subst (λ b. IsTrue b) (sym c.sync.ensures.tells) told1 in
    let second = second_left front (behind ++ tail) gt c.args.gate long behind tail (g.D.VaultDisk.state d1).seen _ _ refl stands (c.in_ok-sync.ensures.durable told1) (c.write_at-2.ensures.crash told2) in
    let d3 = c.write_at-2.new.self in
    let written = goes_on (λ d. (g.D.VaultDisk.state d).moment) g.D.VaultDisk.left_since old d2 d3 P _ synced (c.write_at-2.ensures.time told2) (λ f now. second f now) in
    written

pub returns-in_err-sync-2-clause-any_moment : goal.returns-in_err-sync-2-clause-any_moment
returns-in_err-sync-2-clause-any_moment g c = λ told front rest gt shut is long only.
    let old = c.args.disk.now in
    let behind = c.args.behind.now in
    let P = IsShutOrOpen front behind in
    let first = first_left front rest gt c.args.gate long (length behind) (g.D.VaultDisk.state old).seen _ _ shut is only (c.write_at.ensures.crash told) in
    let at_start = started (λ d. (g.D.VaultDisk.state d).moment) g.D.VaultDisk.left_since old P (λ f left. inl (gt, rest, shut, only f (g.met.D.VaultDisk.only_now old f left) ∙ is)) in
    let d1 = c.write_at.new.self in
    let wrote = goes_on (λ d. (g.D.VaultDisk.state d).moment) g.D.VaultDisk.left_since old old d1 P _ at_start (c.write_at.ensures.time told) (λ f now. inl (first f now)) in
    let d2 = c.sync.new.self in
    let told1 = subst (λ b. IsTrue b) (sym c.write_at.ensures.tells) told in
    let synced = goes_on (λ d. (g.D.VaultDisk.state d).moment) g.D.VaultDisk.left_since old d1 d2 P _ wrote (c.sync.ensures.time told1) (λ f now. inl (first f (c.sync.ensures.crash told1 f now))) in
    let tail = drop (c.args.gate + 1 + length behind) (front ++ gt ∷ rest) in
    let holds = subst (λ (f : List ℕ). Holds f (c.args.gate + 1) behind (g.D.VaultDisk.state d1).seen) is (c.in_ok-write_at.ensures.written told) in
    let stands : (g.D.VaultDisk.state d1).seen ≡ front ++ gt ∷ (behind ++ tail) = staged front rest gt c.args.gate long behind _ holds in
    let told2 = subst (λ b. IsTrue b) (sym c.sync.ensures.tells) told1 in
    let second = second_left front (behind ++ tail) gt c.args.gate long behind tail (g.D.VaultDisk.state d1).seen _ _ refl stands (c.in_ok-sync.ensures.durable told1) (c.write_at-2.ensures.crash told2) in
    let d3 = c.write_at-2.new.self in
    let written = goes_on (λ d. (g.D.VaultDisk.state d).moment) g.D.VaultDisk.left_since old d2 d3 P _ synced (c.write_at-2.ensures.time told2) (λ f now. second f now) in
    let d4 = c.sync-2.new.self in
    let told3 = subst (λ b. IsTrue b) (sym c.write_at-2.ensures.tells) told2 in
    let ended = goes_on (λ d. (g.D.VaultDisk.state d).moment) g.D.VaultDisk.left_since old d3 d4 P _ written (c.sync-2.ensures.time told3) (λ f now. second f (c.sync-2.ensures.crash told3 f now)) in
    ended

pub returns-clause-any_moment : goal.returns-clause-any_moment
returns-clause-any_moment g c = λ told front rest gt shut is long only.
    let old = c.args.disk.now in
    let behind = c.args.behind.now in
    let P = IsShutOrOpen front behind in
    let first = first_left front rest gt c.args.gate long (length behind) (g.D.VaultDisk.state old).seen _ _ shut is only (c.write_at.ensures.crash told) in
    let at_start = started (λ d. (g.D.VaultDisk.state d).moment) g.D.VaultDisk.left_since old P (λ f left. inl (gt, rest, shut, only f (g.met.D.VaultDisk.only_now old f left) ∙ is)) in
    let d1 = c.write_at.new.self in
    let wrote = goes_on (λ d. (g.D.VaultDisk.state d).moment) g.D.VaultDisk.left_since old old d1 P _ at_start (c.write_at.ensures.time told) (λ f now. inl (first f now)) in
    let d2 = c.sync.new.self in
    let told1 = subst (λ b. IsTrue b) (sym c.write_at.ensures.tells) told in
    let synced = goes_on (λ d. (g.D.VaultDisk.state d).moment) g.D.VaultDisk.left_since old d1 d2 P _ wrote (c.sync.ensures.time told1) (λ f now. inl (first f (c.sync.ensures.crash told1 f now))) in
    let tail = drop (c.args.gate + 1 + length behind) (front ++ gt ∷ rest) in
    let holds = subst (λ (f : List ℕ). Holds f (c.args.gate + 1) behind (g.D.VaultDisk.state d1).seen) is (c.in_ok-write_at.ensures.written told) in
    let stands : (g.D.VaultDisk.state d1).seen ≡ front ++ gt ∷ (behind ++ tail) = staged front rest gt c.args.gate long behind _ holds in
    let told2 = subst (λ b. IsTrue b) (sym c.sync.ensures.tells) told1 in
    let second = second_left front (behind ++ tail) gt c.args.gate long behind tail (g.D.VaultDisk.state d1).seen _ _ refl stands (c.in_ok-sync.ensures.durable told1) (c.write_at-2.ensures.crash told2) in
    let d3 = c.write_at-2.new.self in
    let written = goes_on (λ d. (g.D.VaultDisk.state d).moment) g.D.VaultDisk.left_since old d2 d3 P _ synced (c.write_at-2.ensures.time told2) (λ f now. second f now) in
    let d4 = c.sync-2.new.self in
    let told3 = subst (λ b. IsTrue b) (sym c.write_at-2.ensures.tells) told2 in
    let ended = goes_on (λ d. (g.D.VaultDisk.state d).moment) g.D.VaultDisk.left_since old d3 d4 P _ written (c.sync-2.ensures.time told3) (λ f now. second f (c.sync-2.ensures.crash told3 f now)) in
    ended

pub returns-clause-written : goal.returns-clause-written
returns-clause-written g c = λ told front rest gt is long.
    let behind = c.args.behind.now in
    let d1 = c.write_at.new.self in
    let told1 = subst (λ b. IsTrue b) (sym c.write_at.ensures.tells) told in
    let tail = drop (c.args.gate + 1 + length behind) (front ++ gt ∷ rest) in
    let holds = subst (λ (f : List ℕ). Holds f (c.args.gate + 1) behind (g.D.VaultDisk.state d1).seen) is (c.in_ok-write_at.ensures.written told) in
    let stands : (g.D.VaultDisk.state d1).seen ≡ front ++ gt ∷ (behind ++ tail) = staged front rest gt c.args.gate long behind _ holds in
    let told2 = subst (λ b. IsTrue b) (sym c.sync.ensures.tells) told1 in
    let told3 = subst (λ b. IsTrue b) (sym c.write_at-2.ensures.tells) told2 in
    let holds_gate = subst (λ (f : List ℕ). Holds f c.args.gate (1 ∷ []) (g.D.VaultDisk.state c.write_at-2.new.self).seen) (c.sync.ensures.seen ∙ stands) (c.in_ok-write_at-2.ensures.written told2) in
    let open_now = opened front (behind ++ tail) gt c.args.gate long behind tail _ refl holds_gate in
    let seen = c.sync-2.ensures.seen in (
      (open_now.0, seen ∙ open_now.1),
      subst (λ (f : List ℕ). Only f (g.D.VaultDisk.may_leave c.sync-2.new.self)) (sym seen) (c.in_ok-sync-2.ensures.durable told3),
    )
