-- Files of vaults, and one command more.
use Rattle.std.proofs.Common.{◌≡◌, ◌≢◌, ◌⊎◌, inl, inr, ⊎_elim, ℕ, ◌+◌, ◌<◌, ◌≤◌, List, [], ◌∷◌, ◌++◌, length, get_or, take, drop, refl, sym, ◌∙◌, ap, subst, arith, append_assoc, length-append, take-append-drop}
use Rattle.std.specs.Prelude.{Result, Ok, IsTrue}
use Rattle.std.specs.List.{flat_map}
use Rattle.std.proofs.lemmas.List.{append-nil, drop_more, length-take-le}
use Rattle.vault_disk.specs.Disk.{DiskState, Only, LeavesOnly}
use Rattle.key_vault.specs.declared.stored.VaultRecord.{VaultRecord}
use Rattle.key_vault.specs.declared.command.Command.{Command}
use Rattle.key_vault.specs.Bytes.{command_bytes, length_bytes, behind_gate}
use Rattle.key_vault.specs.Records.{after, replayed, vault}
use Rattle.key_vault.specs.Rules.{allowed}
use Rattle.key_vault.specs.File.{frame, file_of, AllAllowed, IsVault}
use Rattle.key_vault.specs.Gates.{IsShut, IsOpen, IsShutOrOpen}
use Rattle.key_vault.specs.Crash.{IsBeforeOrAfter}

pub file_of-push : (cs : List Command) (c : Command) → file_of (cs ++ c ∷ []) ≡ file_of cs ++ frame c
file_of-push [] c = append-nil (frame c)
file_of-push (x ∷ cs) c = ap (λ (l : List ℕ). frame x ++ l) (file_of-push cs c) ∙ sym (append_assoc (frame x) (file_of cs) (frame c))

pub replayed-push : (records : List VaultRecord) (cs : List Command) (c : Command) → replayed records (cs ++ c ∷ []) ≡ after c (replayed records cs)
replayed-push records [] c = refl
replayed-push records (x ∷ cs) c = replayed-push (after x records) cs c

pub allowed-push : (records : List VaultRecord) (gate : ℕ) (cs : List Command) (c : Command) → AllAllowed records gate cs → allowed c (replayed records cs) (gate + length (file_of cs)) ≡ Ok tt → AllAllowed records gate (cs ++ c ∷ [])
allowed-push records gate [] c all last = let e : gate + 0 ≡ gate = omega arith in (subst (λ (n : ℕ). allowed c records n ≡ Ok tt) e last, tt)
allowed-push records gate (x ∷ cs) c all last =
    let e : gate + length (frame x ++ file_of cs) ≡ gate + length (frame x) + length (file_of cs) = omega (arith, length-append (frame x) (file_of cs)) in
    (all.0, allowed-push (after x records) (gate + length (frame x)) cs c all.1 (subst (λ (n : ℕ). allowed c (replayed (after x records) cs) n ≡ Ok tt) e last))

pub length_behind : (c : Command) → length (behind_gate c) ≡ length (frame c)
length_behind c =
    let n = length_bytes (length (command_bytes c)) in
    omega (arith, length-append (n ++ command_bytes c) (0 ∷ []), length-append n (command_bytes c))

pub shut_is_vault : (cs : List Command) (file : List ℕ) → AllAllowed [] 0 cs → IsShut (file_of cs) file → IsVault file cs
shut_is_vault cs file all shut = record { gate = shut.0; rest = shut.1; closed = shut.2; bytes = shut.3; accepted = all }

pub open_is_vault : (cs : List Command) (c : Command) (behind file : List ℕ) → behind ≡ behind_gate c → AllAllowed [] 0 cs → allowed c (vault cs) (length (file_of cs)) ≡ Ok tt → IsOpen (file_of cs) behind file → IsVault file (cs ++ c ∷ [])
open_is_vault cs c behind file is all last open_now =
    let rest = open_now.0 in
    let command = length_bytes (length (command_bytes c)) ++ command_bytes c in
    let e : 0 + length (file_of cs) ≡ length (file_of cs) = omega arith in
    record {
      gate = 0;
      rest = rest;
      closed = omega arith;
      bytes =
          open_now.1
          ∙ ap (λ (l : List ℕ). file_of cs ++ 1 ∷ (l ++ rest)) is
          ∙ ap (λ (l : List ℕ). file_of cs ++ 1 ∷ l) (append_assoc command (0 ∷ []) rest)
          ∙ sym (append_assoc (file_of cs) (frame c) (0 ∷ rest))
          ∙ ap (λ (l : List ℕ). l ++ 0 ∷ rest) (sym (file_of-push cs c));
      accepted = allowed-push [] 0 cs c all (subst (λ (n : ℕ). allowed c (vault cs) n ≡ Ok tt) (sym e) last);
    }

pub weaker : {D : Type 0} (moment : D → ℕ) (left_since : D → ℕ → List ℕ → Type 0) (old new : D) (P Q : List ℕ → Type 0) → ((c : List ℕ) → P c → Q c) → LeavesOnly moment left_since old new P → LeavesOnly moment left_since old new Q
weaker moment left_since old new P Q f leaves = record {
  later = leaves.later;
  each = λ c left. f c (leaves.each c left);
  before = λ t c le left. ⊎_elim (λ past. inl past) (λ p. inr (f c p)) (leaves.before t c le left);
}

pub before_or_after : (cs : List Command) (c : Command) (behind file : List ℕ) → behind ≡ behind_gate c → AllAllowed [] 0 cs → allowed c (vault cs) (length (file_of cs)) ≡ Ok tt → IsShutOrOpen (file_of cs) behind file → IsBeforeOrAfter cs c file
before_or_after cs c behind file is all last (inl shut) = inl (shut_is_vault cs file all shut)
before_or_after cs c behind file is all last (inr open_now) = inr (open_is_vault cs c behind file is all last open_now)

-- a file around one of its places
pub around : (file : List ℕ) (n : ℕ) → n < length file → file ≡ take n file ++ get_or file n 0 ∷ drop (n + 1) file
around file n lt = sym (take-append-drop n file) ∙ ap (λ (l : List ℕ). take n file ++ l) (drop_more file n 0 lt)

pub open_long : (front behind file : List ℕ) → IsOpen front behind file → length front + length behind < length file
open_long front behind file open_now =
    omega (arith, ap length open_now.1, length-append front (1 ∷ behind ++ open_now.0), length-append behind open_now.0)
