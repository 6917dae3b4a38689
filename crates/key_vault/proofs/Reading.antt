-- A file of a vault, read frame by frame.
use Rattle.std.proofs.Common.{◌≡◌, ◌≢◌, ◌⊎◌, inl, inr, ℕ, ◌+◌, ◌-◌, ◌<◌, ◌≤◌, List, [], ◌∷◌, ◌++◌, length, take, drop, refl, sym, ◌∙◌, ap, subst, arith, append_assoc, length-append, take-append-drop}
use Rattle.std.specs.Prelude.{Result, Ok}
use Rattle.std.proofs.lemmas.List.{drop_at}
use Rattle.key_vault.specs.Bytes.{command_bytes, length_bytes}
use Rattle.key_vault.specs.Opening.{IsNext}
use Rattle.key_vault.proofs.Vaults.{file_of-push, replayed-push, allowed-push}
use Rattle.key_vault.specs.declared.stored.VaultRecord.{VaultRecord}
use Rattle.key_vault.specs.declared.command.Command.{Command}
use Rattle.key_vault.specs.Records.{after, vault}
use Rattle.key_vault.specs.Rules.{allowed}
use Rattle.key_vault.specs.File.{frame, file_of, AllAllowed, IsVault, IsBroken}

-- the front of the file up to the gate is the open frames of commands, each accepted there, whose records these are
pub record SoFar (file : List ℕ) (gate : ℕ) (records : List VaultRecord) : Type 0 where
  pub commands : List Command
  pub bytes : file ≡ file_of commands ++ drop gate file
  pub at : gate ≡ length (file_of commands)
  pub accepted : AllAllowed [] 0 commands
  pub records_are : records ≡ vault commands
  pub within : gate ≤ length file

pub at_first : (file : List ℕ) → SoFar file 0 []
at_first file = record { commands = []; bytes = refl; at = refl; accepted = tt; records_are = refl; within = omega arith }

-- the file at its gate
at_gate : (file : List ℕ) (gate : ℕ) (records : List VaultRecord) (so_far : SoFar file gate records) (rest : List ℕ) → drop gate file ≡ rest → file ≡ file_of so_far.commands ++ rest
at_gate file gate records so_far rest is = so_far.bytes ∙ ap (λ (l : List ℕ). file_of so_far.commands ++ l) is

pub reads_on : (file behind : List ℕ) (gate first n : ℕ) (old new : List VaultRecord) → SoFar file gate old → drop gate file ≡ first ∷ behind → first ≡ 1 → IsNext behind old new gate n → SoFar file (gate + (1 + n)) new
reads_on file behind gate first n old new so_far is opened next =
    let cs = so_far.commands in
    let c = next.command in
    let more = drop n behind in
    let lengths = length_bytes (length (command_bytes c)) in
    let framed : first ∷ behind ≡ frame c ++ more = ap (λ (k : ℕ). k ∷ behind) opened ∙ ap (λ (l : List ℕ). 1 ∷ l) next.stands.stands in
    let whole : file ≡ file_of (cs ++ c ∷ []) ++ more =
    at_gate file gate old so_far (first ∷ behind) is
    ∙ ap (λ (l : List ℕ). file_of cs ++ l) framed
    ∙ sym (append_assoc (file_of cs) (frame c) more)
    ∙ ap (λ (l : List ℕ). l ++ more) (sym (file_of-push cs c)) in
    let long : length (frame c) ≡ 1 + n = omega (arith, next.stands.long, length-append lengths (command_bytes c)) in
    let at : gate + (1 + n) ≡ length (file_of (cs ++ c ∷ [])) = omega (arith, so_far.at, long, ap length (file_of-push cs c), length-append (file_of cs) (frame c)) in
    let rest : drop (gate + (1 + n)) file ≡ more = ap (λ (l : List ℕ). drop (gate + (1 + n)) l) whole ∙ drop_at (file_of (cs ++ c ∷ [])) more (gate + (1 + n)) (sym at) in
    let accepted : allowed c (vault cs) (0 + length (file_of cs)) ≡ Ok tt =
    let e : gate ≡ 0 + length (file_of cs) = omega (arith, so_far.at) in
    subst (λ (k : ℕ). allowed c (vault cs) k ≡ Ok tt) e (subst (λ (rs : List VaultRecord). allowed c rs gate ≡ Ok tt) so_far.records_are next.accepted) in
    record {
      commands = cs ++ c ∷ [];
      bytes = whole ∙ ap (λ (l : List ℕ). file_of (cs ++ c ∷ []) ++ l) (sym rest);
      at = at;
      accepted = allowed-push [] 0 cs c so_far.accepted accepted;
      records_are = next.records ∙ ap (after c) so_far.records_are ∙ sym (replayed-push [] cs c);
      within = omega (arith, at, ap length whole, length-append (file_of (cs ++ c ∷ [])) more);
    }
