-- The file of a vault: frames, each a gate, a length and a command. A gate of 1 is open; any other ends the file.
use Rattle.std.specs.Prelude.{ℕ, ◌+◌, ◌≡◌, ◌≢◌, ◌⊎◌, List, [], ◌∷◌, ◌++◌, length, Result, Ok}
use Rattle.std.specs.List.{flat_map}
use Rattle.std.specs.Int.{w32, to_be_bytes}
use Rattle.key_vault.specs.declared.stored.VaultRecord.{VaultRecord}
use Rattle.key_vault.specs.declared.command.Command.{Command}
use Rattle.key_vault.specs.declared.command.Command.TheVariants.{Store, Release, Ack}
use Rattle.key_vault.specs.declared.fault.VaultFault.{VaultFault}
use Rattle.key_vault.specs.Bytes.{command_bytes, length_bytes}
use Rattle.key_vault.specs.Records.{after, vault}
use Rattle.key_vault.specs.Rules.{allowed}

-- an open gate, the length of the command, and the command
abbrev pub frame : Command → List ℕ
frame c = 1 ∷ length_bytes (length (command_bytes c)) ++ command_bytes c

-- the open frames of these commands
abbrev pub file_of : List Command → List ℕ
file_of cs = flat_map frame cs

-- each command is accepted behind those before it
abbrev pub AllAllowed : List VaultRecord → ℕ → List Command → Type 0
AllAllowed records gate [] = Unit {0}
AllAllowed records gate (c ∷ cs) = (allowed c records gate ≡ Ok tt) × AllAllowed (after c records) (gate + length (frame c)) cs

-- the file is the open frames of these commands, each accepted there, and behind them a gate that is not open
pub record IsVault (file : List ℕ) (cs : List Command) : Type 0 where
  pub gate : ℕ
  pub rest : List ℕ
  pub closed : gate ≢ 1
  pub bytes : file ≡ file_of cs ++ gate ∷ rest
  pub accepted : AllAllowed [] 0 cs

-- nothing, or an open gate that is not followed by a whole command that is accepted at that place behind these
abbrev pub HasNoFrame : List Command → ℕ → List ℕ → Type 0
HasNoFrame cs place tail = (tail ≡ []) ⊎ ((rest : List ℕ) × (tail ≡ 1 ∷ rest) × ((c : Command) (more : List ℕ) → allowed c (vault cs) place ≡ Ok tt → tail ≡ frame c ++ more → ⊥))

-- behind accepted open frames the file ends at the place of a gate, or no accepted frame stands at an open one
pub record IsBroken (file : List ℕ) (place : ℕ) : Type 0 where
  pub commands : List Command
  pub tail : List ℕ
  pub bytes : file ≡ file_of commands ++ tail
  pub accepted : AllAllowed [] 0 commands
  pub at : place ≡ length (file_of commands)
  pub broken : HasNoFrame commands place tail
