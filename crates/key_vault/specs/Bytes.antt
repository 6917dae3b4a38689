-- The bytes of a command, and those behind its gate.
use Rattle.std.specs.Prelude.{ℕ, ◌+◌, ◌<◌, ◌^◌, ◌≡◌, List, [], ◌∷◌, ◌++◌, length, drop}
use Rattle.std.specs.Int.{w32, to_be_bytes}
use Rattle.key_vault.specs.declared.command.Command.{Command}
use Rattle.key_vault.specs.declared.command.Command.TheVariants.{Store, Release, Ack}

-- 1, 2 or 3, the label's length, the label, and the licence of a store
abbrev pub command_bytes : Command → List ℕ
command_bytes (Store label licence) = 1 ∷ length label ∷ label ++ licence
command_bytes (Release label) = 2 ∷ length label ∷ label
command_bytes (Ack label) = 3 ∷ length label ∷ label

-- a length as a u32, the highest byte first
abbrev pub length_bytes : ℕ → List ℕ
length_bytes n = to_be_bytes w32 n

-- behind the gate of a command: its length, the command, and the next gate, closed
abbrev pub behind_gate : Command → List ℕ
behind_gate c = length_bytes (length (command_bytes c)) ++ command_bytes c ++ 0 ∷ []

-- behind a gate stand the length of the command, and the command; n bytes together
pub record HasCommand (bytes : List ℕ) (c : Command) (n : ℕ) : Type 0 where
  pub short : length (command_bytes c) < 2 ^ 32
  pub long : n ≡ 4 + length (command_bytes c)
  pub stands : bytes ≡ length_bytes (length (command_bytes c)) ++ command_bytes c ++ drop n bytes

-- behind the gate stands no whole command
abbrev pub HasNoCommand : List ℕ → Type 0
HasNoCommand bytes = (c : Command) (more : List ℕ) → length (command_bytes c) < 2 ^ 32 → bytes ≡ length_bytes (length (command_bytes c)) ++ command_bytes c ++ more → ⊥
