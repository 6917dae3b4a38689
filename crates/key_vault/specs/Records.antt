-- The records of a vault, in order of storing, and what the commands make of them.
use Rattle.std.specs.Prelude.{ℕ, List, [], ◌∷◌, ◌++◌, map, bytes_eq, if◌then◌else◌, Option, Some, None, Result, Ok, Err, ◌≡◌, ◌<◌, length, take, slice_index_or}
use Rattle.init_data.specs.InitData.{first_occurrences}
use Rattle.eme_types.specs.declared.kid.KeyBytes.{KeyBytes}
use Rattle.clearkey_json.specs.declared.key_set.KeySet.{KeySet}
use Rattle.clearkey_json.specs.declared.key_set.KeySetFault.{KeySetFault}
use Rattle.clearkey_json.specs.KeySet.{key_set}
use Rattle.key_vault.specs.declared.stored.VaultRecord.{VaultRecord}
use Rattle.key_vault.specs.declared.stored.VaultRecord.TheVariants.{Held, Releasing}
use Rattle.key_vault.specs.declared.command.Command.{Command}
use Rattle.key_vault.specs.declared.command.Command.TheVariants.{Store, Release, Ack}

abbrev pub label_of : VaultRecord → List ℕ
label_of (Held label licence) = label
label_of (Releasing label kids) = label

-- the record of that label, the first of them
abbrev pub record_of : List ℕ → List VaultRecord → Option VaultRecord
record_of label [] = None
record_of label (r ∷ rs) = if bytes_eq (label_of r) label then Some r else record_of label rs

-- it stands at i
pub record StandsAt (records : List VaultRecord) (label : List ℕ) (i : ℕ) : Type 0 where
  pub within : i < length records
  pub first : record_of label (take i records) ≡ None
  pub named : (d : VaultRecord) → label_of (slice_index_or records i d) ≡ label

-- the key ids of pairs, each once, where it first stands
abbrev pub ids_of : List (List ℕ × KeyBytes) → List (List ℕ)
ids_of pairs = first_occurrences (map (λ pair. pair.0) pairs)

abbrev pub kids_of_set : Result KeySet KeySetFault → List (List ℕ)
kids_of_set (Ok set) = ids_of set.keys
kids_of_set (Err fault) = []

-- the key ids of a licence, each once, where it first stands
abbrev pub kids_in : List ℕ → List (List ℕ)
kids_in licence = kids_of_set (key_set licence)

-- a record as it is once it was let go
abbrev pub released : VaultRecord → VaultRecord
released (Held label licence) = Releasing label (kids_in licence)
released (Releasing label kids) = Releasing label kids

-- the record of that label is let go
abbrev pub with_released : List ℕ → List VaultRecord → List VaultRecord
with_released label [] = []
with_released label (r ∷ rs) = if bytes_eq (label_of r) label then released r ∷ rs else r ∷ with_released label rs

-- the record of that label is gone
abbrev pub without : List ℕ → List VaultRecord → List VaultRecord
without label [] = []
without label (r ∷ rs) = if bytes_eq (label_of r) label then rs else r ∷ without label rs

-- what a command makes of the records
abbrev pub after : Command → List VaultRecord → List VaultRecord
after (Store label licence) records = records ++ Held label licence ∷ []
after (Release label) records = with_released label records
after (Ack label) records = without label records

abbrev pub replayed : List VaultRecord → List Command → List VaultRecord
replayed records [] = records
replayed records (c ∷ cs) = replayed (after c records) cs

-- the records after these commands, the first of them first
abbrev pub vault : List Command → List VaultRecord
vault cs = replayed [] cs
