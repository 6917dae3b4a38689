-- What a disk in memory holds after its writes and syncs, and what a crash may leave of it.
use Rattle.std.specs.Prelude.{ℕ, zero, suc, ◌+◌, ◌≡◌, List, [], ◌∷◌}
use Rattle.vault_disk.specs.declared.step.Step.{Step}
use Rattle.vault_disk.specs.declared.step.Step.TheVariants.{Wrote, Synced}
use Rattle.vault_disk.specs.Disk.{Torn}

-- the byte stands at that place; at the end it is one more, and past the end nothing changes
abbrev pub put_at : List ℕ → ℕ → ℕ → List ℕ
put_at [] zero byte = byte ∷ []
put_at [] (suc place) byte = []
put_at (x ∷ xs) zero byte = byte ∷ xs
put_at (x ∷ xs) (suc place) byte = x ∷ put_at xs place byte

-- what a read gives, what it gave at the last sync that succeeded, and the places written since, the newest first
pub record Content : Type 0 where
  pub seen : List ℕ
  pub synced : List ℕ
  pub written : List ℕ

-- bytes that are all on the disk
abbrev pub begun : List ℕ → Content
begun bytes = record { seen = bytes; synced = bytes; written = [] }

abbrev pub after : Step → Content → Content
after (Wrote place byte) c = record { seen = put_at c.seen place byte; synced = c.synced; written = place ∷ c.written }
after Synced c = record { seen = c.seen; synced = c.seen; written = [] }

-- after these steps, the first of them first
abbrev pub replayed : Content → List Step → Content
replayed c [] = c
replayed c (step ∷ steps) = replayed (after step c) steps

-- the steps of a write
abbrev pub wrote : ℕ → List ℕ → List Step
wrote place [] = []
wrote place (byte ∷ bytes) = Wrote place byte ∷ wrote (place + 1) bytes

-- each byte written since the last sync that succeeded may be torn
abbrev pub IsTorn : List ℕ → List ℕ → List ℕ → Type 0
IsTorn [] synced c = c ≡ synced
IsTorn (place ∷ older) synced c = (d : List ℕ) × IsTorn older synced d × Torn place 1 d c

abbrev pub MayLeave : Content → List ℕ → Type 0
MayLeave content c = IsTorn content.written content.synced c

-- the synced bytes with that byte at every place written since
abbrev pub filled : ℕ → List ℕ → List ℕ → List ℕ
filled byte [] synced = synced
filled byte (place ∷ older) synced = put_at (filled byte older synced) place byte
