-- Claims on longer histories.
use Rattle.std.specs.Prelude.{ℕ, ◌≡◌, List, ◌++◌, slice_get, Some}
use Rattle.eme_types.specs.declared.entry.Entry.{Entry}
use Rattle.key_claims.specs.declared.claim.Claim.{Claim}
use Rattle.cdm_state.specs.Contract.{Stands, IsOpen}
use Rattle.cdm_state.specs.History.{Spends}
use Rattle.cdm_state.specs.Run.{Run}

-- these entries more
abbrev pub with_entries : Run → List Entry → Run
with_entries r es = record r { history = r.history ++ es }

-- none of these entries delivers the claim at the place or gives it up
abbrev pub NoneSpends : List Entry → ℕ → Type 0
NoneSpends es place = (n : ℕ) (e : Entry) → slice_get es n ≡ Some e → Spends e place → ⊥

-- a claim stands in every longer history
abbrev pub StandsOn : Type 0
StandsOn = (r : Run) (es : List Entry) (c : Claim) → Stands r c → Stands (with_entries r es) c

-- it waits for its delivery until it is delivered or given up
abbrev pub StaysOpen : Type 0
StaysOpen = (r : Run) (es : List Entry) (c : Claim) → NoneSpends es c.place → IsOpen r c → IsOpen (with_entries r es) c
