-- What the calls of a desk add to the list that a pass has seen, and to its own entries.
use Rattle.std.specs.Prelude.{◌≡◌, ℕ, List, [], ◌∷◌, ◌++◌, length, IsTrue, Contains, Result, Ok, Err}
use mathlib.Core.List.{IsPrefix}
use Rattle.eme_types.specs.WellFormed.{is_well_formed}
use Rattle.eme_types.specs.declared.entry.Entry.{Entry}
use Rattle.eme_types.specs.declared.entry.Entry.TheVariants.{Claim, Deliver, GiveUp, Publish, PassClear}
use Rattle.eme_types.specs.declared.entry.Verdict.{Verdict}
use Rattle.key_claims.specs.declared.claim.Claim.{Claim as Held}
use Rattle.key_claims.specs.declared.claim.Published.{Published}
use Rattle.key_claims.specs.declared.claim.NotReady.{NotReady}
use Rattle.decrypt_workers.specs.declared.desk.Given.{Given}
use Rattle.decrypt_workers.specs.declared.desk.Given.TheVariants.{Work, Idle, OutOfMemory}

-- entries with their places in a list, which count from 1
abbrev pub Placed : Type 0
Placed = List (ℕ × Entry)

-- one entry with P was added at the end, behind what others may have added, and is the one new own entry
pub record Adds (P : Entry → Type 0) (s : List Entry) (o : Placed) (s' : List Entry) (o' : Placed) : Type 0 where
  pub before : List Entry
  pub entry : Entry
  pub later : IsPrefix s before
  pub last : s' ≡ before ++ entry ∷ []
  pub is : P entry
  pub own : o' ≡ o ++ (length s', entry) ∷ []

-- nothing was added by this call
pub record Refuses (s : List Entry) (o : Placed) (s' : List Entry) (o' : Placed) : Type 0 where
  pub later : IsPrefix s s'
  pub own : o' ≡ o

-- the entry delivers or gives up the claim at the place
abbrev pub EndsClaim : Entry → ℕ → Type 0
EndsClaim (Deliver p verdict) place = p ≡ place
EndsClaim (GiveUp p) place = p ≡ place
EndsClaim _ place = ⊥

-- no own entry delivers the claim at the place or gives it up
abbrev pub Unended : ℕ → Placed → Type 0
Unended place own = (q : ℕ) (e : Entry) → Contains own (q, e) → EndsClaim e place → ⊥

-- the entry is that of the claim
abbrev pub IsClaim : Held → Entry → Type 0
IsClaim c e = (kid : List ℕ) × (e ≡ Claim c.worker c.track c.index c.session kid)

-- the entry delivers the claim at the place
abbrev pub IsDeliver : ℕ → Entry → Type 0
IsDeliver place e = (verdict : Verdict) × (e ≡ Deliver place verdict)

-- the entry gives the claim at the place up
abbrev pub IsGiveUp : ℕ → Entry → Type 0
IsGiveUp place e = e ≡ GiveUp place

-- the entry publishes this sample
abbrev pub IsPublish : Published → Entry → Type 0
IsPublish p e = (place : ℕ) × (e ≡ Publish p.track p.index place)

-- the entry lets this clear sample pass
abbrev pub IsPassClear : Published → Entry → Type 0
IsPassClear p e = e ≡ PassClear p.track p.index

-- a claim that was given to a pass: its place is the length of the list, it is the worker's, and nothing ended it
pub record Gives (worker : ℕ) (given : Held → Type 0) (s : List Entry) (o : Placed) (c : Held) : Type 0 where
  pub given_ : given c
  pub place : c.place ≡ length s
  pub worker_ : c.worker ≡ worker
  pub formed : IsTrue (is_well_formed c.sample)
  pub unended : Unended c.place o

-- what a claim answers and leaves
abbrev pub Claims : {I S : Type 0} → ℕ → (Held → Type 0) → List Entry → Placed → List Entry → Placed → Given I S → Type 0
Claims worker given s o s' o' (Work c) = Adds (IsClaim c) s o s' o' × Gives worker given s' o' c
Claims worker given s o s' o' (Idle i) = Refuses s o s' o'
Claims worker given s o s' o' (OutOfMemory m) = Refuses s o s' o'

-- what a publication answers and leaves
abbrev pub Publishes : List Entry → Placed → List Entry → Placed → Result Published NotReady → Type 0
Publishes s o s' o' (Ok p) = Adds (IsPublish p) s o s' o'
Publishes s o s' o' (Err e) = Refuses s o s' o'

-- what the passing of a clear sample answers and leaves
abbrev pub PassesClear : List Entry → Placed → List Entry → Placed → Result Published NotReady → Type 0
PassesClear s o s' o' (Ok p) = Adds (IsPassClear p) s o s' o'
PassesClear s o s' o' (Err e) = Refuses s o s' o'
