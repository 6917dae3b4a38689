-- What a disk shows of itself, what its calls do to that, and what a crash may do between two syncs.
use Rattle.std.specs.Prelude.{ℕ, ◌≡◌, ◌⊎◌, ◌≤◌, ◌+◌, ◌-◌, ◌^◌, min, max, Bool, List, ◌++◌, length, take, drop, Result, OnErr}
use Rattle.vault_disk.specs.declared.disk.DiskFailed.{DiskFailed}

-- the bytes that a read gives count only where the disk tells them; spare is the room that was made for writes and syncs
pub record DiskState : Type 0 where
  pub tells : Bool
  pub seen : List ℕ
  pub spare : ℕ
  pub faults : ℕ
  pub moment : ℕ

-- the count grew, or stands at the last value of a u64
abbrev pub Rose : ℕ → ℕ → Type 0
Rose before now = min (before + 1) (2 ^ 64 - 1) ≤ now

-- the count of faults never falls, and a call fails only where it rose
pub record HasCause {T : Type 0} (old new : DiskState) (result : Result T DiskFailed) : Type 0 where
  pub later : old.faults ≤ new.faults
  pub failed : OnErr result (Rose old.faults new.faults)

-- n bytes from that place went to the front of buf; fewer than asked only at the end
pub record ReadsAt (file : List ℕ) (place n : ℕ) (buf : List ℕ) : Type 0 where
  pub count : n ≡ min (length buf) (length file - place)
  pub front : take n buf ≡ take n (drop place file)

-- new is old with these bytes at this place
abbrev pub Holds : List ℕ → ℕ → List ℕ → List ℕ → Type 0
Holds old place bytes new = new ≡ take place old ++ bytes ++ drop (place + length bytes) old

-- after a write of n bytes that was cut short: any bytes in the range, an end anywhere in its part past the old end, the same elsewhere
pub record Torn (place n : ℕ) (old new : List ℕ) : Type 0 where
  pub before : take place new ≡ take place old
  pub behind : drop (place + n) new ≡ drop (place + n) old
  pub no_shorter : length old ≤ length new
  pub no_longer : length new ≤ max (length old) (place + n)

-- each new outcome of a crash is an old outcome after a step
abbrev pub Follows : (List ℕ → List ℕ → Type 0) → (List ℕ → Type 0) → (List ℕ → Type 0) → Type 0
Follows step old new = (c : List ℕ) → new c → (d : List ℕ) × old d × step d c

-- a crash leaves this and nothing else
abbrev pub Only : List ℕ → (List ℕ → Type 0) → Type 0
Only file outcomes = (c : List ℕ) → outcomes c → c ≡ file

-- the same outcomes
abbrev pub Same : (List ℕ → Type 0) → (List ℕ → Type 0) → Type 0
Same old new = (c : List ℕ) → (old c → new c) × (new c → old c)

-- what a crash may leave, now and since each moment, is as before
pub record Unmoved (old new : List ℕ → Type 0) (past since : ℕ → List ℕ → Type 0) : Type 0 where
  pub here : Same old new
  pub ever : (t : ℕ) → Same (past t) (since t)

-- time goes on: a crash since t might have left what it might have left before, or what it may leave now
pub record Elapses (before now : ℕ) (past since : ℕ → List ℕ → Type 0) (may_leave : List ℕ → Type 0) : Type 0 where
  pub later : before ≤ now
  pub nothing_else : (t : ℕ) (c : List ℕ) → t ≤ before → since t c → past t c ⊎ may_leave c
  pub keeps : (t : ℕ) (c : List ℕ) → t ≤ before → past t c → since t c

-- a crash at any moment since old leaves a file that has P
pub record LeavesOnly {D : Type 0} (moment : D → ℕ) (left_since : D → ℕ → List ℕ → Type 0) (old new : D) (P : List ℕ → Type 0) : Type 0 where
  pub later : moment old ≤ moment new
  pub each : (c : List ℕ) → left_since new (moment old) c → P c
  -- for a run that began earlier
  pub before : (t : ℕ) (c : List ℕ) → t ≤ moment old → left_since new t c → left_since old t c ⊎ P c
