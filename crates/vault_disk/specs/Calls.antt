-- The calls of a disk in memory, some of which fail by their number.
use Rattle.std.specs.Prelude.{ℕ, ◌+◌, ◌-◌, ◌^◌, ◌==◌, ◌≡◌, ◌++◌, min, Bool, true, false, [], ◌∷◌, Result, Ok, Err}
use Rattle.std.specs.List.{list_any}
use Rattle.vault_disk.specs.declared.calls.Calls.{Calls}
use Rattle.vault_disk.specs.declared.disk.DiskFailed.{DiskFailed}

-- a count that stops at the last value of a u64
abbrev pub one_more : ℕ → ℕ
one_more n = min (n + 1) (2 ^ 64 - 1)

abbrev pub no_calls : Calls
no_calls = record { made = 0; failing = [] }

-- the number of the next call is a named one
abbrev pub next_fails : Calls → Bool
next_fails c = list_any (λ n. n == one_more c.made) c.failing

abbrev pub after_call : Calls → Calls
after_call c = record c { made = one_more c.made }

abbrev pub with_failing : Calls → ℕ → Calls
with_failing c number = record c { failing = c.failing ++ number ∷ [] }

-- the call fails exactly where it is to fail
abbrev pub FailsExactly : {T : Type 0} → Bool → Result T DiskFailed → Type 0
FailsExactly fails (Ok x) = fails ≡ false
FailsExactly fails (Err e) = fails ≡ true
