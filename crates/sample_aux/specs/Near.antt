-- How far from the start of a file places may lie. Contracts of private functions speak of it.
use Rattle.std.specs.Prelude.{ℕ, ◌+◌, ◌^◌, ◌≤◌, ℤ, pos, neg_ℤ, ◌≤ℤ◌}

-- at most so far, on both sides
abbrev pub IsNear : ℕ → ℤ → Type 0
IsNear b at = (neg_ℤ (pos b) ≤ℤ at) × (at ≤ℤ pos b)

-- where the one is near, the other is as near
abbrev pub StaysNear : ℤ → ℤ → Type 0
StaysNear from to = (b : ℕ) → 2 ^ 64 ≤ b → IsNear b from → IsNear b to

-- or farther by an offset of 32 bits
abbrev pub EndsNear : ℤ → ℤ → Type 0
EndsNear from to = (b : ℕ) → 2 ^ 64 ≤ b → IsNear b from → IsNear (b + 2 ^ 32) to
