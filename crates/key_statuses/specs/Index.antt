-- An index of keys: for each key id the sessions that hold a key under it.
use Rattle.std.specs.Prelude.{ℕ, ◌≡◌, ◌≢◌, ◌<◌, not, if◌then◌else◌, List, [], ◌∷◌, Option, Some, None, IfSome, filter, nat_lt, nat_eq}
use Rattle.std.specs.List.{AllByRecursion}
use Rattle.std.specs.Str.{bytes_eq}

-- the numbers of the sessions under a key id, where it is in the index
abbrev pub numbers_under : List (List ℕ × List ℕ) → List ℕ → Option (List ℕ)
numbers_under [] kid = None
numbers_under (entry ∷ more) kid = if bytes_eq kid entry.0 then Some entry.1 else numbers_under more kid

-- these numbers, or none
abbrev pub or_none : Option (List ℕ) → List ℕ
or_none None = []
or_none (Some numbers) = numbers

-- the sessions under a key id; none where it is not in the index
abbrev pub holders_of : List (List ℕ × List ℕ) → List ℕ → List ℕ
holders_of index kid = or_none (numbers_under index kid)

-- the number stands in its place among ascending numbers, once
abbrev pub with_number : ℕ → List ℕ → List ℕ
with_number n [] = n ∷ []
with_number n (m ∷ more) = if nat_lt m n then m ∷ with_number n more else (if nat_eq m n then m ∷ more else n ∷ (m ∷ more))

-- the number no longer stands among them
abbrev pub without_number : ℕ → List ℕ → List ℕ
without_number n numbers = filter (λ m. not (nat_eq m n)) numbers

-- each number is less than every one behind it
abbrev pub AreAscending : List ℕ → Type 0
AreAscending [] = Unit {0}
AreAscending (n ∷ more) = AllByRecursion (λ m. n < m) more × AreAscending more

-- at least one session, in ascending order
abbrev pub AreHolders : List ℕ → Type 0
AreHolders numbers = (numbers ≢ []) × AreAscending numbers

-- a key id that is in the index has holders
abbrev pub IsIndex : List (List ℕ × List ℕ) → Type 0
IsIndex index = (kid : List ℕ) → IfSome (numbers_under index kid) AreHolders

-- the index has these sessions under the key id, and under every other id those that it had
abbrev pub IsSet : List (List ℕ × List ℕ) → List (List ℕ × List ℕ) → List ℕ → List ℕ → Type 0
IsSet old new kid numbers = (id : List ℕ) → holders_of new id ≡ (if bytes_eq kid id then numbers else holders_of old id)
