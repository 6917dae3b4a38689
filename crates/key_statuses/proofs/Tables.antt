-- Key tables, as loops read and change them.
use Rattle.std.proofs.Common.{zero, suc, ◌≡◌, ℕ, ◌+◌, ◌<◌, ◌≤◌, true, false, List, [], ◌∷◌, ◌++◌, map, length, get_or, set, take, drop, refl, ap, ◌∙◌, arith, add-one, Some}
use Rattle.std.specs.Str.{bytes_eq}
use Rattle.eme_types.specs.declared.kid.KeyBytes.{KeyBytes}
use Rattle.key_statuses.specs.declared.table.KnownKey.{KnownKey}
use Rattle.key_statuses.specs.Table.{grant_in, known_with}
use Rattle.key_statuses.specs.Loops.{Unknown}

pub grant_last : (table : List KnownKey) (kid : List ℕ) → Unknown table kid → (key : KeyBytes) → grant_in table kid key ≡ table ++ known_with kid key ∷ []
grant_last [] kid un key = refl
grant_last (k ∷ ks) kid un key = rw un.0 (ap (λ ys. k ∷ ys) (grant_last ks kid un.1 key))

pub grant_at : (table : List KnownKey) (kid : List ℕ) (i : ℕ) (e : KnownKey) → i < length table → Unknown (take i table) kid → bytes_eq (get_or table i e).kid kid ≡ true → (key : KeyBytes) (d : KnownKey) → grant_in table kid key ≡ set table i (let was = get_or table i d in record was { key = Some key })
grant_at [] kid i e lt un is key d = absurd (omega arith)
grant_at (k ∷ ks) kid zero e lt un is key d = rw is refl
grant_at (k ∷ ks) kid (suc i) e lt un is key d = rw un.0 (ap (λ ys. k ∷ ys) (grant_at ks kid i e (omega arith) un.1 is key d))

pub unknown_more : (table : List KnownKey) (kid : List ℕ) (i : ℕ) (e : KnownKey) → i < length table → Unknown (take i table) kid → bytes_eq (get_or table i e).kid kid ≡ false → Unknown (take (i + 1) table) kid
unknown_more table kid i e lt un is = rw add-one (go table kid i e lt un is) where
  go : (table : List KnownKey) (kid : List ℕ) (i : ℕ) (e : KnownKey) → i < length table → Unknown (take i table) kid → bytes_eq (get_or table i e).kid kid ≡ false → Unknown (take (suc i) table) kid
  go [] kid i e lt un is = tt
  go (k ∷ ks) kid zero e lt un is = (is, tt)
  go (k ∷ ks) kid (suc i) e lt un is = (un.0, go ks kid i e (omega arith) un.1 is)

-- the items before the index are changed
pub map_more : (f : KnownKey → KnownKey) (xs ys : List KnownKey) (i : ℕ) (d : KnownKey) → i < length xs → ys ≡ map f (take i xs) ++ drop i xs → set ys i (f (get_or ys i d)) ≡ map f (take (i + 1) xs) ++ drop (i + 1) xs
map_more f xs ys i d lt e = rw (add-one, e) (go xs i lt) where
  go : (xs : List KnownKey) (i : ℕ) → i < length xs → set (map f (take i xs) ++ drop i xs) i (f (get_or (map f (take i xs) ++ drop i xs) i d)) ≡ map f (take (suc i) xs) ++ drop (suc i) xs
  go [] i lt = absurd (omega arith)
  go (x ∷ xs) zero lt = refl
  go (x ∷ xs) (suc i) lt = ap (λ zs. f x ∷ zs) (go xs i (omega arith))

-- once all items are changed, the list is the changed one
pub map_all : (f : KnownKey → KnownKey) (xs ys : List KnownKey) (i n : ℕ) → ys ≡ map f (take i xs) ++ drop i xs → length xs ≤ i → length xs ≤ n → take n (ys ++ drop (length ys) xs) ≡ map f xs
map_all f xs ys i n so_far end whole =
    let all : ys ≡ map f xs = so_far ∙ gone xs i end in
    rw all (kept xs n whole) where
      gone : (xs : List KnownKey) (i : ℕ) → length xs ≤ i → map f (take i xs) ++ drop i xs ≡ map f xs
      gone [] zero end = refl
      gone [] (suc i) end = refl
      gone (x ∷ xs) zero end = absurd (omega arith)
      gone (x ∷ xs) (suc i) end = ap (λ zs. f x ∷ zs) (gone xs i (omega arith))

      kept : (xs : List KnownKey) (n : ℕ) → length xs ≤ n → take n (map f xs ++ drop (length (map f xs)) xs) ≡ map f xs
      kept [] zero whole = refl
      kept [] (suc n) whole = refl
      kept (x ∷ xs) zero whole = absurd (omega arith)
      kept (x ∷ xs) (suc n) whole = ap (λ zs. f x ∷ zs) (kept xs n (omega arith))
