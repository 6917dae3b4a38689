-- The index follows a session's table.
use Rattle.std.proofs.Common.{zero, suc, ◌≡◌, ◌∙◌, ℕ, ◌+◌, ◌<◌, Bool, true, false, not, ◌&&◌, ◌||◌, ◌⊎◌, inl, inr, if◌then◌else◌, bytes_eq, List, [], ◌∷◌, ◌++◌, map, length, take, get_or, Option, Some, None, is_some, Result, Ok, Err, OnOk, OnErr, refl, sym, ap, arith}
use Rattle.std.specs.List.{list_any}
use Rattle.std.proofs.lemmas.List.{take_more}
use Rattle.std.proofs.lemmas.Slice.Eq.{bytes_eq-Decides}
use Rattle.cdm_world.specs.In.{In}
use Rattle.eme_types.specs.declared.kid.KeyBytes.{KeyBytes}
use Rattle.key_statuses.specs.declared.table.KnownKey.{KnownKey}
use Rattle.key_statuses.specs.Table.{ids, key_in, released, KnowsEachOnce}
use Rattle.key_statuses.specs.Index.{holders_of, with_number, without_number, IsSet}
use Rattle.key_sessions.specs.Indexed.{placed, Follows, is_held, is_unheld, ChangesWhere}
use Rattle.key_sessions.proofs.Placed.{follow_ok, follow_err}

any_last : (test : KnownKey → Bool) (xs : List KnownKey) (y : KnownKey) → list_any test (xs ++ y ∷ []) ≡ (list_any test xs || test y)
any_last test [] y = go (test y) where
  go : (b : Bool) → (b || false) ≡ b
  go true = refl
  go false = refl
any_last test (x ∷ xs) y = go (test x) (any_last test xs y) where
  go : (b : Bool) → list_any test (xs ++ y ∷ []) ≡ (list_any test xs || test y) → (b || list_any test (xs ++ y ∷ [])) ≡ ((b || list_any test xs) || test y)
  go true e = refl
  go false e = e

any_taken : (test : KnownKey → Bool) (xs : List KnownKey) (i : ℕ) → list_any test (take i xs) ≡ true → list_any test xs ≡ true
any_taken test [] zero e = e
any_taken test [] (suc i) e = e
any_taken test (x ∷ xs) zero e = cc
any_taken test (x ∷ xs) (suc i) e = go (test x) (λ e. any_taken test xs i e) e where
  go : (b : Bool) → (list_any test (take i xs) ≡ true → list_any test xs ≡ true) → (b || list_any test (take i xs)) ≡ true → (b || list_any test xs) ≡ true
  go true rest e = refl
  go false rest e = rest e

-- one known id more
pub changes_more : (asks : List ℕ → KnownKey → Bool) (f : List ℕ → List ℕ) (all : List KnownKey) (i : ℕ) (known : KnownKey) (old mid new : List (List ℕ × List ℕ)) → ((xs : List ℕ) → f (f xs) ≡ f xs) → i < length all → known ≡ get_or all i known → ChangesWhere asks f (take i all) old mid → ((kid : List ℕ) → holders_of new kid ≡ (if asks kid known then f (holders_of mid kid) else holders_of mid kid)) → ChangesWhere asks f (take (i + 1) all) old new
changes_more asks f all i known old mid new same lt is so_far next kid =
    let e : take (i + 1) all ≡ take i all ++ known ∷ [] = take_more all i known lt ∙ ap (λ (k : KnownKey). take i all ++ k ∷ []) (sym is) in
    rw (e, any_last (asks kid) (take i all) known, next kid, so_far kid) (go (list_any (asks kid) (take i all)) (asks kid known)) where
      go : (a b : Bool) → (if b then f (if a then f (holders_of old kid) else holders_of old kid) else (if a then f (holders_of old kid) else holders_of old kid)) ≡ (if a || b then f (holders_of old kid) else holders_of old kid)
      go true true = same (holders_of old kid)
      go true false = refl
      go false true = refl
      go false false = refl

-- a known id is changed, if it is wanted
pub changes_one : (f : List ℕ → List ℕ) (kid : List ℕ) (wanted : List ℕ → Bool) (old new : List (List ℕ × List ℕ)) → wanted kid ≡ true → IsSet old new kid (f (holders_of old kid)) → (id : List ℕ) → holders_of new id ≡ (if bytes_eq kid id && wanted id then f (holders_of old id) else holders_of old id)
changes_one f kid wanted old new is set id = set id ∙ go (bytes_eq kid id) refl where
  go : (b : Bool) → bytes_eq kid id ≡ b → (if b then f (holders_of old kid) else holders_of old id) ≡ (if b && wanted id then f (holders_of old id) else holders_of old id)
  go true e = (let same : kid ≡ id = (bytes_eq-Decides kid id).0 e in rw (← same, is) refl)
  go false e = refl

-- and nothing is changed, if it is not
pub changes_none : (f : List ℕ → List ℕ) (kid : List ℕ) (wanted : List ℕ → Bool) (old : List (List ℕ × List ℕ)) → wanted kid ≡ false → (id : List ℕ) → holders_of old id ≡ (if bytes_eq kid id && wanted id then f (holders_of old id) else holders_of old id)
changes_none f kid wanted old is id = go (bytes_eq kid id) refl where
  go : (b : Bool) → bytes_eq kid id ≡ b → holders_of old id ≡ (if b && wanted id then f (holders_of old id) else holders_of old id)
  go true e = (let same : kid ≡ id = (bytes_eq-Decides kid id).0 e in rw (← same, is) refl)
  go false e = refl

-- an id that is not known has no key
none_held : (table : List KnownKey) (kid : List ℕ) → (In (ids table) kid → ⊥) → list_any (is_held kid) table ≡ false
none_held [] kid out = refl
none_held (k ∷ ks) kid out = go (bytes_eq k.kid kid) refl (none_held ks kid (λ h. out (inr h))) where
  go : (b : Bool) → bytes_eq k.kid kid ≡ b → list_any (is_held kid) ks ≡ false → ((b && is_some k.key) || list_any (is_held kid) ks) ≡ false
  go true e rest = absurd (out (inl ((bytes_eq-Decides k.kid kid).0 e)))
  go false e rest = rest

-- some known id is this one with its key exactly where the table holds a key under it
any_held : (table : List KnownKey) (kid : List ℕ) → KnowsEachOnce table → list_any (is_held kid) table ≡ is_some (key_in table kid)
any_held [] kid once = refl
any_held (k ∷ ks) kid once = go (bytes_eq k.kid kid) refl (any_held ks kid once.1) where
  go : (b : Bool) → bytes_eq k.kid kid ≡ b → list_any (is_held kid) ks ≡ is_some (key_in ks kid) → ((b && is_some k.key) || list_any (is_held kid) ks) ≡ is_some (if b then k.key else key_in ks kid)
  go true e rest =
      let same : k.kid ≡ kid = (bytes_eq-Decides k.kid kid).0 e in
      let none : list_any (is_held kid) ks ≡ false = none_held ks kid (rw same at once.0) in
      rw none (also k.key) where
        also : (o : Option KeyBytes) → (is_some o || false) ≡ is_some o
        also None = refl
        also (Some key) = refl
  go false e rest = rest

-- none is asked for where the table holds a key
unheld_none : (table keys : List KnownKey) (kid : List ℕ) → is_some (key_in table kid) ≡ true → list_any (is_unheld table kid) keys ≡ false
unheld_none table [] kid held = refl
unheld_none table (k ∷ ks) kid held = rw (held, unheld_none table ks kid held) (go (bytes_eq k.kid kid)) where
  go : (b : Bool) → ((b && false) || false) ≡ false
  go true = refl
  go false = refl

-- one is asked for where the table holds none and the other did
unheld_some : (table keys : List KnownKey) (kid : List ℕ) → is_some (key_in table kid) ≡ false → list_any (is_held kid) keys ≡ true → list_any (is_unheld table kid) keys ≡ true
unheld_some table [] kid none held = held
unheld_some table (k ∷ ks) kid none held = go (bytes_eq k.kid kid) (λ h. unheld_some table ks kid none h) held where
  go : (b : Bool) → (list_any (is_held kid) ks ≡ true → list_any (is_unheld table kid) ks ≡ true) → ((b && is_some k.key) || list_any (is_held kid) ks) ≡ true → ((b && not (is_some (key_in table kid))) || list_any (is_unheld table kid) ks) ≡ true
  go true rest held = rw none refl
  go false rest held = rest held

-- the index follows a new table
pub followed : (n : ℕ) (old new : List KnownKey) (index mid after : List (List ℕ × List ℕ)) → KnowsEachOnce old → KnowsEachOnce new → Follows index n old index → ChangesWhere is_held (with_number n) new index mid → ChangesWhere (is_unheld new) (without_number n) old mid after → Follows index n new after
followed n old new index mid after once_old once_new was add drop kid = follow_ok n (holders_of index kid) (holders_of mid kid) (holders_of after kid) (is_some (key_in old kid)) (is_some (key_in new kid)) (list_any (is_unheld new kid) old) (unheld_none new old kid) (λ none held. unheld_some new old kid none (any_held old kid once_old ∙ held)) (was kid) (rw (any_held new kid once_new) at (add kid)) (drop kid)

-- it goes back to the old table
pub went_back : (n i : ℕ) (old new : List KnownKey) (index mid after : List (List ℕ × List ℕ)) → Follows index n old index → ChangesWhere is_held (with_number n) (take i new) index mid → ChangesWhere (is_unheld old) (without_number n) new mid after → Follows index n old after
went_back n i old new index mid after was add drop kid = follow_err n (holders_of index kid) (holders_of mid kid) (holders_of after kid) (is_some (key_in old kid)) (list_any (is_held kid) (take i new)) (list_any (is_unheld old kid) new) (unheld_none old new kid) (λ none some. unheld_some old new kid none (any_taken (is_held kid) new i some)) (was kid) (add kid) (drop kid)

-- no key is left in a released table
released_none : (table : List KnownKey) (kid : List ℕ) → key_in (map released table) kid ≡ None
released_none [] kid = refl
released_none (k ∷ ks) kid = go (bytes_eq k.kid kid) (released_none ks kid) where
  go : (b : Bool) → key_in (map released ks) kid ≡ None → (if b then (let none : Option KeyBytes = None in none) else key_in (map released ks) kid) ≡ None
  go true rest = refl
  go false rest = rest

pub follows_released : (n : ℕ) (table : List KnownKey) (index new : List (List ℕ × List ℕ)) → Follows index n [] new → Follows index n (map released table) new
follows_released n table index new empty kid = rw (released_none table kid) (empty kid)

-- what follows from an answer without a fault
pub on_ok : {X E : Type 0} (r : Result X E) (P Q : Type 0) → (P → Q) → OnOk r P → OnOk r Q
on_ok (Ok x) P Q f p = f p
on_ok (Err e) P Q f p = tt

-- what holds anyway holds on a fault
pub on_err : {X E : Type 0} (r : Result X E) (P : Type 0) → P → OnErr r P
on_err (Ok x) P p = tt
on_err (Err e) P p = p
