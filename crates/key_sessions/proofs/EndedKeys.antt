-- The pairs that a change of one table ends.
use Rattle.std.proofs.Common.{◌≡◌, ℕ, ◌≤◌, ◌⊎◌, inl, inr, Bool, true, false, List, [], ◌∷◌, ◌++◌, map, length, drop, Option, Some, None, refl, ap, sym, ◌∙◌}
use Rattle.std.specs.Prelude.{not, ◌&&◌, if◌then◌else◌}
use Rattle.std.specs.Str.{bytes_eq}
use Rattle.std.proofs.lemmas.List.{append-nil, drop_all}
use Rattle.std.proofs.lemmas.Slice.Eq.{bytes_eq-Decides}
use Rattle.std.proofs.lemmas.Bool.{not-false}
use Rattle.eme_types.specs.declared.kid.KeyBytes.{KeyBytes}
use Rattle.key_statuses.specs.declared.table.KnownKey.{KnownKey}
use Rattle.cdm_world.specs.In.{In}
use Rattle.cdm_world.specs.Distinct.{Distinct}
use Rattle.key_statuses.specs.Table.{key_in, released}
use Rattle.key_statuses.specs.Statuses.{same_key, is_usable}
use Rattle.key_sessions.specs.declared.lost.Lost.{Lost}
use Rattle.key_sessions.specs.Machine.{SessionState, status_at}
use Rattle.key_sessions.specs.Keys.{usable_key}
use Rattle.key_sessions.specs.LostPair.{pair_of}
use Rattle.key_sessions.specs.Ended.{key_if, is_gone, ended_keys, AreEnded}

bytes_same : (a b : List ℕ) → bytes_eq a b ≡ true → a ≡ b
bytes_same a b e = (bytes_eq-Decides a b).0 e

same_is : (k : KeyBytes) (p : Option KeyBytes) → same_key (Some k) p ≡ true → Some k ≡ p
same_is k None e = absurd cc
same_is k (Some l) e = (let same = bytes_same k.bytes l.bytes e in let key : k ≡ l = ap (λ (x : List ℕ). let y : KeyBytes = record { bytes = x } in y) same in ap Some key)

same_self : (k : KeyBytes) → same_key (Some k) (Some k) ≡ true
same_self k = (bytes_eq-Decides k.bytes k.bytes).1 refl

-- a key that is gone was there, and is not there now
gone_tells : (o p : Option KeyBytes) → is_gone o p ≡ true → (key : KeyBytes) × ((o ≡ Some key) × (p ≡ Some key → ⊥))
gone_tells None p e = absurd cc
gone_tells (Some k) p e = (k, (refl, λ f. (let h : not (same_key (Some k) (Some k)) ≡ true = rw f at e in let same = same_self k in absurd (let no : false ≡ true = rw same at h in cc))))

-- a pair of the list
from_list : (n : ℕ) (xs old : List KnownKey) (a : Bool) (new : List KnownKey) (b : Bool) (l : ℕ × List ℕ) → In (map pair_of (ended_keys n xs old a new b)) l → (l.0 ≡ n) × (is_gone (key_if a old l.1) (key_if b new l.1) ≡ true)
from_list n [] old a new b l there = absurd there
from_list n (x ∷ xs) old a new b l there = go (is_gone (key_if a old x.kid) (key_if b new x.kid)) refl there (λ h. from_list n xs old a new b l h) where
  go : (t : Bool) → is_gone (key_if a old x.kid) (key_if b new x.kid) ≡ t → In (map pair_of (if t then (let m : Lost = record { session = n; kid = x.kid } in m) ∷ ended_keys n xs old a new b else ended_keys n xs old a new b)) l → (In (map pair_of (ended_keys n xs old a new b)) l → (l.0 ≡ n) × (is_gone (key_if a old l.1) (key_if b new l.1) ≡ true)) → (l.0 ≡ n) × (is_gone (key_if a old l.1) (key_if b new l.1) ≡ true)
  go true e (inl same) again = rw (← same) (refl, e)
  go true e (inr more) again = again more
  go false e more again = again more

-- an id whose key is gone
to_list : (n : ℕ) (xs old : List KnownKey) (a : Bool) (new : List KnownKey) (b : Bool) (kid : List ℕ) (key : KeyBytes) → key_in xs kid ≡ Some key → is_gone (key_if a old kid) (key_if b new kid) ≡ true → In (map pair_of (ended_keys n xs old a new b)) (n, kid)
to_list n [] old a new b kid key at gone = absurd cc
to_list n (x ∷ xs) old a new b kid key at gone = go (bytes_eq x.kid kid) refl at (is_gone (key_if a old x.kid) (key_if b new x.kid)) refl (λ h. to_list n xs old a new b kid key h gone) where
  go : (t : Bool) → bytes_eq x.kid kid ≡ t → (if t then x.key else key_in xs kid) ≡ Some key → (u : Bool) → is_gone (key_if a old x.kid) (key_if b new x.kid) ≡ u → (key_in xs kid ≡ Some key → In (map pair_of (ended_keys n xs old a new b)) (n, kid)) → In (map pair_of (if u then (let m : Lost = record { session = n; kid = x.kid } in m) ∷ ended_keys n xs old a new b else ended_keys n xs old a new b)) (n, kid)
  go true e at true f again = inl (ap (λ (k : List ℕ). let p : ℕ × List ℕ = (n, k) in p) (bytes_same x.kid kid e))
  go true e at false f again = absurd (let same = bytes_same x.kid kid e in let no : is_gone (key_if a old kid) (key_if b new kid) ≡ false = rw same at f in cc)
  go false e at true f again = inr (again at)
  go false e at false f again = again at

key_if_in : (a : Bool) (xs : List KnownKey) (kid : List ℕ) (key : KeyBytes) → key_if a xs kid ≡ Some key → key_in xs kid ≡ Some key
key_if_in true xs kid key e = e
key_if_in false xs kid key e = absurd cc

-- its ids are ids of the table
ids_of_list : (n : ℕ) (xs old : List KnownKey) (a : Bool) (new : List KnownKey) (b : Bool) (l : ℕ × List ℕ) → In (map pair_of (ended_keys n xs old a new b)) l → In (map (λ (k : KnownKey). k.kid) xs) l.1
ids_of_list n [] old a new b l there = absurd there
ids_of_list n (x ∷ xs) old a new b l there = go (is_gone (key_if a old x.kid) (key_if b new x.kid)) there (λ h. ids_of_list n xs old a new b l h) where
  go : (t : Bool) → In (map pair_of (if t then (let m : Lost = record { session = n; kid = x.kid } in m) ∷ ended_keys n xs old a new b else ended_keys n xs old a new b)) l → (In (map pair_of (ended_keys n xs old a new b)) l → In (map (λ (k : KnownKey). k.kid) xs) l.1) → (x.kid ≡ l.1) ⊎ In (map (λ (k : KnownKey). k.kid) xs) l.1
  go true (inl same) again = inl (ap (λ (p : ℕ × List ℕ). p.1) same)
  go true (inr more) again = inr (again more)
  go false more again = inr (again more)

ended_once : (n : ℕ) (xs old : List KnownKey) (a : Bool) (new : List KnownKey) (b : Bool) → Distinct (map (λ (k : KnownKey). k.kid) xs) → Distinct (map pair_of (ended_keys n xs old a new b))
ended_once n [] old a new b once = tt
ended_once n (x ∷ xs) old a new b once = go (is_gone (key_if a old x.kid) (key_if b new x.kid)) (ended_once n xs old a new b once.1) where
  go : (t : Bool) → Distinct (map pair_of (ended_keys n xs old a new b)) → Distinct (map pair_of (if t then (let m : Lost = record { session = n; kid = x.kid } in m) ∷ ended_keys n xs old a new b else ended_keys n xs old a new b))
  go true rest = (λ there. once.0 (ids_of_list n xs old a new b (n, x.kid) there), rest)
  go false rest = rest

pub are_ended : (n : ℕ) (old : List KnownKey) (a : Bool) (new : List KnownKey) (b : Bool) → Distinct (map (λ (k : KnownKey). k.kid) old) → AreEnded n (key_if a old) (key_if b new) (map pair_of (ended_keys n old old a new b))
are_ended n old a new b once = record {
  ours = λ l there. (from_list n old old a new b l there).0;
  each = λ l there. gone_tells (key_if a old l.1) (key_if b new l.1) (from_list n old old a new b l there).1;
  all = λ kid key was. go kid key was (is_gone (key_if a old kid) (key_if b new kid)) refl;
  once = ended_once n old old a new b once;
}
  where
    go : (kid : List ℕ) (key : KeyBytes) → key_if a old kid ≡ Some key → (t : Bool) → is_gone (key_if a old kid) (key_if b new kid) ≡ t → (key_if b new kid ≡ Some key) ⊎ In (map pair_of (ended_keys n old old a new b)) (n, kid)
    go kid key was true e = inr (to_list n old old a new b kid key (key_if_in a old kid key was) e)
    go kid key was false e = inl (let h : not (same_key (Some key) (key_if b new kid)) ≡ false = rw was at e in sym (same_is key (key_if b new kid) (not-false (same_key (Some key) (key_if b new kid)) h)))

-- what a loop over the ids has found at its end
pub ended_whole : (n : ℕ) (items old : List KnownKey) (a : Bool) (new : List KnownKey) (b : Bool) (i : ℕ) (list : List Lost) → length items ≤ i → items ≡ old → list ++ ended_keys n (drop i items) old a new b ≡ ended_keys n items old a new b → list ≡ ended_keys n old old a new b
ended_whole n items old a new b i list le same found =
    let none : drop i items ≡ [] = drop_all i items le in
    sym (append-nil list) ∙ (ap (λ (ys : List KnownKey). list ++ ended_keys n ys old a new b) (sym none) ∙ (found ∙ ap (λ (ys : List KnownKey). ended_keys n ys old a new b) same))

pub open_if : (c a : Bool) (o : Option KeyBytes) → (if (not c && a) then o else None) ≡ (if c then None else (if a then o else None))
open_if true a o = refl
open_if false a o = refl

-- a table of released ids holds no key
pub none_released : (ks : List KnownKey) (kid : List ℕ) → key_in (map released ks) kid ≡ None
none_released [] kid = refl
none_released (k ∷ ks) kid = go (bytes_eq k.kid kid) (none_released ks kid) where
  go : (b : Bool) → key_in (map released ks) kid ≡ None → (if b then (let n : Option KeyBytes = None in n) else key_in (map released ks) kid) ≡ None
  go true rest = refl
  go false rest = rest

-- a session whose keys are usable afterwards has lost none
pub usable_stays : (before after : ℕ) (s : SessionState) (kid : List ℕ) (key : KeyBytes) → is_usable (status_at after s) ≡ true → usable_key before s kid ≡ Some key → usable_key after s kid ≡ Some key
usable_stays before after s kid key e was = rw e (go s.closed (is_usable (status_at before s)) was) where
  go : (c u : Bool) → (if c then None else (if u then key_in s.keys kid else None)) ≡ Some key → (if c then None else key_in s.keys kid) ≡ Some key
  go true u was = absurd cc
  go false true was = was
  go false false was = absurd cc
