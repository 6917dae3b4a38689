-- The index of keys as its map is read and changed.
use Rattle.std.proofs.Common.{◌≡◌, ◌≢◌, ℕ, Bool, true, false, cond, if◌then◌else◌, bytes_eq, List, [], ◌∷◌, ◌⊎◌, inl, inr, map, option_map, Option, Some, None, Result, Ok, Err, OnErr, IfSome, refl, sym, ap, ◌∙◌}
use Rattle.std.specs.Map.{keys_of, lookup, set_value}
use Rattle.std.proofs.lemmas.Slice.Eq.{bytes_eq-Decides}
use Rattle.cdm_world.specs.In.{In}
use Rattle.key_statuses.specs.Index.{numbers_under, or_none, holders_of, with_number, without_number, AreAscending, AreHolders, IsIndex, IsSet}

-- an entry of the map as one of the index
abbrev pub entry_of : {X : Type 0} → (X → List ℕ) → List ℕ × X → List ℕ × List ℕ
entry_of f e = (e.0, f e.1)

module _ {X : Type 0} (f : X → List ℕ) where
  -- the index reads what the map has
  pub under_map : (es : List (List ℕ × X)) (kid : List ℕ) → numbers_under (map (entry_of f) es) kid ≡ option_map f (lookup (bytes_eq kid) es)
  under_map [] kid = refl
  under_map (e ∷ es) kid = go (bytes_eq kid e.0) (under_map es kid) where
    go : (b : Bool) → numbers_under (map (entry_of f) es) kid ≡ option_map f (lookup (bytes_eq kid) es) → (if b then Some (f e.1) else numbers_under (map (entry_of f) es) kid) ≡ option_map f (cond b (Some e.1) (lookup (bytes_eq kid) es))
    go true rest = refl
    go false rest = rest

  -- a value in the place of one with the same numbers
  pub map_same : (test : List ℕ → Bool) (es : List (List ℕ × X)) (v w : X) → lookup test es ≡ Some v → f w ≡ f v → map (entry_of f) (set_value test es w) ≡ map (entry_of f) es
  map_same test [] v w at same = absurd cc
  map_same test (e ∷ es) v w at same = go (test e.0) at (λ at. map_same test es v w at same) where
    go : (b : Bool) → cond b (Some e.1) (lookup test es) ≡ Some v → (lookup test es ≡ Some v → map (entry_of f) (set_value test es w) ≡ map (entry_of f) es) → map (entry_of f) (cond b ((e.0, w) ∷ es) (e ∷ set_value test es w)) ≡ map (entry_of f) (e ∷ es)
    go true at rest = (let here : e.1 ≡ v = cc in ap (λ ns. (e.0, ns) ∷ map (entry_of f) es) (same ∙ ap f (sym here)))
    go false at rest = ap (λ ys. entry_of f e ∷ ys) (rest at)

  -- a key has a value
  key_found : (es : List (List ℕ × X)) (kid : List ℕ) → In (keys_of es) kid → lookup (bytes_eq kid) es ≡ None → ⊥
  key_found [] kid at none = absurd at
  key_found (e ∷ es) kid at none = go (λ at none. key_found es kid at none) (bytes_eq kid e.0) refl at none where
    go : (In (keys_of es) kid → lookup (bytes_eq kid) es ≡ None → ⊥) → (b : Bool) → bytes_eq kid e.0 ≡ b → In (keys_of (e ∷ es)) kid → cond b (Some e.1) (lookup (bytes_eq kid) es) ≡ None → ⊥
    go rest true is at none = cc
    go rest false is (inl here) none = (let same : bytes_eq kid e.0 ≡ true = (bytes_eq-Decides kid e.0).1 (sym here) in cc)
    go rest false is (inr at) none = rest at none

  -- a value has its key
  key_there : (es : List (List ℕ × X)) (kid : List ℕ) → (lookup (bytes_eq kid) es ≡ None → ⊥) → In (keys_of es) kid
  key_there [] kid some = absurd (some refl)
  key_there (e ∷ es) kid some = go (λ some. key_there es kid some) (bytes_eq kid e.0) refl some where
    go : ((lookup (bytes_eq kid) es ≡ None → ⊥) → In (keys_of es) kid) → (b : Bool) → bytes_eq kid e.0 ≡ b → (cond b (Some e.1) (lookup (bytes_eq kid) es) ≡ None → ⊥) → In (keys_of (e ∷ es)) kid
    go rest true is some = inl (sym ((bytes_eq-Decides kid e.0).0 is))
    go rest false is some = inr (rest some)

  -- the keys are the ids that have a holder
  pub ids_exact : (es : List (List ℕ × X)) (kid : List ℕ) → IsIndex (map (entry_of f) es) → (In (keys_of es) kid → holders_of (map (entry_of f) es) kid ≢ []) × (holders_of (map (entry_of f) es) kid ≢ [] → In (keys_of es) kid)
  ids_exact es kid index = rw (under_map es kid) (go (lookup (bytes_eq kid) es) refl (rw (under_map es kid) at (index kid))) where
    go : (r : Option X) → lookup (bytes_eq kid) es ≡ r → IfSome (option_map f r) AreHolders → (In (keys_of es) kid → or_none (option_map f r) ≢ []) × (or_none (option_map f r) ≢ [] → In (keys_of es) kid)
    go None is held = ((λ at none. key_found es kid at is), λ some. absurd (some refl))
    go (Some v) is held = ((λ at. held.0), λ some. key_there es kid (λ none. (let no : (let o : Option X = None in o) ≡ Some v = sym none ∙ is in cc)))

  -- the map has the numbers w under the id, and what it had under each other one
  abbrev pub Renews : List ℕ → List (List ℕ × X) → List (List ℕ × X) → Option X → Type 0
  Renews kid es fs w = (q : List ℕ) → lookup (bytes_eq q) fs ≡ cond (bytes_eq kid q) w (lookup (bytes_eq q) es)

  pub renews_set : (kid : List ℕ) (es fs : List (List ℕ × X)) (w : Option X) → Renews kid es fs w → IsSet (map (entry_of f) es) (map (entry_of f) fs) kid (or_none (option_map f w))
  renews_set kid es fs w new q = rw (under_map fs q, under_map es q, new q) (go (bytes_eq kid q)) where
    go : (b : Bool) → or_none (option_map f (cond b w (lookup (bytes_eq q) es))) ≡ (if b then or_none (option_map f w) else or_none (option_map f (lookup (bytes_eq q) es)))
    go true = refl
    go false = refl

  pub renews_index : (kid : List ℕ) (es fs : List (List ℕ × X)) (w : Option X) → Renews kid es fs w → IfSome (option_map f w) AreHolders → IsIndex (map (entry_of f) es) → IsIndex (map (entry_of f) fs)
  renews_index kid es fs w new held index q = rw (under_map fs q, new q) (go (bytes_eq kid q)) where
    go : (b : Bool) → IfSome (option_map f (cond b w (lookup (bytes_eq q) es))) AreHolders
    go true = held
    go false = rw (under_map es q) at (index q)

  -- what the index reads, by what the map has
  pub reads_none : (es : List (List ℕ × X)) (kid : List ℕ) → (let o : Option X = None in o) ≡ lookup (bytes_eq kid) es → holders_of (map (entry_of f) es) kid ≡ []
  reads_none es kid at = rw (under_map es kid, ← at) refl

  pub reads_some : (es : List (List ℕ × X)) (kid : List ℕ) (v : X) → Some v ≡ lookup (bytes_eq kid) es → holders_of (map (entry_of f) es) kid ≡ f v
  reads_some es kid v at = rw (under_map es kid, ← at) refl

  pub some_held : (es : List (List ℕ × X)) (kid : List ℕ) (v : X) → Some v ≡ lookup (bytes_eq kid) es → IsIndex (map (entry_of f) es) → AreHolders (f v)
  some_held es kid v at index = rw (under_map es kid, ← at) at (index kid)

  -- nothing is taken out where nothing is
  pub less_none : (es : List (List ℕ × X)) (kid : List ℕ) (n : ℕ) → (let o : Option X = None in o) ≡ lookup (bytes_eq kid) es → IsSet (map (entry_of f) es) (map (entry_of f) es) kid (without_number n (holders_of (map (entry_of f) es) kid))
  less_none es kid n at q = go (bytes_eq kid q) refl where
    none : holders_of (map (entry_of f) es) kid ≡ []
    none = reads_none es kid at

    go : (b : Bool) → bytes_eq kid q ≡ b → holders_of (map (entry_of f) es) q ≡ (if b then without_number n (holders_of (map (entry_of f) es) kid) else holders_of (map (entry_of f) es) q)
    go true is = rw (← (bytes_eq-Decides kid q).0 is, none) refl
    go false is = refl

  -- the numbers under the id become others
  pub set_some : (kid : List ℕ) (es fs : List (List ℕ × X)) (v w : X) (g : List ℕ → List ℕ) → Some v ≡ lookup (bytes_eq kid) es → Renews kid es fs (Some w) → f w ≡ g (f v) → IsSet (map (entry_of f) es) (map (entry_of f) fs) kid (g (holders_of (map (entry_of f) es) kid))
  set_some kid es fs v w g at new is = rw (reads_some es kid v at, ← is) (renews_set kid es fs (Some w) new)

  pub set_none : (kid : List ℕ) (es fs : List (List ℕ × X)) (w : X) (g : List ℕ → List ℕ) → (let o : Option X = None in o) ≡ lookup (bytes_eq kid) es → Renews kid es fs (Some w) → f w ≡ g [] → IsSet (map (entry_of f) es) (map (entry_of f) fs) kid (g (holders_of (map (entry_of f) es) kid))
  set_none kid es fs w g at new is = rw (reads_none es kid at, ← is) (renews_set kid es fs (Some w) new)

  pub set_gone : (kid : List ℕ) (es fs : List (List ℕ × X)) (v : X) (g : List ℕ → List ℕ) → Some v ≡ lookup (bytes_eq kid) es → Renews kid es fs None → g (f v) ≡ [] → IsSet (map (entry_of f) es) (map (entry_of f) fs) kid (g (holders_of (map (entry_of f) es) kid))
  set_gone kid es fs v g at new is = rw (reads_some es kid v at, is) (renews_set kid es fs None new)

  -- one change after another
  pub renews_twice : (kid : List ℕ) (es ms fs : List (List ℕ × X)) (u w : Option X) → Renews kid es ms u → Renews kid ms fs w → Renews kid es fs w
  renews_twice kid es ms fs u w first second q = second q ∙ ap (λ o. cond (bytes_eq kid q) w o) (first q) ∙ go (bytes_eq kid q) where
    go : (b : Bool) → cond b w (cond b u (lookup (bytes_eq q) es)) ≡ cond b w (lookup (bytes_eq q) es)
    go true = refl
    go false = refl

-- what holds anyway holds on an error
pub on_err : {X E : Type 0} (r : Result X E) (P : Type 0) → P → OnErr r P
on_err (Ok x) P p = tt
on_err (Err e) P p = p
