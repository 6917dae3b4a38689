-- The usable keys under one id: which is picked, and whether they differ.
use Rattle.std.proofs.Common.{zero, suc, ◌≡◌, ◌≢◌, ◌∙◌, ◌⊎◌, ◌↔◌, inl, inr, ℕ, ◌+◌, Bool, true, false, ◌&&◌, if◌then◌else◌, bytes_eq, IsTrue, List, [], ◌∷◌, Option, Some, None, is_some, refl, sym, ap, subst, arith}
use Rattle.std.specs.Prelude.{slice_get}
use Rattle.std.specs.List.{list_all}
use Rattle.std.proofs.lemmas.Slice.Eq.{bytes_eq-Decides}
use Rattle.cdm_world.specs.In.{In}
use Rattle.eme_types.specs.declared.kid.KeyBytes.{KeyBytes}
use Rattle.key_statuses.specs.Table.{key_in}
use Rattle.key_statuses.specs.Statuses.{is_usable}
use Rattle.key_statuses.specs.Index.{holders_of}
use Rattle.key_sessions.specs.Machine.{SessionState, Machine, session_at, status_at}
use Rattle.key_sessions.specs.Keys.{usable_key, key_of, held_in, held_key, or_else, pick_from}
use Rattle.key_sessions.specs.Agree.{Agree}
use Rattle.key_sessions.specs.Holders.{holds_key, holders_from, IsIndexOf}
use Rattle.key_sessions.specs.Loops.{first_usable, is_no_other, hold_no_other, hold_one_key}
use Rattle.key_sessions.proofs.Held.{held_there}

-- the test of use, over the key that is held
abbrev usable_of : ℕ → SessionState → Option KeyBytes → Option KeyBytes
usable_of moment s o = if s.closed then None else (if is_usable (status_at moment s) then o else None)

unusable : (moment : ℕ) (s : SessionState) → usable_of moment s None ≡ None
unusable moment s = go s.closed (is_usable (status_at moment s)) where
  go : (b c : Bool) → (let o : Option KeyBytes = if b then None else (if c then None else None) in o) ≡ None
  go true c = refl
  go false true = refl
  go false false = refl

-- a usable key is held
usable_held : (moment : ℕ) (s : SessionState) (kid : List ℕ) (key : KeyBytes) → usable_key moment s kid ≡ Some key → holds_key kid s ≡ true
usable_held moment s kid key is = go (key_in s.keys kid) is where
  go : (o : Option KeyBytes) → usable_of moment s o ≡ Some key → is_some o ≡ true
  go None is = (let no : (let o : Option KeyBytes = None in o) ≡ Some key = sym (unusable moment s) ∙ is in cc)
  go (Some other) is = refl

pick_step : (moment k : ℕ) (ss more : List SessionState) (s : SessionState) (kid : List ℕ) → session_at ss k ≡ Some s → first_usable moment ss (holders_from (k + 1) more kid) kid ≡ pick_from moment (k + 1) more kid → first_usable moment ss (holders_from k (s ∷ more) kid) kid ≡ pick_from moment k (s ∷ more) kid
pick_step moment k ss more s kid at rest = go (key_in s.keys kid) refl where
  go : (o : Option KeyBytes) → key_in s.keys kid ≡ o → first_usable moment ss (if is_some o then k ∷ holders_from (k + 1) more kid else holders_from (k + 1) more kid) kid ≡ or_else (usable_of moment s o) k (pick_from moment (k + 1) more kid)
  go None is = rw (unusable moment s) rest
  go (Some key) is = (let here : held_in moment ss k kid ≡ usable_of moment s (Some key) = held_there moment ss k s kid at ∙ ap (usable_of moment s) is in rw (here, rest) refl)

-- the first usable key of those that hold one is the pick
pub first_pick : (moment : ℕ) (ss : List SessionState) (kid : List ℕ) → first_usable moment ss (holders_from 1 ss kid) kid ≡ pick_from moment 1 ss kid
first_pick moment ss kid = go ss 1 (λ j. (let e : 1 + j ≡ suc j = omega arith in rw e refl)) where
  go : (more : List SessionState) (k : ℕ) → ((j : ℕ) → session_at ss (k + j) ≡ slice_get more j) → first_usable moment ss (holders_from k more kid) kid ≡ pick_from moment k more kid
  go [] k at = refl
  go (s ∷ more) k at =
      let none : k + 0 ≡ k = omega arith in
      pick_step moment k ss more s kid (rw none at (at 0)) (go more (k + 1) (λ j. (let e : k + 1 + j ≡ k + suc j = omega arith in rw e (at (suc j)))))

-- the first usable key is one
first_sound : (moment : ℕ) (ss : List SessionState) (numbers : List ℕ) (kid : List ℕ) (p : ℕ × KeyBytes) → first_usable moment ss numbers kid ≡ Some p → held_in moment ss p.0 kid ≡ Some p.1
first_sound moment ss [] kid p e = cc
first_sound moment ss (n ∷ more) kid p e = go (λ e. first_sound moment ss more kid p e) (held_in moment ss n kid) refl e where
  go : (first_usable moment ss more kid ≡ Some p → held_in moment ss p.0 kid ≡ Some p.1) → (o : Option KeyBytes) → held_in moment ss n kid ≡ o → or_else o n (first_usable moment ss more kid) ≡ Some p → held_in moment ss p.0 kid ≡ Some p.1
  go rest None is e = rest e
  go rest (Some key) is e = (let same : (n, key) ≡ p = cc in subst (λ (q : ℕ × KeyBytes). held_in moment ss q.0 kid ≡ Some q.1) same is)

-- where there is none, none has one
first_none : (moment : ℕ) (ss : List SessionState) (numbers : List ℕ) (kid : List ℕ) → first_usable moment ss numbers kid ≡ None → (n : ℕ) → In numbers n → held_in moment ss n kid ≡ None
first_none moment ss [] kid e n there = absurd there
first_none moment ss (m ∷ more) kid e n there = go (λ e there. first_none moment ss more kid e n there) (held_in moment ss m kid) refl e there where
  go : (first_usable moment ss more kid ≡ None → In more n → held_in moment ss n kid ≡ None) → (o : Option KeyBytes) → held_in moment ss m kid ≡ o → or_else o m (first_usable moment ss more kid) ≡ None → In (m ∷ more) n → held_in moment ss n kid ≡ None
  go rest None is e (inl same) = rw (← same) is
  go rest None is e (inr there) = rest e there
  go rest (Some key) is e there = cc

-- a session with a usable key holds one
in_holders : (moment : ℕ) (ss : List SessionState) (n : ℕ) (kid : List ℕ) (key : KeyBytes) → held_in moment ss n kid ≡ Some key → In (holders_from 1 ss kid) n
in_holders moment ss zero kid key at = cc
in_holders moment ss (suc i) kid key at = go ss 1 (suc i) i (omega arith) at where
  go : (ss : List SessionState) (k n i : ℕ) → k + i ≡ n → key_of moment (slice_get ss i) kid ≡ Some key → In (holders_from k ss kid) n
  go [] k n i e at = cc
  go (x ∷ xs) k n zero e at = rw (usable_held moment x kid key at) (inl (omega (arith, e)))
  go (x ∷ xs) k n (suc i) e at = behind (holds_key kid x) (go xs (k + 1) n i (omega (arith, e)) at) where
    behind : (b : Bool) → In (holders_from (k + 1) xs kid) n → In (if b then k ∷ holders_from (k + 1) xs kid else holders_from (k + 1) xs kid) n
    behind true there = inr there
    behind false there = there

all_in : {A : Type 0} (test : A → Bool) (xs : List A) → list_all test xs ≡ true → (x : A) → In xs x → test x ≡ true
all_in test [] all x there = absurd there
all_in {A} test (y ∷ ys) all x there = go (λ all there. all_in test ys all x there) (test y) refl all there where
  go : (list_all test ys ≡ true → In ys x → test x ≡ true) → (b : Bool) → test y ≡ b → (b && list_all test ys) ≡ true → In (y ∷ ys) x → test x ≡ true
  go rest true is all (inl same) = rw (← same) is
  go rest true is all (inr there) = rest all there
  go rest false is all there = cc

all_from : {A : Type 0} (test : A → Bool) (xs : List A) → ((x : A) → In xs x → test x ≡ true) → list_all test xs ≡ true
all_from test [] each = refl
all_from test (y ∷ ys) each = rw (each y (inl refl)) (all_from test ys (λ x there. each x (inr there)))

abbrev key_with : List ℕ → KeyBytes
key_with bytes = record { bytes = bytes }

same_key : (a b : KeyBytes) → bytes_eq a.bytes b.bytes ≡ true → a ≡ b
same_key a b e = ap key_with ((bytes_eq-Decides a.bytes b.bytes).0 e)

-- no two sessions hold usable keys under the id that differ
abbrev AgreeOn : ℕ → List SessionState → List ℕ → Type 0
AgreeOn moment ss kid = (s t : ℕ) (a b : KeyBytes) → held_in moment ss s kid ≡ Some a → held_in moment ss t kid ≡ Some b → a ≡ b

one_key_agrees : (moment : ℕ) (ss : List SessionState) (kid : List ℕ) → hold_one_key moment ss (holders_from 1 ss kid) kid ≡ true → AgreeOn moment ss kid
one_key_agrees moment ss kid one s t a b at bt = go (first_usable moment ss (holders_from 1 ss kid) kid) refl one where
  picked : (p : ℕ × KeyBytes) (n : ℕ) (key : KeyBytes) → list_all (λ n. is_no_other p.1 (held_in moment ss n kid)) (holders_from 1 ss kid) ≡ true → held_in moment ss n kid ≡ Some key → p.1 ≡ key
  picked p n key all held =
      let test = all_in (λ n. is_no_other p.1 (held_in moment ss n kid)) (holders_from 1 ss kid) all n (in_holders moment ss n kid key held) in
      same_key p.1 key (rw held at test)

  go : (o : Option (ℕ × KeyBytes)) → first_usable moment ss (holders_from 1 ss kid) kid ≡ o → hold_no_other moment ss (holders_from 1 ss kid) kid o ≡ true → a ≡ b
  go None is one = (let none : held_in moment ss s kid ≡ None = first_none moment ss (holders_from 1 ss kid) kid is s (in_holders moment ss s kid a at) in let no : Some a ≡ None = sym at ∙ none in cc)
  go (Some p) is one = sym (picked p s a one at) ∙ picked p t b one bt

agrees_one_key : (moment : ℕ) (ss : List SessionState) (numbers : List ℕ) (kid : List ℕ) → AgreeOn moment ss kid → hold_one_key moment ss numbers kid ≡ true
agrees_one_key moment ss numbers kid agree = go (first_usable moment ss numbers kid) refl where
  other : (p : ℕ × KeyBytes) (n : ℕ) → held_in moment ss p.0 kid ≡ Some p.1 → (o : Option KeyBytes) → held_in moment ss n kid ≡ o → is_no_other p.1 o ≡ true
  other p n held None is = refl
  other p n held (Some key) is = (bytes_eq-Decides p.1.bytes key.bytes).1 (ap (λ (k : KeyBytes). k.bytes) (agree p.0 n p.1 key held is))

  go : (o : Option (ℕ × KeyBytes)) → first_usable moment ss numbers kid ≡ o → hold_no_other moment ss numbers kid o ≡ true
  go None is = refl
  go (Some p) is = all_from (λ n. is_no_other p.1 (held_in moment ss n kid)) numbers (λ n there. other p n (first_sound moment ss numbers kid p is) (held_in moment ss n kid) refl)

-- the test of each id of the index tells whether the sessions agree
pub agree_exact : (m : Machine) (index : List (List ℕ × List ℕ)) (kids : List (List ℕ)) → IsIndexOf index m.sessions → ((kid : List ℕ) → In kids kid ↔ (holders_of index kid ≢ [])) → IsTrue (list_all (λ kid. hold_one_key m.moment m.sessions (holders_of index kid) kid) kids) ↔ Agree m
agree_exact m index kids is ids = (there, back) where
  test : List ℕ → Bool
  test kid = hold_one_key m.moment m.sessions (holders_of index kid) kid

  there : list_all test kids ≡ true → Agree m
  there all s t kid a b at bt =
      let holder : In (holders_of index kid) s = rw (is kid) (in_holders m.moment m.sessions s kid a at) in
      let one = all_in test kids all kid ((ids kid).1 (λ none. rw none at holder)) in
      one_key_agrees m.moment m.sessions kid (rw (is kid) at one) s t a b at bt

  back : Agree m → list_all test kids ≡ true
  back agree = all_from test kids (λ kid in_kids. agrees_one_key m.moment m.sessions (holders_of index kid) kid (λ s t a b held_s held_t. agree s t kid a b held_s held_t))
