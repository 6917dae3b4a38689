-- Lists of sessions, as loops read and change them.
use Rattle.std.proofs.Common.{zero, suc, ◌≡◌, ℕ, ◌+◌, ◌-◌, ◌<◌, ◌≤◌, Bool, true, false, List, [], ◌∷◌, ◌++◌, map, length, take, get_or, set, Option, Some, None, refl, ap, sym, ◌∙◌, arith, add-one}
use Rattle.std.specs.List.{list_any}
use Rattle.std.specs.Str.{bytes_eq}
use Rattle.std.specs.Prelude.{◌||◌, slice_get, slice_set}
use Rattle.eme_types.specs.declared.call.Settled.{Settled}
use Rattle.task_queue.specs.Pending.{settle_in}
use Rattle.std.proofs.lemmas.List.{length-map}
use Rattle.key_sessions.specs.declared.session.Session.{Session}
use Rattle.key_sessions.specs.SessionOf.{session_of}
use Rattle.key_sessions.specs.Machine.{SessionState, change_at, change_session, session_at}
use Rattle.key_sessions.specs.Calls.{find_from}
use Rattle.key_sessions.specs.Loops.{Unlabelled}

-- a change in the list of records is a change in the list of states
map-set : (xs : List Session) (i : ℕ) (d v : Session) (f : SessionState → SessionState) → session_of v ≡ f (session_of (get_or xs i d)) → map session_of (set xs i v) ≡ change_at (map session_of xs) i f
map-set [] i d v f e = refl
map-set (x ∷ xs) zero d v f e = ap (λ y. y ∷ map session_of xs) e
map-set (x ∷ xs) (suc i) d v f e = ap (λ ys. session_of x ∷ ys) (map-set xs i d v f e)

change_at_past : {A : Type 0} (xs : List A) (i : ℕ) (f : A → A) → length xs ≤ i → change_at xs i f ≡ xs
change_at_past [] i f le = refl
change_at_past (x ∷ xs) zero f le = absurd (omega arith)
change_at_past (x ∷ xs) (suc i) f le = ap (λ ys. x ∷ ys) (change_at_past xs i f (omega arith))

pub change_number : (xs : List Session) (n : ℕ) (d v : Session) (f : SessionState → SessionState) → (n ≡ 0 → ⊥) → session_of v ≡ f (session_of (get_or xs (n - 1) d)) → map session_of (set xs (n - 1) v) ≡ change_session (map session_of xs) n f
change_number xs zero d v f ne e = absurd (ne refl)
change_number xs (suc i) d v f ne e = (let p : suc i - 1 ≡ i = omega arith in rw p (map-set xs i d v f (rw p at e)))

pub change_past : (xs : List Session) (n : ℕ) (f : SessionState → SessionState) → length xs ≤ n - 1 → change_session (map session_of xs) n f ≡ map session_of xs
change_past xs zero f le = refl
change_past xs (suc i) f le = change_at_past (map session_of xs) i f (rw length-map (omega arith))

pub length-change_session : (xs : List SessionState) (n : ℕ) (f : SessionState → SessionState) → length (change_session xs n f) ≡ length xs
length-change_session xs zero f = refl
length-change_session xs (suc i) f = go xs i where
  go : (xs : List SessionState) (i : ℕ) → length (change_at xs i f) ≡ length xs
  go [] i = refl
  go (x ∷ xs) zero = refl
  go (x ∷ xs) (suc i) = ap suc (go xs i)

pub find_none : (n : ℕ) (ss : List Session) (label : List ℕ) → Unlabelled ss label → find_from n (map session_of ss) label ≡ None
find_none n [] label un = refl
find_none n (s ∷ ss) label un = rw un.0 (find_none (n + 1) ss label un.1)

pub find_some : (n : ℕ) (ss : List Session) (label : List ℕ) (i : ℕ) (e d : Session) → i < length ss → Unlabelled (take i ss) label → bytes_eq (get_or ss i e).label label ≡ true → find_from n (map session_of ss) label ≡ Some (n + i, session_of (get_or ss i d))
find_some n [] label i e d lt un is = absurd (omega arith)
find_some n (s ∷ ss) label zero e d lt un is = rw is (ap (λ k. let p : ℕ × SessionState = (k, session_of s) in Some p) (let z : n ≡ n + 0 = omega arith in z))
find_some n (s ∷ ss) label (suc i) e d lt un is = rw un.0 (find_some (n + 1) ss label i e d (omega arith) un.1 is ∙ ap (λ k. let p : ℕ × SessionState = (k, session_of (get_or ss i d)) in Some p) (let z : n + 1 + i ≡ n + suc i = omega arith in z))

pub unlabelled_more : (ss : List Session) (label : List ℕ) (i : ℕ) (e : Session) → i < length ss → Unlabelled (take i ss) label → bytes_eq (get_or ss i e).label label ≡ false → Unlabelled (take (i + 1) ss) label
unlabelled_more ss label i e lt un is = rw add-one (go ss label i e lt un is) where
  go : (ss : List Session) (label : List ℕ) (i : ℕ) (e : Session) → i < length ss → Unlabelled (take i ss) label → bytes_eq (get_or ss i e).label label ≡ false → Unlabelled (take (suc i) ss) label
  go [] label i e lt un is = tt
  go (s ∷ ss) label zero e lt un is = (is, tt)
  go (s ∷ ss) label (suc i) e lt un is = (un.0, go ss label i e (omega arith) un.1 is)

get_map : (xs : List Session) (i : ℕ) (v : Session) → i < length xs → v ≡ get_or xs i v → slice_get (map session_of xs) i ≡ Some (session_of v)
get_map [] i v lt e = absurd (omega arith)
get_map (x ∷ xs) zero v lt e = ap (λ (y : Session). Some (session_of y)) (sym e)
get_map (x ∷ xs) (suc i) v lt e = get_map xs i v (omega arith) e

get_past : (xs : List Session) (i : ℕ) → length xs ≤ i → slice_get (map session_of xs) i ≡ None
get_past [] i le = refl
get_past (x ∷ xs) zero le = absurd (omega arith)
get_past (x ∷ xs) (suc i) le = get_past xs i (omega arith)

pub at_number : (xs : List Session) (n : ℕ) (v : Session) → (n ≡ 0 → ⊥) → n - 1 < length xs → v ≡ get_or xs (n - 1) v → session_at (map session_of xs) n ≡ Some (session_of v)
at_number xs zero v ne lt e = absurd (ne refl)
at_number xs (suc i) v ne lt e = (let p : suc i - 1 ≡ i = omega arith in get_map xs i v (omega arith) (rw p at e))

pub past_number : (xs : List Session) (n : ℕ) → length xs ≤ n - 1 → session_at (map session_of xs) n ≡ None
past_number xs zero le = refl
past_number xs (suc i) le = get_past xs i (omega arith)

set_last : (ps : List (Option Settled)) (x y : Option Settled) → slice_set (ps ++ x ∷ []) (length ps) y ≡ ps ++ y ∷ []
set_last [] x y = refl
set_last (p ∷ ps) x y = ap (λ qs. p ∷ qs) (set_last ps x y)

pub settle_last : (ps : List (Option Settled)) (how : Settled) → settle_in (ps ++ None ∷ []) (length ps + 1) how ≡ ps ++ Some how ∷ []
settle_last ps how = rw add-one (set_last ps None (Some how))

-- two changes that agree on the session with the number
pub change_alike : (xs : List SessionState) (n : ℕ) (s : SessionState) (f g : SessionState → SessionState) → session_at xs n ≡ Some s → f s ≡ g s → change_session xs n f ≡ change_session xs n g
change_alike xs zero s f g at same = refl
change_alike xs (suc i) s f g at same = go xs i at where
  go : (xs : List SessionState) (i : ℕ) → slice_get xs i ≡ Some s → change_at xs i f ≡ change_at xs i g
  go [] i at = refl
  go (x ∷ xs) zero at = (let here : x ≡ s = cc in ap (λ y. y ∷ xs) (rw here same))
  go (x ∷ xs) (suc i) at = ap (λ ys. x ∷ ys) (go xs i at)

-- two changes one after the other
pub change_twice : (xs : List SessionState) (n : ℕ) (f g : SessionState → SessionState) → change_session (change_session xs n f) n g ≡ change_session xs n (λ s. g (f s))
change_twice xs zero f g = refl
change_twice xs (suc i) f g = go xs i where
  go : (xs : List SessionState) (i : ℕ) → change_at (change_at xs i f) i g ≡ change_at xs i (λ s. g (f s))
  go [] i = refl
  go (x ∷ xs) zero = refl
  go (x ∷ xs) (suc i) = ap (λ ys. x ∷ ys) (go xs i)

-- a test of the states is one of the records
pub list_any-map : {A B : Type 0} (p : B → Bool) (f : A → B) (xs : List A) → list_any p (map f xs) ≡ list_any (λ x. p (f x)) xs
list_any-map p f [] = refl
list_any-map p f (x ∷ xs) = ap (λ b. p (f x) || b) (list_any-map p f xs)
