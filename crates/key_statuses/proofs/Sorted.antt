-- The statuses of a table are sorted, and each is that of a known id.
use Rattle.std.proofs.Common.{◌≡◌, ◌⊎◌, ℕ, Bool, true, false, List, [], ◌∷◌, map, if◌then◌else◌, Result, Ok, Err, IfOk, ◌↔◌, inl, inr, refl, sym, ap, ◌∙◌}
use Rattle.std.specs.List.{AllByRecursion}
use Rattle.std.specs.List.Sorted.{IsStrictlySortedBy}
use Rattle.std.specs.Ordering.{nat_cmp, is_eq, ordering_reverse}
use Rattle.std.specs.Cmp.Lexicographic.{slice_cmp}
use Rattle.std.specs.declared.cmp.Ordering.{Ordering}
use Rattle.std.specs.declared.cmp.Ordering.TheVariants.{Less, Equal, Greater}
use Rattle.std.proofs.lemmas.Cmp.{nat_list_cmp_total}
use Rattle.std.proofs.lemmas.Slice.Eq.{bytes_eq-Decides}
use Rattle.std.proofs.lemmas.Map.Text.{is_eq-slice_cmp}
use Rattle.eme_types.specs.declared.kid.Status.{Status}
use Rattle.key_statuses.specs.declared.table.KnownKey.{KnownKey}
use Rattle.cdm_world.specs.In.{In}
use Rattle.key_statuses.specs.Table.{ids, KnowsEachOnce}
use Rattle.key_statuses.specs.Statuses.{is_less, comes_before, insert_status, statuses_from, statuses, status_of, kid_of, AreSorted, reported_as}

less : (r : Ordering) → is_less r ≡ true → r ≡ Less
less Less e = refl
less Equal e = cc
less Greater e = cc

-- of two ids that differ one comes before the other
behind : (a b : List ℕ) → comes_before a b ≡ false → (a ≡ b → ⊥) → slice_cmp nat_cmp b a ≡ Less
behind a b later differ = nat_list_cmp_total.antisymm b a ∙ go (slice_cmp nat_cmp a b) refl later where
  go : (r : Ordering) → slice_cmp nat_cmp a b ≡ r → is_less r ≡ false → ordering_reverse r ≡ Less
  go Less e later = cc
  go Equal e later = absurd (differ ((bytes_eq-Decides a b).0 (sym (is_eq-slice_cmp a b) ∙ ap is_eq e)))
  go Greater e later = refl

-- the id comes before each of the list
abbrev Leads : List ℕ → List (List ℕ × Status) → Type 0
Leads kid list = AllByRecursion (λ id. slice_cmp nat_cmp kid id ≡ Less) (map kid_of list)

leads_through : (a b : List ℕ) (list : List (List ℕ × Status)) → slice_cmp nat_cmp a b ≡ Less → Leads b list → Leads a list
leads_through a b [] lt leads = tt
leads_through a b (t ∷ more) lt leads = (nat_list_cmp_total.trans a b t.0 lt leads.0, leads_through a b more lt leads.1)

leads_inserted : (kid : List ℕ) (s : List ℕ × Status) (list : List (List ℕ × Status)) → slice_cmp nat_cmp kid s.0 ≡ Less → Leads kid list → Leads kid (insert_status s list)
leads_inserted kid s [] lt leads = (lt, tt)
leads_inserted kid s (t ∷ more) lt leads = go (leads_inserted kid s more lt leads.1) (comes_before s.0 t.0) where
  go : Leads kid (insert_status s more) → (b : Bool) → Leads kid (if b then s ∷ (t ∷ more) else t ∷ insert_status s more)
  go rest true = (lt, leads)
  go rest false = (leads.0, rest)

inserted_sorted : (s : List ℕ × Status) (list : List (List ℕ × Status)) → AreSorted list → (In (map kid_of list) s.0 → ⊥) → AreSorted (insert_status s list)
unfolding IsStrictlySortedBy
inserted_sorted s [] sorted new = (tt, tt)
inserted_sorted s (t ∷ more) sorted new = go (inserted_sorted s more sorted.1 (λ h. new (inr h))) (comes_before s.0 t.0) refl where
  go : AreSorted (insert_status s more) → (b : Bool) → comes_before s.0 t.0 ≡ b → AreSorted (if b then s ∷ (t ∷ more) else t ∷ insert_status s more)
  go rest true is = let lt : slice_cmp nat_cmp s.0 t.0 ≡ Less = less (slice_cmp nat_cmp s.0 t.0) is in ((lt, leads_through s.0 t.0 more lt sorted.0), sorted)
  go rest false is = (leads_inserted t.0 s more (behind s.0 t.0 is (λ e. new (inl (sym e)))) sorted.0, rest)

inserted_new : (s : List ℕ × Status) (list : List (List ℕ × Status)) → In (insert_status s list) s
inserted_new s [] = inl refl
inserted_new s (t ∷ more) = go (inserted_new s more) (comes_before s.0 t.0) where
  go : In (insert_status s more) s → (b : Bool) → In (if b then s ∷ (t ∷ more) else t ∷ insert_status s more) s
  go rest true = inl refl
  go rest false = inr rest

inserted_old : (s x : List ℕ × Status) (list : List (List ℕ × Status)) → In list x → In (insert_status s list) x
inserted_old s x [] h = absurd h
inserted_old s x (t ∷ more) h = go (inserted_old s x more) (comes_before s.0 t.0) h where
  go : (In more x → In (insert_status s more) x) → (b : Bool) → In (t ∷ more) x → In (if b then s ∷ (t ∷ more) else t ∷ insert_status s more) x
  go rest true h = inr h
  go rest false (inl e) = inl e
  go rest false (inr h) = inr (rest h)

inserted_in : (s x : List ℕ × Status) (list : List (List ℕ × Status)) → In (insert_status s list) x → (s ≡ x) ⊎ In list x
inserted_in s x [] (inl e) = inl e
inserted_in s x [] (inr h) = absurd h
inserted_in s x (t ∷ more) h = go (inserted_in s x more) (comes_before s.0 t.0) h where
  go : (In (insert_status s more) x → (s ≡ x) ⊎ In more x) → (b : Bool) → In (if b then s ∷ (t ∷ more) else t ∷ insert_status s more) x → (s ≡ x) ⊎ In (t ∷ more) x
  go rest true h = h
  go rest false (inl e) = inr (inl e)
  go rest false (inr h) = further (rest h) where
    further : (s ≡ x) ⊎ In more x → (s ≡ x) ⊎ In (t ∷ more) x
    further (inl e) = inl e
    further (inr i) = inr (inr i)

-- the id of an inserted status is its own, or one of the list
inserted_id : (s : List ℕ × Status) (list : List (List ℕ × Status)) (id : List ℕ) → In (map kid_of (insert_status s list)) id → (s.0 ≡ id) ⊎ In (map kid_of list) id
inserted_id s [] id (inl e) = inl e
inserted_id s [] id (inr h) = absurd h
inserted_id s (t ∷ more) id h = go (inserted_id s more id) (comes_before s.0 t.0) h where
  go : (In (map kid_of (insert_status s more)) id → (s.0 ≡ id) ⊎ In (map kid_of more) id) → (b : Bool) → In (map kid_of (if b then s ∷ (t ∷ more) else t ∷ insert_status s more)) id → (s.0 ≡ id) ⊎ In (map kid_of (t ∷ more)) id
  go rest true h = h
  go rest false (inl e) = inr (inl e)
  go rest false (inr h) = further (rest h) where
    further : (s.0 ≡ id) ⊎ In (map kid_of more) id → (s.0 ≡ id) ⊎ In (map kid_of (t ∷ more)) id
    further (inl e) = inl e
    further (inr i) = inr (inr i)

from_sorted : (list : List (List ℕ × Status)) (table : List KnownKey) (held : Status) → AreSorted list → KnowsEachOnce table → ((id : List ℕ) → In (map kid_of list) id → In (ids table) id → ⊥) → AreSorted (statuses_from list table held)
from_sorted list [] held sorted once apart = sorted
from_sorted list (k ∷ ks) held sorted once apart =
    from_sorted (insert_status (k.kid, status_of k.key held) list) ks held (inserted_sorted (k.kid, status_of k.key held) list sorted (λ h. apart k.kid h (inl refl))) once.1 (λ id h i. apart_still id i (inserted_id (k.kid, status_of k.key held) list id h)) where
      apart_still : (id : List ℕ) → In (ids ks) id → (k.kid ≡ id) ⊎ In (map kid_of list) id → ⊥
      apart_still id i (inl e) = once.0 (rw e i)
      apart_still id i (inr h) = apart id h (inr i)

statuses_sorted : (table : List KnownKey) (held : Status) → KnowsEachOnce table → AreSorted (statuses table held)
unfolding IsStrictlySortedBy
statuses_sorted table held once = from_sorted [] table held tt once (λ id h i. h)

from_in : (list : List (List ℕ × Status)) (table : List KnownKey) (held : Status) (x : List ℕ × Status) → In (statuses_from list table held) x → In list x ⊎ In (map (reported_as held) table) x
from_in list [] held x h = inl h
from_in list (k ∷ ks) held x h = first (from_in (insert_status (k.kid, status_of k.key held) list) ks held x h) where
  second : ((k.kid, status_of k.key held) ≡ x) ⊎ In list x → In list x ⊎ In (map (reported_as held) (k ∷ ks)) x
  second (inl e) = inr (inl e)
  second (inr i) = inl i

  first : In (insert_status (k.kid, status_of k.key held) list) x ⊎ In (map (reported_as held) ks) x → In list x ⊎ In (map (reported_as held) (k ∷ ks)) x
  first (inl i) = second (inserted_in (k.kid, status_of k.key held) x list i)
  first (inr i) = inr (inr i)

in_from : (list : List (List ℕ × Status)) (table : List KnownKey) (held : Status) (x : List ℕ × Status) → In list x ⊎ In (map (reported_as held) table) x → In (statuses_from list table held) x
in_from list [] held x (inl h) = h
in_from list [] held x (inr h) = absurd h
in_from list (k ∷ ks) held x (inl h) = in_from (insert_status (k.kid, status_of k.key held) list) ks held x (inl (inserted_old (k.kid, status_of k.key held) x list h))
in_from list (k ∷ ks) held x (inr (inl e)) = in_from (insert_status (k.kid, status_of k.key held) list) ks held x (inl (rw (← e) (inserted_new (k.kid, status_of k.key held) list)))
in_from list (k ∷ ks) held x (inr (inr i)) = in_from (insert_status (k.kid, status_of k.key held) list) ks held x (inr i)

status_known : (table : List KnownKey) (held : Status) (x : List ℕ × Status) → In (statuses table held) x → In (map (reported_as held) table) x
status_known table held x h = known (from_in [] table held x h) where
  known : In [] x ⊎ In (map (reported_as held) table) x → In (map (reported_as held) table) x
  known (inl h) = absurd h
  known (inr i) = i

known_status : (table : List KnownKey) (held : Status) (x : List ℕ × Status) → In (map (reported_as held) table) x → In (statuses table held) x
known_status table held x i = in_from [] table held x (inr i)

pub sorted_result : {E : Type 0} → (r : Result (List (List ℕ × Status)) E) (table : List KnownKey) (held : Status) → IfOk r (λ list. list ≡ statuses table held) → KnowsEachOnce table → IfOk r AreSorted
sorted_result (Ok list) table held is once = rw is (statuses_sorted table held once)
sorted_result (Err e) table held is once = tt

pub members_result : {E : Type 0} → (r : Result (List (List ℕ × Status)) E) (table : List KnownKey) (held : Status) → IfOk r (λ list. list ≡ statuses table held) → IfOk r (λ list. (s : List ℕ × Status) → In list s ↔ In (map (reported_as held) table) s)
members_result (Ok list) table held is = λ s. rw is (status_known table held s, known_status table held s)
members_result (Err e) table held is = tt
