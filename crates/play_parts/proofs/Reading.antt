-- What is read off entries.
use Rattle.std.proofs.Common.{zero, suc, ◌≡◌, ℕ, Bool, true, false, ◌&&◌, IsTrue, List, [], ◌∷◌, ◌++◌, Contains, Some, refl, ap, subst, ◌∙◌, arith, append-nil, ⊎_elim}
use Rattle.std.specs.Prelude.{slice_get}
use Rattle.std.specs.List.{flat_map, list_all, AllByRecursion}
use Rattle.std.proofs.lemmas.List.Concat.{flat_map-append}
use Rattle.std.proofs.lemmas.List.Elements.{filter-append, All-contains, All-from_recursion, Contains-push_cases}
use Rattle.eme_types.specs.declared.entry.Entry.{Entry}
use Rattle.eme_types.specs.declared.entry.Entry.TheVariants.{Call, Tick, Feed, Evict, Settle}
use Rattle.script_lang.specs.declared.script.Line.{Line}
use Rattle.output_order.specs.Lane.{line_of, lines_in, lane, is_of_lane, asked, asked_in, fed_by, feeds_in}
use Rattle.output_order.proofs.Sizes.{some_same}
use Rattle.decrypt_workers.specs.Desks.{Placed}
use Rattle.shared_cdm.specs.Own.{entries}

-- ---- facts of every element

pub all_mapped : {X : Type 0} (P Q : X → Type 0) → ((x : X) → P x → Q x) → (xs : List X) → AllByRecursion P xs → AllByRecursion Q xs
all_mapped P Q f [] h = tt
all_mapped P Q f (x ∷ xs) h = (f x h.0, all_mapped P Q f xs h.1)

pub all_append : {X : Type 0} (P : X → Type 0) (xs ys : List X) → AllByRecursion P xs → AllByRecursion P ys → AllByRecursion P (xs ++ ys)
all_append P [] ys f g = g
all_append P (x ∷ xs) ys f g = (f.0, all_append P xs ys f.1 g)

pub both_true : (a b : Bool) → IsTrue (a && b) → IsTrue a × IsTrue b
both_true true true h = (refl, refl)
both_true true false h = absurd cc
both_true false b h = absurd cc

pub true_at : {X : Type 0} (p : X → Bool) (xs : List X) (n : ℕ) (x : X) → IsTrue (list_all p xs) → slice_get xs n ≡ Some x → IsTrue (p x)
true_at p [] n x all at = absurd cc
true_at {X} p (y ∷ xs) zero x all at = subst (λ (z : X). IsTrue (p z)) (some_same at) (both_true (p y) (list_all p xs) all).0
true_at p (y ∷ xs) (suc n) x all at = true_at p xs n x (both_true (p y) (list_all p xs) all).1 at

-- ---- entries with and without their places

pub all_entries : (P : Entry → Type 0) (xs : Placed) → AllByRecursion (λ x. P x.1) xs → AllByRecursion P (entries xs)
all_entries P [] h = tt
all_entries P (x ∷ xs) h = (h.0, all_entries P xs h.1)

pub all_placed : (P : Entry → Type 0) (xs : Placed) → AllByRecursion P (entries xs) → AllByRecursion (λ x. P x.1) xs
all_placed P [] h = tt
all_placed P (x ∷ xs) h = (h.0, all_placed P xs h.1)

pub entries_append : (xs ys : Placed) → entries (xs ++ ys) ≡ entries xs ++ entries ys
entries_append [] ys = refl
entries_append (x ∷ xs) ys = ap (λ (es : List Entry). x.1 ∷ es) (entries_append xs ys)

pub nothing_in : {X : Type 0} (x : X) → Contains [] x → ⊥
nothing_in x h = omega (arith, h.1)

pub only_in : {X : Type 0} (x y : X) → Contains (x ∷ []) y → x ≡ y
only_in {X} x y h = ⊎_elim (λ (none : Contains [] y). absurd (nothing_in y none)) (λ (e : x ≡ y). e) (Contains-push_cases [] x y h)

-- what holds of all holds of each
pub all_contains : {X : Type 0} (P : X → Type 0) (xs : List X) (x : X) → AllByRecursion P xs → Contains xs x → P x
all_contains P xs x all h = All-contains P xs x (All-from_recursion P xs all) h

-- ---- lists that are read off entry by entry

-- entries that give nothing
pub flat_none : {A : Type 0} (P : Entry → Type 0) (f : Entry → List A) → ((e : Entry) → P e → f e ≡ []) → (es : List Entry) → AllByRecursion P es → flat_map f es ≡ []
flat_none P f none [] all = refl
flat_none {A} P f none (e ∷ es) all = ap (λ (xs : List A). xs ++ flat_map f es) (none e all.0) ∙ flat_none P f none es all.1

-- what two lists of placed entries give
pub flat_both : {A : Type 0} (f : Entry → List A) (xs ys : Placed) → flat_map f (entries (xs ++ ys)) ≡ flat_map f (entries xs) ++ flat_map f (entries ys)
flat_both f xs ys = ap (flat_map f) (entries_append xs ys) ∙ flat_map-append f (entries xs) (entries ys)

-- the line of an entry, where it is of lane i
abbrev pub line_at : ℕ → Entry → List Line
line_at i e = lane (line_of e) i

-- the lines of a lane, entry by entry
pub lane_flat : (i : ℕ) (h : List Entry) → lane (lines_in h) i ≡ flat_map (line_at i) h
lane_flat i [] = refl
lane_flat i (e ∷ es) = filter-append (is_of_lane i) (line_of e) (lines_in es) ∙ ap (λ (xs : List Line). lane (line_of e) i ++ xs) (lane_flat i es)

asked_lines : (e : Entry) → flat_map line_of (asked e) ≡ line_of e
asked_lines (Call lane line call) = append-nil (line_of (Call lane line call))
asked_lines (Tick line moment) = append-nil (line_of (Tick line moment))
asked_lines (Feed line fragment) = append-nil (line_of (Feed line fragment))
asked_lines (Evict line label) = append-nil (line_of (Evict line label))
asked_lines (Settle line) = append-nil (line_of (Settle line))
asked_lines e = refl

asked_feeds : (e : Entry) → flat_map fed_by (asked e) ≡ fed_by e
asked_feeds (Feed line fragment) = refl
asked_feeds e = refl

-- a list that only entries which are a line's or implied give is read off these
flat_asked : {A : Type 0} (f : Entry → List A) → ((e : Entry) → flat_map f (asked e) ≡ f e) → (h : List Entry) → flat_map f (asked_in h) ≡ flat_map f h
flat_asked f each [] = refl
flat_asked {A} f each (e ∷ h) = flat_map-append f (asked e) (asked_in h) ∙ (ap (λ (xs : List A). xs ++ flat_map f (asked_in h)) (each e) ∙ ap (λ (xs : List A). f e ++ xs) (flat_asked f each h))

pub lines_asked : (h : List Entry) → lines_in (asked_in h) ≡ lines_in h
lines_asked h = flat_asked line_of asked_lines h

pub feeds_asked : (h : List Entry) → feeds_in (asked_in h) ≡ feeds_in h
feeds_asked h = flat_asked fed_by asked_feeds h
