-- What lane 0 has fed, one entry on.
use Rattle.std.proofs.Common.{zero, suc, ◌≡◌, ℕ, ◌+◌, ◌≤◌, IsTrue, List, ◌⊎◌, [], ◌∷◌, ◌++◌, Option, Some, None, length, drop, refl, ap, ◌∙◌, sym, subst, length-append, inl, inr, arith}
use Rattle.std.specs.Prelude.{slice_get}
use Rattle.std.specs.List.{sum_by}
use Rattle.std.proofs.lemmas.List.{drop-drop}
use Rattle.std.proofs.lemmas.List.Concat.{flat_map-append}
use Rattle.std.proofs.lemmas.List.Sums.{sum_by-cons, sum_by-append}
use Rattle.eme_types.specs.declared.media.Fragment.{Fragment}
use Rattle.eme_types.specs.declared.media.Media.{Media}
use Rattle.eme_types.specs.declared.entry.Entry.{Entry}
use Rattle.eme_types.specs.declared.entry.Entry.TheVariants.{Feed}
use Rattle.eme_types.specs.Fed.{IsFed, are_known, are_well_formed, fragment_samples, fragment_bytes}
use Rattle.eme_types.specs.declared.limits.TheConstants.{MAX_SAMPLES, MAX_SAMPLE_BYTES}
use Rattle.cdm_state.specs.History.{MayFeedNext, samples_in, bytes_in, fed_samples, fed_bytes, fed_samples_of, fed_bytes_of}
use Rattle.output_order.specs.Lane.{feeds_in, fed_by}
use Rattle.output_order.proofs.Sizes.{some_same}
use Rattle.play_parts.specs.Parts.{AreFed}
use Rattle.play_parts.proofs.Reading.{true_at}

pub fed_none : (fragments : List Fragment) → AreFed fragments fragments []
fed_none fragments = record { each = λ k given at. absurd cc; left_ = refl }

-- entries that feed the same
pub fed_same : (fragments left : List Fragment) (es fs : List Entry) → feeds_in fs ≡ feeds_in es → AreFed fragments left es → AreFed fragments left fs
fed_same fragments left es fs is fed = record {
  each = λ k given at. fed.each k given (subst (λ (xs : List (Option Fragment)). slice_get xs k ≡ Some given) is at);
  left_ = ap (λ (xs : List (Option Fragment)). drop (length xs) fragments) is ∙ fed.left_;
}

slice_get-drop : {A : Type 0} (xs : List A) (n k : ℕ) → slice_get (drop n xs) k ≡ slice_get xs (n + k)
slice_get-drop xs zero k = ap (slice_get xs) (let same : k ≡ 0 + k = omega arith in same)
slice_get-drop [] (suc n) k = refl
slice_get-drop (x ∷ xs) (suc n) k = slice_get-drop xs n k ∙ ap (slice_get (x ∷ xs)) (let same : suc (n + k) ≡ suc n + k = omega arith in same)

-- the fragments that are left are the next of the media
next_is : (fragments left : List Fragment) (es : List Entry) (k : ℕ) → AreFed fragments left es → slice_get left k ≡ slice_get fragments (length (feeds_in es) + k)
next_is fragments left es k fed = ap (λ (xs : List Fragment). slice_get xs k) (sym fed.left_) ∙ slice_get-drop fragments (length (feeds_in es)) k

append_cases : {A : Type 0} (xs ys : List A) (k : ℕ) (y : A) → slice_get (xs ++ ys) k ≡ Some y → (slice_get xs k ≡ Some y) ⊎ ((j : ℕ) × (k ≡ length xs + j) × (slice_get ys j ≡ Some y))
append_cases [] ys k y at = inr (k, omega arith, at)
append_cases (x ∷ xs) ys zero y at = inl at
append_cases (x ∷ xs) ys (suc k) y at =
    elim (append_cases xs ys k y at) [ inl there ↦ inl there | inr behind ↦ inr (behind.0, omega (arith, behind.1), behind.2) ]

-- and more entries, which feed what was left, in order
pub fed_on : (fragments left rest : List Fragment) (es more : List Entry) → ((k : ℕ) (given : Option Fragment) → slice_get (feeds_in more) k ≡ Some given → given ≡ slice_get left k) → drop (length (feeds_in more)) left ≡ rest → AreFed fragments left es → AreFed fragments rest (es ++ more)
fed_on fragments left rest es more next behind fed =
    let feeds : feeds_in (es ++ more) ≡ feeds_in es ++ feeds_in more = flat_map-append fed_by es more in
    let many : ℕ = length (feeds_in es) in
    let few : ℕ = length (feeds_in more) in
    let long : length (feeds_in (es ++ more)) ≡ many + few = ap length feeds ∙ length-append (feeds_in es) (feeds_in more) in
    record {
      each = λ k x at. elim (append_cases (feeds_in es) (feeds_in more) k x (subst (λ (xs : List (Option Fragment)). slice_get xs k ≡ Some x) feeds at)) [
        | inl before ↦ fed.each k x before
        | inr end ↦ next end.0 x end.2 ∙ (next_is fragments left es end.0 fed ∙ ap (slice_get fragments) (sym end.1))
      ];
      left_ = ap (λ (n : ℕ). drop n fragments) long ∙ (sym (drop-drop few many fragments) ∙ (ap (drop few) fed.left_ ∙ behind));
    }

-- and more entries, which feed nothing
pub fed_kept : (fragments left : List Fragment) (es more : List Entry) → feeds_in more ≡ [] → AreFed fragments left es → AreFed fragments left (es ++ more)
fed_kept fragments left es more none fed =
    fed_on fragments left left es more (λ k given at. (let never : slice_get [] k ≡ Some given = subst (λ (xs : List (Option Fragment)). slice_get xs k ≡ Some given) none at in absurd cc)) (ap (λ (xs : List (Option Fragment)). drop (length xs) left) none) fed

only_first : {A : Type 0} (x : A) (k : ℕ) (y : A) → slice_get (x ∷ []) k ≡ Some y → (k ≡ 0) × (y ≡ x)
only_first x zero y at = (refl, sym (some_same at))
only_first x (suc k) y at = absurd cc

-- and more entries, which feed the next fragment, or none past the last
pub fed_more : (fragments left : List Fragment) (es more : List Entry) → feeds_in more ≡ slice_get left 0 ∷ [] → AreFed fragments left es → AreFed fragments (drop 1 left) (es ++ more)
fed_more fragments left es more next fed =
    fed_on fragments left (drop 1 left) es more
    (λ k given at. (let one = only_first (slice_get left 0) k given (subst (λ (xs : List (Option Fragment)). slice_get xs k ≡ Some given) next at) in one.1 ∙ ap (slice_get left) (sym one.0)))
    (ap (λ (xs : List (Option Fragment)). drop (length xs) left) next)
    fed

-- ---- totals

-- what the feeds sum up to, together with what is left
fed_sum : (f : Fragment → ℕ) (g : Option Fragment → ℕ) → g None ≡ 0 → ((x : Fragment) → g (Some x) ≡ f x) → (gs : List (Option Fragment)) (fragments : List Fragment) → ((k : ℕ) (given : Option Fragment) → slice_get gs k ≡ Some given → given ≡ slice_get fragments k) → sum_by g gs + sum_by f (drop (length gs) fragments) ≡ sum_by f fragments
fed_sum f g none some [] fragments each = omega arith
fed_sum f g none some (o ∷ gs) [] each =
    let rest : sum_by g gs + sum_by f (drop (length gs) []) ≡ sum_by f [] = fed_sum f g none some gs [] (λ k given at. each (suc k) given at) in
    let here : g o ≡ 0 = ap g (each 0 o refl) ∙ none in
    let nothing : drop (length gs) [] ≡ [] = drop_none (length gs) in
    let rest' : sum_by g gs + sum_by f [] ≡ sum_by f [] = subst (λ (xs : List Fragment). sum_by g gs + sum_by f xs ≡ sum_by f []) nothing rest in
    omega (arith, sum_by-cons g o gs, here, rest')
  where
    drop_none : (n : ℕ) → drop {A = Fragment} n [] ≡ []
    drop_none zero = refl
    drop_none (suc n) = refl
fed_sum f g none some (o ∷ gs) (x ∷ fragments) each =
    let rest : sum_by g gs + sum_by f (drop (length gs) fragments) ≡ sum_by f fragments = fed_sum f g none some gs fragments (λ k given at. each (suc k) given at) in
    let here : g o ≡ f x = ap g (each 0 o refl) ∙ some x in
    omega (arith, sum_by-cons g o gs, here, rest, sum_by-cons f x fragments)

sum_flat : (f : Entry → ℕ) (g : Option Fragment → ℕ) → ((e : Entry) → sum_by g (fed_by e) ≡ f e) → (es : List Entry) → sum_by f es ≡ sum_by g (feeds_in es)
sum_flat f g each [] = refl
sum_flat f g each (e ∷ es) = let rest : sum_by f es ≡ sum_by g (feeds_in es) = sum_flat f g each es in omega (arith, sum_by-cons f e es, each e, rest, sum_by-append g (fed_by e) (feeds_in es))

samples_by : (e : Entry) → sum_by samples_in (fed_by e) ≡ fed_samples_of e
samples_by (Feed line fragment) = omega arith
samples_by e = refl

bytes_by : (e : Entry) → sum_by bytes_in (fed_by e) ≡ fed_bytes_of e
bytes_by (Feed line fragment) = omega arith
bytes_by e = refl

-- the next fragment has its place in the total
total_with : (f : Fragment → ℕ) (g : Option Fragment → ℕ) (fragments left : List Fragment) (es : List Entry) (x : Fragment) → g None ≡ 0 → ((y : Fragment) → g (Some y) ≡ f y) → AreFed fragments left es → slice_get left 0 ≡ Some x → sum_by g (feeds_in es) + f x ≤ sum_by f fragments
total_with f g fragments [] es x none some fed at = absurd cc
total_with f g fragments (y ∷ left) es x none some fed at =
    let all : sum_by g (feeds_in es) + sum_by f (drop (length (feeds_in es)) fragments) ≡ sum_by f fragments = fed_sum f g none some (feeds_in es) fragments fed.each in
    let all' : sum_by g (feeds_in es) + sum_by f (y ∷ left) ≡ sum_by f fragments = subst (λ (xs : List Fragment). sum_by g (feeds_in es) + sum_by f xs ≡ sum_by f fragments) fed.left_ all in
    let same : f y ≡ f x = ap f (some_same at) in
    omega (arith, all', same, sum_by-cons f y left)

may_feed_given : (media : Media) (ids : List ℕ) (left : List Fragment) (es : List Entry) (given : Option Fragment) → IsFed media → ids ≡ media.tracks → AreFed media.fragments left es → slice_get left 0 ≡ given → MayFeedNext ids es given
may_feed_given media ids left es None valid is fed next = tt
may_feed_given media ids left es (Some f) valid is fed next =
    let at : slice_get media.fragments (length (feeds_in es) + 0) ≡ Some f = sym (next_is media.fragments left es 0 fed) ∙ next in
    let samples : sum_by samples_in (feeds_in es) + fragment_samples f ≤ sum_by fragment_samples media.fragments = total_with fragment_samples samples_in media.fragments left es f refl (λ y. refl) fed next in
    let bytes : sum_by bytes_in (feeds_in es) + fragment_bytes f ≤ sum_by fragment_bytes media.fragments = total_with fragment_bytes bytes_in media.fragments left es f refl (λ y. refl) fed next in
    let few : sum_by fragment_samples media.fragments ≤ MAX_SAMPLES = valid.samples in
    let small : sum_by fragment_bytes media.fragments ≤ MAX_SAMPLE_BYTES = valid.bytes in
    let samples_are : fed_samples es ≡ sum_by samples_in (feeds_in es) = sum_flat fed_samples_of samples_in samples_by es in
    let bytes_are : fed_bytes es ≡ sum_by bytes_in (feeds_in es) = sum_flat fed_bytes_of bytes_in bytes_by es in
    record {
      known = subst (λ (xs : List ℕ). IsTrue (are_known xs f)) (sym is) (true_at (are_known media.tracks) media.fragments (length (feeds_in es) + 0) f valid.known at);
      formed = true_at are_well_formed media.fragments (length (feeds_in es) + 0) f valid.formed at;
      samples = omega (arith, samples_are, samples, few);
      bytes = omega (arith, bytes_are, bytes, small);
    }

-- the next fragment may be fed
pub may_feed : (media : Media) (ids : List ℕ) (left : List Fragment) (es : List Entry) → IsFed media → ids ≡ media.tracks → AreFed media.fragments left es → MayFeedNext ids es (slice_get left 0)
may_feed media ids left es valid is fed = may_feed_given media ids left es (slice_get left 0) valid is fed refl
