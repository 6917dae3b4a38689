-- Where no fragment was fed, the first of the media may be.
use Rattle.std.proofs.Common.{◌≡◌, ◌≤◌, ◌+◌, ◌∙◌, ℕ, IsTrue, List, [], ◌∷◌, length, get_or, Some, None, refl, subst, sym, ap, arith}
use Rattle.std.specs.Prelude.{slice_get}
use Rattle.std.specs.List.{sum_by}
use Rattle.std.proofs.lemmas.List.Sums.{sum_by-cons}
use Rattle.std.proofs.lemmas.Option.{slice_get-get_or}
use Rattle.eme_types.specs.declared.media.Fragment.{Fragment}
use Rattle.eme_types.specs.declared.media.Media.{Media}
use Rattle.eme_types.specs.declared.entry.Entry.{Entry}
use Rattle.eme_types.specs.declared.entry.Entry.TheVariants.{Feed}
use Rattle.eme_types.specs.declared.limits.TheConstants.{MAX_SAMPLES, MAX_SAMPLE_BYTES}
use Rattle.eme_types.specs.Fed.{IsFed, are_known, are_well_formed, fragment_samples, fragment_bytes}
use Rattle.cdm_state.specs.History.{MayFeed, fed_samples, fed_bytes, fed_samples_of, fed_bytes_of}
use Rattle.cdm_state.specs.Feeds.{fragments_fed}
use Rattle.output_order.proofs.Sizes.{some_same}
use Rattle.play_parts.proofs.Reading.{true_at}

feeds_no_samples : (e : Entry) → fragments_fed e ≡ 0 → fed_samples_of e ≡ 0
feeds_no_samples (Feed line None) is = refl
feeds_no_samples (Feed line (Some f)) is = (let one : 1 ≡ 0 = is in omega (arith, one))
feeds_no_samples e is = refl

feeds_no_bytes : (e : Entry) → fragments_fed e ≡ 0 → fed_bytes_of e ≡ 0
feeds_no_bytes (Feed line None) is = refl
feeds_no_bytes (Feed line (Some f)) is = (let one : 1 ≡ 0 = is in omega (arith, one))
feeds_no_bytes e is = refl

-- what a history brings of which no entry feeds a fragment
nothing_of : (size : Entry → ℕ) → ((e : Entry) → fragments_fed e ≡ 0 → size e ≡ 0) → (h : List Entry) → sum_by fragments_fed h ≡ 0 → sum_by size h ≡ 0
nothing_of size none [] is = refl
nothing_of size none (e ∷ h) is =
    let sum : sum_by fragments_fed (e ∷ h) ≡ fragments_fed e + sum_by fragments_fed h = sum_by-cons fragments_fed e h in
    let here : fragments_fed e ≡ 0 = omega (arith, is, sum) in
    let there : sum_by fragments_fed h ≡ 0 = omega (arith, is, sum) in
    let one : size e ≡ 0 = none e here in
    let rest : sum_by size h ≡ 0 = nothing_of size none h there in
    omega (arith, sum_by-cons size e h, one, rest)

first_within : (size : Fragment → ℕ) (fs : List Fragment) (f : Fragment) → slice_get fs 0 ≡ Some f → size f ≤ sum_by size fs
first_within size [] f at = absurd cc
first_within size (x ∷ fs) f at =
    let same : size x ≡ size f = ap size (some_same at) in
    omega (arith, sum_by-cons size x fs, same)

-- the first fragment may be fed where none was
may_feed_first : (media : Media) (ids : List ℕ) (h : List Entry) (f : Fragment) → IsFed media → ids ≡ media.tracks → sum_by fragments_fed h ≡ 0 → slice_get media.fragments 0 ≡ Some f → MayFeed ids h f
may_feed_first media ids h f valid is none at =
    let few : fragment_samples f ≤ sum_by fragment_samples media.fragments = first_within fragment_samples media.fragments f at in
    let small : fragment_bytes f ≤ sum_by fragment_bytes media.fragments = first_within fragment_bytes media.fragments f at in
    let most : sum_by fragment_samples media.fragments ≤ MAX_SAMPLES = valid.samples in
    let most_bytes : sum_by fragment_bytes media.fragments ≤ MAX_SAMPLE_BYTES = valid.bytes in
    let no_samples : fed_samples h ≡ 0 = nothing_of fed_samples_of feeds_no_samples h none in
    let no_bytes : fed_bytes h ≡ 0 = nothing_of fed_bytes_of feeds_no_bytes h none in
    record {
      known = subst (λ (xs : List ℕ). IsTrue (are_known xs f)) (sym is) (true_at (are_known media.tracks) media.fragments 0 f valid.known at);
      formed = true_at are_well_formed media.fragments 0 f valid.formed at;
      samples = omega (arith, no_samples, few, most);
      bytes = omega (arith, no_bytes, small, most_bytes);
    }

-- and so may a copy of it
pub may_feed_copied : (media : Media) (ids : List ℕ) (h : List Entry) (n : ℕ) (fs : List Fragment) (x f : Fragment) → IsFed media → ids ≡ media.tracks → n ≡ sum_by fragments_fed h → n ≤ 0 → fs ≡ media.fragments → 1 ≤ length fs → x ≡ get_or fs 0 x → f ≡ x → MayFeed ids h f
may_feed_copied media ids h n fs x f valid is count none fs_are some first copy =
    let at : slice_get fs 0 ≡ Some f = slice_get-get_or fs 0 x (omega (arith, some)) ∙ ap (λ (y : Fragment). Some y) (sym first ∙ sym copy) in
    let never : sum_by fragments_fed h ≡ 0 = omega (arith, count, none) in
    may_feed_first media ids h f valid is never (subst (λ (xs : List Fragment). slice_get xs 0 ≡ Some f) fs_are at)
