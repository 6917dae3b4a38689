-- What a play has fed, one entry on.
use Rattle.std.proofs.Common.{zero, suc, ◌≡◌, ℕ, ◌+◌, ◌≤◌, IsTrue, List, [], ◌∷◌, ◌++◌, Option, Some, None, length, drop, slice_get, refl, ap, ◌∙◌, sym, subst, append-nil, length-append, inl, inr, arith}
use Rattle.std.specs.List.{sum_by}
use Rattle.std.proofs.lemmas.List.{drop-drop}
use Rattle.std.proofs.lemmas.List.Sums.{sum_by-cons}
use Rattle.eme_types.specs.declared.media.Fragment.{Fragment}
use Rattle.eme_types.specs.declared.media.Media.{Media}
use Rattle.eme_types.specs.declared.entry.Entry.{Entry}
use Rattle.eme_types.specs.declared.entry.Entry.TheVariants.{Feed}
use Rattle.eme_types.specs.Fed.{are_known, are_well_formed, fragment_samples, fragment_bytes}
use Rattle.eme_types.specs.declared.limits.TheConstants.{MAX_SAMPLES, MAX_SAMPLE_BYTES}
use Rattle.cdm_state.specs.Run.{Run}
use Rattle.cdm_state.specs.History.{MayFeedNext, samples_in, bytes_in, fed_samples, fed_bytes, fed_samples_of, fed_bytes_of}
use Rattle.output_order.specs.Lane.{asked, feeds_in, fed_by}
use Rattle.output_order.specs.Complete.{FeedsBegun}
use Rattle.play_parts.specs.Asks.{IsOfLanes}
use Rattle.play_parts.proofs.Reading.{true_at}
use Rattle.player_core.specs.Course.{Goes, HasFed}
use Rattle.player_core.proofs.Added.{tracks_kept, feeds_added, samples_added, bytes_added, alone_added, last_added}
use Rattle.player_core.proofs.Steps.{push_cases}

-- an entry that feeds nothing
pub fed_kept : (media : Media) (left : List Fragment) (old new : Run) (e : Entry) → Goes old new e → fed_by e ≡ [] → fed_samples_of e ≡ 0 → fed_bytes_of e ≡ 0 → asked e ≡ e ∷ [] → IsOfLanes e → HasFed media left old → HasFed media left new
fed_kept media left old new e g feeds samples bytes is alone fed =
    let same : feeds_in new.history ≡ feeds_in old.history = feeds_added old new e g ∙ (ap (λ xs. feeds_in old.history ++ xs) feeds ∙ append-nil (feeds_in old.history)) in
    let samples_are : fed_samples new.history ≡ fed_samples old.history + fed_samples_of e = samples_added old new e g in
    let bytes_are : fed_bytes new.history ≡ fed_bytes old.history + fed_bytes_of e = bytes_added old new e g in
    let samples_were = fed.samples in
    let bytes_were = fed.bytes in
    record {
      valid = fed.valid;
      tracks = tracks_kept old new e g ∙ fed.tracks;
      feeds = λ k given at. fed.feeds k given (sym (ap (λ xs. slice_get xs k) same) ∙ at);
      left_ = ap (λ xs. drop (length xs) media.fragments) same ∙ fed.left_;
      samples = omega (arith, samples_are, samples_were, samples);
      bytes = omega (arith, bytes_are, bytes_were, bytes);
      alone = alone_added old new e g fed.alone alone;
      delivered = g.delivered fed.delivered;
      turns = g.turns fed.last fed.turns;
      last = last_added old new e g is;
    }

slice_get-drop : {A : Type 0} (xs : List A) (n : ℕ) → slice_get xs n ≡ slice_get (drop n xs) 0
slice_get-drop [] zero = refl
slice_get-drop [] (suc n) = refl
slice_get-drop (x ∷ xs) zero = refl
slice_get-drop (x ∷ xs) (suc n) = slice_get-drop xs n

-- the first fragment that is left is the next of the media
next_is : (media : Media) (left : List Fragment) (r : Run) → HasFed media left r → slice_get left 0 ≡ slice_get media.fragments (length (feeds_in r.history))
next_is media left r fed = ap (λ xs. slice_get xs 0) (sym fed.left_) ∙ sym (slice_get-drop media.fragments (length (feeds_in r.history)))

samples_first : (left : List Fragment) → samples_in (slice_get left 0) + sum_by fragment_samples (drop 1 left) ≡ sum_by fragment_samples left
samples_first [] = refl
samples_first (f ∷ left) = sym (sum_by-cons fragment_samples f left)

bytes_first : (left : List Fragment) → bytes_in (slice_get left 0) + sum_by fragment_bytes (drop 1 left) ≡ sum_by fragment_bytes left
bytes_first [] = refl
bytes_first (f ∷ left) = sym (sum_by-cons fragment_bytes f left)

feeds_begun_more : (fragments : List Fragment) (old new : Run) (line : ℕ) (given : Option Fragment) → Goes old new (Feed line given) → given ≡ slice_get fragments (length (feeds_in old.history)) → FeedsBegun fragments old.history → FeedsBegun fragments new.history
feeds_begun_more fragments old new line given g is begun k x at =
    elim (push_cases (feeds_in old.history) given k x (sym (ap (λ xs. slice_get xs k) (feeds_added old new (Feed line given) g)) ∙ at)) [
      | inl before ↦ begun k x before
      | inr end ↦ end.1 ∙ (is ∙ ap (λ n. slice_get fragments n) (sym end.0))
    ]

-- a feed of the next fragment, or of none past the last
pub fed_more : (media : Media) (left : List Fragment) (old new : Run) (line : ℕ) → Goes old new (Feed line (slice_get left 0)) → HasFed media left old → HasFed media (drop 1 left) new
fed_more media left old new line g fed =
    let given : Option Fragment = slice_get left 0 in
    let many : ℕ = length (feeds_in old.history) in
    let feeds_are : feeds_in new.history ≡ feeds_in old.history ++ given ∷ [] = feeds_added old new (Feed line given) g in
    let many_are : length (feeds_in new.history) ≡ many + 1 = ap length feeds_are ∙ length-append (feeds_in old.history) (given ∷ []) in
    let samples_are : fed_samples new.history ≡ fed_samples old.history + samples_in given = samples_added old new (Feed line given) g in
    let bytes_are : fed_bytes new.history ≡ fed_bytes old.history + bytes_in given = bytes_added old new (Feed line given) g in
    let samples_were = fed.samples in
    let bytes_were = fed.bytes in
    let samples = samples_first left in
    let bytes = bytes_first left in
    record {
      valid = fed.valid;
      tracks = tracks_kept old new (Feed line given) g ∙ fed.tracks;
      feeds = feeds_begun_more media.fragments old new line given g (next_is media left old fed) fed.feeds;
      left_ = ap (λ n. drop n media.fragments) many_are ∙ (sym (drop-drop 1 many media.fragments) ∙ ap (drop 1) fed.left_);
      samples = omega (arith, samples_are, samples_were, samples);
      bytes = omega (arith, bytes_are, bytes_were, bytes);
      alone = alone_added old new (Feed line given) g fed.alone tt;
      delivered = g.delivered fed.delivered;
      turns = g.turns fed.last fed.turns;
      last = last_added old new (Feed line given) g refl;
    }

may_feed_given : (media : Media) (left : List Fragment) (r : Run) (given : Option Fragment) → HasFed media left r → slice_get left 0 ≡ given → MayFeedNext r.tracks r.history given
may_feed_given media left r None fed is = tt
may_feed_given media left r (Some f) fed is =
    let at : slice_get media.fragments (length (feeds_in r.history)) ≡ Some f = sym (next_is media left r fed) ∙ is in
    let samples : fragment_samples f + sum_by fragment_samples (drop 1 left) ≡ sum_by fragment_samples left = ap (λ o. samples_in o + sum_by fragment_samples (drop 1 left)) (sym is) ∙ samples_first left in
    let bytes : fragment_bytes f + sum_by fragment_bytes (drop 1 left) ≡ sum_by fragment_bytes left = ap (λ o. bytes_in o + sum_by fragment_bytes (drop 1 left)) (sym is) ∙ bytes_first left in
    let few : sum_by fragment_samples media.fragments ≤ MAX_SAMPLES = fed.valid.samples in
    let small : sum_by fragment_bytes media.fragments ≤ MAX_SAMPLE_BYTES = fed.valid.bytes in
    let samples_were = fed.samples in
    let bytes_were = fed.bytes in
    record {
      known = subst (λ ids. IsTrue (are_known ids f)) (sym fed.tracks) (true_at (are_known media.tracks) media.fragments (length (feeds_in r.history)) f fed.valid.known at);
      formed = true_at are_well_formed media.fragments (length (feeds_in r.history)) f fed.valid.formed at;
      samples = omega (arith, samples, few, samples_were);
      bytes = omega (arith, bytes, small, bytes_were);
    }

-- the next fragment may be fed
pub may_feed : (media : Media) (left : List Fragment) (r : Run) → HasFed media left r → MayFeedNext r.tracks r.history (slice_get left 0)
may_feed media left r fed = may_feed_given media left r (slice_get left 0) fed refl
