-- What is sealed is read back: the file of clear media that may be fed is as long as its length says, and is read as those media, sealed.
use Rattle.std.proofs.Common.{◌≡◌, ℕ, ◌+◌, ◌^◌, ◌<◌, ◌≤◌, true, List, [], ◌∷◌, length, map, codes, Ok, refl, sym, ap, subst, ◌∙◌, arith, length-append}
use Rattle.std.specs.Prelude.{◌==◌}
use Rattle.std.specs.List.{All, sum_by, flat_map, list_all}
use Rattle.std.proofs.lemmas.Bool.{and_parts, not-true, eqb-false}
use Rattle.std.proofs.lemmas.List.Sums.{sum_by-cons}
use Rattle.std.proofs.lemmas.List.Elements.{All-nil, All-cons, All-head, All-tail}
use Rattle.eme_types.specs.declared.sample.EncSample.{EncSample}
use Rattle.eme_types.specs.declared.sample.Scheme.{Scheme}
use Rattle.eme_types.specs.declared.sample.Scheme.TheVariants.{Cenc, Cbcs}
use Rattle.eme_types.specs.declared.media.InitData.{InitData}
use Rattle.eme_types.specs.declared.media.TrackPart.{TrackPart}
use Rattle.eme_types.specs.declared.media.Fragment.{Fragment}
use Rattle.eme_types.specs.declared.media.Media.{Media}
use Rattle.eme_types.specs.declared.limits.TheConstants.{MAX_MEDIA_BYTES}
use Rattle.eme_types.specs.Fed.{is_among, are_distinct, are_known, is_joined, has_samples, part_track, part_samples, part_bytes, sample_bytes, fragment_samples, fragment_bytes, IsFed}
use Rattle.iso_boxes.specs.Writing.{boxed}
use Rattle.prot_boxes.proofs.Again.{boxed_length}
use Rattle.track_media.specs.File.{media_of}
use Rattle.seal_media.specs.declared.plan.SealPlan.{SealPlan}
use Rattle.seal_media.specs.Sealed.{iv_of, pair_of, init_of, IsSealed, AreSealed, IsSealedPart, AreSealedParts, IsSealedFragment, AreSealedFragments, IsSealedMedia}
use Rattle.seal_media.specs.Lengths.{traf_length, fragment_length, moov_length, sealed_length}
use Rattle.seal_media.specs.Layout.{moof_body, mdat_body, fragment_boxes, moov_body, sealed_file}
use Rattle.seal_media.specs.Answers.{IsFileOf, IsReadAs}
use Rattle.seal_media.proofs.LengthLemmas.{HasSixteen, moov_size}
use Rattle.seal_media.proofs.BackSamples.{SuitsScheme, HasPlan}
use Rattle.seal_media.proofs.BackTop.{IsPart, IsFragment, HaveInits, moof_size, all_data, reads_back}

-- ---- samples

suits_iv : (scheme : Scheme) (constant : List ℕ) (number : ℕ) → SuitsScheme scheme constant (iv_of scheme constant number)
unfolding iv_of
suits_iv Cenc constant number = refl
suits_iv Cbcs constant number = refl

sample_has : (plan : SealPlan) (number : ℕ) (c s : EncSample) → plan.lead < 2 ^ 16 → length c.bytes < 2 ^ 32 → IsSealed plan number c s → HasPlan plan s
sample_has plan number c s lead small is = record {
  iv = iv_of plan.scheme plan.iv number;
  sub = pair_of plan (length c.bytes);
  protect = is.protect;
  suits = suits_iv plan.scheme plan.iv number;
  clear = omega arith;
  prot = omega arith;
  covers = omega (arith, is.size);
}

samples_same : (plan : SealPlan) (number : ℕ) (cs ss : List EncSample) → AreSealed plan number cs ss → (length ss ≡ length cs) × (sum_by sample_bytes ss ≡ sum_by sample_bytes cs)
samples_same plan number [] [] are = (refl, refl)
samples_same plan number [] (s ∷ ss) are = absurd are
samples_same plan number (c ∷ cs) [] are = absurd are
samples_same plan number (c ∷ cs) (s ∷ ss) are =
    let more = samples_same plan (number + 1) cs ss are.1 in
    (omega (arith, more.0), omega (arith, more.1, are.0.size, sum_by-cons sample_bytes s ss, sum_by-cons sample_bytes c cs))

samples_have : (plan : SealPlan) (number : ℕ) (cs ss : List EncSample) → plan.lead < 2 ^ 16 → sum_by sample_bytes cs < 2 ^ 32 → AreSealed plan number cs ss → All (HasPlan plan) ss
samples_have plan number [] [] lead small are = All-nil (HasPlan plan)
samples_have plan number [] (s ∷ ss) lead small are = absurd are
samples_have plan number (c ∷ cs) [] lead small are = absurd are
samples_have plan number (c ∷ cs) (s ∷ ss) lead small are =
    let sum = sum_by-cons sample_bytes c cs in
    All-cons (HasPlan plan) s ss (sample_has plan number c s lead (omega arith) are.0) (samples_have plan (number + 1) cs ss lead (omega arith) are.1)

-- ---- parts

-- what two lists of parts have in common
record AreAlike (scheme : Scheme) (ps qs : List TrackPart) : Type 0 where
  tracks : map part_track qs ≡ map part_track ps
  samples : sum_by part_samples qs ≡ sum_by part_samples ps
  bytes : sum_by part_bytes qs ≡ sum_by part_bytes ps
  lengths : sum_by (traf_length scheme) qs ≡ sum_by (traf_length scheme) ps

same_cons : (a b : ℕ) (xs ys : List ℕ) → a ≡ b → xs ≡ ys → a ∷ xs ≡ b ∷ ys
same_cons a b xs ys e f = rw (e, f) refl

part_alike : (plan : SealPlan) (number : ℕ) (p q : TrackPart) → IsSealedPart plan number p q → (part_samples q ≡ part_samples p) × ((part_bytes q ≡ part_bytes p) × (traf_length plan.scheme q ≡ traf_length plan.scheme p))
part_alike plan number p q is =
    let same = samples_same plan number p.samples q.samples is.samples in
    (same.0, (same.1, rw same.0 refl))

parts_alike : (plan : SealPlan) (number : ℕ) (ps qs : List TrackPart) → AreSealedParts plan number ps qs → AreAlike plan.scheme ps qs
parts_alike plan number [] [] are = record { tracks = refl; samples = refl; bytes = refl; lengths = refl }
parts_alike plan number [] (q ∷ qs) are = absurd are
parts_alike plan number (p ∷ ps) [] are = absurd are
parts_alike plan number (p ∷ ps) (q ∷ qs) are =
    let one = part_alike plan number p q are.0 in
    let more = parts_alike plan (number + part_samples p) ps qs are.1 in
    record {
      tracks = same_cons q.track p.track (map part_track qs) (map part_track ps) are.0.track more.tracks;
      samples = omega (arith, one.0, more.samples, sum_by-cons part_samples q qs, sum_by-cons part_samples p ps);
      bytes = omega (arith, one.1.0, more.bytes, sum_by-cons part_bytes q qs, sum_by-cons part_bytes p ps);
      lengths = omega (arith, one.1.1, more.lengths, sum_by-cons (traf_length plan.scheme) q qs, sum_by-cons (traf_length plan.scheme) p ps);
    }

parts_are : (plan : SealPlan) (number : ℕ) (ids : List ℕ) (ps qs : List TrackPart) → plan.lead < 2 ^ 16 → sum_by part_bytes ps < 2 ^ 32 → list_all (λ p. is_among ids p.track) ps ≡ true → list_all has_samples ps ≡ true
    → AreSealedParts plan number ps qs → All (IsPart plan ids) qs
parts_are plan number ids [] [] lead small known some are = All-nil (IsPart plan ids)
parts_are plan number ids [] (q ∷ qs) lead small known some are = absurd are
parts_are plan number ids (p ∷ ps) [] lead small known some are = absurd are
parts_are plan number ids (p ∷ ps) (q ∷ qs) lead small known some are =
    let sum = sum_by-cons part_bytes p ps in
    let here = and_parts (is_among ids p.track) (list_all (λ r. is_among ids r.track) ps) known in
    let full = and_parts (has_samples p) (list_all has_samples ps) some in
    let same = samples_same plan number p.samples q.samples are.0.samples in
    let not_zero = not-true (length p.samples == 0) full.0 in
    All-cons (IsPart plan ids) q qs (record {
      among = rw are.0.track here.0;
      samples = samples_have plan number p.samples q.samples lead (omega arith) are.0.samples;
      some = λ e. eqb-false (length p.samples) 0 not_zero (sym same.0 ∙ e);
    }) (parts_are plan (number + part_samples p) ids ps qs lead (omega arith) here.1 full.1 are.1)

-- ---- fragments

fragment_is : (plan : SealPlan) (number : ℕ) (given : List InitData) (ids : List ℕ) (f g : Fragment) → plan.lead < 2 ^ 16 → fragment_bytes f < 2 ^ 32 → are_known ids f ≡ true → is_joined f ≡ true
    → IsSealedFragment plan number given f g → IsFragment plan ids g
fragment_is plan number given ids f g lead small known joined is =
    let both = and_parts (are_distinct (map part_track f.parts)) (list_all has_samples f.parts) joined in
    record {
      parts = parts_are plan number ids f.parts g.parts lead small known both.1 is.parts;
      distinct = rw (parts_alike plan number f.parts g.parts is.parts).tracks both.0;
    }

fragments_are : (plan : SealPlan) (number : ℕ) (given : List InitData) (ids : List ℕ) (fs gs : List Fragment) → plan.lead < 2 ^ 16 → sum_by fragment_bytes fs < 2 ^ 32 → list_all (are_known ids) fs ≡ true → list_all is_joined fs ≡ true
    → AreSealedFragments plan number given fs gs → All (IsFragment plan ids) gs
fragments_are plan number given ids [] [] lead small known joined are = All-nil (IsFragment plan ids)
fragments_are plan number given ids [] (g ∷ gs) lead small known joined are = absurd are
fragments_are plan number given ids (f ∷ fs) [] lead small known joined are = absurd are
fragments_are plan number given ids (f ∷ fs) (g ∷ gs) lead small known joined are =
    let sum = sum_by-cons fragment_bytes f fs in
    let here = and_parts (are_known ids f) (list_all (are_known ids) fs) known in
    let one = and_parts (is_joined f) (list_all is_joined fs) joined in
    All-cons (IsFragment plan ids) g gs (fragment_is plan number given ids f g lead (omega arith) here.0 one.0 are.0)
    (fragments_are plan (number + fragment_samples f) [] ids fs gs lead (omega arith) here.1 one.1 are.1)

inits_are : (plan : SealPlan) (number : ℕ) (given : List InitData) (fs gs : List Fragment) → AreSealedFragments plan number given fs gs → HaveInits given gs
inits_are plan number given [] [] are = tt
inits_are plan number given [] (g ∷ gs) are = absurd are
inits_are plan number given (f ∷ fs) [] are = absurd are
inits_are plan number given (f ∷ fs) (g ∷ gs) are = (are.0.inits, inits_are plan (number + fragment_samples f) [] fs gs are.1)

fragments_alike : (plan : SealPlan) (number : ℕ) (given : List InitData) (fs gs : List Fragment) → AreSealedFragments plan number given fs gs
    → (sum_by fragment_samples gs ≡ sum_by fragment_samples fs) × ((sum_by fragment_bytes gs ≡ sum_by fragment_bytes fs) × (sum_by (fragment_length plan.scheme) gs ≡ sum_by (fragment_length plan.scheme) fs))
fragments_alike plan number given [] [] are = (refl, (refl, refl))
fragments_alike plan number given [] (g ∷ gs) are = absurd are
fragments_alike plan number given (f ∷ fs) [] are = absurd are
fragments_alike plan number given (f ∷ fs) (g ∷ gs) are =
    let one = parts_alike plan number f.parts g.parts are.0.parts in
    let more = fragments_alike plan (number + fragment_samples f) [] fs gs are.1 in (
      omega (arith, one.samples, more.0, sum_by-cons fragment_samples g gs, sum_by-cons fragment_samples f fs),
      (
        omega (arith, one.bytes, more.1.0, sum_by-cons fragment_bytes g gs, sum_by-cons fragment_bytes f fs),
        omega (arith, one.bytes, one.lengths, more.1.1, sum_by-cons (fragment_length plan.scheme) g gs, sum_by-cons (fragment_length plan.scheme) f fs),
      ),
    )

-- ---- the length of the file

fragment_size : (plan : SealPlan) (ids : List ℕ) (f : Fragment) → IsFragment plan ids f → length (fragment_boxes plan.scheme f) ≡ fragment_length plan.scheme f
fragment_size plan ids f is =
    omega (
      arith,
      moof_size plan ids f.parts is.parts,
      all_data f.parts,
      boxed_length (codes "moof") (moof_body plan.scheme f.parts) refl,
      boxed_length (codes "mdat") (mdat_body f.parts) refl,
      length-append (boxed (codes "moof") (moof_body plan.scheme f.parts)) (boxed (codes "mdat") (mdat_body f.parts)),
    )

fragments_size : (plan : SealPlan) (ids : List ℕ) (fs : List Fragment) → All (IsFragment plan ids) fs → length (flat_map (fragment_boxes plan.scheme) fs) ≡ sum_by (fragment_length plan.scheme) fs
fragments_size plan ids [] all = refl
fragments_size plan ids (f ∷ fs) all =
    omega (
      arith,
      fragment_size plan ids f (All-head (IsFragment plan ids) f fs all),
      fragments_size plan ids fs (All-tail (IsFragment plan ids) f fs all),
      length-append (fragment_boxes plan.scheme f) (flat_map (fragment_boxes plan.scheme) fs),
      sum_by-cons (fragment_length plan.scheme) f fs,
    )

-- the fragments of sealed media are of the plan
media_have : (plan : SealPlan) (clear sealed : Media) → plan.lead < 2 ^ 16 → IsFed clear → IsSealedMedia plan clear sealed → All (IsFragment plan clear.tracks) sealed.fragments
media_have plan clear sealed lead fed is =
    let small : sum_by fragment_bytes clear.fragments < 2 ^ 32 = omega (arith, fed.bytes) in
    fragments_are plan 0 (init_of plan ∷ []) clear.tracks clear.fragments sealed.fragments lead small fed.known fed.joined is.fragments

-- the file is as long as the length of the clear media says
pub file_length : (plan : SealPlan) (clear sealed : Media) → HasSixteen plan → plan.lead < 2 ^ 16 → IsFed clear → IsSealedMedia plan clear sealed → length (sealed_file plan sealed) ≡ sealed_length plan.scheme clear
file_length plan clear sealed has lead fed is =
    let all = media_have plan clear sealed lead fed is in
    let alike = fragments_alike plan 0 (init_of plan ∷ []) clear.fragments sealed.fragments is.fragments in
    let moov : length (boxed (codes "moov") (moov_body plan sealed.tracks)) ≡ moov_length plan.scheme clear.tracks = boxed_length (codes "moov") (moov_body plan sealed.tracks) refl ∙ (moov_size plan sealed.tracks has ∙ ap (moov_length plan.scheme) is.tracks) in
    omega (
      arith,
      moov,
      fragments_size plan clear.tracks sealed.fragments all,
      alike.1.1,
      length-append (boxed (codes "moov") (moov_body plan sealed.tracks)) (flat_map (fragment_boxes plan.scheme) sealed.fragments),
    )

-- ---- the reading back

pub sealed_is_read : (plan : SealPlan) (clear sealed : Media) → HasSixteen plan → plan.lead < 2 ^ 16 → IsFed clear → All (λ id. id < 2 ^ 32) clear.tracks → sealed_length plan.scheme clear ≤ MAX_MEDIA_BYTES → IsSealedMedia plan clear sealed
    → media_of (sealed_file plan sealed) ≡ Ok sealed
sealed_is_read plan clear sealed has lead fed fits small is =
    let all = media_have plan clear sealed lead fed is in
    let alike = fragments_alike plan 0 (init_of plan ∷ []) clear.fragments sealed.fragments is.fragments in
    let size = file_length plan clear sealed has lead fed is in
    let Fits : List ℕ → Type 0 = λ ids. All (λ id. id < 2 ^ 32) ids in
    let Distinct : List ℕ → Type 0 = λ ids. are_distinct ids ≡ true in
    let Few : List ℕ → Type 0 = λ ids. length ids ≤ 8 in
    let Of : List ℕ → Type 0 = λ ids. All (IsFragment plan ids) sealed.fragments in
    let same : clear.tracks ≡ sealed.tracks = sym is.tracks in
    reads_back plan sealed has.kid has.iv (subst Fits same fits) (subst Distinct same fed.distinct) (subst Few same fed.few) (subst Of same all)
    (omega (arith, alike.0, fed.samples)) (omega (arith, alike.1.0, fed.bytes)) (inits_are plan 0 (init_of plan ∷ []) clear.fragments sealed.fragments is.fragments) (omega (arith, size, small))

-- what was written of clear media is read as those media, sealed
pub file_is_read : (plan : SealPlan) (clear : Media) (bytes : List ℕ) → HasSixteen plan → plan.lead < 2 ^ 16 → IsFed clear → All (λ id. id < 2 ^ 32) clear.tracks → sealed_length plan.scheme clear ≤ MAX_MEDIA_BYTES → IsFileOf plan clear bytes
    → IsReadAs plan clear bytes
file_is_read plan clear bytes has lead fed fits small is = record {
  sealed = is.sealed;
  media = is.media;
  again = rw is.file (sealed_is_read plan clear is.sealed has lead fed fits small is.media);
}
