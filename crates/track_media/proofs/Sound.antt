-- What is gathered of lines that are not refused may be fed.
use Rattle.std.proofs.Common.{◌≡◌, ℕ, ◌+◌, ◌≤◌, inl, inr, eq-eqb, lit≤, List, [], ◌∷◌, ◌++◌, Bool, true, false, refl, ap, sym, ◌∙◌, map, filter, length, arith, length-append, subst}
use Rattle.std.specs.Prelude.{◌==◌, not, ◌&&◌}
use Rattle.std.specs.List.{list_all, sum_by}
use Rattle.std.proofs.lemmas.List.Sums.{sum_by-cons, sum_by_push}
use Rattle.std.proofs.lemmas.Bool.{and_parts, eqb-true, cases_Bool, or_parts, or_right, and_from}
use Rattle.eme_types.specs.declared.sample.EncSample.{EncSample}
use Rattle.eme_types.specs.declared.media.InitData.{InitData}
use Rattle.eme_types.specs.declared.media.Fragment.{Fragment}
use Rattle.eme_types.specs.declared.media.TrackPart.{TrackPart}
use Rattle.eme_types.specs.WellFormed.{is_well_formed}
use Rattle.eme_types.specs.Fed.{IsFed, is_among, are_distinct, has_samples, part_track, part_samples, part_bytes, sample_bytes, fragment_samples, fragment_bytes, are_well_formed, are_known, is_joined}
use Rattle.eme_types.specs.declared.limits.TheConstants.{MAX_TRACKS, MAX_SAMPLES, MAX_SAMPLE_BYTES}
use Rattle.frag_boxes.proofs.Distinct.{distinct_end}
use Rattle.track_media.specs.declared.line.ListLine.{ListLine}
use Rattle.track_media.specs.declared.line.ListLine.TheVariants as a
use Rattle.track_media.specs.Gathering.{Gathering, added, finished, pushed, with_sample, empty_part, open_fragment, fragments_at, nothing}
use Rattle.track_media.proofs.LineFits.{Fits, not_true}

abbrev pub part_formed : TrackPart → Bool
part_formed p = list_all is_well_formed p.samples

pub record Sound (g : Gathering) : Type 0 where
  pub few : length g.known.tracks ≤ MAX_TRACKS
  pub distinct : are_distinct g.known.tracks ≡ true
  pub early : g.known.begun ≡ false → g.fragments ≡ []
  pub none : g.known.begun ≡ false → g.parts ≡ []
  pub known : list_all (are_known g.known.tracks) g.fragments ≡ true
  pub joined : list_all is_joined g.fragments ≡ true
  pub formed : list_all are_well_formed g.fragments ≡ true
  pub parts : g.known.begun ≡ true → map part_track g.parts ≡ g.known.tracks
  pub parts_formed : list_all part_formed g.parts ≡ true
  pub samples : sum_by fragment_samples g.fragments + sum_by part_samples g.parts + g.known.samples ≡ MAX_SAMPLES
  pub bytes : sum_by fragment_bytes g.fragments + sum_by part_bytes g.parts + g.known.bytes ≡ MAX_SAMPLE_BYTES

pub nothing_sound : Sound nothing
nothing_sound = record { few = lit≤ tt; distinct = refl; early = λ e. refl; none = λ e. refl; known = refl; joined = refl; formed = refl; parts = λ e. refl; parts_formed = refl; samples = refl; bytes = refl }

-- ---- parts that are kept

kept_all : (q h : TrackPart → Bool) (ps : List TrackPart) → list_all q ps ≡ true → list_all q (filter h ps) ≡ true
kept_all q h [] e = refl
kept_all q h (p ∷ ps) e =
    let both = and_parts (q p) (list_all q ps) e in
    elim (cases_Bool (h p)) [
      | inl yes' ↦ rw (yes', both.0, kept_all q h ps both.1) refl
      | inr no' ↦ rw no' (kept_all q h ps both.1)
    ]

kept_pass : (h : TrackPart → Bool) (ps : List TrackPart) → list_all h (filter h ps) ≡ true
kept_pass h [] = refl
kept_pass h (p ∷ ps) =
    elim (cases_Bool (h p)) [
      | inl yes' ↦ rw (yes', yes', kept_pass h ps) refl
      | inr no' ↦ rw no' (kept_pass h ps)
    ]

not_kept : (h : TrackPart → Bool) (ps : List TrackPart) (t : ℕ) → is_among (map part_track ps) t ≡ false → is_among (map part_track (filter h ps)) t ≡ false
not_kept h [] t e = refl
not_kept h (p ∷ ps) t e =
    let both = or_parts (p.track == t) (is_among (map part_track ps) t) e in
    elim (cases_Bool (h p)) [
      | inl yes' ↦ rw (yes', both.0, not_kept h ps t both.1) refl
      | inr no' ↦ rw no' (not_kept h ps t both.1)
    ]

kept_distinct : (h : TrackPart → Bool) (ps : List TrackPart) → are_distinct (map part_track ps) ≡ true → are_distinct (map part_track (filter h ps)) ≡ true
kept_distinct h [] e = refl
kept_distinct h (p ∷ ps) e =
    let both = and_parts (not (is_among (map part_track ps) p.track)) (are_distinct (map part_track ps)) e in
    elim (cases_Bool (h p)) [
      | inl yes' ↦ rw (yes', not_kept h ps p.track (not_true (is_among (map part_track ps) p.track) both.0), kept_distinct h ps both.1) refl
      | inr no' ↦ rw no' (kept_distinct h ps both.1)
    ]

kept_sum : (h : TrackPart → Bool) (f : TrackPart → ℕ) → ((p : TrackPart) → h p ≡ false → f p ≡ 0) → (ps : List TrackPart) → sum_by f (filter h ps) ≡ sum_by f ps
kept_sum h f zero' [] = refl
kept_sum h f zero' (p ∷ ps) =
    let more : sum_by f (filter h ps) ≡ sum_by f ps = kept_sum h f zero' ps in
    elim (cases_Bool (h p)) [
      | inl yes' ↦ rw yes' (sum_by-cons f p (filter h ps) ∙ ap (λ n. f p + n) more ∙ sym (sum_by-cons f p ps))
      | inr no' ↦ let none : f p ≡ 0 = zero' p no' in rw no' (omega (arith, more, none, sum_by-cons f p ps))
    ]

not_false : (b : Bool) → not b ≡ false → b ≡ true
not_false true e = refl
not_false false e = absurd cc

no_samples : (p : TrackPart) → has_samples p ≡ false → part_samples p ≡ 0
no_samples p e = eqb-true (length p.samples) 0 (not_false (length p.samples == 0) e)

no_size : (ss : List EncSample) → length ss ≡ 0 → sum_by sample_bytes ss ≡ 0
no_size [] e = refl
no_size (s ∷ ss) e = absurd (omega (arith, e))

no_bytes : (p : TrackPart) → has_samples p ≡ false → part_bytes p ≡ 0
no_bytes p e = no_size p.samples (no_samples p e)

-- ---- tracks

among_more : (t : ℕ) (ts us : List ℕ) → list_all (is_among ts) us ≡ true → list_all (is_among (t ∷ ts)) us ≡ true
among_more t ts [] e = refl
among_more t ts (u ∷ us) e =
    let both = and_parts (is_among ts u) (list_all (is_among ts) us) e in
    rw (or_right (t == u) (is_among ts u) both.0, among_more t ts us both.1) refl

same_id : (t : ℕ) → (t == t) ≡ true
same_id t = eq-eqb t t refl

all_among : (ts : List ℕ) → list_all (is_among ts) ts ≡ true
all_among [] = refl
all_among (t ∷ ts) = rw (same_id t, among_more t ts ts (all_among ts)) refl

parts_among : (ids : List ℕ) (ps : List TrackPart) → list_all (is_among ids) (map part_track ps) ≡ list_all (λ p. is_among ids p.track) ps
parts_among ids [] = refl
parts_among ids (p ∷ ps) = ap (λ b. is_among ids p.track && b) (parts_among ids ps)

-- ---- all fragments

pub record SoundFragments (g : Gathering) (fs : List Fragment) : Type 0 where
  pub known : list_all (are_known g.known.tracks) fs ≡ true
  pub joined : list_all is_joined fs ≡ true
  pub formed : list_all are_well_formed fs ≡ true
  pub samples : sum_by fragment_samples fs + g.known.samples ≡ MAX_SAMPLES
  pub bytes : sum_by fragment_bytes fs + g.known.bytes ≡ MAX_SAMPLE_BYTES

pub one_more : {A : Type 0} (p : A → Bool) (xs : List A) (x : A) → list_all p xs ≡ true → p x ≡ true → list_all p (xs ++ x ∷ []) ≡ true
one_more p [] x e h = rw h refl
one_more p (y ∷ xs) x e h = let both = and_parts (p y) (list_all p xs) e in rw (both.0, one_more p xs x both.1 h) refl

pub sum_end : {A : Type 0} (f : A → ℕ) (xs : List A) (x : A) → sum_by f (xs ++ x ∷ []) ≡ sum_by f xs + f x
sum_end f xs x = sum_by_push f xs x

open_known : (g : Gathering) → map part_track g.parts ≡ g.known.tracks → are_known g.known.tracks (open_fragment g) ≡ true
open_known g e =
    let ids = g.known.tracks in
    let all : list_all (is_among ids) (map part_track g.parts) ≡ true = subst (λ (ts : List ℕ). list_all (is_among ids) ts ≡ true) (sym e) (all_among ids) in
    kept_all (λ p. is_among ids p.track) has_samples g.parts (sym (parts_among ids g.parts) ∙ all)

open_joined : (g : Gathering) → map part_track g.parts ≡ g.known.tracks → are_distinct g.known.tracks ≡ true → is_joined (open_fragment g) ≡ true
open_joined g e d =
    and_from _ _ (kept_distinct has_samples g.parts (subst (λ (ts : List ℕ). are_distinct ts ≡ true) (sym e) d)) (kept_pass has_samples g.parts)

closed_begun : (g : Gathering) → Sound g → g.known.begun ≡ true → SoundFragments g (g.fragments ++ open_fragment g ∷ [])
closed_begun g s e =
    let tracks = s.parts e in
    let few = kept_sum has_samples part_samples no_samples g.parts in
    let small = kept_sum has_samples part_bytes no_bytes g.parts in
    record {
      known = one_more (are_known g.known.tracks) g.fragments (open_fragment g) s.known (open_known g tracks);
      joined = one_more is_joined g.fragments (open_fragment g) s.joined (open_joined g tracks s.distinct);
      formed = one_more are_well_formed g.fragments (open_fragment g) s.formed (kept_all part_formed has_samples g.parts s.parts_formed);
      samples = omega (arith, s.samples, few, sum_end fragment_samples g.fragments (open_fragment g));
      bytes = omega (arith, s.bytes, small, sum_end fragment_bytes g.fragments (open_fragment g));
    }

closed_early : (g : Gathering) → Sound g → g.known.begun ≡ false → SoundFragments g g.fragments
closed_early g s e =
    let few : sum_by part_samples g.parts ≡ 0 = ap (sum_by part_samples) (s.none e) in
    let small : sum_by part_bytes g.parts ≡ 0 = ap (sum_by part_bytes) (s.none e) in
    record { known = s.known; joined = s.joined; formed = s.formed; samples = omega (arith, s.samples, few); bytes = omega (arith, s.bytes, small) }

closed_at : (b : Bool) (g : Gathering) → Sound g → g.known.begun ≡ b → SoundFragments g (fragments_at b g)
closed_at true g s e = closed_begun g s e
closed_at false g s e = closed_early g s e

pub finished_fed : (g : Gathering) → Sound g → IsFed (finished g)
finished_fed g s =
    let c = closed_at g.known.begun g s refl in
    record { few = s.few; distinct = s.distinct; known = c.known; joined = c.joined; formed = c.formed; samples = omega (arith, c.samples); bytes = omega (arith, c.bytes) }

-- ---- one more line

pushed_tracks : (id : ℕ) (s : EncSample) (ps : List TrackPart) → map part_track (pushed id s ps) ≡ map part_track ps
pushed_tracks id s [] = refl
pushed_tracks id s (p ∷ ps) =
    elim (cases_Bool (p.track == id)) [
      | inl yes' ↦ rw yes' refl
      | inr no' ↦ rw no' (ap (λ ts. p.track ∷ ts) (pushed_tracks id s ps))
    ]

pushed_formed : (id : ℕ) (s : EncSample) (ps : List TrackPart) → is_well_formed s ≡ true → list_all part_formed ps ≡ true → list_all part_formed (pushed id s ps) ≡ true
pushed_formed id s [] w e = refl
pushed_formed id s (p ∷ ps) w e =
    let both = and_parts (part_formed p) (list_all part_formed ps) e in
    elim (cases_Bool (p.track == id)) [
      | inl yes' ↦ rw (yes', one_more is_well_formed p.samples s both.0 w, both.1) refl
      | inr no' ↦ rw (no', both.0, pushed_formed id s ps w both.1) refl
    ]

pushed_sum : (f : TrackPart → ℕ) (n id : ℕ) (s : EncSample) → ((p : TrackPart) → f (with_sample s p) ≡ f p + n) → (ps : List TrackPart) → is_among (map part_track ps) id ≡ true → sum_by f (pushed id s ps) ≡ sum_by f ps + n
pushed_sum f n id s more [] e = absurd cc
pushed_sum f n id s more (p ∷ ps) e =
    elim (cases_Bool (p.track == id)) [
      | inl yes' ↦ rw yes' (omega (arith, more p, sum_by-cons f (with_sample s p) ps, sum_by-cons f p ps))
      | inr no' ↦
          let rest : is_among (map part_track ps) id ≡ true = rw no' at e in
          let sum = pushed_sum f n id s more ps rest in
          rw no' (omega (arith, sum, sum_by-cons f p (pushed id s ps), sum_by-cons f p ps))
    ]

one_sample : (s : EncSample) (p : TrackPart) → part_samples (with_sample s p) ≡ part_samples p + 1
one_sample s p = omega (arith, length-append p.samples (s ∷ []))

its_bytes : (s : EncSample) (p : TrackPart) → part_bytes (with_sample s p) ≡ part_bytes p + length s.bytes
its_bytes s p = sum_end sample_bytes p.samples s

empty_tracks : (ts : List ℕ) → map part_track (map empty_part ts) ≡ ts
empty_tracks [] = refl
empty_tracks (t ∷ ts) = ap (λ us. t ∷ us) (empty_tracks ts)

empty_formed : (ts : List ℕ) → list_all part_formed (map empty_part ts) ≡ true
empty_formed [] = refl
empty_formed (t ∷ ts) = empty_formed ts

empty_samples : (ts : List ℕ) → sum_by part_samples (map empty_part ts) ≡ 0
empty_samples [] = refl
empty_samples (t ∷ ts) = omega (arith, empty_samples ts)

empty_bytes : (ts : List ℕ) → sum_by part_bytes (map empty_part ts) ≡ 0
empty_bytes [] = refl
empty_bytes (t ∷ ts) = omega (arith, empty_bytes ts)

track_sound : (g : Gathering) (id : ℕ) → Fits g.known (a.Track id) → Sound g → Sound (added g (a.Track id))
track_sound g id fits s =
    let fs = s.early fits.0 in
    record {
      few = omega (arith, fits.2, length-append g.known.tracks (id ∷ []));
      distinct = distinct_end g.known.tracks id s.distinct fits.1;
      early = s.early;
      none = s.none;
      known = subst (λ (xs : List Fragment). list_all (are_known (g.known.tracks ++ id ∷ [])) xs ≡ true) (sym fs) refl;
      joined = s.joined;
      formed = s.formed;
      parts = λ e. let b = fits.0 in absurd cc;
      parts_formed = s.parts_formed;
      samples = s.samples;
      bytes = s.bytes;
    }

fragment_sound : (g : Gathering) → Sound g → Sound (added g a.Fragment)
fragment_sound g s =
    let c = closed_at g.known.begun g s refl in
    record {
      few = s.few;
      distinct = s.distinct;
      early = λ e. absurd cc;
      none = λ e. absurd cc;
      known = c.known;
      joined = c.joined;
      formed = c.formed;
      parts = λ e. empty_tracks g.known.tracks;
      parts_formed = empty_formed g.known.tracks;
      samples = omega (arith, c.samples, empty_samples g.known.tracks);
      bytes = omega (arith, c.bytes, empty_bytes g.known.tracks);
    }

init_sound : (g : Gathering) (i : InitData) → Sound g → Sound (added g (a.Init i))
init_sound g i s = record {
  few = s.few;
  distinct = s.distinct;
  early = s.early;
  none = s.none;
  known = s.known;
  joined = s.joined;
  formed = s.formed;
  parts = s.parts;
  parts_formed = s.parts_formed;
  samples = s.samples;
  bytes = s.bytes;
}

sample_sound : (g : Gathering) (id : ℕ) (x : EncSample) → Fits g.known (a.Sample id x) → Sound g → Sound (added g (a.Sample id x))
sample_sound g id x fits s =
    let tracks = s.parts fits.0 in
    let here : is_among (map part_track g.parts) id ≡ true = subst (λ (ts : List ℕ). is_among ts id ≡ true) (sym tracks) fits.1 in
    let one = pushed_sum part_samples 1 id x (one_sample x) g.parts here in
    let size = pushed_sum part_bytes (length x.bytes) id x (its_bytes x) g.parts here in
    record {
      few = s.few;
      distinct = s.distinct;
      early = s.early;
      none = λ e. let b = fits.0 in absurd cc;
      known = s.known;
      joined = s.joined;
      formed = s.formed;
      parts = λ e. pushed_tracks id x g.parts ∙ s.parts e;
      parts_formed = pushed_formed id x g.parts fits.2 s.parts_formed;
      samples = omega (arith, s.samples, one, fits.3);
      bytes = omega (arith, s.bytes, size, fits.4);
    }

pub sound_on : (g : Gathering) (x : ListLine) → Fits g.known x → Sound g → Sound (added g x)
sound_on g (a.Track id) fits s = track_sound g id fits s
sound_on g a.Fragment fits s = fragment_sound g s
sound_on g (a.Init i) fits s = init_sound g i s
sound_on g (a.Sample id x) fits s = sample_sound g id x fits s
