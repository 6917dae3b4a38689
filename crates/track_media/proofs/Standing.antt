-- What is gathered after some lines is what the lines are.
use Rattle.std.proofs.Common.{◌≡◌, ℕ, ◌-◌, inl, inr, List, [], ◌∷◌, ◌++◌, Bool, true, false, refl, ap, sym, ◌∙◌, map, filter, length, arith, length-append, subst, eq-eqb}
use Rattle.std.specs.Prelude.{◌==◌, ◌||◌, not}
use Rattle.std.specs.List.{list_any, sum_by}
use Rattle.std.proofs.lemmas.List.{append-nil}
use Rattle.std.proofs.lemmas.List.Sums.{sum_by-append}
use Rattle.std.proofs.lemmas.Bool.{and_parts, eqb-true, eqb-false, ne_eqb, cases_Bool, or_right}
use Rattle.eme_types.specs.declared.sample.EncSample.{EncSample}
use Rattle.eme_types.specs.declared.media.InitData.{InitData}
use Rattle.eme_types.specs.declared.media.Fragment.{Fragment}
use Rattle.eme_types.specs.declared.media.TrackPart.{TrackPart}
use Rattle.eme_types.specs.Fed.{is_among, are_distinct, has_samples, sample_bytes}
use Rattle.eme_types.specs.declared.limits.TheConstants.{MAX_SAMPLES, MAX_SAMPLE_BYTES}
use Rattle.track_media.specs.declared.line.ListLine.{ListLine}
use Rattle.track_media.specs.declared.line.ListLine.TheVariants as a
use Rattle.track_media.specs.declared.line.Known.{Known}
use Rattle.track_media.proofs.LineFits.{Fits, not_true}
use Rattle.track_media.specs.SampleList.{tracks_of, inits_of, samples_of, track_samples, is_fragment, sections, part_of, fragment_of, known_from}
use Rattle.track_media.specs.Gathering.{Gathering, added, pushed, with_sample, open_fragment, all_fragments, fragments_at, nothing}
use Rattle.track_media.proofs.SectionLemmas.{tracks_of-append, inits_of-append, samples_of-append, track_samples-append, grown, sections_grown, sections_begun, grown_last, begun_at_end}

-- the section that is open, where one is
abbrev pub open_at : Bool → List ListLine → List (List ListLine)
open_at false section = []
open_at true section = section ∷ []

-- the lines before, as they were gathered
pub record Stands (before : List ListLine) (g : Gathering) : Type 0 where
  pub whole : List (List ListLine)
  pub section : List ListLine
  pub tracks : g.known.tracks ≡ tracks_of before
  pub begun : g.known.begun ≡ list_any is_fragment before
  pub samples : g.known.samples ≡ MAX_SAMPLES - length (samples_of before)
  pub bytes : g.known.bytes ≡ MAX_SAMPLE_BYTES - sum_by sample_bytes (samples_of before)
  pub cut : sections before ≡ whole ++ open_at g.known.begun section
  pub early : g.known.begun ≡ false → whole ≡ []
  pub fragments : g.fragments ≡ map (fragment_of g.known.tracks) whole
  pub inits : g.known.begun ≡ true → g.inits ≡ inits_of section
  pub parts : g.known.begun ≡ true → g.parts ≡ map (part_of section) g.known.tracks

same_known : (t u : List ℕ) (b c : Bool) (m n x y : ℕ) → t ≡ u → b ≡ c → m ≡ n → x ≡ y → (let k : Known = record { tracks = t; begun = b; samples = m; bytes = x } in k) ≡ record { tracks = u; begun = c; samples = n; bytes = y }
same_known t u b c m n x y p q r s = cc

pub known_is : (before : List ListLine) (g : Gathering) → Stands before g → g.known ≡ known_from before
known_is before g st = same_known g.known.tracks (tracks_of before) g.known.begun (list_any is_fragment before) g.known.samples (MAX_SAMPLES - length (samples_of before)) g.known.bytes (MAX_SAMPLE_BYTES - sum_by sample_bytes (samples_of before)) st.tracks st.begun st.samples st.bytes

pub nothing_stands : Stands [] nothing
nothing_stands = record { whole = []; section = []; tracks = refl; begun = refl; samples = refl; bytes = refl; cut = refl; early = λ e. refl; fragments = refl; inits = λ e. refl; parts = λ e. refl }

-- ---- parts

same_map : {B : Type 0} (f g : ℕ → B) → ((t : ℕ) → f t ≡ g t) → (ts : List ℕ) → map f ts ≡ map g ts
same_map f g e [] = refl
same_map f g e (t ∷ ts) = rw (e t, same_map f g e ts) refl

same_part : (t : ℕ) (xs ys : List EncSample) → xs ≡ ys → (let p : TrackPart = record { track = t; samples = xs } in p) ≡ record { track = t; samples = ys }
same_part t xs ys e = cc

-- a line without a sample changes no part
part_kept : (section : List ListLine) (x : ListLine) (t : ℕ) → track_samples t (x ∷ []) ≡ [] → part_of section t ≡ part_of (section ++ x ∷ []) t
part_kept section x t e =
    same_part t _ _ (sym (track_samples-append t section (x ∷ []) ∙ ap (λ xs. track_samples t section ++ xs) e ∙ append-nil (track_samples t section)))

other_track : (id t : ℕ) (s : EncSample) → (id == t) ≡ false → track_samples t (a.Sample id s ∷ []) ≡ []
other_track id t s e = rw e refl

same_track : (id t : ℕ) (s : EncSample) → (id == t) ≡ true → track_samples t (a.Sample id s ∷ []) ≡ s ∷ []
same_track id t s e = rw e refl

part_gained : (section : List ListLine) (id t : ℕ) (s : EncSample) → (id == t) ≡ true → with_sample s (part_of section t) ≡ part_of (section ++ a.Sample id s ∷ []) t
part_gained section id t s e =
    same_part t _ _ (sym (track_samples-append t section (a.Sample id s ∷ []) ∙ ap (λ xs. track_samples t section ++ xs) (same_track id t s e)))

turned : (x y : ℕ) (b : Bool) → (x == y) ≡ b → (y == x) ≡ b
turned x y true e = eq-eqb y x (sym (eqb-true x y e))
turned x y false e = ne_eqb y x (λ h. eqb-false x y e (sym h))

none_among : (b c : Bool) → not (b || c) ≡ true → (b ≡ false) × (c ≡ false)
none_among true c e = absurd cc
none_among false true e = absurd cc
none_among false false e = (refl, refl)

others_kept : (section : List ListLine) (id : ℕ) (s : EncSample) (ts : List ℕ) → is_among ts id ≡ false → map (part_of section) ts ≡ map (part_of (section ++ a.Sample id s ∷ [])) ts
others_kept section id s [] e = refl
others_kept section id s (t ∷ ts) e =
    let both = none_among (t == id) (is_among ts id) (ap not e) in
    let head = part_kept section (a.Sample id s) t (other_track id t s (turned t id false both.0)) in
    rw (head, others_kept section id s ts both.1) refl

pub parts_gained : (section : List ListLine) (id : ℕ) (s : EncSample) (ts : List ℕ) → are_distinct ts ≡ true → pushed id s (map (part_of section) ts) ≡ map (part_of (section ++ a.Sample id s ∷ [])) ts
parts_gained section id s [] e = refl
parts_gained section id s (t ∷ ts) e =
    let both = and_parts (not (is_among ts t)) (are_distinct ts) e in
    elim (cases_Bool (t == id)) [
      | inl yes' ↦
          let same : t ≡ id = eqb-true t id yes' in
          let none : is_among ts id ≡ false = subst (λ (z : ℕ). is_among ts z ≡ false) same (not_true (is_among ts t) both.0) in
          rw (yes', part_gained section id t s (turned t id true yes'), others_kept section id s ts none) refl
      | inr no' ↦ rw (no', part_kept section (a.Sample id s) t (other_track id t s (turned t id false no')), parts_gained section id s ts both.1) refl
    ]

parts_kept : (section : List ListLine) (x : ListLine) (ts : List ℕ) → ((t : ℕ) → track_samples t (x ∷ []) ≡ []) → map (part_of section) ts ≡ map (part_of (section ++ x ∷ [])) ts
parts_kept section x ts e = same_map (part_of section) (part_of (section ++ x ∷ [])) (λ t. part_kept section x t (e t)) ts

-- ---- fragments

same_fragment : (xs ys : List InitData) (ps qs : List TrackPart) → xs ≡ ys → ps ≡ qs → (let f : Fragment = record { inits = xs; parts = ps } in f) ≡ record { inits = ys; parts = qs }
same_fragment xs ys ps qs e h = cc

map-append : {A B : Type 0} (f : A → B) (xs ys : List A) → map f (xs ++ ys) ≡ map f xs ++ map f ys
map-append f [] ys = refl
map-append f (x ∷ xs) ys = ap (λ zs. f x ∷ zs) (map-append f xs ys)

-- all fragments, the open one too, are those of all sections
all_are : (b : Bool) (g : Gathering) (whole : List (List ListLine)) (section : List ListLine) → g.fragments ≡ map (fragment_of g.known.tracks) whole → (b ≡ true → g.inits ≡ inits_of section) → (b ≡ true → g.parts ≡ map (part_of section) g.known.tracks) → fragments_at b g ≡ map (fragment_of g.known.tracks) (whole ++ open_at b section)
all_are false g whole section e i p = e ∙ ap (map (fragment_of g.known.tracks)) (sym (append-nil whole))
all_are true g whole section e i p =
    let one : open_fragment g ≡ fragment_of g.known.tracks section = same_fragment _ _ _ _ (i refl) (ap (filter has_samples) (p refl)) in
    let f = fragment_of g.known.tracks in
    ap (λ fs. fs ++ open_fragment g ∷ []) e ∙ ap (λ x. map f whole ++ x ∷ []) one ∙ sym (map-append f whole (section ∷ []))

pub stands_whole : (before : List ListLine) (g : Gathering) (st : Stands before g) → all_fragments g ≡ map (fragment_of g.known.tracks) (sections before)
stands_whole before g st = all_are g.known.begun g st.whole st.section st.fragments st.inits st.parts ∙ ap (map (fragment_of g.known.tracks)) (sym st.cut)

-- ---- one more line

or_false : (b c : Bool) → c ≡ false → (b || c) ≡ b
or_false true c e = refl
or_false false c e = e

grown_on : (before : List ListLine) (x : ListLine) (whole : List (List ListLine)) (section : List ListLine) (b : Bool) → is_fragment x ≡ false → sections before ≡ whole ++ open_at b section → (b ≡ false → whole ≡ []) → sections (before ++ x ∷ []) ≡ whole ++ open_at b (section ++ x ∷ [])
grown_on before x whole section true e cut early = sections_grown before x e ∙ ap (grown x) cut ∙ grown_last x whole section
grown_on before x whole section false e cut early =
    let none : whole ≡ [] = early refl in
    sections_grown before x e ∙ ap (grown x) cut ∙ subst (λ (w : List (List ListLine)). grown x (w ++ []) ≡ w ++ []) (sym none) refl

no_samples_more : (before : List ListLine) (x : ListLine) → samples_of (x ∷ []) ≡ [] → samples_of before ≡ samples_of (before ++ x ∷ [])
no_samples_more before x e = sym (samples_of-append before (x ∷ []) ∙ ap (λ ss. samples_of before ++ ss) e ∙ append-nil (samples_of before))

no_tracks_more : (before : List ListLine) (x : ListLine) → tracks_of (x ∷ []) ≡ [] → tracks_of before ≡ tracks_of (before ++ x ∷ [])
no_tracks_more before x e = sym (tracks_of-append before (x ∷ []) ∙ ap (λ ss. tracks_of before ++ ss) e ∙ append-nil (tracks_of before))

no_inits_more : (before : List ListLine) (x : ListLine) → inits_of (x ∷ []) ≡ [] → inits_of before ≡ inits_of (before ++ x ∷ [])
no_inits_more before x e = sym (inits_of-append before (x ∷ []) ∙ ap (λ ss. inits_of before ++ ss) e ∙ append-nil (inits_of before))

track_stands : (before : List ListLine) (g : Gathering) (id : ℕ) → g.known.begun ≡ false → Stands before g → Stands (before ++ a.Track id ∷ []) (added g (a.Track id))
track_stands before g id early st =
    let none = st.early early in
    record {
      whole = st.whole;
      section = st.section ++ a.Track id ∷ [];
      tracks = ap (λ ts. ts ++ id ∷ []) st.tracks ∙ sym (tracks_of-append before (a.Track id ∷ []));
      begun = st.begun ∙ sym (begun_at_end before (a.Track id) ∙ or_false (list_any is_fragment before) false refl);
      samples = st.samples ∙ ap (λ ss. MAX_SAMPLES - length ss) (no_samples_more before (a.Track id) refl);
      bytes = st.bytes ∙ ap (λ ss. MAX_SAMPLE_BYTES - sum_by sample_bytes ss) (no_samples_more before (a.Track id) refl);
      cut = grown_on before (a.Track id) st.whole st.section g.known.begun refl st.cut st.early;
      early = st.early;
      fragments = st.fragments ∙ subst (λ (w : List (List ListLine)). map (fragment_of g.known.tracks) w ≡ map (fragment_of (g.known.tracks ++ id ∷ [])) w) (sym none) refl;
      inits = λ e. absurd cc;
      parts = λ e. absurd cc;
    }

fragment_stands : (before : List ListLine) (g : Gathering) → Stands before g → Stands (before ++ a.Fragment ∷ []) (added g a.Fragment)
fragment_stands before g st = record {
  whole = sections before;
  section = [];
  tracks = st.tracks ∙ no_tracks_more before a.Fragment refl;
  begun = sym (begun_at_end before a.Fragment ∙ or_right (list_any is_fragment before) true refl);
  samples = st.samples ∙ ap (λ ss. MAX_SAMPLES - length ss) (no_samples_more before a.Fragment refl);
  bytes = st.bytes ∙ ap (λ ss. MAX_SAMPLE_BYTES - sum_by sample_bytes ss) (no_samples_more before a.Fragment refl);
  cut = sections_begun before;
  early = λ e. absurd cc;
  fragments = stands_whole before g st;
  inits = λ e. refl;
  parts = λ e. refl;
}

init_stands : (before : List ListLine) (g : Gathering) (i : InitData) → Stands before g → Stands (before ++ a.Init i ∷ []) (added g (a.Init i))
init_stands before g i st = record {
  whole = st.whole;
  section = st.section ++ a.Init i ∷ [];
  tracks = st.tracks ∙ no_tracks_more before (a.Init i) refl;
  begun = st.begun ∙ sym (begun_at_end before (a.Init i) ∙ or_false (list_any is_fragment before) false refl);
  samples = st.samples ∙ ap (λ ss. MAX_SAMPLES - length ss) (no_samples_more before (a.Init i) refl);
  bytes = st.bytes ∙ ap (λ ss. MAX_SAMPLE_BYTES - sum_by sample_bytes ss) (no_samples_more before (a.Init i) refl);
  cut = grown_on before (a.Init i) st.whole st.section g.known.begun refl st.cut st.early;
  early = st.early;
  fragments = st.fragments;
  inits = λ e. ap (λ is. is ++ i ∷ []) (st.inits e) ∙ sym (inits_of-append st.section (a.Init i ∷ []));
  parts = λ e. st.parts e ∙ parts_kept st.section (a.Init i) g.known.tracks (λ t. refl);
}

one_less : (m n k : ℕ) (xs : List EncSample) (s : EncSample) → n ≡ m - length xs → n - 1 ≡ m - length (xs ++ s ∷ [])
one_less m n k xs s e = omega (arith, e, length-append xs (s ∷ []))

bytes_less : (m n : ℕ) (xs : List EncSample) (s : EncSample) → n ≡ m - sum_by sample_bytes xs → n - length s.bytes ≡ m - sum_by sample_bytes (xs ++ s ∷ [])
bytes_less m n xs s e = omega (arith, e, sum_by-append sample_bytes xs (s ∷ []))

sample_stands : (before : List ListLine) (g : Gathering) (id : ℕ) (s : EncSample) → are_distinct g.known.tracks ≡ true → Stands before g → Stands (before ++ a.Sample id s ∷ []) (added g (a.Sample id s))
sample_stands before g id s distinct st = record {
  whole = st.whole;
  section = st.section ++ a.Sample id s ∷ [];
  tracks = st.tracks ∙ no_tracks_more before (a.Sample id s) refl;
  begun = st.begun ∙ sym (begun_at_end before (a.Sample id s) ∙ or_false (list_any is_fragment before) false refl);
  samples = one_less MAX_SAMPLES g.known.samples 0 (samples_of before) s st.samples ∙ ap (λ ss. MAX_SAMPLES - length ss) (sym (samples_of-append before (a.Sample id s ∷ [])));
  bytes = bytes_less MAX_SAMPLE_BYTES g.known.bytes (samples_of before) s st.bytes ∙ ap (λ ss. MAX_SAMPLE_BYTES - sum_by sample_bytes ss) (sym (samples_of-append before (a.Sample id s ∷ [])));
  cut = grown_on before (a.Sample id s) st.whole st.section g.known.begun refl st.cut st.early;
  early = st.early;
  fragments = st.fragments;
  inits = λ e. st.inits e ∙ no_inits_more st.section (a.Sample id s) refl;
  parts = λ e. ap (pushed id s) (st.parts e) ∙ parts_gained st.section id s g.known.tracks distinct;
}

pub stands_on : (before : List ListLine) (g : Gathering) (x : ListLine) → are_distinct g.known.tracks ≡ true → Fits g.known x → Stands before g → Stands (before ++ x ∷ []) (added g x)
stands_on before g (a.Track id) distinct fits st = track_stands before g id fits.0 st
stands_on before g a.Fragment distinct fits st = fragment_stands before g st
stands_on before g (a.Init i) distinct fits st = init_stands before g i st
stands_on before g (a.Sample id s) distinct fits st = sample_stands before g id s distinct st
