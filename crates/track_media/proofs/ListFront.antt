-- A sample list is read section by section, and what comes of it may be fed.
use Rattle.std.proofs.Common.{◌≡◌, ℕ, ◌+◌, ◌-◌, ◌≤◌, Bool, true, false, List, [], ◌∷◌, ◌++◌, length, take, map, Option, Some, None, Result, Ok, Err, refl, sym, ap, subst, ◌∙◌, append_assoc, arith, length-append}
use Rattle.std.specs.Prelude.{if◌then◌else◌}
use Rattle.std.specs.List.{list_any}
use Rattle.std.proofs.lemmas.List.{append-nil, take_at}
use Rattle.eme_types.specs.declared.media.Fragment.{Fragment}
use Rattle.eme_types.specs.Fed.{IsFed}
use Rattle.text_words.specs.Lines.{lines_of}
use Rattle.track_media.specs.declared.kind.LineFault.{LineFault}
use Rattle.track_media.specs.declared.kind.MediaFault.{MediaFault}
use Rattle.track_media.specs.declared.line.ListLine.{ListLine}
use Rattle.track_media.specs.declared.line.ListLine.TheVariants as a
use Rattle.track_media.specs.declared.line.Known.{Known}
use Rattle.track_media.specs.ListLine.{line_in}
use Rattle.track_media.specs.SampleList.{tracks_of, is_fragment, sections, fragment_of, media_from, fault_at, placed, lines_from, list_media, ◌>>=◌}
use Rattle.track_media.specs.Gathering.{Gathering, added, all_fragments, fragments_at, nothing, open_fragment}
use Rattle.track_media.specs.Front.{Coming, Front, refusal, opened, up_to, lines_before, whole_sections, whole_list, list_front_of, list_front, to_come}
use Rattle.track_media.specs.Reader.{ahead, nothing_comes, refused_next}
use Rattle.track_media.specs.Rests.{section_read, begun, section_of, coming_by, lines_coming, list_begun}
use Rattle.iso_boxes.specs.Children.{◌>>=◌ as ◌>>◌}
use Rattle.track_media.proofs.LineFits.{Fits, line_fits}
use Rattle.track_media.proofs.Standing.{Stands, open_at, known_is, nothing_stands, stands_whole, stands_on}
use Rattle.track_media.proofs.Sound.{Sound, nothing_sound, sound_on, finished_fed}

-- ---- what was gathered may be fed

no_more_samples : (s p m n : ℕ) → s + p + n ≡ m → s ≤ m
no_more_samples s p m n e = omega (arith, e)

-- the fragments that are whole
cut_fed : (g : Gathering) → Sound g → IsFed (record { tracks = g.known.tracks; fragments = g.fragments })
cut_fed g s = record {
  few = s.few;
  distinct = s.distinct;
  known = s.known;
  joined = s.joined;
  formed = s.formed;
  samples = no_more_samples _ _ _ _ s.samples;
  bytes = no_more_samples _ _ _ _ s.bytes;
}

abbrev FedOf : List ℕ → List Fragment → Type 0
FedOf tracks fragments = IsFed (record { tracks = tracks; fragments = fragments })

-- ---- behind a `fragment` line

-- what these fragments and what comes are of these lines
pub record Behind (tracks : List ℕ) (done : List Fragment) (c : Coming) (broken : Option MediaFault) (lines : List ListLine) : Type 0 where
  pub tracks_are : tracks_of lines ≡ tracks
  pub has_begun : list_any is_fragment lines ≡ true
  pub fragments_are : map (fragment_of (tracks_of lines)) (whole_sections broken (sections lines)) ≡ done ++ c.fragments
  pub ends : broken ≡ c.broken
  pub fed : FedOf tracks (done ++ c.fragments)

-- what is left of the lines is read with nothing done
abbrev alone : Gathering → Gathering
alone g = record g { fragments = [] }

all_begun : (g : Gathering) → g.known.begun ≡ true → all_fragments g ≡ g.fragments ++ open_fragment g ∷ []
all_begun g e = ap (λ (b : Bool). fragments_at b g) e

at_end : (before : List ListLine) (g : Gathering) → Stands before g → Sound g → g.known.begun ≡ true → Behind g.known.tracks g.fragments (ahead (open_fragment g) nothing_comes) None before
at_end before g st s e =
    let all = all_begun g e in
    record {
      tracks_are = sym st.tracks;
      has_begun = sym st.begun ∙ e;
      fragments_are = ap (λ (ts : List ℕ). map (fragment_of ts) (sections before)) (sym st.tracks) ∙ sym (stands_whole before g st) ∙ all;
      ends = refl;
      fed = subst (FedOf g.known.tracks) all (finished_fed g s);
    }

-- without the last
one_dropped : (xs : List (List ListLine)) (x : List ListLine) → take (length (xs ++ x ∷ []) - 1) (xs ++ x ∷ []) ≡ xs
one_dropped xs x =
    let n : length xs ≡ length (xs ++ x ∷ []) - 1 = omega (arith, length-append xs (x ∷ [])) in
    take_at xs (x ∷ []) _ n

whole_before : (before : List ListLine) (g : Gathering) (fault : MediaFault) (st : Stands before g) → g.known.begun ≡ true → whole_sections (Some fault) (sections before) ≡ st.whole
whole_before before g fault st e =
    let cut : sections before ≡ st.whole ++ st.section ∷ [] = st.cut ∙ ap (λ (b : Bool). st.whole ++ open_at b st.section) e in
    ap (λ (ss : List (List ListLine)). take (length ss - 1) ss) cut ∙ one_dropped st.whole st.section

at_broken : (before : List ListLine) (g : Gathering) (fault : MediaFault) → Stands before g → Sound g → g.known.begun ≡ true → Behind g.known.tracks g.fragments (refused_next fault) (Some fault) before
at_broken before g fault st s e =
    let same : g.fragments ≡ g.fragments ++ [] = sym (append-nil g.fragments) in
    record {
      tracks_are = sym st.tracks;
      has_begun = sym st.begun ∙ e;
      fragments_are = ap (λ (ts : List ℕ). map (fragment_of ts) (whole_sections (Some fault) (sections before))) (sym st.tracks)
          ∙ ap (map (fragment_of g.known.tracks)) (whole_before before g fault st e)
          ∙ sym st.fragments
          ∙ same;
      ends = refl;
      fed = subst (FedOf g.known.tracks) same (cut_fed g s);
    }

-- the open fragment is given, and the others are those behind it
one_given : (tracks : List ℕ) (done : List Fragment) (f : Fragment) (all : List Fragment) (c : Coming) (broken : Option MediaFault) (lines : List ListLine) → all ≡ done ++ f ∷ [] → Behind tracks all c broken lines → Behind tracks done (ahead f c) broken lines
one_given tracks done f all c broken lines e b =
    let same : all ++ c.fragments ≡ done ++ f ∷ c.fragments = ap (λ (fs : List Fragment). fs ++ c.fragments) e ∙ simp append_assoc in
    record { tracks_are = b.tracks_are; has_begun = b.has_begun; fragments_are = b.fragments_are ∙ same; ends = b.ends; fed = subst (FedOf tracks) same b.fed }

-- a line behind those before it: what follows it is known for each line that it may be
abbrev Onward : List ListLine → Gathering → ℕ → List (List ℕ) → Type 0
Onward before g place more =
    (x : ListLine) → Fits g.known x → g.known.begun ≡ true → Behind g.known.tracks (added g x).fragments (lines_coming (alone (added g x)) place more) (refusal (lines_from (before ++ x ∷ []) place more)) (lines_before (before ++ x ∷ []) more)

abbrev coming_behind : Gathering → ℕ → List (List ℕ) → ListLine → Coming
coming_behind g place more x = if is_fragment x then ahead (open_fragment g) (lines_coming (section_of (begun g.known)) place more) else lines_coming (added g x) place more

by_line : (before : List ListLine) (g : Gathering) (place : ℕ) (more : List (List ℕ)) → Onward before g place more → g.known.begun ≡ true → (x : ListLine) → Fits g.known x
    → Behind g.known.tracks g.fragments (coming_behind (alone g) place more x) (refusal (lines_from (before ++ x ∷ []) place more)) (lines_before (before ++ x ∷ []) more)
by_line before g place more on e (a.Track id) fits = let early = fits.0 in absurd cc
by_line before g place more on e a.Fragment fits = one_given _ g.fragments (open_fragment g) (all_fragments g) _ _ _ (all_begun g e) (on a.Fragment fits e)
by_line before g place more on e (a.Init i) fits = on (a.Init i) fits e
by_line before g place more on e (a.Sample id s) fits = on (a.Sample id s) fits e

abbrev from_line : List ListLine → ℕ → ℕ → List (List ℕ) → Result ListLine LineFault → Result (List ListLine) MediaFault
from_line before here place more r = placed here r >>= λ line. lines_from (before ++ line ∷ []) place more

by_answer : (before : List ListLine) (g : Gathering) (here place : ℕ) (more : List (List ℕ)) → Stands before g → Sound g → g.known.begun ≡ true → Onward before g place more → (r : Result ListLine LineFault) → ((x : ListLine) → r ≡ Ok x → Fits g.known x)
    → Behind g.known.tracks g.fragments (coming_by (placed here r) (coming_behind (alone g) place more)) (refusal (from_line before here place more r)) (up_to before r (λ line. lines_before (before ++ line ∷ []) more))
by_answer before g here place more st s e on (Ok x) fits = by_line before g place more on e x (fits x refl)
by_answer before g here place more st s e on (Err fault) fits = at_broken before g (fault_at here fault) st s e

-- a section stays open, and the tracks are the same
pub begun_stays : (g : Gathering) (x : ListLine) → Fits g.known x → g.known.begun ≡ true → ((added g x).known.begun ≡ true) × ((added g x).known.tracks ≡ g.known.tracks)
begun_stays g (a.Track id) fits e = let early = fits.0 in absurd cc
begun_stays g a.Fragment fits e = (refl, refl)
begun_stays g (a.Init i) fits e = (e, refl)
begun_stays g (a.Sample id s) fits e = (e, refl)

lines_behind : (before : List ListLine) (g : Gathering) (place : ℕ) (texts : List (List ℕ)) → Stands before g → Sound g → g.known.begun ≡ true
    → Behind g.known.tracks g.fragments (lines_coming (alone g) place texts) (refusal (lines_from before place texts)) (lines_before before texts)
unfolding lines_from lines_before lines_coming
lines_behind before g place [] st s e = at_end before g st s e
lines_behind before g place (text ∷ more) st s e =
    let next = place + length text + 1 in
    let on : Onward before g next more = λ x fits b.
    let stays = begun_stays g x fits b in
    subst (λ (ts : List ℕ). Behind ts (added g x).fragments (lines_coming (alone (added g x)) next more) (refusal (lines_from (before ++ x ∷ []) next more)) (lines_before (before ++ x ∷ []) more)) stays.1
    (lines_behind (before ++ x ∷ []) (added g x) next more (stands_on before g x s.distinct fits st) (sound_on g x fits s) stays.0) in
    let here = by_answer before g place next more st s e on (line_in g.known text) (line_fits g.known text) in
    subst (λ (k : Known). Behind g.known.tracks g.fragments (coming_by (placed place (line_in g.known text)) (coming_behind (alone g) next more)) (refusal (from_line before place next more (line_in k text))) (up_to before (line_in k text) (λ line. lines_before (before ++ line ∷ []) more)))
    (known_is before g st) here

-- ---- before the first `fragment` line

-- the front of these lines is this, and it may be fed
pub record Begins (r : Result Front MediaFault) (broken : Option MediaFault) (lines : List ListLine) : Type 0 where
  pub same : list_front_of broken lines ≡ r
  pub fed : (f : Front) → r ≡ Ok f → IsFed (to_come f)

abbrev begins : Result (Gathering × Option (ℕ × List (List ℕ))) MediaFault → Result Front MediaFault
begins r = r >> λ x. Ok (list_begun x)

fed_front : (x f : Front) → IsFed (to_come x) → (let r : Result Front MediaFault = Ok x in r) ≡ Ok f → IsFed (to_come f)
fed_front x f fed e = subst (λ (y : Front). IsFed (to_come y)) (let h : x ≡ f = cc in h) fed

same_front : (t u : List ℕ) (f h : List Fragment) (b c : Option MediaFault) → t ≡ u → f ≡ h → b ≡ c → (let r : Result Front MediaFault = Ok (record { tracks = t; coming = record { fragments = f; broken = b } }) in r) ≡ Ok (record { tracks = u; coming = record { fragments = h; broken = c } })
same_front t u f h b c d e g = cc

no_section : (before : List ListLine) (g : Gathering) (st : Stands before g) → g.known.begun ≡ false → sections before ≡ []
no_section before g st e =
    st.cut ∙ ap (λ (b : Bool). st.whole ++ open_at b st.section) e ∙ append-nil st.whole ∙ st.early e

early_end : (before : List ListLine) (g : Gathering) → Stands before g → Sound g → g.known.begun ≡ false → Begins (Ok (list_begun (g, None))) None before
early_end before g st s e =
    let none : list_any is_fragment before ≡ false = sym st.begun ∙ e in
    let empty : map (fragment_of (tracks_of before)) (sections before) ≡ [] = ap (map (fragment_of (tracks_of before))) (no_section before g st e) in
    record {
      same = ap (λ (b : Bool). opened b None (whole_list None before)) none ∙ same_front _ _ _ _ None None (sym st.tracks) empty refl;
      fed = λ f h. fed_front _ f (subst (FedOf g.known.tracks) (s.early e) (cut_fed g s)) h;
    }

early_broken : (before : List ListLine) (g : Gathering) (fault : MediaFault) → Stands before g → g.known.begun ≡ false → Begins (Err fault) (Some fault) before
early_broken before g fault st e =
    let none : list_any is_fragment before ≡ false = sym st.begun ∙ e in
    record { same = ap (λ (b : Bool). opened b (Some fault) (whole_list (Some fault) before)) none; fed = λ f h. absurd cc }

-- behind the first `fragment` line
first_begins : (tracks : List ℕ) (done : List Fragment) (c : Coming) (broken : Option MediaFault) (lines : List ListLine) → done ≡ [] → Behind tracks done c broken lines → Begins (Ok (record { tracks = tracks; coming = c })) broken lines
first_begins tracks done c broken lines none b =
    let alone' : done ++ c.fragments ≡ c.fragments = ap (λ (fs : List Fragment). fs ++ c.fragments) none in
    record {
      same = ap (λ (d : Bool). opened d broken (whole_list broken lines)) b.has_begun ∙ same_front _ _ _ _ broken _ b.tracks_are (b.fragments_are ∙ alone') b.ends;
      fed = λ f h. fed_front _ f (subst (FedOf tracks) alone' b.fed) h;
    }

no_fragments : (g : Gathering) → Sound g → g.known.begun ≡ false → all_fragments g ≡ []
no_fragments g s e = ap (λ (b : Bool). fragments_at b g) e ∙ s.early e

abbrev read_on : Gathering → ℕ → List (List ℕ) → ListLine → Result (Gathering × Option (ℕ × List (List ℕ))) MediaFault
read_on g place more x = if is_fragment x then Ok (g, Some (place, more)) else section_read (added g x) place more

abbrev EarlyOnward : List ListLine → Gathering → ℕ → List (List ℕ) → Type 0
EarlyOnward before g place more =
    (x : ListLine) → Fits g.known x → is_fragment x ≡ false → Begins (begins (section_read (added g x) place more)) (refusal (lines_from (before ++ x ∷ []) place more)) (lines_before (before ++ x ∷ []) more)

early_line : (before : List ListLine) (g : Gathering) (place : ℕ) (more : List (List ℕ)) → Stands before g → Sound g → g.known.begun ≡ false → EarlyOnward before g place more → (x : ListLine) → Fits g.known x
    → Begins (begins (read_on g place more x)) (refusal (lines_from (before ++ x ∷ []) place more)) (lines_before (before ++ x ∷ []) more)
early_line before g place more st s e on (a.Track id) fits = on (a.Track id) fits refl
early_line before g place more st s e on a.Fragment fits =
    first_begins g.known.tracks (all_fragments g) (lines_coming (section_of (begun g.known)) place more) _ _ (no_fragments g s e)
    (lines_behind (before ++ a.Fragment ∷ []) (added g a.Fragment) place more (stands_on before g a.Fragment s.distinct fits st) (sound_on g a.Fragment fits s) refl)
early_line before g place more st s e on (a.Init i) fits = on (a.Init i) fits refl
early_line before g place more st s e on (a.Sample id x) fits = on (a.Sample id x) fits refl

early_answer : (before : List ListLine) (g : Gathering) (here place : ℕ) (more : List (List ℕ)) → Stands before g → Sound g → g.known.begun ≡ false → EarlyOnward before g place more → (r : Result ListLine LineFault) → ((x : ListLine) → r ≡ Ok x → Fits g.known x)
    → Begins (begins (placed here r >> read_on g place more)) (refusal (from_line before here place more r)) (up_to before r (λ line. lines_before (before ++ line ∷ []) more))
early_answer before g here place more st s e on (Ok x) fits = early_line before g place more st s e on x (fits x refl)
early_answer before g here place more st s e on (Err fault) fits = early_broken before g (fault_at here fault) st e

early_stays : (g : Gathering) (x : ListLine) → is_fragment x ≡ false → (added g x).known.begun ≡ g.known.begun
early_stays g (a.Track id) h = refl
early_stays g a.Fragment h = absurd cc
early_stays g (a.Init i) h = refl
early_stays g (a.Sample id s) h = refl

lines_early : (before : List ListLine) (g : Gathering) (place : ℕ) (texts : List (List ℕ)) → Stands before g → Sound g → g.known.begun ≡ false
    → Begins (begins (section_read g place texts)) (refusal (lines_from before place texts)) (lines_before before texts)
unfolding lines_from lines_before section_read
lines_early before g place [] st s e = early_end before g st s e
lines_early before g place (text ∷ more) st s e =
    let next = place + length text + 1 in
    let on : EarlyOnward before g next more = λ x fits h.
    lines_early (before ++ x ∷ []) (added g x) next more (stands_on before g x s.distinct fits st) (sound_on g x fits s) (early_stays g x h ∙ e) in
    let here = early_answer before g place next more st s e on (line_in g.known text) (line_fits g.known text) in
    subst (λ (k : Known). Begins (begins (placed place (line_in g.known text) >> read_on g next more)) (refusal (from_line before place next more (line_in k text))) (up_to before (line_in k text) (λ line. lines_before (before ++ line ∷ []) more)))
    (known_is before g st) here

-- ---- the list

same_refusal : (r : Result (List ListLine) MediaFault) → refusal (r >>= λ lines. Ok (media_from lines)) ≡ refusal r
same_refusal (Ok lines) = refl
same_refusal (Err e) = refl

list_begins : (text : List ℕ) → Begins (begins (section_read nothing 7 (lines_of text))) (refusal (lines_from [] 7 (lines_of text))) (lines_before [] (lines_of text))
list_begins text = lines_early [] nothing 7 (lines_of text) nothing_stands nothing_sound refl

pub list_front_is : (text : List ℕ) → list_front text ≡ (section_read nothing 7 (lines_of text) >> λ x. Ok (list_begun x))
unfolding list_front list_media
list_front_is text =
    ap (λ (b : Option MediaFault). list_front_of b (lines_before [] (lines_of text))) (same_refusal (lines_from [] 7 (lines_of text))) ∙ (list_begins text).same

pub list_front_fed : (text : List ℕ) (f : Front) → list_front text ≡ Ok f → IsFed (to_come f)
list_front_fed text f e = (list_begins text).fed f (sym (list_front_is text) ∙ e)
