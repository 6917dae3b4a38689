-- The code of the serial play goes where the serial play goes.
use Rattle.std.proofs.Common.{zero, suc, ◌≡◌, ◌↔◌, ℕ, ◌+◌, Bool, true, false, ◌&&◌, IsTrue, List, [], ◌∷◌, ◌++◌, map, length, drop, Option, Some, None, slice_get, refl, ap, ◌∙◌, sym, subst, append-nil, append_assoc, length-append, arith}
use Rattle.std.specs.List.{concat, list_all, flat_map}
use Rattle.std.proofs.lemmas.List.Concat.{flat_map-append}
use Rattle.std.proofs.lemmas.List.Folds.{concat-append}
use Rattle.eme_types.specs.Fed.{are_well_formed}
use Rattle.eme_types.specs.declared.sample.EncSample.{EncSample}
use Rattle.eme_types.specs.declared.media.Fragment.{Fragment}
use Rattle.eme_types.specs.declared.media.Media.{Media}
use Rattle.cdm_world.specs.Tracks.{Picks}
use Rattle.key_sessions.specs.Agree.{Agree}
use Rattle.key_sessions.specs.Machine.{Machine}
use Rattle.key_sessions.specs.Keys.{pick}
use Rattle.key_sessions.specs.Steps.{Done, unmoved}
use Rattle.script_lang.specs.declared.script.Line.{Line}
use Rattle.script_lang.specs.declared.script.Action.{Action}
use Rattle.script_lang.specs.declared.script.Action.TheVariants.{Ask, Feed, Clock, Evict, Settle}
use Rattle.script_lang.specs.Paced.{settles}
use Rattle.script_lang.specs.Script.{moment_fits, moment_after, moments_rise}
use Rattle.play_parts.specs.Asks.{left_by}
use Rattle.play_parts.proofs.Reading.{both_true}
use Rattle.serial_play.specs.Served.{IsIdle, and_then, served}
use Rattle.serial_play.specs.Serial.{samples_of, samples_in, gives, Serial, unplayed, moved, begun, fed_with, so_far, line_done, fed_more, line_step, after_line, feed_all, serial_from, AgreeFrom}
use Rattle.serial_play.specs.declared.track.SerialTrack.{SerialTrack}
use Rattle.serial_play.specs.declared.play.SerialPlay.{SerialPlay}
use Rattle.serial_play.specs.Answer.{fed_track, fed_tracks, moved_track, track_at, Begins, Stands, HasPlayed}
use Rattle.serial_play.proofs.Machines.{after_work, served_alike}

-- ---- tracks

map_alike : (f : SerialTrack → SerialTrack) (g h : ℕ → SerialTrack) → ((track : ℕ) → f (g track) ≡ h track) → (tracks : List ℕ) → map f (map g tracks) ≡ map h tracks
map_alike f g h same [] = refl
map_alike f g h same (x ∷ xs) = ap (λ (t : SerialTrack). t ∷ map f (map g xs)) (same x) ∙ ap (λ (ts : List SerialTrack). h x ∷ ts) (map_alike f g h same xs)

-- fragments more are fed
abbrev and_fed : Serial → List Fragment → Serial
and_fed s fragments = record s { fed = s.fed ++ fragments }

fed_at : (s : Serial) (f : Fragment) (track : ℕ) → fed_track f (track_at s track) ≡ track_at (and_fed s (f ∷ [])) track
fed_at s f track =
    ap (λ (xs : List EncSample). let t : SerialTrack = record { id = track; fed = xs; count = length (s.out track); bytes = concat (s.out track) } in t) (ap (λ (xs : List EncSample). samples_in track s.fed ++ xs) (sym (append-nil (samples_of track f))) ∙ sym (flat_map-append (samples_of track) s.fed (f ∷ [])))

tracks_fed : (tracks : List ℕ) (fragments : List Fragment) (s : Serial) → fed_tracks fragments (map (track_at s) tracks) ≡ map (track_at (and_fed s fragments)) tracks
tracks_fed tracks [] s = ap (λ (fs : List Fragment). let t : Serial = record s { fed = fs } in map (track_at t) tracks) (sym (append-nil s.fed))
tracks_fed tracks (f ∷ more) s =
    ap (fed_tracks more) (map_alike (fed_track f) (track_at s) (track_at (and_fed s (f ∷ []))) (fed_at s f) tracks) ∙ (tracks_fed tracks more (and_fed s (f ∷ [])) ∙ ap (λ (fs : List Fragment). let t : Serial = record s { fed = fs } in map (track_at t) tracks) (append_assoc s.fed (f ∷ []) more))

moved_as : (t : SerialTrack) (n m : ℕ) (xs ys : List ℕ) → n ≡ m → xs ≡ ys → (let a : SerialTrack = record t { count = n; bytes = xs } in a) ≡ (let b : SerialTrack = record t { count = m; bytes = ys } in b)
moved_as t n m xs ys count bytes =
    ap (λ (k : ℕ). let a : SerialTrack = record t { count = k; bytes = xs } in a) count ∙ ap (λ (zs : List ℕ). let a : SerialTrack = record t { count = m; bytes = zs } in a) bytes

-- what the samples of a track give from its count on
abbrev more_out : Serial → ℕ → List (List ℕ)
more_out s track = gives (pick s.machine) (drop (length (s.out track)) (samples_in track s.fed))

moved_at : (s : Serial) (track : ℕ) → moved_track (pick s.machine) (track_at s track) ≡ track_at (moved s) track
moved_at s track =
    moved_as (track_at s track) (length (s.out track) + length (more_out s track)) (length (s.out track ++ more_out s track)) (concat (s.out track) ++ concat (more_out s track)) (concat (s.out track ++ more_out s track)) (sym (length-append (s.out track) (more_out s track))) (sym (concat-append (s.out track) (more_out s track)))

tracks_moved : (tracks : List ℕ) (s : Serial) → map (moved_track (pick s.machine)) (map (track_at s) tracks) ≡ map (track_at (moved s)) tracks
tracks_moved tracks s = map_alike (moved_track (pick s.machine)) (track_at s) (track_at (moved s)) (moved_at s) tracks

-- ---- a line

-- where the serial play stands after a line, before each track moves
abbrev pub line_served : Action → Option Fragment → Serial → Serial
line_served action given s = fed_more (line_done action given s) (fed_with action given) s

line_shape : (action : Action) (given : Option Fragment) (s : Serial) → settles action ≡ false → line_step action given s ≡ moved (line_served action given s)
line_shape (Ask call) given s other = refl
line_shape Feed given s other = refl
line_shape (Clock moment) given s other = refl
line_shape (Evict label) given s other = refl
line_shape Settle given s other = absurd cc

-- the machine and the tracks after a line that is no settle: it did what it asks, then what was queued, and then each track moved
record LineParts (tracks : List ℕ) (action : Action) (given : Option Fragment) (s : Serial) (m n : Machine) (fed out : List SerialTrack) : Type 0 where
  machine : m ≡ (begun action given s.machine).machine
  work : n ≡ after_work m
  fed_ : fed ≡ fed_tracks (fed_with action given) (map (track_at s) tracks)
  out_ : out ≡ map (moved_track (pick n)) fed

line_machine : (tracks : List ℕ) (action : Action) (given : Option Fragment) (s : Serial) (m n : Machine) (fed out : List SerialTrack) → LineParts tracks action given s m n fed out → n ≡ (line_served action given s).machine
line_machine tracks action given s m n fed out p =
    p.work ∙ served_alike (unmoved m) (and_then (so_far s) (begun action given)) p.machine

line_tracks : (tracks : List ℕ) (action : Action) (given : Option Fragment) (s : Serial) (m n : Machine) (fed out : List SerialTrack) → LineParts tracks action given s m n fed out → out ≡ map (track_at (moved (line_served action given s))) tracks
line_tracks tracks action given s m n fed out p =
    let t : Serial = line_served action given s in
    p.out_ ∙ (ap (λ (k : Machine). map (moved_track (pick k)) fed) (line_machine tracks action given s m n fed out p) ∙ (ap (λ (ts : List SerialTrack). map (moved_track (pick t.machine)) ts) (p.fed_ ∙ tracks_fed tracks (fed_with action given) s) ∙ tracks_moved tracks t))

-- the code stands where the serial play stands after the line
pub stands_after : (tracks : List ℕ) (action : Action) (s : Serial) (old begun_ new : SerialPlay) → settles action ≡ false → Begins old action begun_ → new.sessions.machine ≡ after_work begun_.sessions.machine → IsIdle new.sessions.machine → new.tracks.items ≡ map (moved_track (pick new.sessions.machine)) begun_.tracks.items → Stands tracks s old → Stands tracks (line_step action (slice_get old.left.now 0) s) new
stands_after tracks action s old begun_ new other b work idle moves stands =
    let given : Option Fragment = slice_get old.left.now 0 in
    let p : LineParts tracks action given s begun_.sessions.machine new.sessions.machine begun_.tracks.items new.tracks.items = record {
      machine = b.machine ∙ ap (λ (m : Machine). (begun action given m).machine) stands.machine;
      work = work;
      fed_ = b.tracks ∙ ap (fed_tracks (fed_with action given)) stands.tracks;
      out_ = moves;
    } in
    let found : Stands tracks (moved (line_served action given s)) new = record {
      machine = line_machine tracks action given s begun_.sessions.machine new.sessions.machine begun_.tracks.items new.tracks.items p;
      idle = idle;
      tracks = line_tracks tracks action given s begun_.sessions.machine new.sessions.machine begun_.tracks.items new.tracks.items p;
    } in
    subst (λ (t : Serial). Stands tracks t new) (sym (line_shape action given s other)) found

-- ---- the lines

formed_left : (action : Action) (left : List Fragment) → IsTrue (list_all are_well_formed left) → IsTrue (list_all are_well_formed (left_by left action))
formed_left (Ask call) left formed = formed
formed_left Feed [] formed = formed
formed_left Feed (f ∷ left) formed = (both_true (are_well_formed f) (list_all are_well_formed left) formed).1
formed_left (Clock moment) left formed = formed
formed_left (Evict label) left formed = formed
formed_left Settle left formed = formed

-- what a line of the script does to the code: it stands where the serial play stands after the line, and it knows whether the sessions agree
pub record LineGoes (line : Line) (agreeing agreed : Bool) (old new : SerialPlay) : Type 0 where
  pub stands : (tracks : List ℕ) (s : Serial) → Stands tracks s old → Stands tracks (line_step line.action (slice_get old.left.now 0) s) new
  pub left : new.left.now ≡ left_by old.left.now line.action
  pub moment : new.sessions.machine.moment ≡ moment_after old.sessions.machine.moment line.action
  pub agree : IsTrue agreed ↔ (IsTrue agreeing × Agree new.sessions.machine)

pub played_more : (script : List Line) (media : Media) (line : Line) (more : List Line) (agreeing agreed : Bool) (old new : SerialPlay) → LineGoes line agreeing agreed old new → HasPlayed script media (line ∷ more) agreeing old → HasPlayed script media more agreed new
played_more script media line more agreeing agreed old new goes has =
    let given : Option Fragment = slice_get old.left.now 0 in
    let t : Serial = line_step line.action given has.s in
    let stands : Stands media.tracks t new = goes.stands media.tracks has.s has.stands in
    let there : Agree new.sessions.machine → Agree t.machine = λ a. subst Agree stands.machine a in
    let back : Agree t.machine → Agree new.sessions.machine = λ a. subst Agree (sym stands.machine) a in
    record {
      s = t;
      stands = stands;
      whole = has.whole ∙ ap (λ (left : List Fragment). serial_from t left more) (sym goes.left);
      agree = (
        λ all. (let parts = has.agree.0 all in (goes.agree.1 (parts.0, back parts.1.0), subst (λ (left : List Fragment). AgreeFrom t left more) (sym goes.left) parts.1.1)),
        λ parts. (let here = goes.agree.0 parts.0 in has.agree.1 (here.0, (there here.1, subst (λ (left : List Fragment). AgreeFrom t left more) goes.left parts.1))),
      );
      agreed = λ is. (goes.agree.0 is).1;
      formed = subst (λ (left : List Fragment). IsTrue (list_all are_well_formed left)) (sym goes.left) (formed_left line.action old.left.now has.formed);
      moments = subst (λ (n : ℕ). IsTrue (moments_rise n more)) (sym goes.moment) (both_true (moment_fits old.sessions.machine.moment line.action) (moments_rise (moment_after old.sessions.machine.moment line.action) more) has.moments).1;
    }

-- the next line may come
pub line_fits : (script : List Line) (media : Media) (line : Line) (more : List Line) (agreeing : Bool) (play : SerialPlay) → HasPlayed script media (line ∷ more) agreeing play → IsTrue (moment_fits play.sessions.machine.moment line.action)
line_fits script media line more agreeing play has = (both_true (moment_fits play.sessions.machine.moment line.action) (moments_rise (moment_after play.sessions.machine.moment line.action) more) has.moments).0

-- a settle leaves the sessions
pub settled_same : (tracks : List ℕ) (action : Action) (given : Option Fragment) (s : Serial) (old new : SerialPlay) → IsTrue (settles action) → Stands tracks s old → Stands tracks (line_step action given s) new → new.sessions.machine ≡ old.sessions.machine
settled_same tracks (Ask call) given s old new is a b = absurd cc
settled_same tracks Feed given s old new is a b = absurd cc
settled_same tracks (Clock moment) given s old new is a b = absurd cc
settled_same tracks (Evict label) given s old new is a b = absurd cc
settled_same tracks Settle given s old new is a b = b.machine ∙ sym a.machine

-- ---- what is left

-- the code stands where the fragments that are left lead to the same end
pub record FedOn (tracks : List ℕ) (s : Serial) (left : List Fragment) (new : SerialPlay) : Type 0 where
  pub t : Serial
  pub stands : Stands tracks t new
  pub same : feed_all new.left.now t ≡ feed_all left s

abbrev pub FeedsOn : SerialPlay → SerialPlay → Type 0
FeedsOn old new = (tracks : List ℕ) (s : Serial) → Stands tracks s old → FedOn tracks s old.left.now new

pub feeds_none : (play : SerialPlay) → FeedsOn play play
feeds_none play tracks s stands = record { t = s; stands = stands; same = refl }

fed_first : (s : Serial) (left rest : List Fragment) → (length left ≡ 0 → ⊥) → rest ≡ left_by left Feed → feed_all rest (line_step Feed (slice_get left 0) s) ≡ feed_all left s
fed_first s [] rest some is = absurd (some refl)
fed_first s (f ∷ left) rest some is = ap (λ (fs : List Fragment). feed_all fs (line_step Feed (Some f) s)) is

pub feeds_more : (old mid new : SerialPlay) → (length mid.left.now ≡ 0 → ⊥) → ((tracks : List ℕ) (s : Serial) → Stands tracks s mid → Stands tracks (line_step Feed (slice_get mid.left.now 0) s) new) → new.left.now ≡ left_by mid.left.now Feed → FeedsOn old mid → FeedsOn old new
feeds_more old mid new some goes left feeds tracks s stands =
    let f : FedOn tracks s old.left.now mid = feeds tracks s stands in
    record {
      t = line_step Feed (slice_get mid.left.now 0) f.t;
      stands = goes tracks f.t f.stands;
      same = fed_first f.t mid.left.now new.left.now some left ∙ f.same;
    }

pub feeds_all : (old new : SerialPlay) → length new.left.now ≡ 0 → FeedsOn old new → (tracks : List ℕ) (s : Serial) → Stands tracks s old → Stands tracks (feed_all old.left.now s) new
feeds_all old new none feeds tracks s stands =
    let f : FedOn tracks s old.left.now new = feeds tracks s stands in
    subst (λ (t : Serial). Stands tracks t new) f.same (end new.left.now none f.t f.stands)
  where
    end : (left : List Fragment) → length left ≡ 0 → (t : Serial) → Stands tracks t new → Stands tracks (feed_all left t) new
    end [] is t there = there
    end (x ∷ left) is t there = absurd cc
