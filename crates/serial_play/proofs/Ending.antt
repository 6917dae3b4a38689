-- Where the code of the serial play begins and ends.
use Rattle.std.proofs.Common.{zero, suc, ◌≡◌, ◌↔◌, ℕ, ◌+◌, true, Bool, IsTrue, List, [], ◌∷◌, map, Some, None, slice_get, refl, ap, ◌∙◌, sym, subst, arith}
use Rattle.std.specs.List.{concat, list_all}
use Rattle.eme_types.specs.Fed.{IsFed, are_well_formed}
use Rattle.eme_types.specs.declared.kid.KeyBytes.{KeyBytes}
use Rattle.eme_types.specs.declared.media.Fragment.{Fragment}
use Rattle.eme_types.specs.declared.media.Media.{Media}
use Rattle.key_sessions.specs.Agree.{Agree}
use Rattle.key_sessions.specs.Machine.{Machine, empty_machine}
use Rattle.key_sessions.specs.Owed.{IsOwed, jobs_owe, tasks_owe, pending, pending_here}
use Rattle.script_lang.specs.declared.script.Line.{Line}
use Rattle.script_lang.specs.Script.{IsScript, moments_rise}
use Rattle.serial_play.specs.Served.{IsIdle}
use Rattle.serial_play.specs.Serial.{Serial, unplayed, feed_all, serial_from, serial, AgreeFrom, Agreeing}
use Rattle.serial_play.specs.declared.track.SerialTrack.{SerialTrack}
use Rattle.serial_play.specs.declared.play.SerialPlay.{SerialPlay}
use Rattle.serial_play.specs.Answer.{track_at, text_of, Stands, HasPlayed}

-- no session holds a key
none_held : Agree empty_machine
none_held zero t kid a b here there = absurd cc
none_held (suc s) t kid a b here there = absurd cc

-- before the first line
pub has_begun : (script : List Line) (media : Media) (play : SerialPlay) → IsFed media → IsScript script → Stands media.tracks unplayed play → play.left.now ≡ media.fragments → HasPlayed script media script true play
has_begun script media play fed is stands left =
    let first : Agree play.sessions.machine = subst Agree (sym stands.machine) none_held in
    record {
      s = unplayed;
      stands = stands;
      whole = ap (λ (fs : List Fragment). serial_from unplayed fs script) (sym left);
      agree = (
        λ all. (refl, subst (λ (fs : List Fragment). AgreeFrom unplayed fs script) (sym left) all),
        λ parts. subst (λ (fs : List Fragment). AgreeFrom unplayed fs script) left parts.1,
      );
      agreed = λ is. first;
      formed = subst (λ (fs : List Fragment). IsTrue (list_all are_well_formed fs)) (sym left) fed.formed;
      moments = subst (λ (m : Machine). IsTrue (moments_rise m.moment script)) (sym stands.machine) is.moments;
    }

-- behind the last line and the fragments that are left
pub stands_at_end : (script : List Line) (media : Media) (agreeing : Bool) (play new : SerialPlay) → HasPlayed script media [] agreeing play → ((tracks : List ℕ) (s : Serial) → Stands tracks s play → Stands tracks (feed_all play.left.now s) new) → Stands media.tracks (serial script media) new
unfolding serial
stands_at_end script media agreeing play new has feeds = subst (λ (t : Serial). Stands media.tracks t new) (sym has.whole) (feeds media.tracks has.s has.stands)

-- whether the sessions agreed after each line
pub agrees_at_end : (script : List Line) (media : Media) (agreeing : Bool) (play : SerialPlay) → HasPlayed script media [] agreeing play → IsTrue agreeing ↔ Agreeing script media
unfolding Agreeing
agrees_at_end script media agreeing play has = (λ is. has.agree.1 (is, tt), λ all. (has.agree.0 all).0)

-- the files of the tracks
pub texts_at : (s : Serial) (tracks : List ℕ) → map text_of (map (track_at s) tracks) ≡ map (λ track. (track, concat (s.out track))) tracks
texts_at s [] = refl
texts_at s (track ∷ more) = ap (λ (ts : List (ℕ × List ℕ)). (track, concat (s.out track)) ∷ ts) (texts_at s more)

-- where nothing is queued every promise is settled
pub all_settled : (m : Machine) → IsOwed m → IsIdle m → (n : ℕ) → slice_get m.promises n ≡ Some None → ⊥
all_settled m owed idle n at =
    let jobs : jobs_owe (suc n) m.jobs ≡ 0 = ap (jobs_owe (suc n)) idle.jobs in
    let tasks : tasks_owe (suc n) m.tasks ≡ 0 = ap (tasks_owe (suc n)) idle.tasks in
    let one : pending m.promises (suc n) ≡ 1 = ap pending_here at in
    omega (arith, jobs, tasks, one, owed (suc n))

-- what the code answers is what the serial play of the script gives
pub record IsEnd (script : List Line) (media : Media) (agreeing : Bool) (new : SerialPlay) : Type 0 where
  pub stands : Stands media.tracks (serial script media) new
  pub agree : IsTrue agreeing ↔ Agreeing script media

pub is_end : (script : List Line) (media : Media) (agreeing : Bool) (begun mid new : SerialPlay) → HasPlayed script media script true begun → ((m : Media) → HasPlayed script m script true begun → HasPlayed script m [] agreeing mid) → ((tracks : List ℕ) (s : Serial) → Stands tracks s mid → Stands tracks (feed_all mid.left.now s) new) → IsEnd script media agreeing new
is_end script media agreeing begun mid new has lines rest = record {
  stands = stands_at_end script media agreeing mid new (lines media has) rest;
  agree = agrees_at_end script media agreeing mid (lines media has);
}

pub files_at_end : (script : List Line) (media : Media) (agreeing : Bool) (new : SerialPlay) → IsEnd script media agreeing new → map text_of new.tracks.items ≡ map (λ track. (track, concat ((serial script media).out track))) media.tracks
files_at_end script media agreeing new end = ap (map text_of) end.stands.tracks ∙ texts_at (serial script media) media.tracks
