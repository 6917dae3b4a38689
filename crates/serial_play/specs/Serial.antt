-- The serial play of a paced script: a fold over its lines, without claims, workers or threads.
use Rattle.std.specs.Prelude.{ℕ, List, [], ◌∷◌, ◌++◌, map, length, drop, slice_get, Option, Some, None}
use Rattle.std.specs.List.{flat_map}
use Rattle.eme_types.specs.declared.kid.KeyBytes.{KeyBytes}
use Rattle.eme_types.specs.declared.sample.EncSample.{EncSample}
use Rattle.eme_types.specs.declared.sample.Protect.{Protect}
use Rattle.eme_types.specs.declared.media.Fragment.{Fragment}
use Rattle.eme_types.specs.declared.media.Media.{Media}
use Rattle.eme_types.specs.declared.call.Effect.{Effect}
use Rattle.sample_crypt.specs.Decryption.{decryption}
use Rattle.cdm_world.specs.Tracks.{Picks}
use Rattle.key_sessions.specs.Machine.{Machine, empty_machine}
use Rattle.key_sessions.specs.Agree.{Agree}
use Rattle.key_sessions.specs.Keys.{pick}
use Rattle.key_sessions.specs.Steps.{Done, unmoved}
use Rattle.key_sessions.specs.Calls.{after_call}
use Rattle.key_sessions.specs.Evict.{after_evict}
use Rattle.key_sessions.specs.Tasks.{after_tick}
use Rattle.cdm_state.specs.After.{fire_encrypted}
use Rattle.cdm_state.specs.OfSamples.{part_on}
use Rattle.script_lang.specs.declared.script.Action.{Action}
use Rattle.script_lang.specs.declared.script.Action.TheVariants.{Ask, Feed, Clock, Evict, Settle}
use Rattle.script_lang.specs.declared.script.Line.{Line}
use Rattle.play_parts.specs.Asks.{left_by}
use Rattle.serial_play.specs.Served.{and_then, served}

-- the samples of the track in a fragment, in order
abbrev pub samples_of : ℕ → Fragment → List EncSample
samples_of track f = flat_map (part_on track) f.parts

-- the samples of the track in these fragments, in order
abbrev pub samples_in : ℕ → List Fragment → List EncSample
samples_in track fragments = flat_map (samples_of track) fragments

-- a protected sample under the pick for its key id is its decryption; where there is no pick it gives nothing
abbrev pub opened_by : EncSample → Option (ℕ × KeyBytes) → Option (List ℕ)
opened_by sample None = None
opened_by sample (Some (session, key)) = Some (decryption sample key)

-- what a sample gives by its protection: its bytes where it is clear, else what its key id's pick opens
abbrev pub passed_as : Picks → EncSample → Option Protect → Option (List ℕ)
passed_as picks sample None = Some sample.bytes
passed_as picks sample (Some p) = opened_by sample (picks p.kid)

-- what a sample gives under the picks
abbrev pub passed : Picks → EncSample → Option (List ℕ)
passed picks sample = passed_as picks sample sample.protect

-- what comes first, if it is there, and then the others
abbrev pub up_to : Option (List ℕ) → List (List ℕ) → List (List ℕ)
up_to None others = []
up_to (Some bytes) others = bytes ∷ others

-- what samples give up to the first that is protected and has no pick
abbrev pub gives : Picks → List EncSample → List (List ℕ)
gives picks [] = []
gives picks (sample ∷ more) = up_to (passed picks sample) (gives picks more)

-- where the serial play stands: the sessions; all effects so far, in order; the fragments that were fed; and what is out on each track
pub record Serial : Type 0 where
  pub machine : Machine
  pub heard : List Effect
  pub fed : List Fragment
  pub out : ℕ → List (List ℕ)

-- before the first line
abbrev pub unplayed : Serial
unplayed = record { machine = empty_machine; heard = []; fed = []; out = λ track. [] }

-- each track's count moves to the first fed sample, from the count on, that is protected and has no pick, or to the end; each sample
-- passed is out
abbrev pub moved : Serial → Serial
moved s = record s { out = λ track. s.out track ++ gives (pick s.machine) (drop (length (s.out track)) (samples_in track s.fed)) }

-- `encrypted` is to be fired for each initialization data of what is fed
abbrev pub told_of : Option Fragment → Machine → Machine
told_of None m = m
told_of (Some f) m = record m { tasks = m.tasks ++ map fire_encrypted f.inits }

-- what a line does to the sessions before its job and its tasks
abbrev pub begun : Action → Option Fragment → Machine → Done
begun (Ask call) given m = after_call call m
begun Feed given m = unmoved (told_of given m)
begun (Clock moment) given m = after_tick moment m
begun (Evict label) given m = after_evict label m
begun Settle given m = unmoved m

-- the fragment that a line feeds
abbrev pub fed_with : Action → Option Fragment → List Fragment
fed_with (Ask call) given = []
fed_with Feed None = []
fed_with Feed (Some f) = f ∷ []
fed_with (Clock moment) given = []
fed_with (Evict label) given = []
fed_with Settle given = []

-- what the sessions did so far
abbrev pub so_far : Serial → Done
so_far s = record { machine = s.machine; effects = s.heard }

-- the sessions after a line: it does its checks, or its eviction, and then at once what its job and its tasks do
abbrev pub line_done : Action → Option Fragment → Serial → Done
line_done action given s = served (and_then (so_far s) (begun action given))

-- the sessions are these, and the fragments are fed besides
abbrev pub fed_more : Done → List Fragment → Serial → Serial
fed_more d fragments s = record s { machine = d.machine; heard = d.effects; fed = s.fed ++ fragments }

-- a line: what it does to the sessions, and then each track moves. A settle does nothing
abbrev pub line_step : Action → Option Fragment → Serial → Serial
line_step (Ask call) given s = moved (fed_more (line_done (Ask call) given s) [] s)
line_step Feed given s = moved (fed_more (line_done Feed given s) (fed_with Feed given) s)
line_step (Clock moment) given s = moved (fed_more (line_done (Clock moment) given s) [] s)
line_step (Evict label) given s = moved (fed_more (line_done (Evict label) given s) [] s)
line_step Settle given s = s

-- the line, where these fragments are not yet fed: a feed takes the first of them, or none
abbrev pub after_line : List Fragment → Line → Serial → Serial
after_line left line s = line_step line.action (slice_get left 0) s

-- the fragments that are left are fed
abbrev pub feed_all : List Fragment → Serial → Serial
feed_all [] s = s
feed_all (f ∷ left) s = feed_all left (line_step Feed (Some f) s)

-- these lines, and then the fragments not yet fed
abbrev pub serial_from : Serial → List Fragment → List Line → Serial
serial_from s left [] = feed_all left s
serial_from s left (line ∷ more) = serial_from (after_line left line s) (left_by left line.action) more

-- the serial play of the script on the media
unfoldable pub serial : List Line → Media → Serial
serial script media = serial_from unplayed media.fragments script

-- after each of these lines no two sessions hold usable keys of one id that differ
abbrev pub AgreeFrom : Serial → List Fragment → List Line → Type 0
AgreeFrom s left [] = Unit {0}
AgreeFrom s left (line ∷ more) = Agree (after_line left line s).machine × AgreeFrom (after_line left line s) (left_by left line.action) more

-- after no line of the serial play do two sessions hold usable keys of one id that differ
unfoldable pub Agreeing : List Line → Media → Type 0
Agreeing script media = AgreeFrom unplayed media.fragments script
