-- Laws of the texts.
use Rattle.std.specs.Prelude.{ℕ, ◌≡◌, ◌+◌, ◌<◌, ◌^◌, List, ◌++◌, length, slice_get, Some, All, count_by}
use Rattle.std.specs.List.{concat, sum_by}
use Rattle.eme_types.specs.declared.media.Media.{Media}
use Rattle.eme_types.specs.declared.entry.Entry.{Entry}
use Rattle.script_lang.specs.declared.script.Line.{Line}
use Rattle.cdm_state.specs.History.{world, IsLegal}
use Rattle.cdm_state.specs.Output.{out, out_from}
use Rattle.cdm_state.specs.Settlements.{effects_from, calls_in}
use Rattle.output_order.specs.Complete.{IsBegun, IsComplete}
use Rattle.cdm_state.specs.Feeds.{fragments_fed}
use Rattle.output_order.specs.Log.{lines_from, log_of}
use Rattle.output_order.specs.Staffed.{NamesWorker}
use Rattle.output_order.specs.Summary.{resolves, rejects, times_resolved, times_rejected}
use Rattle.output_order.specs.TrackFile.{file_of}

-- a legal history of the script and the media so far, whose claims name workers 0 to n
pub record IsOnTheWay (n : ℕ) (script : List Line) (media : Media) (h : List Entry) : Type 0 where
  pub legal : IsLegal media.tracks h
  pub begun : IsBegun script media h
  pub named : (i : ℕ) (e : Entry) → slice_get h i ≡ Some e → NamesWorker n e

-- two histories of one script and one media that have one log are equal.
-- The log tells tracks, workers and places as decimal numbers, so these have a bound
abbrev pub LogDetermines : Type 0
LogDetermines = (n : ℕ) (script : List Line) (media : Media) (h g : List Entry) → n < 2 ^ 64 → All (λ t. t < 2 ^ 64) media.tracks → length h < 2 ^ 64 → IsOnTheWay n script media h → IsOnTheWay n script media g → log_of media.tracks h ≡ log_of media.tracks g → h ≡ g

-- a complete history is one so far
abbrev pub CompleteIsBegun : Type 0
CompleteIsBegun = (script : List Line) (media : Media) (h : List Entry) → IsComplete script media h → IsBegun script media h

-- the log of a history that goes on is that of its front, and behind it the lines of what is new
abbrev pub LogGoesOn : Type 0
LogGoesOn = (ids : List ℕ) (h g : List Entry) → log_of ids (h ++ g) ≡ log_of ids h ++ lines_from (world ids h) (length h + 1) (sum_by fragments_fed h) g

-- so is the file of a track
abbrev pub FileGoesOn : Type 0
FileGoesOn = (ids : List ℕ) (h g : List Entry) (t : ℕ) → file_of ids (h ++ g) t ≡ file_of ids h t ++ concat (out_from ids h t g)

-- what a summary counts after a history that goes on: its front, and what is new
pub record CountsGoOn (ids : List ℕ) (h g : List Entry) : Type 0 where
  pub entries : length (h ++ g) ≡ length h + length g
  pub promises : calls_in (h ++ g) ≡ calls_in h + calls_in g
  pub resolved : times_resolved ids (h ++ g) ≡ times_resolved ids h + sum_by (count_by resolves) (effects_from (world ids h) g)
  pub rejected : times_rejected ids (h ++ g) ≡ times_rejected ids h + sum_by (count_by rejects) (effects_from (world ids h) g)
  pub samples : (t : ℕ) → length (out ids (h ++ g) t) ≡ length (out ids h t) + length (out_from ids h t g)
  pub bytes : (t : ℕ) → sum_by length (out ids (h ++ g) t) ≡ sum_by length (out ids h t) + sum_by length (out_from ids h t g)

abbrev pub SummaryGoesOn : Type 0
SummaryGoesOn = (ids : List ℕ) (h g : List Entry) → CountsGoOn ids h g
