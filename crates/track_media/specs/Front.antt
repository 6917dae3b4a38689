-- The front of a media file: its tracks, and its fragments that are whole before the first broken rule.
use Rattle.std.specs.Prelude.{◌≡◌, ℕ, ◌-◌, Bool, true, false, true, List, [], ◌∷◌, ◌++◌, length, take, drop, map, Option, Some, None, is_some, Result, Ok, Err, bytes_eq, if◌then◌else◌}
use Rattle.std.specs.List.{list_any}
use Rattle.eme_types.specs.declared.media.Fragment.{Fragment}
use Rattle.eme_types.specs.declared.media.Media.{Media}
use Rattle.iso_boxes.specs.Walk.{walk}
use Rattle.iso_boxes.specs.Children.{read_before}
use Rattle.text_words.specs.Lines.{lines_of}
use Rattle.track_media.specs.declared.kind.LineFault.{LineFault}
use Rattle.track_media.specs.declared.kind.MediaFault.{MediaFault}
use Rattle.track_media.specs.declared.line.ListLine.{ListLine}
use Rattle.track_media.specs.declared.top.TopPart.{TopPart}
use Rattle.track_media.specs.ListLine.{line_in}
use Rattle.track_media.specs.SampleList.{tracks_of, is_fragment, sections, fragment_of, known_from, list_media}
use Rattle.track_media.specs.Mp4.{top_part_at, movie_in, seen_from, media_of_parts, followed_by, mp4_media}
use Rattle.track_media.specs.File.{header, media_of}

-- what comes of a file: fragments, and the rule that is broken behind them; none where no rule is broken
pub record Coming : Type 0 where
  pub fragments : List Fragment
  pub broken : Option MediaFault

-- the tracks of a file, and what comes of it
pub record Front : Type 0 where
  pub tracks : List ℕ
  pub coming : Coming

-- the first broken rule of what is read; none where no rule is broken
abbrev pub refusal : {A : Type 0} → Result A MediaFault → Option MediaFault
refusal (Ok x) = None
refusal (Err fault) = Some fault

-- media, and the rule that is broken behind them
abbrev pub front_of : Media → Option MediaFault → Front
front_of m broken = record { tracks = m.tracks; coming = record { fragments = m.fragments; broken = broken } }

-- a rule that is broken refuses the file
abbrev pub unless_broken : Option MediaFault → Media → Result Front MediaFault
unless_broken None m = Ok (front_of m None)
unless_broken (Some fault) m = Err fault

-- behind the tracks a broken rule stands at the end of the front; before them it refuses the file
abbrev pub opened : Bool → Option MediaFault → Media → Result Front MediaFault
opened true broken m = Ok (front_of m broken)
opened false broken m = unless_broken broken m

-- ---- a sample list

-- a line, unless it is broken
abbrev pub up_to : List ListLine → Result ListLine LineFault → (ListLine → List ListLine) → List ListLine
up_to before (Ok line) more = more line
up_to before (Err fault) more = before

-- the lines before the first broken one
unfoldable pub lines_before : List ListLine → List (List ℕ) → List ListLine
lines_before before [] = before
lines_before before (text ∷ texts) = up_to before (line_in (known_from before) text) (λ line. lines_before (before ++ line ∷ []) texts)

-- a section is whole where the next `fragment` line or the end of the list is met, so the last one before a broken line is not
abbrev pub whole_sections : Option MediaFault → List (List ListLine) → List (List ListLine)
whole_sections None parts = parts
whole_sections (Some fault) parts = take (length parts - 1) parts

-- what is whole of these lines
abbrev pub whole_list : Option MediaFault → List ListLine → Media
whole_list broken lines = record { tracks = tracks_of lines; fragments = map (fragment_of (tracks_of lines)) (whole_sections broken (sections lines)) }

-- the tracks are read where a `fragment` line is met
abbrev pub list_front_of : Option MediaFault → List ListLine → Result Front MediaFault
list_front_of broken lines = opened (list_any is_fragment lines) broken (whole_list broken lines)

-- the front of the text behind the header
unfoldable pub list_front : List ℕ → Result Front MediaFault
list_front text = list_front_of (refusal (list_media text)) (lines_before [] (lines_of text))

-- ---- fragmented MP4

-- the boxes at the top level that are read whole before the first broken rule
abbrev pub parts_before : List ℕ → List TopPart
parts_before file = read_before (λ before b. top_part_at file (seen_from before) b) followed_by [] (walk file 0 true).boxes

-- the tracks are read with the movie
abbrev pub mp4_front_of : List ℕ → Option MediaFault → List TopPart → Result Front MediaFault
mp4_front_of file broken parts = opened (is_some (movie_in parts)) broken (media_of_parts file parts)

-- the front of a file
unfoldable pub mp4_front : List ℕ → Result Front MediaFault
mp4_front file = mp4_front_of file (refusal (mp4_media file)) (parts_before file)

-- ---- either form

-- the tracks of a file, where they are read before its first broken rule, and the fragments that are whole before it
unfoldable pub front : List ℕ → Result Front MediaFault
front bytes = if bytes_eq (take 7 bytes) header then list_front (drop 7 bytes) else mp4_front bytes

-- the tracks, and the fragments that come
abbrev pub to_come : Front → Media
to_come f = record { tracks = f.tracks; fragments = f.coming.fragments }

-- these media, unless a rule is broken behind them
abbrev pub ended : Option MediaFault → Media → Result Media MediaFault
ended None m = Ok m
ended (Some fault) m = Err fault

-- a front, read to its end
abbrev pub to_the_end : Result Front MediaFault → Result Media MediaFault
to_the_end (Ok f) = ended f.coming.broken (to_come f)
to_the_end (Err fault) = Err fault

-- a file is media where its front ends without a broken rule, and then those of the front; else it is refused as the front ends
abbrev pub EndsAsItsFile : Type 0
EndsAsItsFile = (bytes : List ℕ) → media_of bytes ≡ to_the_end (front bytes)
