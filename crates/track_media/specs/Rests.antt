-- What is left of a file whose first bytes were read, as its front says it. Contracts of private functions speak of it.
use Rattle.std.specs.Prelude.{◌≡◌, ℕ, ◌+◌, ◌-◌, ◌<◌, ◌≤◌, ◌^◌, Bool, true, false, List, [], ◌∷◌, length, map, Option, Some, None, Result, Ok, Err, if◌then◌else◌, ◌⊎◌}
use Rattle.std.specs.Option.{option_map}
use Rattle.eme_types.specs.declared.media.Fragment.{Fragment}
use Rattle.eme_types.specs.declared.media.InitData.{InitData}
use Rattle.iso_boxes.specs.declared.walk.BoxFault.{BoxFault}
use Rattle.iso_boxes.specs.Walk.{Found, Walked}
use Rattle.iso_boxes.specs.Children.{◌>>=◌}
use Rattle.frag_boxes.specs.Tracks.{track_ids}
use Rattle.sample_aux.specs.declared.fragment.Room.{Room}
use Rattle.sample_aux.specs.Inits.{inits_of}
use Rattle.track_media.specs.declared.kind.MediaFault.{MediaFault}
use Rattle.track_media.specs.declared.line.ListLine.{ListLine}
use Rattle.track_media.specs.declared.line.Known.{Known}
use Rattle.track_media.specs.declared.top.KnownMovie.{KnownMovie}
use Rattle.track_media.specs.declared.top.TopPart.{TopPart}
use Rattle.track_media.specs.declared.top.TopPart.TheVariants as part
use Rattle.track_media.specs.Refusals.{header_fault}
use Rattle.track_media.specs.ListLine.{line_in}
use Rattle.track_media.specs.SampleList.{is_fragment, placed}
use Rattle.track_media.specs.Gathering.{Gathering, added, empty_part, open_fragment}
use Rattle.track_media.specs.Mp4.{top_part_at, seen_from, with_first}
use Rattle.eme_types.specs.Fed.{fragment_samples, fragment_bytes}
use Rattle.track_media.specs.File.{WantsMemory}
use Rattle.track_media.specs.Front.{Coming, Front}
use Rattle.track_media.specs.Reader.{ahead, nothing_comes, refused_next}

-- ---- a sample list

-- the lines up to the next `fragment` line, and the place and the lines behind it; none at the end
unfoldable pub section_read : Gathering → ℕ → List (List ℕ) → Result (Gathering × Option (ℕ × List (List ℕ))) MediaFault
section_read g place [] = Ok (g, None)
section_read g place (text ∷ more) =
    placed place (line_in g.known text)
    >>= λ line. if is_fragment line then Ok (g, Some (place + length text + 1, more)) else section_read (added g line) (place + length text + 1) more

-- behind a `fragment` line
abbrev pub begun : Known → Known
begun known = record known { begun = true }

-- nothing is gathered yet of the section that begins
abbrev pub section_of : Known → Gathering
section_of known = record { known = known; fragments = []; inits = []; parts = map empty_part known.tracks }

-- what comes of a line, unless it is broken
abbrev pub coming_by : Result ListLine MediaFault → (ListLine → Coming) → Coming
coming_by (Ok line) rest = rest line
coming_by (Err e) rest = refused_next e

-- what comes of these lines behind some that were gathered
unfoldable pub lines_coming : Gathering → ℕ → List (List ℕ) → Coming
lines_coming g place [] = ahead (open_fragment g) nothing_comes
lines_coming g place (text ∷ more) =
    coming_by (placed place (line_in g.known text)) (λ line. if is_fragment line
    then ahead (open_fragment g) (lines_coming (section_of (begun g.known)) (place + length text + 1) more)
    else lines_coming (added g line) (place + length text + 1) more)

-- what comes where a section is open; nothing where none is
abbrev pub section_coming : Bool → Known → ℕ → List (List ℕ) → Coming
section_coming true known place lines = lines_coming (section_of known) place lines
section_coming false known place lines = nothing_comes

-- the lines before the first `fragment` line, and what comes behind it
abbrev pub list_begun : Gathering × Option (ℕ × List (List ℕ)) → Front
list_begun (g, None) = record { tracks = g.known.tracks; coming = nothing_comes }
list_begun (g, Some rest) = record { tracks = g.known.tracks; coming = section_coming true (begun g.known) rest.0 rest.1 }

-- the place of a text is small enough for that of its end
pub record IsPlaced (place : ℕ) (text : List ℕ) : Type 0 where
  pub small : place ≤ 2 ^ 63 + 8
  pub bound : 0 < length text → place + length text ≤ 2 ^ 63 + 7

-- behind a `fragment` line
pub record IsBehindFragment (known : Known) (place : ℕ) (text : List ℕ) : Type 0 where
  pub has_begun : known.begun ≡ true
  pub placed : IsPlaced place text

-- ---- fragmented MP4

-- the fragment that was read, if one was
abbrev pub fragment_in : TopPart → Option Fragment
fragment_in (part.Fragment f) = Some f
fragment_in (part.Movie m) = None
fragment_in part.Other = None

-- what is read of a box behind the movie
abbrev pub behind_movie : List ℕ → KnownMovie → Room → Found → Result (Option Fragment) MediaFault
behind_movie file m room b = top_part_at file (record { movie = Some m; room = room }) b >>= λ p. Ok (fragment_in p)

-- what a fragment takes is gone
abbrev pub less_room : Room → Fragment → Room
less_room room f = record { samples = room.samples - fragment_samples f; bytes = room.bytes - fragment_bytes f }

-- what the limits leave behind it
abbrev pub room_after : Room → Option Fragment → Room
room_after room None = room
room_after room (Some f) = less_room room f

-- a fragment in front, if there is one
abbrev pub ahead_if : Option Fragment → Coming → Coming
ahead_if None rest = rest
ahead_if (Some f) rest = ahead f rest

-- what comes of a box, unless a rule is broken in it
abbrev pub coming_of : Result (Option Fragment) MediaFault → (Option Fragment → Coming) → Coming
coming_of (Ok o) rest = ahead_if o (rest o)
coming_of (Err e) rest = refused_next e

-- what comes of these boxes behind the movie, where this room is left
unfoldable pub boxes_coming : List ℕ → KnownMovie → Option BoxFault → Room → List Found → Coming
boxes_coming file m end room [] = record { fragments = []; broken = option_map header_fault end }
boxes_coming file m end room (b ∷ bs) = coming_of (behind_movie file m room b) (λ o. boxes_coming file m end (room_after room o) bs)

-- what comes of the rest of a walk
abbrev pub walk_coming : List ℕ → KnownMovie → Room → Walked → Coming
walk_coming file m room w = boxes_coming file m w.fault room w.boxes

-- initialization data in front of that of the first fragment
abbrev pub with_inits : List InitData → Coming → Coming
with_inits inits c = record c { fragments = with_first inits c.fragments }

-- that of the movie, as long as no fragment was given
abbrev pub first_inits : Bool → List ℕ → KnownMovie → List InitData
first_inits true file m = inits_of file m.movie.psshs
first_inits false file m = []

-- what comes behind the movie; nothing without one
abbrev pub movie_coming : Bool → List ℕ → Option KnownMovie → Room → Walked → Coming
movie_coming first file None room w = nothing_comes
movie_coming first file (Some m) room w = with_inits (first_inits first file m) (walk_coming file m room w)

-- the room before all fragments
abbrev pub whole_room : Room
whole_room = (seen_from []).room

-- the file behind this box
abbrev pub opened_by : List ℕ → Walked → Result Front MediaFault → TopPart → Result Front MediaFault
opened_by file w more (part.Movie m) = Ok (record { tracks = track_ids m.movie; coming = movie_coming true file (Some m) whole_room w })
opened_by file w more (part.Fragment f) = more
opened_by file w more part.Other = more

-- no movie at the end
abbrev pub without_movie : Option BoxFault → Result Front MediaFault
without_movie None = Ok (record { tracks = []; coming = nothing_comes })
without_movie (Some f) = Err (header_fault f)

-- the file whose boxes before these are neither movie nor fragment
unfoldable pub boxes_opened : List ℕ → Option BoxFault → List Found → Result Front MediaFault
boxes_opened file end [] = without_movie end
boxes_opened file end (b ∷ bs) = top_part_at file (seen_from []) b >>= opened_by file (record { boxes = bs; fault = end }) (boxes_opened file end bs)

-- the same of a walk
abbrev pub walk_opened : List ℕ → Walked → Result Front MediaFault
walk_opened file w = boxes_opened file w.fault w.boxes

-- a box behind the movie with a fragment is found, or none, or a rule is broken before
abbrev pub Finds : List ℕ → KnownMovie → Room → Result (Option Fragment) MediaFault → Walked → Walked → Type 0
Finds file m room (Ok (Some f)) old new = walk_coming file m room old ≡ ahead f (walk_coming file m (less_room room f) new)
Finds file m room (Ok None) old new = (walk_coming file m room old ≡ nothing_comes) × (walk_coming file m room new ≡ nothing_comes)
Finds file m room (Err e) old new = WantsMemory e ⊎ (walk_coming file m room old ≡ refused_next e)
