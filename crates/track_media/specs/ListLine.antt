-- What one line of a sample list is, or the first rule that it breaks.
use Rattle.std.specs.Prelude.{◌≡◌, ℕ, ◌==◌, nat_lt, Bool, not, if◌then◌else◌, List, [], ◌∷◌, length, codes, Option, Some, None, Result, Ok, Err, bytes_eq}
use Rattle.eme_types.specs.FirstFault as first
use Rattle.eme_types.specs.FirstFault.{◌>>=◌}
use Rattle.eme_types.specs.declared.sample.EncSample.{EncSample}
use Rattle.eme_types.specs.declared.sample.Scheme.{Scheme}
use Rattle.eme_types.specs.declared.sample.Scheme.TheVariants.{Cenc, Cbcs}
use Rattle.eme_types.specs.Fed.{is_among}
use Rattle.eme_types.specs.declared.limits.TheConstants.{MAX_TRACKS}
use Rattle.pattern_map.specs.declared.check.SampleFault.{SampleFault}
use Rattle.pattern_map.specs.declared.check.SampleFault.TheVariants as unfit
use Rattle.pattern_map.specs.SampleFaults.{first_fault}
use Rattle.track_media.specs.declared.kind.MediaKind.{MediaKind}
use Rattle.track_media.specs.declared.kind.MediaKind.TheVariants.{Line, TrackId, TooManyTracks, Kid, IvSize, Hex, TooManySamples, TooManyBytes, SubsSum, Pattern}
use Rattle.track_media.specs.declared.kind.LineFault.{LineFault}
use Rattle.track_media.specs.declared.kind.LineFault.TheVariants.{Broken, OutOfMemory}
use Rattle.track_media.specs.declared.line.ListLine.{ListLine}
use Rattle.track_media.specs.declared.line.ListLine.TheVariants as a
use Rattle.track_media.specs.declared.line.Known.{Known}
use Rattle.track_media.specs.declared.line.Mode.{Mode}
use Rattle.track_media.specs.Text.{words_of, has_empty_word, track_id, pattern_in, subs_in, data_in, kid_in, iv_in, init_kind}

-- memory ran out
abbrev pub WantsMemory : LineFault → Type 0
WantsMemory e = e ≡ OutOfMemory

-- what a reader returned is what the definition says, unless memory ran out
abbrev pub Gives : {A : Type 0} → Result A LineFault → Result A LineFault → Type 0
Gives answer read = first.Gives WantsMemory (λ x. x) answer read

-- a line that breaks this rule
abbrev pub broken : {A : Type 0} → MediaKind → Result A LineFault
broken rule = Err (Broken rule)

-- what there has to be, else this rule is broken
abbrev pub required : {A : Type 0} → MediaKind → Option A → Result A LineFault
required rule what = first.required (Broken rule) what

-- what has to hold, else this rule is broken
abbrev pub holds : MediaKind → Bool → Result (Unit {0}) LineFault
holds rule test = first.demanded (Broken rule) test

-- the one word, or two of them
abbrev pub one_word : List (List ℕ) → Option (List ℕ)
one_word (word ∷ []) = Some word
one_word _ = None

-- the two words
abbrev pub two_words : List (List ℕ) → Option (List ℕ × List ℕ)
two_words (first ∷ second ∷ []) = Some (first, second)
two_words _ = None

-- ---- `track <id>`

-- a track that is new, before the first fragment
unfoldable pub track_line : Known → List (List ℕ) → Result ListLine LineFault
track_line known words = do
  word ← required Line (one_word words)
  id ← required Line (track_id word)
  early ← holds Line (not known.begun)
  new ← holds TrackId (not (is_among known.tracks id))
  few ← holds TooManyTracks (nat_lt (length known.tracks) MAX_TRACKS)
  Ok (a.Track id)

-- ---- `fragment`

-- no further word
abbrev pub fragment_line : List (List ℕ) → Result ListLine LineFault
fragment_line [] = Ok a.Fragment
fragment_line (word ∷ more) = broken Line

-- ---- `init <type> <hex>`

-- initialization data inside a fragment
unfoldable pub init_line : Known → List (List ℕ) → Result ListLine LineFault
init_line known words = do
  pair ← required Line (two_words words)
  kind ← required Line (init_kind pair.0)
  late ← holds Line known.begun
  bytes ← required Hex (data_in pair.1)
  Ok (a.Init (record { kind = kind; bytes = bytes }))

-- ---- `sample <id> clear <hex>`, `sample <id> cenc <kid> <iv> <subs> <hex>`, `sample <id> cbcs <kid> <iv> <c>:<s> <subs> <hex>`

-- the data of a sample, for which there has to be room
unfoldable pub sample_data : Known → List ℕ → Result (List ℕ) LineFault
sample_data known word = do
  bytes ← required Hex (data_in word)
  one ← holds TooManySamples (not (known.samples == 0))
  all ← holds TooManyBytes (not (nat_lt known.bytes (length bytes)))
  Ok bytes

-- the part of 'well formed' that a sample does not meet
abbrev pub kind_of : SampleFault → MediaKind
kind_of unfit.Sum = SubsSum
kind_of unfit.IvSize = IvSize
kind_of unfit.Pattern = Pattern

-- the line, unless its sample is not well formed
abbrev pub unless : Result (Unit {0}) SampleFault → ListLine → Result ListLine LineFault
unless (Ok fine) line = Ok line
unless (Err fault) line = broken (kind_of fault)

-- a sample has to be well formed
abbrev pub formed : ℕ → EncSample → Result ListLine LineFault
formed id sample = unless (first_fault sample) (a.Sample id sample)

-- a sample stands in a fragment, and its track was named
abbrev pub known_track : Known → ℕ → Result (Unit {0}) LineFault
known_track known id = holds TrackId (is_among known.tracks id)

-- a sample without protection
unfoldable pub clear_line : Known → ℕ → List (List ℕ) → Result ListLine LineFault
clear_line known id words = do
  word ← required Line (one_word words)
  track ← known_track known id
  bytes ← sample_data known word
  formed id (record { protect = None; bytes = bytes })

-- the words of a protected sample, but for its pattern
pub record Protection : Type 0 where
  pub kid : List ℕ
  pub iv : List ℕ
  pub subs : List ℕ
  pub «data» : List ℕ

-- the four words
abbrev pub four_words : List (List ℕ) → Option Protection
four_words (kid ∷ iv ∷ subs ∷ bytes ∷ []) = Some (record { kid = kid; iv = iv; subs = subs; «data» = bytes })
four_words _ = None

-- the pattern stands before the subsamples
abbrev pub five_words : List (List ℕ) → Option (Protection × List ℕ)
five_words (kid ∷ iv ∷ pattern ∷ subs ∷ bytes ∷ []) = Some (record { kid = kid; iv = iv; subs = subs; «data» = bytes }, pattern)
five_words _ = None

-- a scheme with its pattern
abbrev pub mode_of : Scheme → ℕ × ℕ → Mode
mode_of scheme pattern = record { scheme = scheme; crypt = pattern.0; skip = pattern.1 }

-- a sample with protection
unfoldable pub protected_line : Known → ℕ → Mode → Protection → Result ListLine LineFault
protected_line known id mode words = do
  subs ← required Line (subs_in words.subs)
  track ← known_track known id
  kid ← required Kid (kid_in words.kid)
  iv ← required IvSize (iv_in words.iv)
  bytes ← sample_data known words.«data»
  formed id (record { protect = Some (record { scheme = mode.scheme; kid = kid; iv = iv; crypt = mode.crypt; skip = mode.skip; subs = subs }); bytes = bytes })

-- the words of a cenc sample (ISO/IEC 23001-7 section 10.1)
unfoldable pub cenc_line : Known → ℕ → List (List ℕ) → Result ListLine LineFault
cenc_line known id words = do
  protection ← required Line (four_words words)
  protected_line known id (mode_of Cenc (0, 0)) protection

-- the words of a cbcs sample (ISO/IEC 23001-7 section 10.4)
unfoldable pub cbcs_line : Known → ℕ → List (List ℕ) → Result ListLine LineFault
cbcs_line known id words = do
  protection ← required Line (five_words words)
  pattern ← required Line (pattern_in protection.1)
  protected_line known id (mode_of Cbcs pattern) protection.0

-- by the scheme of the sample
unfoldable pub scheme_line : Known → ℕ → List ℕ → List (List ℕ) → Result ListLine LineFault
scheme_line known id scheme words =
    if bytes_eq scheme (codes "clear") then clear_line known id words
    else if bytes_eq scheme (codes "cenc") then cenc_line known id words
    else if bytes_eq scheme (codes "cbcs") then cbcs_line known id words
    else broken Line

-- a sample of any kind
unfoldable pub sample_line : Known → List (List ℕ) → Result ListLine LineFault
sample_line known (word ∷ scheme ∷ words) = do
  id ← required Line (track_id word)
  late ← holds Line known.begun
  scheme_line known id scheme words
sample_line known _ = broken Line

-- ---- any line

-- by the line's first word
unfoldable pub verb_line : Known → List (List ℕ) → Result ListLine LineFault
verb_line known [] = broken Line
verb_line known (verb ∷ words) =
    if bytes_eq verb (codes "track") then track_line known words
    else if bytes_eq verb (codes "fragment") then fragment_line words
    else if bytes_eq verb (codes "init") then init_line known words
    else if bytes_eq verb (codes "sample") then sample_line known words
    else broken Line

-- a line without a word, or with two spaces together or a space at an end, has none of the forms
unfoldable pub line_in : Known → List ℕ → Result ListLine LineFault
line_in known line = if has_empty_word line then broken Line else verb_line known (words_of line)
