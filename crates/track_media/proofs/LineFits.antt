-- What every line that is not refused keeps.
use Rattle.std.proofs.Common.{◌≡◌, ℕ, zero, suc, ◌<◌, ◌≤◌, Bool, true, false, List, [], ◌∷◌, length, Option, Some, None, Result, Ok, Err, refl, subst, arith}
use Rattle.std.specs.Prelude.{◌==◌, nat_lt, not, ◌&&◌, bytes_eq, codes, if◌then◌else◌}
use Rattle.std.proofs.lemmas.Bool.{ltb-true, ltb-false}
use Rattle.eme_types.specs.declared.sample.EncSample.{EncSample}
use Rattle.eme_types.specs.declared.sample.Protect.{Protect}
use Rattle.eme_types.specs.declared.limits.TheConstants.{MAX_TRACKS}
use Rattle.eme_types.specs.Fed.{is_among}
use Rattle.eme_types.specs.WellFormed.{is_covered, iv_fits, pattern_fits, is_well_protected, is_well_formed}
use Rattle.pattern_map.specs.declared.check.SampleFault.{SampleFault}
use Rattle.pattern_map.specs.declared.check.SampleFault.TheVariants as unfit
use Rattle.pattern_map.specs.SampleFaults.{first_fault, first_fault_of}
use Rattle.frag_boxes.proofs.Taking.{then_ok}
use Rattle.track_media.specs.declared.kind.MediaKind.{MediaKind}
use Rattle.track_media.specs.declared.kind.MediaKind.TheVariants.{Line, TrackId, TooManyTracks, Kid, IvSize, Hex, TooManySamples, TooManyBytes}
use Rattle.track_media.specs.declared.kind.LineFault.{LineFault}
use Rattle.track_media.specs.declared.line.ListLine.{ListLine}
use Rattle.track_media.specs.declared.line.ListLine.TheVariants as a
use Rattle.track_media.specs.declared.line.Known.{Known}
use Rattle.track_media.specs.declared.line.Mode.{Mode}
use Rattle.track_media.specs.Text.{words_of, has_empty_word, track_id, pattern_in, subs_in, data_in, kid_in, iv_in, init_kind}
use Rattle.track_media.specs.ListLine.{required, holds, broken, one_word, two_words, four_words, five_words, track_line, fragment_line, init_line, sample_data, unless, formed, known_track, clear_line, Protection, protected_line, cenc_line, cbcs_line, scheme_line, sample_line, verb_line, line_in}

-- what every line that is not refused keeps
abbrev pub Fits : Known → ListLine → Type 0
Fits known (a.Track id) = (known.begun ≡ false) × (is_among known.tracks id ≡ false) × (length known.tracks < MAX_TRACKS)
Fits known a.Fragment = Unit {0}
Fits known (a.Init init) = known.begun ≡ true
Fits known (a.Sample id sample) = (known.begun ≡ true) × (is_among known.tracks id ≡ true) × (is_well_formed sample ≡ true) × (0 < known.samples) × (length sample.bytes ≤ known.bytes)

pub not_true : (b : Bool) → not b ≡ true → b ≡ false
not_true true e = absurd cc
not_true false e = refl

holds_true : (rule : MediaKind) (b : Bool) (u : Unit {0}) → holds rule b ≡ Ok u → b ≡ true
holds_true rule true u e = refl
holds_true rule false u e = absurd cc

either_line : (F : ListLine → Type 0) (c : Bool) (r s : Result ListLine LineFault) → ((x : ListLine) → r ≡ Ok x → F x) → ((x : ListLine) → s ≡ Ok x → F x) → (x : ListLine) → (if c then r else s) ≡ Ok x → F x
either_line F true r s f g x e = f x e
either_line F false r s f g x e = g x e

same_line : (known : Known) (x y : ListLine) → Fits known x → x ≡ y → Fits known y
same_line known x y fits e = subst (Fits known) e fits

track_fits : (known : Known) (words : List (List ℕ)) (x : ListLine) → track_line known words ≡ Ok x → Fits known x
unfolding track_line
track_fits known words x h =
    let word = then_ok (required Line (one_word words)) _ x h in
    let id = then_ok (required Line (track_id word.0)) _ x word.2 in
    let early = then_ok (holds Line (not known.begun)) _ x id.2 in
    let new = then_ok (holds TrackId (not (is_among known.tracks id.0))) _ x early.2 in
    let few = then_ok (holds TooManyTracks (nat_lt (length known.tracks) MAX_TRACKS)) _ x new.2 in
    let fits : Fits known (a.Track id.0) = (
      not_true known.begun (holds_true Line _ early.0 early.1),
      not_true (is_among known.tracks id.0) (holds_true TrackId _ new.0 new.1),
      ltb-true _ _ (holds_true TooManyTracks _ few.0 few.1),
    ) in
    same_line known (a.Track id.0) x fits cc

fragment_fits : (known : Known) (words : List (List ℕ)) (x : ListLine) → fragment_line words ≡ Ok x → Fits known x
fragment_fits known [] x h = same_line known a.Fragment x tt cc
fragment_fits known (word ∷ more) x h = absurd cc

init_fits : (known : Known) (words : List (List ℕ)) (x : ListLine) → init_line known words ≡ Ok x → Fits known x
unfolding init_line
init_fits known words x h =
    let pair = then_ok (required Line (two_words words)) _ x h in
    let kind = then_ok (required Line (init_kind pair.0.0)) _ x pair.2 in
    let late = then_ok (holds Line known.begun) _ x kind.2 in
    let bytes = then_ok (required Hex (data_in pair.0.1)) _ x late.2 in
    let fits : known.begun ≡ true = holds_true Line _ late.0 late.1 in
    same_line known (a.Init (record { kind = kind.0; bytes = bytes.0 })) x fits cc

-- ---- samples

not_zero : (n : ℕ) → (n == 0) ≡ false → 0 < n
not_zero zero e = absurd cc
not_zero (suc n) e = omega arith

abbrev HasRoom : Known → List ℕ → Type 0
HasRoom known bytes = (0 < known.samples) × (length bytes ≤ known.bytes)

data_room : (known : Known) (word bytes : List ℕ) → sample_data known word ≡ Ok bytes → HasRoom known bytes
unfolding sample_data
data_room known word bytes h =
    let read = then_ok (required Hex (data_in word)) _ bytes h in
    let one = then_ok (holds TooManySamples (not (known.samples == 0))) _ bytes read.2 in
    let all = then_ok (holds TooManyBytes (not (nat_lt known.bytes (length read.0)))) _ bytes one.2 in
    let room : HasRoom known read.0 = (
      not_zero known.samples (not_true _ (holds_true TooManySamples _ one.0 one.1)),
      ltb-false _ _ (not_true _ (holds_true TooManyBytes _ all.0 all.1)),
    ) in
    subst (HasRoom known) (let e : read.0 ≡ bytes = cc in e) room

formed_if : (b c d : Bool) (u : Unit {0}) → (if not b then Err unfit.Sum else if not c then Err unfit.IvSize else if not d then Err unfit.Pattern else Ok tt) ≡ Ok u → (b && c && d) ≡ true
formed_if true true true u e = refl
formed_if true true false u e = absurd cc
formed_if true false d u e = absurd cc
formed_if false c d u e = absurd cc

formed_of : (o : Option Protect) (size : ℕ) (u : Unit {0}) → first_fault_of o size ≡ Ok u → is_well_protected o size ≡ true
formed_of None size u e = refl
formed_of (Some p) size u e = formed_if (is_covered p.subs size) (iv_fits p.scheme p.iv) (pattern_fits p.scheme p.crypt p.skip) u e

unless_ok : (r : Result (Unit {0}) SampleFault) (line x : ListLine) → unless r line ≡ Ok x → (u : Unit {0}) × (r ≡ Ok u) × (line ≡ x)
unless_ok (Ok u) line x e = (u, refl, cc)
unless_ok (Err fault) line x e = absurd cc

formed_fits : (known : Known) (id : ℕ) (s : EncSample) → known.begun ≡ true → is_among known.tracks id ≡ true → HasRoom known s.bytes → (x : ListLine) → formed id s ≡ Ok x → Fits known x
formed_fits known id s begun track room x h =
    let p = unless_ok (first_fault s) (a.Sample id s) x h in
    let fits : Fits known (a.Sample id s) = (begun, track, formed_of s.protect (length s.bytes) p.0 p.1, room.0, room.1) in
    same_line known (a.Sample id s) x fits p.2

clear_fits : (known : Known) (id : ℕ) (words : List (List ℕ)) → known.begun ≡ true → (x : ListLine) → clear_line known id words ≡ Ok x → Fits known x
unfolding clear_line
clear_fits known id words begun x h =
    let word = then_ok (required Line (one_word words)) _ x h in
    let track = then_ok (known_track known id) _ x word.2 in
    let bytes = then_ok (sample_data known word.0) _ x track.2 in
    formed_fits known id (record { protect = None; bytes = bytes.0 }) begun (holds_true TrackId _ track.0 track.1) (data_room known word.0 bytes.0 bytes.1) x bytes.2

protected_fits : (known : Known) (id : ℕ) (mode : Mode) (words : Protection) → known.begun ≡ true → (x : ListLine) → protected_line known id mode words ≡ Ok x → Fits known x
unfolding protected_line
protected_fits known id mode words begun x h =
    let subs = then_ok (required Line (subs_in words.subs)) _ x h in
    let track = then_ok (known_track known id) _ x subs.2 in
    let kid = then_ok (required Kid (kid_in words.kid)) _ x track.2 in
    let iv = then_ok (required IvSize (iv_in words.iv)) _ x kid.2 in
    let bytes = then_ok (sample_data known words.«data») _ x iv.2 in
    let sample : EncSample = record { protect = Some (record { scheme = mode.scheme; kid = kid.0; iv = iv.0; crypt = mode.crypt; skip = mode.skip; subs = subs.0 }); bytes = bytes.0 } in
    formed_fits known id sample begun (holds_true TrackId _ track.0 track.1) (data_room known words.«data» bytes.0 bytes.1) x bytes.2

cenc_fits : (known : Known) (id : ℕ) (words : List (List ℕ)) → known.begun ≡ true → (x : ListLine) → cenc_line known id words ≡ Ok x → Fits known x
unfolding cenc_line
cenc_fits known id words begun x h =
    let protection = then_ok (required Line (four_words words)) _ x h in
    protected_fits known id _ protection.0 begun x protection.2

cbcs_fits : (known : Known) (id : ℕ) (words : List (List ℕ)) → known.begun ≡ true → (x : ListLine) → cbcs_line known id words ≡ Ok x → Fits known x
unfolding cbcs_line
cbcs_fits known id words begun x h =
    let protection = then_ok (required Line (five_words words)) _ x h in
    let pattern = then_ok (required Line (pattern_in protection.0.1)) _ x protection.2 in
    protected_fits known id _ protection.0.0 begun x pattern.2

no_fits : (known : Known) (x : ListLine) → (let r : Result ListLine LineFault = broken Line in r) ≡ Ok x → Fits known x
no_fits known x h = absurd cc

scheme_fits : (known : Known) (id : ℕ) (scheme : List ℕ) (words : List (List ℕ)) → known.begun ≡ true → (x : ListLine) → scheme_line known id scheme words ≡ Ok x → Fits known x
unfolding scheme_line
scheme_fits known id scheme words begun x h =
    either_line (Fits known) (bytes_eq scheme (codes "clear")) _ _ (clear_fits known id words begun)
    (either_line (Fits known) (bytes_eq scheme (codes "cenc")) _ _ (cenc_fits known id words begun)
    (either_line (Fits known) (bytes_eq scheme (codes "cbcs")) _ _ (cbcs_fits known id words begun) (no_fits known))) x h

sample_fits : (known : Known) (words : List (List ℕ)) (x : ListLine) → sample_line known words ≡ Ok x → Fits known x
unfolding sample_line
sample_fits known [] x h = absurd cc
sample_fits known (word ∷ []) x h = absurd cc
sample_fits known (word ∷ scheme ∷ words) x h =
    let id = then_ok (required Line (track_id word)) _ x h in
    let late = then_ok (holds Line known.begun) _ x id.2 in
    scheme_fits known id.0 scheme words (holds_true Line _ late.0 late.1) x late.2

-- ---- any line

verb_fits : (known : Known) (words : List (List ℕ)) (x : ListLine) → verb_line known words ≡ Ok x → Fits known x
unfolding verb_line
verb_fits known [] x h = absurd cc
verb_fits known (verb ∷ words) x h =
    either_line (Fits known) (bytes_eq verb (codes "track")) _ _ (track_fits known words)
    (either_line (Fits known) (bytes_eq verb (codes "fragment")) _ _ (fragment_fits known words)
    (either_line (Fits known) (bytes_eq verb (codes "init")) _ _ (init_fits known words)
    (either_line (Fits known) (bytes_eq verb (codes "sample")) _ _ (sample_fits known words) (no_fits known)))) x h

pub line_fits : (known : Known) (text : List ℕ) (x : ListLine) → line_in known text ≡ Ok x → Fits known x
unfolding line_in
line_fits known text x h = either_line (Fits known) (has_empty_word text) _ _ (no_fits known) (verb_fits known (words_of text)) x h
