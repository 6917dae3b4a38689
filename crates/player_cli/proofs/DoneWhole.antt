-- What is asked for is done whole, or memory is missing.
use Rattle.std.proofs.Common.{◌≡◌, ◌⊎◌, inl, inr, ℕ, List, [], ◌∷◌, length, Some, refl, ap, sym, ◌∙◌, arith}
use Rattle.std.specs.Prelude.{Result, Ok, Err}
use Rattle.eme_edge.specs.Shelf.{ShelfState}
use Rattle.eme_edge.specs.declared.shelf.ShelfFault.TheVariants.{Failed, OutOfMemory as NoMemory}
use Rattle.script_lang.specs.Grammar.{script_of}
use Rattle.track_media.specs.declared.kind.MediaFault.TheVariants.{Refused as BadMedia}
use Rattle.track_media.specs.File.{media_of}
use Rattle.seal_media.specs.declared.fault.SealFault.{SealFault}
use Rattle.seal_media.specs.Refusals.{refusal}
use Rattle.player_cli.specs.Command.{Asked, SealNames}
use Rattle.license_desk.specs.Table.{desk_of}
use Rattle.player_cli.specs.Ends.{read_outcome, script_outcome, media_outcome, desk_outcome, refusal_outcome, outcome_of}
use Rattle.player_cli.specs.Inputs.{Tells, Input, ScriptFile, MediaFile, DeskFile, RequestFile, ClearFile, seal_refusal, SealFails, ScriptEnds, MediaEnds, DeskEnds, InputEnds, FirstEnds, HasFile, HasScript, HasMedia, HasDesk, HasClear, HasInput, HasInputs}
use Rattle.player_cli.specs.ReadAll.{ReadEnds}
use Rattle.player_cli.specs.Says.{done_of, all_inputs, EndSays, SaysOf, NoFault, IsDoneWhole}
use Rattle.player_cli.specs.declared.end.ScriptEnd.{ScriptEnd}
use Rattle.player_cli.specs.declared.end.ScriptEnd.TheVariants as script_end
use Rattle.player_cli.specs.declared.end.MediaEnd.{MediaEnd}
use Rattle.player_cli.specs.declared.end.MediaEnd.TheVariants as media_end
use Rattle.player_cli.specs.declared.end.DeskEnd.{DeskEnd}
use Rattle.player_cli.specs.declared.end.DeskEnd.TheVariants as desk_end
use Rattle.player_cli.specs.declared.end.Refusal.{Refusal}
use Rattle.player_cli.specs.declared.end.End.{End}
use Rattle.player_cli.specs.declared.end.End.TheVariants.{Whole, Refused, Stopped}
use Rattle.player_cli.specs.declared.outcome.Outcome.{Outcome}
use Rattle.player_cli.specs.declared.outcome.Outcome.TheVariants.{OutOfMemory}
use Rattle.eme_edge.specs.declared.words.UsageFault.{UsageFault}
use Rattle.player_cli.specs.declared.outcome.Which.{Which}
use Rattle.player_cli.specs.declared.read.ReadEnd.{ReadEnd}
use Rattle.player_cli.specs.declared.read.ReadEnd.TheVariants as read

module _ (s new : ShelfState) (calm : NoFault s new) where
  same_bytes : (name : List ℕ) (limit : ℕ) (has : HasFile s name limit) (bytes : List ℕ) → Tells s name bytes → bytes ≡ has.bytes
  same_bytes name limit has bytes told = let same : Some bytes ≡ Some has.bytes = sym (told has.tells) ∙ has.is in cc

  -- a file that is there is read
  is_read : (name : List ℕ) (limit : ℕ) (which : Which) → HasFile s name limit → (end : ReadEnd) → ReadEnds end s new name limit → read_outcome which limit end ≡ OutOfMemory
  is_read name limit which has read.TooLarge says =
      let more = says has.tells in
      let same = same_bytes name limit has more.0 (λ _. more.1) in
      absurd (omega (arith, more.2, ap length same, has.small))
  is_read name limit which has read.Fault (inl rose) = absurd (calm.reads rose)
  is_read name limit which has read.Fault (inr gone) = let none = rw has.is at gone.1 in absurd (cc none)
  is_read name limit which has read.OutOfMemory says = refl

  -- a script is taken
  script_is_taken : (name : List ℕ) → HasScript s name → (end : ScriptEnd) → ScriptEnds end s new name → script_outcome end ≡ OutOfMemory
  script_is_taken name has (script_end.Unread end) says = is_read name _ _ has.file end says
  script_is_taken name has (script_end.Refused line kind) says =
      let same = same_bytes name _ has.file says.bytes says.told in
      let refused : script_of has.file.bytes ≡ Err (line, kind) = ap script_of (sym same) ∙ says.refused in
      absurd (cc (sym refused ∙ has.fits))

  -- a media file is taken
  media_is_taken : (name : List ℕ) → HasMedia s name → (end : MediaEnd) → MediaEnds end s new name → media_outcome end ≡ OutOfMemory
  media_is_taken name has (media_end.Unread end) says = is_read name _ _ has.file end says
  media_is_taken name has (media_end.Refused place kind) says =
      let same = same_bytes name _ has.file says.bytes says.told in
      let refused : media_of has.file.bytes ≡ Err (BadMedia place kind) = ap media_of (sym same) ∙ says.refused in
      absurd (cc (sym refused ∙ has.fits))

  -- a table of keys is taken
  desk_is_taken : (name : List ℕ) → HasDesk s name → (end : DeskEnd) → DeskEnds end s new name → desk_outcome end ≡ OutOfMemory
  desk_is_taken name has (desk_end.Unread end) says = is_read name _ _ has.file end says
  desk_is_taken name has (desk_end.Refused line rule) says =
      let same = same_bytes name _ has.file says.bytes says.told in
      let refused : desk_of has.file.bytes ≡ Err (line, rule) = ap desk_of (sym same) ∙ says.refused in
      absurd (cc (sym refused ∙ has.fits))

  -- media that may be sealed are
  clear_is_taken : (names : SealNames) → HasClear s names → (fault : SealFault) → SealFails s names fault → refusal_outcome (seal_refusal fault) ≡ OutOfMemory
  clear_is_taken names has fault says =
      let same = same_bytes names.media _ has.has.file says.read.bytes says.read.told in
      let one : Ok says.media ≡ Ok has.has.media = sym says.read.fits ∙ (ap media_of same ∙ has.has.fits) in
      elim says.refused [
        | inl short ↦ ap (λ (f : SealFault). refusal_outcome (seal_refusal f)) short
        | inr broken ↦ (let media : says.media ≡ has.has.media = cc one in let none = sym broken ∙ (ap (refusal names.plan) media ∙ has.allowed) in absurd (cc none))
      ]

  is_taken : (input : Input) → HasInput s input → (end : Refusal) → InputEnds input end s new → refusal_outcome end ≡ OutOfMemory
  is_taken (ScriptFile name) has end says = ap refusal_outcome says.1 ∙ script_is_taken name has says.0 says.2
  is_taken (MediaFile name) has end says = ap refusal_outcome says.1 ∙ media_is_taken name has says.0 says.2
  is_taken (DeskFile name) has end says = ap refusal_outcome says.1 ∙ desk_is_taken name has says.0 says.2
  is_taken (RequestFile name) has end says = ap refusal_outcome says.1 ∙ is_read name _ _ has says.0 says.2
  is_taken (ClearFile names) has end (inl says) = ap refusal_outcome says.1 ∙ media_is_taken names.media has.has says.0 says.2
  is_taken (ClearFile names) has end (inr says) = ap refusal_outcome says.1 ∙ clear_is_taken names has says.0 says.2

  -- all files are taken
  are_taken : (inputs : List Input) → HasInputs s inputs → (end : Refusal) → FirstEnds inputs end s new → refusal_outcome end ≡ OutOfMemory
  are_taken [] has end says = ap refusal_outcome says
  are_taken (input ∷ more) has end (inl ends) = is_taken input has.0 end ends
  are_taken (input ∷ more) has end (inr later) = are_taken more has.1 end later.1

  ends_whole : (asked : Asked) → HasInputs s (all_inputs asked) → (end : End) → EndSays end asked s new → (outcome_of (done_of asked) end ≡ done_of asked) ⊎ (outcome_of (done_of asked) end ≡ OutOfMemory)
  ends_whole asked has Whole says = inl refl
  ends_whole asked has (Refused end) says = inr (are_taken (all_inputs asked) has end says.0)
  ends_whole asked has (Stopped Failed) says = absurd (calm.writes says.0)
  ends_whole asked has (Stopped NoMemory) says = inr refl

pub done_whole : (asked : Result Asked UsageFault) (outcome : Outcome) (old new : ShelfState) → SaysOf asked outcome old new → IsDoneWhole asked outcome old new
done_whole (Err fault) outcome old new says = tt
done_whole (Ok asked) outcome old new says = λ has calm.
    elim (ends_whole old new calm asked has says.0 says.2) [ inl done ↦ inl (says.1 ∙ done) | inr short ↦ inr (says.1 ∙ short) ]
