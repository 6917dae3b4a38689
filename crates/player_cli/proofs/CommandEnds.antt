-- What the end of a command says, from what its steps say.
use Rattle.std.proofs.Common.{◌≡◌, ◌⊎◌, ◌+◌, inl, inr, ℕ, List, [], ◌∷◌, ◌++◌, length, refl, sym, subst, ap, ◌∙◌, arith, append-nil}
use Rattle.std.specs.Prelude.{IsTrue, OnOk, OnErr, Result, Ok, Err}
use Rattle.eme_types.specs.declared.media.Media.{Media}
use Rattle.eme_edge.specs.Shelf.{ShelfState, Rose, SaidPart}
use Rattle.eme_edge.specs.declared.shelf.ShelfFault.{ShelfFault}
use Rattle.eme_edge.specs.declared.shelf.ShelfFault.TheVariants.{Failed, OutOfMemory as NoMemory}
use Rattle.script_lang.specs.declared.script.Line.{Line}
use Rattle.player_cli.specs.Command.{Names, Query, Asked, Play, Seal, SealNames, Tell}
use Rattle.player_cli.specs.Ends.{writing_end}
use Rattle.player_cli.specs.FileText.{FileText}
use Rattle.player_cli.specs.Files.{HaveDistinctNames}
use Rattle.player_cli.specs.Inputs.{Input, ScriptRead, MediaRead, MediaEnds, Unread}
use Rattle.player_cli.specs.Played.{ArePlayed, IsPlay}
use Rattle.player_cli.specs.ReadAll.{LeavesShelf}
use Rattle.player_cli.specs.Says.{HasDone, HasStopped, EndSays}
use Rattle.player_cli.specs.Sealed.{IsSealing, sealed_files}
use Rattle.player_cli.specs.Told.{inputs_of, IsText}
use Rattle.player_cli.specs.Written.{WritesCause, FilesSoFar, StopsAtStart, StopsInText, IsWritten, IsStopped, KeepsOthers}
use Rattle.player_cli.specs.declared.end.End.TheVariants.{Refused}
use Rattle.player_cli.specs.declared.end.MediaEnd.{MediaEnd}
use Rattle.player_cli.specs.declared.end.Refusal.TheVariants.{Media as NoMedia}
use Rattle.player_cli.proofs.ReadInOrder.{untouched_by_reading, both_leave, still_tells, media_read_before, media_ends_before}
use Rattle.player_cli.proofs.TextsAppended.{tells_on}

-- reading changed nothing that writing looks at
module _ (old mid new : ShelfState) (kept : LeavesShelf old mid) (files : List FileText) (text : List ℕ) where
  still_tells_said : IsTrue old.tells_said → IsTrue mid.tells_said
  still_tells_said t = subst IsTrue (sym kept.tells.said) t

  keeps_others : (n : ℕ) → KeepsOthers mid.file new.file files n → KeepsOthers old.file new.file files n
  keeps_others n p name none = p name none ∙ kept.files name

  rose_since : Rose mid.write_faults new.write_faults → Rose old.write_faults new.write_faults
  rose_since r = let P : ℕ → Type 0 = λ n. Rose n new.write_faults in subst P kept.writes r

  written_since : IsWritten mid new files text → IsWritten old new files text
  written_since w = record {
    texts = λ t. w.texts (still_tells old mid new kept t);
    others = keeps_others (length files) w.others;
    said = λ t. w.said (still_tells_said t) ∙ ap (λ s. s ++ text) kept.said;
    tells = tells_on old mid new kept.tells w.tells;
  }

  stopped_since : IsStopped mid new files text → IsStopped old new files text
  stopped_since (inl (inl s)) = inl (inl (record { n = s.n; within = s.within; texts = λ t. s.texts (still_tells old mid new kept t); others = keeps_others (s.n + 1) s.others; said = s.said ∙ kept.said; tells = tells_on old mid new kept.tells s.tells }))
  stopped_since (inl (inr s)) = inl (inr (record { n = s.n; within = s.within; texts = λ t. s.texts (still_tells old mid new kept t); front = λ t. s.front (still_tells old mid new kept t); others = keeps_others (s.n + 1) s.others; said = s.said ∙ kept.said; tells = tells_on old mid new kept.tells s.tells }))
  stopped_since (inr s) = inr (record { texts = λ t. s.texts (still_tells old mid new kept t); others = keeps_others (length files) s.others; said = λ t. subst (λ said. SaidPart said text new.said) kept.said (s.said (still_tells_said t)); tells = tells_on old mid new kept.tells s.tells })

  -- what the writing says is what the command says
  writing_says : (asked : Asked) → (IsWritten old new files text → HasDone asked old new) → (IsStopped old new files text → HasStopped asked old new)
      → (r : Result Unit ShelfFault) → OnOk r (IsWritten mid new files text) → OnErr r (IsStopped mid new files text) → WritesCause mid new r → EndSays (writing_end r) asked old new
  writing_says asked whole part (Ok done) ok err cause = whole (written_since ok)
  writing_says asked whole part (Err Failed) ok err cause = (rose_since (cause.failed refl), part (stopped_since err))
  writing_says asked whole part (Err NoMemory) ok err cause = part (stopped_since err)

-- saying a text reads no file
unread_since : (old mid new : ShelfState) (inputs : List Input) → Unread inputs old mid → new.read_faults ≡ mid.read_faults → Unread inputs old new
unread_since old mid new [] unread reads = reads ∙ unread
unread_since old mid new (input ∷ more) unread reads = tt

pub text_ends : (old mid new : ShelfState) (query : Query) (text : List ℕ) (r : Result Unit ShelfFault) → LeavesShelf old mid → IsText old query text → Unread (inputs_of query) old mid
    → OnOk r (IsWritten mid new [] text) → OnErr r (IsStopped mid new [] text) → WritesCause mid new r → EndSays (writing_end r) (Tell query) old new
text_ends old mid new query text r kept is unread ok err cause =
    let since = unread_since old mid new (inputs_of query) unread cause.reads in
    writing_says old mid new kept [] text (Tell query)
    (λ w. record { text = text; is = is; said = w; unread = since })
    (λ s. record { text = text; is = is; said = s; unread = since })
    r ok err cause

-- ---- the sealed file

pub distinct_one : (file : FileText) → HaveDistinctNames (file ∷ [])
distinct_one file i j before within = absurd (omega (arith, before, within))

all_written : (old new : ShelfState) (files : List FileText) → FilesSoFar old new files (length files) → IsWritten old new files []
all_written old new files w = record { texts = w.texts; others = w.others; said = λ _. w.said ∙ sym (append-nil old.said); tells = w.tells }

pub seal_ends : (old mid new : ShelfState) (names : SealNames) (bytes : List ℕ) (r : Result Unit ShelfFault) → LeavesShelf old mid → IsSealing old names bytes
    → OnOk r (FilesSoFar mid new (sealed_files names bytes) 1) → OnErr r (StopsAtStart mid new (sealed_files names bytes) ⊎ StopsInText mid new (sealed_files names bytes))
    → WritesCause mid new r → EndSays (writing_end r) (Seal names) old new
seal_ends old mid new names bytes (Ok done) kept is ok err cause =
    writing_says old mid new kept (sealed_files names bytes) [] (Seal names)
    (λ w. record { bytes = bytes; is = is; written = w })
    (λ s. record { bytes = bytes; is = is; stopped = s })
    (Ok done) (all_written mid new (sealed_files names bytes) ok) tt cause
seal_ends old mid new names bytes (Err fault) kept is ok err cause =
    writing_says old mid new kept (sealed_files names bytes) [] (Seal names)
    (λ w. record { bytes = bytes; is = is; written = w })
    (λ s. record { bytes = bytes; is = is; stopped = s })
    (Err fault) tt (inl err) cause

-- a play: the script and then the media are read, and the texts of the play are written
module _ (old mid last : ShelfState) (names : Names) (first : LeavesShelf old mid) where
  pub no_media : (script : List Line) → ScriptRead old names.script script → LeavesShelf mid last → (end : MediaEnd) → MediaEnds end mid last names.media → EndSays (Refused (NoMedia end)) (Play names) old last
  no_media script script_is second end says = (inr (record { script = script; read = script_is }, inl (end, refl, media_ends_before old mid last first end names.media says)), untouched_by_reading old last (both_leave old mid last first second))

  pub play_ends : (new : ShelfState) (script : List Line) (media : Media) (files : List FileText) (summary : List ℕ) (r : Result Unit ShelfFault)
      → ScriptRead old names.script script → MediaRead mid names.media media → LeavesShelf mid last → ArePlayed names.workers script media names.prefix files summary
      → OnOk r (IsWritten last new files summary) → OnErr r (IsStopped last new files summary) → WritesCause last new r → EndSays (writing_end r) (Play names) old new
  play_ends new script media files summary r script_is media_is second played ok err cause =
      let play : IsPlay old names media played.history = record {
        script = script;
        script_read = script_is;
        media_read = media_read_before old mid last first names.media media media_is;
        is = played.is;
        alone = played.alone;
        delivered = played.delivered;
      } in
      writing_says old last new (both_leave old mid last first second) files summary (Play names)
      (λ w. record { media = media; history = played.history; play = play; written = rw (played.files_are, played.summary_is) at w })
      (λ s. record { media = media; history = played.history; play = play; stopped = rw (played.files_are, played.summary_is) at s })
      r ok err cause

-- the file by its name and its text
pub file_ends : (old mid new : ShelfState) (names : SealNames) (file : FileText) (r : Result Unit ShelfFault) → LeavesShelf old mid → file.name ≡ names.out → IsSealing old names file.text
    → OnOk r (FilesSoFar mid new (file ∷ []) 1) → OnErr r (StopsAtStart mid new (file ∷ []) ⊎ StopsInText mid new (file ∷ []))
    → WritesCause mid new r → EndSays (writing_end r) (Seal names) old new
file_ends old mid new names file r kept named is ok err cause =
    let same : file ∷ [] ≡ sealed_files names file.text = ap (λ (n : List ℕ). (let f : FileText = record { name = n; text = file.text } in f) ∷ []) named in
    seal_ends old mid new names file.text r kept is
    (subst (λ (fs : List FileText). OnOk r (FilesSoFar mid new fs 1)) same ok)
    (subst (λ (fs : List FileText). OnErr r (StopsAtStart mid new fs ⊎ StopsInText mid new fs)) same err)
    cause
