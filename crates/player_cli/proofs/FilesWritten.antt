-- Files written one after another.
use Rattle.std.proofs.Common.{◌≡◌, ◌≢◌, ◌≤◌, ◌<◌, ℕ, ◌+◌, inl, inr, List, length, Some, ◌∙◌, arith}
use Rattle.std.specs.Prelude.{IsTrue, Result}
use Rattle.std.proofs.Math.Nat.{eq-or-lt_of_le}
use Rattle.eme_edge.specs.Shelf.{ShelfState, OthersKept, TellsAlike, WriteCause, Files}
use Rattle.eme_edge.specs.declared.shelf.ShelfFault.{ShelfFault}
use Rattle.player_cli.specs.FileText.{FileText}
use Rattle.player_cli.specs.Files.{file_at, HaveDistinctNames}
use Rattle.player_cli.specs.Written.{WritesCause, HasTexts, KeepsOthers, FilesSoFar, StopsAtStart, StopsInText, HoldsFront}
use Rattle.player_cli.proofs.TextsAppended.{tells_on}

-- one more file was touched
keeps_on : (old mid new : Files) (files : List FileText) (i : ℕ) → KeepsOthers old mid files i → OthersKept mid new (file_at files i).name → KeepsOthers old new files (i + 1)
keeps_on old mid new files i keeps others name apart =
    let ne : name ≢ (file_at files i).name = apart i (omega arith) in
    others name ne ∙ keeps name (λ k lt. apart k (omega arith))

-- a later file leaves the earlier ones
texts_on : (old mid new : ShelfState) (files : List FileText) (i : ℕ) → HaveDistinctNames files → i < length files → HasTexts old mid files i → OthersKept mid.file new.file (file_at files i).name → HasTexts old new files i
texts_on old mid new files i distinct lt texts others told k below = others (file_at files k).name (distinct k i below lt) ∙ texts told k below

-- two calls on one file leave all others
both_on : (old mid new : Files) (name : List ℕ) → OthersKept old mid name → OthersKept mid new name → OthersKept old new name
both_on old mid new name first second other ne = second other ne ∙ first other ne

pub files_on : (old mid started new : ShelfState) (files : List FileText) (i : ℕ) (first second : Result Unit ShelfFault) → HaveDistinctNames files → i < length files → FilesSoFar old mid files i → OthersKept mid.file started.file (file_at files i).name → started.said ≡ mid.said → TellsAlike mid started → WriteCause mid started first → (IsTrue started.tells_files → new.file (file_at files i).name ≡ Some (file_at files i).text) → OthersKept started.file new.file (file_at files i).name → new.said ≡ started.said → TellsAlike started new → WritesCause started new second → FilesSoFar old new files (i + 1)
files_on old mid started new files i first second distinct lt so others said tells cause file others' said' tells' cause' =
    let all = both_on mid.file started.file new.file (file_at files i).name others others' in
    let tells-mid = tells_on old mid started so.tells tells in
    record {
      texts = λ told k below. elim (let le : k ≤ i = omega arith in eq-or-lt_of_le le) [
        | inl same ↦ rw same (file (rw tells-mid.files told))
        | inr less ↦ texts_on old mid new files i distinct lt so.texts all told k less
      ];
      others = keeps_on old.file mid.file new.file files i so.others all;
      said = said' ∙ (said ∙ so.said);
      tells = tells_on old started new tells-mid tells';
      later = omega (arith, so.later, cause.later, cause'.later);
      reads = cause'.reads ∙ (cause.reads ∙ so.reads);
    }

pub stops_at_start : (old mid new : ShelfState) (files : List FileText) (i : ℕ) → HaveDistinctNames files → i < length files → FilesSoFar old mid files i → OthersKept mid.file new.file (file_at files i).name → new.said ≡ mid.said → TellsAlike mid new → StopsAtStart old new files
stops_at_start old mid new files i distinct lt so others said tells = record {
  n = i;
  within = lt;
  texts = texts_on old mid new files i distinct lt so.texts others;
  others = keeps_on old.file mid.file new.file files i so.others others;
  said = said ∙ so.said;
  tells = tells_on old mid new so.tells tells;
}

pub stops_in_text : (old mid started new : ShelfState) (files : List FileText) (i : ℕ) → HaveDistinctNames files → i < length files → FilesSoFar old mid files i → OthersKept mid.file started.file (file_at files i).name → started.said ≡ mid.said → TellsAlike mid started → (IsTrue started.tells_files → HoldsFront (file_at files i).text (new.file (file_at files i).name)) → OthersKept started.file new.file (file_at files i).name → new.said ≡ started.said → TellsAlike started new → StopsInText old new files
stops_in_text old mid started new files i distinct lt so others said tells front others' said' tells' =
    let all = both_on mid.file started.file new.file (file_at files i).name others others' in
    let tells-mid = tells_on old mid started so.tells tells in
    record {
      n = i;
      within = lt;
      texts = texts_on old mid new files i distinct lt so.texts all;
      front = λ told. front (rw tells-mid.files told);
      others = keeps_on old.file mid.file new.file files i so.others all;
      said = said' ∙ (said ∙ so.said);
      tells = tells_on old started new tells-mid tells';
    }
