-- What a run of appends has written is a front of the text.
use Rattle.std.proofs.Common.{◌≡◌, ◌≤◌, ℕ, ◌+◌, min, List, ◌++◌, length, take, drop, Some, None, Option, ap, sym, ◌∙◌, arith, append_assoc, length-append}
use Rattle.std.specs.Prelude.{IsTrue, Result}
use Rattle.std.proofs.lemmas.List.{take-append-drop, take_min, take-append-le}
use Rattle.std.proofs.Math.Seq.{take-append-add}
use Rattle.eme_edge.specs.Shelf.{ShelfState, OthersKept, TellsAlike, WriteCause, HoldsMore, HoldsPart}
use Rattle.eme_edge.specs.declared.shelf.ShelfFault.{ShelfFault}
use Rattle.player_cli.specs.Written.{IsWriting, HoldsFront}

pub tells_on : (a b c : ShelfState) → TellsAlike a b → TellsAlike b c → TellsAlike a c
tells_on a b c s t = record { files = t.files ∙ s.files; said = t.said ∙ s.said }

pub writing_on : (old mid new : ShelfState) (name text rest piece after : List ℕ) (n : ℕ) (result : Result Unit ShelfFault) → IsWriting old mid name text rest → piece ≡ take n rest → after ≡ drop n rest → (IsTrue mid.tells_files → HoldsMore (mid.file name) piece (new.file name)) → OthersKept mid.file new.file name → new.said ≡ mid.said → TellsAlike mid new → WriteCause mid new result → IsWriting old new name text after
writing_on old mid new name text rest piece after n result w front back file others said tells cause =
    let joined : piece ++ after ≡ rest = rw (front, back) (take-append-drop n rest) in
    record {
      part = w.part ++ piece;
      whole = append_assoc w.part piece after ∙ (ap (λ ys. w.part ++ ys) joined ∙ w.whole);
      file = λ told. (let here = rw (w.file told) at (file (rw w.tells.files told)) in here);
      others = λ other ne. others other ne ∙ w.others other ne;
      said = said ∙ w.said;
      tells = tells_on old mid new w.tells tells;
      later = omega (arith, w.later, cause.later);
      reads = cause.reads ∙ w.reads;
    }

-- a front of the text and a part of the piece that follows are a front of the text
front_plain : (part rest text piece after : List ℕ) (file : Option (List ℕ)) → part ++ rest ≡ text → piece ++ after ≡ rest → HoldsPart (Some part) piece file → HoldsFront text file
front_plain part rest text piece after None whole joined h = absurd h
front_plain part rest text piece after (Some new) whole joined h =
    let j : ℕ = min h.0 (length piece) in
    let all : (part ++ piece) ++ after ≡ text = append_assoc part piece after ∙ (ap (λ ys. part ++ ys) joined ∙ whole) in
    let short : length part + j ≤ length (part ++ piece) = omega (arith, length-append part piece) in
    (length part + j, ap Some (h.1 ∙ (ap (λ ys. part ++ ys) (sym (take_min h.0 piece)) ∙ (sym (take-append-add part piece j) ∙ (sym (take-append-le (length part + j) (part ++ piece) after short) ∙ ap (take (length part + j)) all)))))

pub front_on : (old mid new : ShelfState) (name text rest piece after : List ℕ) (n : ℕ) → IsWriting old mid name text rest → piece ≡ take n rest → after ≡ drop n rest → (IsTrue mid.tells_files → HoldsPart (mid.file name) piece (new.file name)) → IsTrue old.tells_files → HoldsFront text (new.file name)
front_on old mid new name text rest piece after n w front back part told =
    let joined : piece ++ after ≡ rest = rw (front, back) (take-append-drop n rest) in
    let here = rw (w.file told) at (part (rw w.tells.files told)) in
    front_plain w.part rest text piece after (new.file name) w.whole joined here
