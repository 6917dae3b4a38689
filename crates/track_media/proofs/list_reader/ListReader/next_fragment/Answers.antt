use Rattle.std.proofs.Common.{◌∙◌, inl, inr, sym, ap, refl, Bool}
use Rattle.text_words.specs.Lines.{lines_of}
use Rattle.track_media.specs.Front.{Front}
use Rattle.track_media.specs.Rests.{section_coming}
use Rattle.track_media.proofs.ReaderSteps.{section_given, section_refused}
use Rattle.track_media.proofs.list_reader.ListReader.next_fragment.Goals as goal

pub returns-in_ok-fragment-in-Ok : goal.returns-in_ok-fragment-in-Ok
returns-in_ok-fragment-in-Ok c =
    let l = c.self.inside in
    let lines = lines_of l.text.now in
    let s = c.in-Ok.section in
    let front : Bool → Front = λ more. record { tracks = l.known.tracks; coming = section_coming more l.known l.place lines } in
    sym c.self.view_is ∙ ap front c.if-not-self.false
    ∙ section_given l.known l.place lines c.in_ok-gathered.gathered s.gathered s.more s.place (lines_of s.text.now) c.in_ok-fragment-in-Ok.fragment c.in_ok-fragment-in-Ok.known c.begun.result c.self.invariant.has_begun c.in_ok-gathered.ensures c.in-Ok.ensures.value c.in_ok-fragment-in-Ok.ensures c.begun.ensures

pub returns-in-Err : goal.returns-in-Err
returns-in-Err c =
    let l = c.self.inside in
    let lines = lines_of l.text.now in
    let front : Bool → Front = λ more. record { tracks = l.known.tracks; coming = section_coming more l.known l.place lines } in
    let now = sym c.self.view_is ∙ ap front c.if-not-self.false in (
      elim c.in-Err.ensures.value [
        | inl memory ↦ inl memory
        | inr e ↦ inr (ap (λ (f : Front). f.coming) now ∙ section_refused l.known l.place lines c.in_ok-gathered.gathered c.in-Err.fault c.in_ok-gathered.ensures e)
      ],
      refl,
    )
