use Rattle.std.proofs.Common.{inl, inr}
use Rattle.text_words.specs.Lines.{lines_of}
use Rattle.track_media.proofs.ReaderSteps.{list_opened, list_refused}
use Rattle.track_media.proofs.list_reader.ListReader.open.Goals as goal

pub returns-in-Ok : goal.returns-in-Ok
returns-in-Ok c =
    let s = c.in-Ok.section in
    list_opened c.args.text.now c.new.result s.gathered s.more s.place (lines_of s.text.now) c.into_known.result c.begun.result c.new.ensures c.in-Ok.ensures.value c.into_known.ensures c.begun.ensures

pub returns-in-Err : goal.returns-in-Err
returns-in-Err c =
    elim c.in-Err.ensures.value [
      | inl memory ↦ inl memory
      | inr e ↦ inr (list_refused c.args.text.now c.new.result c.in-Err.refusal c.new.ensures e)
    ]
