use Rattle.std.proofs.Common.{ℕ, List, sym, subst}
use Rattle.player_cli.specs.Command.{query_of}
use Rattle.player_cli.specs.Told.{IsText}
use Rattle.player_cli.proofs.CommandEnds.{text_ends}
use Rattle.player_cli.proofs.tell.tell.Goals as goal

pub returns : goal.returns
returns g c =
    let state = g.S.Shelf.state in
    let Text : List ℕ → Type 0 = λ text. IsText (state c.args.shelf.now) (query_of c.args.asked) text in
    rw c.writing_end.ensures (text_ends (state c.args.shelf.now) (state c.text_of.new.shelf) (state c.write_texts.new.shelf) (query_of c.args.asked) c.as_slice.result.now c.write_texts.result
    c.text_of.ensures.shelf (subst Text (sym c.as_slice.ensures) c.in-Ok.ensures.text) c.text_of.ensures.unread c.write_texts.ensures.ok c.write_texts.ensures.err c.write_texts.ensures.cause)
