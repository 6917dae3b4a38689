use Rattle.player_cli.specs.Command.{names_of}
use Rattle.player_cli.proofs.CommandEnds.{no_media, play_ends}
use Rattle.player_cli.proofs.play.play_files.Goals as goal

pub returns-in-Err-media_in : goal.returns-in-Err-media_in
returns-in-Err-media_in g c =
    let state = g.S.Shelf.state in
    no_media (state c.args.shelf.now) (state c.script_in.new.shelf) (state c.media_in.new.shelf) (names_of c.args.asked) c.script_in.ensures.shelf
    _ c.in-Ok.ensures.read c.media_in.ensures.shelf c.in-Err-media_in.end c.in-Err-media_in.ensures.end

pub returns : goal.returns
returns g c =
    let state = g.S.Shelf.state in
    rw c.writing_end.ensures (play_ends (state c.args.shelf.now) (state c.script_in.new.shelf) (state c.media_in.new.shelf) (names_of c.args.asked) c.script_in.ensures.shelf
    (state c.write_texts.new.shelf) _ _ c.as_slice.result.now c.as_slice-2.result.now c.write_texts.result
    c.in-Ok.ensures.read c.in-Ok-media_in.ensures.read c.media_in.ensures.shelf
    (rw (← c.as_slice.ensures.value, ← c.as_slice-2.ensures) at c.in-Ok-play_texts.ensures)
    c.write_texts.ensures.ok c.write_texts.ensures.err c.write_texts.ensures.cause)
