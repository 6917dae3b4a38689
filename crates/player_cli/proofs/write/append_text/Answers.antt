use Rattle.std.proofs.lemmas.Result.{err_from_is_err_and}
use Rattle.player_cli.proofs.TextsAppended.{writing_on, front_on}
use Rattle.player_cli.proofs.write.append_text.Goals as goal

pub loop-rest-preserved : goal.loop-rest-preserved
loop-rest-preserved g c =
    let state = g.S.Shelf.state in
    writing_on (state c.args.shelf.now) (state c.loop-rest.shelf) (state c.append.new.self) c.args.name.now c.args.text.now c.loop-rest.rest.now _ _ _ c.append.result c.loop-rest.invariant c.split_at.ensures.front c.split_at.ensures.back c.in_ok-append.ensures.file c.append.ensures.others c.append.ensures.said c.append.ensures.tells c.append.ensures.cause

pub returns-in_err-append-clause-front : goal.returns-in_err-append-clause-front
returns-in_err-append-clause-front g c =
    let state = g.S.Shelf.state in
    let p = err_from_is_err_and c.from_residual.result c.from_residual.ensures.1 in
    rw p.1 (λ told. front_on (state c.args.shelf.now) (state c.loop-rest.shelf) (state c.append.new.self) c.args.name.now c.args.text.now c.loop-rest.rest.now _ _ _ c.loop-rest.invariant c.split_at.ensures.front c.split_at.ensures.back c.in_err-append.ensures.part told)
