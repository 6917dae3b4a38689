use Rattle.std.proofs.lemmas.Result.{err_from_is_err_and}
use Rattle.eme_edge.proofs.FilesLemmas.{adds, keeps_others, keeps_all}
use Rattle.eme_edge.proofs.files.add_to.Goals as goal

pub returns-in_ok-extend_from_slice-in-Some-clause-ok : goal.returns-in_ok-extend_from_slice-in-Some-clause-ok
returns-in_ok-extend_from_slice-in-Some-clause-ok c =
    let here = rw c.deref.ensures.value at c.in-Some.ensures in
    adds c.args.files.now.items c.in-Some.i _ c.index_mut-saved.result.now c.args.name.now c.args.piece.now here (cc) (cc c.in_ok-extend_from_slice-in-Some.ensures.ok)

pub returns-in_ok-extend_from_slice-in-Some-clause-others : goal.returns-in_ok-extend_from_slice-in-Some-clause-others
returns-in_ok-extend_from_slice-in-Some-clause-others c =
    let here = rw c.deref.ensures.value at c.in-Some.ensures in
    keeps_others c.args.files.now.items c.in-Some.i _ c.index_mut-saved.result.now c.args.name.now here (cc)

pub returns-in_err-extend_from_slice-in-Some-clause-err : goal.returns-in_err-extend_from_slice-in-Some-clause-err
returns-in_err-extend_from_slice-in-Some-clause-err c =
    let p = err_from_is_err_and c.from_residual.result c.from_residual.ensures.1 in
    rw p.1 (keeps_all c.args.files.now.items c.in-Some.i _ c.index_mut-saved.result.now (cc) (cc c.in_err-extend_from_slice-in-Some.ensures.err))
