use Rattle.eme_edge.proofs.FilesLemmas.{file_in-set, file_in-push, file_in_other-push, keeps_others}
use Rattle.eme_edge.proofs.files.put.Goals as goal

pub returns-in_ok-push-in-None-clause-ok : goal.returns-in_ok-push-in-None-clause-ok
returns-in_ok-push-in-None-clause-ok c =
    rw c.in_ok-push-in-None.ensures.items (file_in-push c.args.files.now.items _ c.args.name.now (rw c.deref.ensures.value at c.in-None.ensures) (cc c.in_ok-name-in-None.ensures))

pub returns-in_ok-push-in-None-clause-others : goal.returns-in_ok-push-in-None-clause-others
returns-in_ok-push-in-None-clause-others c = λ other ne.
    rw c.in_ok-push-in-None.ensures.items (file_in_other-push c.args.files.now.items _ c.args.name.now other (cc c.in_ok-name-in-None.ensures) ne)

pub returns-in-Some-clause-ok : goal.returns-in-Some-clause-ok
returns-in-Some-clause-ok c =
    let here = rw c.deref.ensures.value at c.in-Some.ensures in
    file_in-set c.args.files.now.items c.in-Some.i _ c.args.name.now here.within here.first (cc (here.named c.index_mut-saved.result.now))

pub returns-in-Some-clause-others : goal.returns-in-Some-clause-others
returns-in-Some-clause-others c =
    let here = rw c.deref.ensures.value at c.in-Some.ensures in
    keeps_others c.args.files.now.items c.in-Some.i _ c.index_mut-saved.result.now c.args.name.now here (cc)
