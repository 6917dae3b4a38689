use Rattle.sample_aux.proofs.Bounds.{inits_ok, init_bytes_ok}
use Rattle.sample_aux.proofs.FewSubs.{subs_ok}
use Rattle.sample_aux.proofs.Within.{known_ok, joined_ok, formed_ok, samples_ok, bytes_ok}
use Rattle.sample_aux.proofs.fragment.resolve_known.Goals as goal

pub returns-clause-known : goal.returns-clause-known
returns-clause-known c = known_ok c.resolve_all.result c.args.file.now c.args.known.now c.args.moof.now c.args.room c.resolve_all.ensures

pub returns-clause-joined : goal.returns-clause-joined
returns-clause-joined c = joined_ok c.resolve_all.result c.args.file.now c.args.known.now c.args.moof.now c.args.room c.resolve_all.ensures

pub returns-clause-formed : goal.returns-clause-formed
returns-clause-formed c = formed_ok c.resolve_all.result c.args.file.now c.args.known.now c.args.moof.now c.args.room c.resolve_all.ensures

pub returns-clause-samples : goal.returns-clause-samples
returns-clause-samples c = samples_ok c.resolve_all.result c.args.file.now c.args.known.now c.args.moof.now c.args.room c.resolve_all.ensures

pub returns-clause-bytes : goal.returns-clause-bytes
returns-clause-bytes c = bytes_ok c.resolve_all.result c.args.file.now c.args.known.now c.args.moof.now c.args.room c.resolve_all.ensures

pub returns-clause-inits : goal.returns-clause-inits
returns-clause-inits c = inits_ok c.resolve_all.result c.args.file.now c.args.known.now c.args.moof.now c.args.room c.resolve_all.ensures

pub returns-clause-init_bytes : goal.returns-clause-init_bytes
returns-clause-init_bytes c = init_bytes_ok c.resolve_all.result c.args.file.now c.args.known.now c.args.moof.now c.args.room c.resolve_all.ensures

pub returns-clause-subs : goal.returns-clause-subs
returns-clause-subs c = subs_ok c.resolve_all.result c.args.file.now c.args.known.now c.args.moof.now c.args.room c.resolve_all.ensures
