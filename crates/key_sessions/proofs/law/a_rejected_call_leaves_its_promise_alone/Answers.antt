use Rattle.key_sessions.proofs.Rejected.{rejection_leaves}
use Rattle.key_sessions.proofs.law.a_rejected_call_leaves_its_promise_alone.Goals as goal

pub returns : goal.returns
returns c = rejection_leaves
