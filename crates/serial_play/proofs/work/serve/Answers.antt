use Rattle.std.proofs.Common.{◌≡◌, Bool, ap, ◌∙◌, sym, subst}
use Rattle.key_sessions.specs.Machine.{Machine}
use Rattle.key_sessions.specs.Steps.{Done, unmoved}
use Rattle.key_sessions.specs.SessionsState.{SessionsState}
use Rattle.serial_play.specs.Answer.{StepsOn}
use Rattle.serial_play.proofs.ServedAll.{served_idle}
use Rattle.serial_play.proofs.Machines.{work_more}
use Rattle.serial_play.proofs.work.serve.Goals as goal

pub work-preserved : goal.work-preserved
work-preserved c =
    let did = subst (λ (b : Bool). StepsOn c.work.sessions b c.step.new.sessions) c.if-branch.true c.in_ok-step.ensures in
    work_more c.work.sessions.machine c.step.new.sessions.machine did.1 ∙ c.work.invariant

pub returns-clause-done : goal.returns-clause-done
returns-clause-done c =
    let did = subst (λ (b : Bool). StepsOn c.work.sessions b c.step.new.sessions) c.if-branch.false c.in_ok-step.ensures in
    ap (λ (s : SessionsState). s.machine) did.1 ∙ (sym (ap (λ (d : Done). d.machine) (served_idle (unmoved c.work.sessions.machine) did.0)) ∙ c.work.invariant)
