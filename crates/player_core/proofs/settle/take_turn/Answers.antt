use Rattle.std.proofs.Common.{◌≡◌, Result, Err, refl, ap, ◌∙◌, sym, subst}
use Rattle.eme_types.specs.declared.entry.Entry.TheVariants.{Job, Task, Claim, Publish, PassClear, WaitForKey}
use Rattle.key_sessions.specs.declared.fault.StepFault.{StepFault}
use Rattle.key_claims.specs.declared.claim.Claim.{Claim as Held}
use Rattle.key_claims.specs.declared.claim.ClaimFault.{ClaimFault}
use Rattle.cdm_state.specs.Run.{Run}
use Rattle.cdm_state.specs.Progress.{NoneWaits}
use Rattle.player_core.specs.Alone.{NoJob, NoTask, NoClaim, PublishFirst, PassFirst, ClaimFirst, WaitFirst}
use Rattle.player_core.proofs.Turns.{publish_first, pass_first, claim_first, wait_first}
use Rattle.player_core.proofs.Steps.{step_one, claim_steps, nothing_to_do, settles_same}
use Rattle.player_core.proofs.settle.take_turn.Goals as goal

step_fault : {a b : StepFault} → a ≡ b → ◌≡◌ {A = Result (Unit {0}) StepFault} (Err a) (Err b)
step_fault e = ap (λ (x : StepFault). let r : Result (Unit {0}) StepFault = Err x in r) e

claim_fault : {a b : ClaimFault} → a ≡ b → ◌≡◌ {A = Result Held ClaimFault} (Err a) (Err b)
claim_fault e = ap (λ (x : ClaimFault). let r : Result Held ClaimFault = Err x in r) e

pub returns-in-Ok : goal.returns-in-Ok
returns-in-Ok c = step_one c.args.cdm.now c.args.cdm.now c.job.new.self Job refl c.in-Ok.ensures.ok tt (λ w t i n k x. cc) c.requires.delivered

pub returns-in-Ok-task : goal.returns-in-Ok-task
returns-in-Ok-task c =
    let jobs : NoJob c.args.cdm.now.tracks c.args.cdm.now.history = c.in-Err-Empty.ensures.empty.0 (step_fault c.in-Err-Empty.field-0-is) in
    step_one c.args.cdm.now c.job.new.self c.task.new.self Task c.in-Err-Empty.ensures.err c.in-Ok-task.ensures.ok tt (λ w t i n k x. cc) (c.requires.delivered, jobs)

pub returns-in-Ok-publish : goal.returns-in-Ok-publish
returns-in-Ok-publish c =
    let same : c.task.new.self ≡ c.args.cdm.now = c.in-Err-Empty-task.ensures.err ∙ c.in-Err-Empty.ensures.err in
    let jobs : NoJob c.args.cdm.now.tracks c.args.cdm.now.history = c.in-Err-Empty.ensures.empty.0 (step_fault c.in-Err-Empty.field-0-is) in
    let tasks : NoTask c.job.new.self.tracks c.job.new.self.history = c.in-Err-Empty-task.ensures.empty.0 (step_fault c.in-Err-Empty-task.field-0-is) in
    let first : PublishFirst c.args.cdm.now.tracks c.args.cdm.now.history c.in-Ok-publish.field-0.track = publish_first c.args.cdm.now c.job.new.self c.task.new.self c.in-Ok-publish.field-0.track c.in-Err-Empty.ensures.err c.in-Err-Empty-task.ensures.err jobs tasks c.in-Ok-publish.ensures.first in
    step_one c.args.cdm.now c.task.new.self c.publish.new.self (Publish c.in-Ok-publish.field-0.track c.in-Ok-publish.field-0.index c.in-Ok-publish.ensures.ok.0) same c.in-Ok-publish.ensures.ok.1 tt (λ w t i n k x. cc) (c.requires.delivered, first)

pub returns-in-Ok-pass_clear : goal.returns-in-Ok-pass_clear
returns-in-Ok-pass_clear c =
    let same : c.publish.new.self ≡ c.args.cdm.now = c.in-Err.ensures.err ∙ (c.in-Err-Empty-task.ensures.err ∙ c.in-Err-Empty.ensures.err) in
    let jobs : NoJob c.args.cdm.now.tracks c.args.cdm.now.history = c.in-Err-Empty.ensures.empty.0 (step_fault c.in-Err-Empty.field-0-is) in
    let tasks : NoTask c.job.new.self.tracks c.job.new.self.history = c.in-Err-Empty-task.ensures.empty.0 (step_fault c.in-Err-Empty-task.field-0-is) in
    let first : PassFirst c.args.cdm.now.tracks c.args.cdm.now.history c.in-Ok-pass_clear.field-0.track = pass_first c.args.cdm.now c.job.new.self c.task.new.self c.publish.new.self c.in-Ok-pass_clear.field-0.track c.in-Err-Empty.ensures.err c.in-Err-Empty-task.ensures.err c.in-Err.ensures.err jobs tasks c.in-Err.ensures.not_ready c.in-Ok-pass_clear.ensures.first in
    step_one c.args.cdm.now c.publish.new.self c.pass_clear.new.self (PassClear c.in-Ok-pass_clear.field-0.track c.in-Ok-pass_clear.field-0.index) same c.in-Ok-pass_clear.ensures.ok tt (λ w t i n k x. cc) (c.requires.delivered, first)

pub returns-in-Ok-wait_for_key : goal.returns-in-Ok-wait_for_key
returns-in-Ok-wait_for_key c =
    let same : c.claim.new.self ≡ c.args.cdm.now = c.in-Err-NoWork.ensures.err ∙ (c.in-Err-pass_clear.ensures.err ∙ (c.in-Err.ensures.err ∙ (c.in-Err-Empty-task.ensures.err ∙ c.in-Err-Empty.ensures.err))) in
    let jobs : NoJob c.args.cdm.now.tracks c.args.cdm.now.history = c.in-Err-Empty.ensures.empty.0 (step_fault c.in-Err-Empty.field-0-is) in
    let tasks : NoTask c.job.new.self.tracks c.job.new.self.history = c.in-Err-Empty-task.ensures.empty.0 (step_fault c.in-Err-Empty-task.field-0-is) in
    let claimed : NoClaim c.pass_clear.new.self.tracks c.pass_clear.new.self.history = c.in-Err-NoWork.ensures.no_work (claim_fault c.in-Err-NoWork.field-0-is) in
    let first : WaitFirst c.args.cdm.now.tracks c.args.cdm.now.history c.in-Ok-wait_for_key.field-0 = wait_first c.args.cdm.now c.job.new.self c.task.new.self c.publish.new.self c.pass_clear.new.self c.claim.new.self c.in-Ok-wait_for_key.field-0 c.in-Err-Empty.ensures.err c.in-Err-Empty-task.ensures.err c.in-Err.ensures.err c.in-Err-pass_clear.ensures.err c.in-Err-NoWork.ensures.err jobs tasks c.in-Err.ensures.not_ready c.in-Err-pass_clear.ensures.not_ready claimed c.in-Ok-wait_for_key.ensures.first in
    step_one c.args.cdm.now c.claim.new.self c.wait_for_key.new.self (WaitForKey c.in-Ok-wait_for_key.field-0) same c.in-Ok-wait_for_key.ensures.ok tt (λ w t i n k x. cc) (c.requires.delivered, first)

pub returns-in-Ok-claim : goal.returns-in-Ok-claim
returns-in-Ok-claim c =
    let same : c.pass_clear.new.self ≡ c.args.cdm.now = c.in-Err-pass_clear.ensures.err ∙ (c.in-Err.ensures.err ∙ (c.in-Err-Empty-task.ensures.err ∙ c.in-Err-Empty.ensures.err)) in
    let claim = c.in-Ok-claim.claim in
    let made = c.in-Ok-claim.ensures.ok in
    let jobs : NoJob c.args.cdm.now.tracks c.args.cdm.now.history = c.in-Err-Empty.ensures.empty.0 (step_fault c.in-Err-Empty.field-0-is) in
    let tasks : NoTask c.job.new.self.tracks c.job.new.self.history = c.in-Err-Empty-task.ensures.empty.0 (step_fault c.in-Err-Empty-task.field-0-is) in
    let first : ClaimFirst c.args.cdm.now.tracks c.args.cdm.now.history 0 claim.track claim.index = claim_first c.args.cdm.now c.job.new.self c.task.new.self c.publish.new.self c.pass_clear.new.self 0 claim.track claim.index c.in-Err-Empty.ensures.err c.in-Err-Empty-task.ensures.err c.in-Err.ensures.err c.in-Err-pass_clear.ensures.err jobs tasks c.in-Err.ensures.not_ready c.in-Err-pass_clear.ensures.not_ready refl made.first in
    claim_steps c.args.cdm.now c.pass_clear.new.self c.claim.new.self c.deliver-delivered.new.self (Claim 0 claim.track claim.index claim.session made.kid) claim.place c.in_ok-clear-in-Ok-claim.clear c.deliver-delivered.result same made.entry made.place refl (c.requires.delivered, first) c.deliver-delivered.ensures

pub settle_now-requires-clause-idle : goal.settle_now-requires-clause-idle
settle_now-requires-clause-idle c =
    nothing_to_do c.args.cdm.now c.job.new.self c.task.new.self c.publish.new.self c.pass_clear.new.self c.claim.new.self c.wait_for_key.new.self c.in-Err-Empty.ensures.err c.in-Err-Empty-task.ensures.err c.in-Err.ensures.err c.in-Err-pass_clear.ensures.err c.in-Err-NoWork.ensures.err c.in-Err-wait_for_key.ensures.err (c.in-Err-Empty.ensures.empty.0 (step_fault c.in-Err-Empty.field-0-is)) (c.in-Err-Empty-task.ensures.empty.0 (step_fault c.in-Err-Empty-task.field-0-is)) c.in-Err.ensures.not_ready c.in-Err-pass_clear.ensures.not_ready (c.in-Err-NoWork.ensures.no_work (claim_fault c.in-Err-NoWork.field-0-is)) c.in-Err-wait_for_key.ensures.not_waiting

pub settle_now-requires-clause-delivered : goal.settle_now-requires-clause-delivered
settle_now-requires-clause-delivered c =
    let same : c.wait_for_key.new.self ≡ c.args.cdm.now = c.in-Err-wait_for_key.ensures.err ∙ (c.in-Err-NoWork.ensures.err ∙ (c.in-Err-pass_clear.ensures.err ∙ (c.in-Err.ensures.err ∙ (c.in-Err-Empty-task.ensures.err ∙ c.in-Err-Empty.ensures.err)))) in
    subst (λ (r : Run). NoneWaits r.history) (sym same) c.requires.delivered

pub returns : goal.returns
returns c =
    let same : c.wait_for_key.new.self ≡ c.args.cdm.now = c.in-Err-wait_for_key.ensures.err ∙ (c.in-Err-NoWork.ensures.err ∙ (c.in-Err-pass_clear.ensures.err ∙ (c.in-Err.ensures.err ∙ (c.in-Err-Empty-task.ensures.err ∙ c.in-Err-Empty.ensures.err)))) in
    settles_same c.args.cdm.now c.wait_for_key.new.self c.settle_now.new.cdm c.args.line same c.in_ok-settle_now.ensures
