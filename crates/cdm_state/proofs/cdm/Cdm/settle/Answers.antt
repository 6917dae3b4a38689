use Rattle.std.proofs.Common.{◌≡◌, ℕ, [], refl, length, subst, sym, arith, rules}
use Rattle.eme_types.specs.declared.entry.Entry.TheVariants.{Settle}
use Rattle.key_sessions.specs.World.{World}
use Rattle.cdm_state.specs.History.{AtRest}
use Rattle.cdm_state.specs.Chronicle.{HasRoomFor}
use Rattle.cdm_state.specs.declared.cdm.SettleFault.TheVariants.{Task as TaskLeft, Track as TrackBusy}
use Rattle.cdm_state.specs.Kept.{world_of}
use Rattle.cdm_state.specs.Contract.{FirstBusy, HasNotSettled}
use Rattle.cdm_state.proofs.TrackLists.{no_track}
use Rattle.cdm_state.proofs.Places.{room_stepped, kept_more}
use Rattle.cdm_state.proofs.May.{at_rest, nothing_left, first_busy}
use Rattle.cdm_state.proofs.Onward.{legal_settle}
use Rattle.cdm_state.proofs.ShownOn.{same_out}
use Rattle.cdm_state.proofs.OutOn.{out_plain, fewer_same}
use Rattle.cdm_state.proofs.cdm.Cdm.settle.Goals as goal

pub invariant_of-self-2 : goal.invariant_of-self-2
invariant_of-self-2 c =
    let s = c.self.inside in
    let ts = s.parts.tracks.tracks in
    let claims = s.parts.tracks.claims in
    let room : HasRoomFor c.reserve.new.self.chronicle (length s.parts.undelivered.items) ts 1 = search rules in
    let is = rw c.reserve.ensures.rest at c.append_unseen.ensures.entries in
    let rest = at_rest s.parts.sessions.machine ts (nothing_left _ c.job_left.result c.job_left.ensures c.if-job_left.false) (nothing_left _ c.task_left.result c.task_left.ensures c.if-task_left.false) c.in-None.ensures in
    rw c.reserve.ensures.rest (
      room_stepped c.reserve.new.self.chronicle ts (length s.parts.undelivered.items) _ _ room c.append_unseen.ensures.room c.self.invariant.0.events,
      kept_more s.parts.chronicle.entries c.append_unseen.new.self.entries (Settle c.args.line) ts ts s.parts.undelivered.items is (λ w t i n k x. cc) refl (omega arith) c.self.invariant.1,
      legal_settle s.ids s.parts.chronicle.entries c.append_unseen.new.self.entries s.parts.chronicle.effects c.append_unseen.new.self.effects [] c.args.line s.parts.sessions.machine ts claims c.self.invariant.2 rest is refl (rw c.reserve.ensures.rest at c.append_unseen.ensures.effects),
      c.self.invariant.3,
      out_plain s.ids s.parts.chronicle.entries c.append_unseen.new.self.entries (Settle c.args.line) s.parts.chronicle.effects (world_of s.parts.sessions.machine ts) ts ts claims claims c.self.invariant.2 c.self.invariant.4 is (λ t. refl) (same_out ts) (fewer_same claims),
    )

pub returns : goal.returns
returns c =
    let s = c.self.inside in
    let rest = at_rest s.parts.sessions.machine s.parts.tracks.tracks (nothing_left _ c.job_left.result c.job_left.ensures c.if-job_left.false) (nothing_left _ c.task_left.result c.task_left.ensures c.if-task_left.false) c.in-None.ensures in
    record {
      ok = search rules;
      rest = rw (← c.self.view_is) (subst AtRest c.self.invariant.2.state rest);
      fault = tt;
      err = tt;
    }

pub returns-then-task_left : goal.returns-then-task_left
returns-then-task_left c =
    let s = c.self.inside in
    let none : s.parts.sessions.machine.jobs ≡ [] = nothing_left _ c.job_left.result c.job_left.ensures c.if-job_left.false in
    record {
      ok = tt;
      rest = tt;
      fault = rw (← c.self.view_is) (subst (λ (w : World). HasNotSettled w TaskLeft) c.self.invariant.2.state (none, c.task_left.ensures.0 c.if-task_left.true));
      err = search rules;
    }

pub returns-in-Some : goal.returns-in-Some
returns-in-Some c =
    let s = c.self.inside in
    let f = c.in-Some.ensures in
    let none : s.parts.sessions.machine.jobs ≡ [] = nothing_left _ c.job_left.result c.job_left.ensures c.if-job_left.false in
    let idle : s.parts.sessions.machine.tasks ≡ [] = nothing_left _ c.task_left.result c.task_left.ensures c.if-task_left.false in
    let busy = subst (λ (n : ℕ). FirstBusy (world_of s.parts.sessions.machine s.parts.tracks.tracks) n) (sym (f.id no_track)) (first_busy s.parts.sessions.machine s.parts.tracks.tracks f.at no_track f.first) in
    record {
      ok = tt;
      rest = tt;
      fault = rw (← c.self.view_is) (subst (λ (w : World). HasNotSettled w (TrackBusy c.in-Some.track)) c.self.invariant.2.state (none, idle, busy));
      err = search rules;
    }

pub returns-then-is_err : goal.returns-then-is_err
returns-then-is_err c =
    let s = c.self.inside in
    let rest = at_rest s.parts.sessions.machine s.parts.tracks.tracks (nothing_left _ c.job_left.result c.job_left.ensures c.if-job_left.false) (nothing_left _ c.task_left.result c.task_left.ensures c.if-task_left.false) c.in-None.ensures in
    record {
      ok = tt;
      rest = tt;
      fault = rw (← c.self.view_is) (subst AtRest c.self.invariant.2.state rest);
      err = search rules;
    }
