use Rattle.std.proofs.Common.{◌≡◌, ◌+◌, ◌∷◌, ◌++◌, [], ◌∙◌, ℕ, refl, length, get_or, subst, sym, length-append, ap, arith, rules, List}
use Rattle.eme_types.specs.declared.entry.Entry.TheVariants.{Claim}
use Rattle.key_claims.specs.Contract.{AreBelow, claimed}
use Rattle.cdm_state.specs.Contract.{IsOpen}
use Rattle.cdm_state.specs.Chronicle.{HasRoomFor}
use Rattle.cdm_state.specs.Kept.{world_of}
use Rattle.cdm_state.specs.Run.{Run}
use Rattle.cdm_state.proofs.TrackLists.{no_track}
use Rattle.cdm_state.proofs.Places.{room_stepped, kept_claim}
use Rattle.cdm_state.proofs.Copied.{Copied, IsCopied}
use Rattle.cdm_state.proofs.Revoking.{next_above}
use Rattle.cdm_state.proofs.Onward.{legal_claim}
use Rattle.cdm_state.proofs.Exact.{no_claim, err_again}
use Rattle.cdm_state.proofs.FedOn.{claim_open, same_kid}
use Rattle.cdm_state.proofs.First.{first_claim}
use Rattle.cdm_state.proofs.ShownOn.{same_out}
use Rattle.cdm_state.proofs.OutOn.{out_plain, fewer_added}
use Rattle.cdm_state.proofs.cdm.Cdm.claim.Goals as goal

pub claim_sample-taken-requires : goal.claim_sample-taken-requires
claim_sample-taken-requires c =
    let s = c.self.inside in
    let place : c.next_place-place.result ≡ length s.parts.chronicle.entries + 1 = rw c.reserve.ensures.rest at c.next_place-place.ensures in
    rw c.reserve.ensures.rest (subst (λ (n : ℕ). AreBelow n s.parts.tracks.claims) (sym place) (next_above s.ids s.parts.chronicle.entries s.parts.chronicle.effects (world_of s.parts.sessions.machine s.parts.tracks.tracks) s.parts.tracks.claims c.self.invariant.2))

pub returns-in-Err : goal.returns-in-Err
returns-in-Err c =
    let s = c.self.inside in
    record {
      ok = tt;
      err = search rules;
      no_work = λ e. rw (← c.self.view_is) (no_claim s.ids s.parts.chronicle.entries s.parts.chronicle.effects s.parts.sessions.machine s.parts.tracks.tracks s.parts.tracks.claims c.self.invariant.2 (rw c.reserve.ensures.rest at c.in-Err.ensures.no_work (err_again c.in-Err.fault _ e)));
    }

pub invariant_of-self-2 : goal.invariant_of-self-2
invariant_of-self-2 c =
    let s = c.self.inside in
    let ts = s.parts.tracks.tracks in
    let claims = s.parts.tracks.claims in
    let held = c.in-Ok.taken.0 in
    let t = rw c.reserve.ensures.rest at c.in-Ok.ensures.ok.0 in
    let k = c.in-Ok.ensures.ok.1 in
    let x = t.holds no_track in
    let copy : Copied = record { kid = c.in-Ok.taken.1; sample = held.sample } in
    let copied : IsCopied (get_or ts t.work.at no_track) t.work.index copy = record { sample = x.sample; protect = k.protect; protected = k.protected; kid = k.same } in
    let kid : x.protect.kid ≡ c.in-Ok.taken.1 = same_kid held.sample x.protect c.in-Ok.taken.1 x.protected k in
    let new = claimed held x.protect.kid in
    let room : HasRoomFor c.reserve.new.self.chronicle (length s.parts.undelivered.items) ts 2 = search rules in
    let more : c.push_reserved.new.self.items ≡ s.parts.undelivered.items ++ c.next_place-place.result ∷ [] = rw (c.reserve-2.ensures.items, c.reserve.ensures.rest) at c.push_reserved.ensures.items in
    let n : length c.push_reserved.new.self.items ≡ length s.parts.undelivered.items + 1 = ap (λ (xs : List ℕ). length xs) more ∙ length-append s.parts.undelivered.items (c.next_place-place.result ∷ []) in
    let place : c.next_place-place.result ≡ length s.parts.chronicle.entries + 1 = rw c.reserve.ensures.rest at c.next_place-place.ensures in
    let is = rw c.reserve.ensures.rest at c.append_unseen.ensures.entries in
    rw (c.reserve.ensures.rest, t.tracks) (
      room_stepped c.reserve.new.self.chronicle ts (length c.push_reserved.new.self.items) _ _ (omega (arith, n, room)) c.append_unseen.ensures.room c.self.invariant.0.events,
      kept_claim s.parts.chronicle.entries c.append_unseen.new.self.entries (Claim c.args.worker held.track held.index held.session c.in-Ok.taken.1) ts s.parts.undelivered.items c.push_reserved.new.self.items c.next_place-place.result is refl place more c.self.invariant.1,
      legal_claim s.ids s.parts.chronicle.entries c.append_unseen.new.self.entries s.parts.chronicle.effects c.append_unseen.new.self.effects [] s.parts.sessions.machine ts claims c.claim_sample-taken.new.tracks.claims t.work copy new no_track c.self.invariant.2 c.self.invariant.3 t.first copied x.track x.index x.session x.key kid refl (x.place_ ∙ place) (is ∙ ap (λ (w : ℕ). s.parts.chronicle.entries ++ Claim w held.track held.index held.session c.in-Ok.taken.1 ∷ []) (sym x.worker_)) refl (rw c.reserve.ensures.rest at c.append_unseen.ensures.effects) x.added,
      c.self.invariant.3,
      out_plain s.ids s.parts.chronicle.entries c.append_unseen.new.self.entries (Claim c.args.worker held.track held.index held.session c.in-Ok.taken.1) s.parts.chronicle.effects (world_of s.parts.sessions.machine ts) ts ts claims c.claim_sample-taken.new.tracks.claims c.self.invariant.2 c.self.invariant.4 is (λ t. refl) (same_out ts) (fewer_added claims c.claim_sample-taken.new.tracks.claims new x.added refl),
    )

pub returns : goal.returns
returns c =
    let s = c.self.inside in
    let ts = s.parts.tracks.tracks in
    let claims = s.parts.tracks.claims in
    let held = c.in-Ok.taken.0 in
    let t = rw c.reserve.ensures.rest at c.in-Ok.ensures.ok.0 in
    let k = c.in-Ok.ensures.ok.1 in
    let x = t.holds no_track in
    let copy : Copied = record { kid = c.in-Ok.taken.1; sample = held.sample } in
    let copied : IsCopied (get_or ts t.work.at no_track) t.work.index copy = record { sample = x.sample; protect = k.protect; protected = k.protected; kid = k.same } in
    let place : c.next_place-place.result ≡ length s.parts.chronicle.entries + 1 = rw c.reserve.ensures.rest at c.next_place-place.ensures in
    let is = rw c.reserve.ensures.rest at c.append_unseen.ensures.entries in
    let opened = claim_open s.ids s.parts.chronicle.entries s.parts.chronicle.effects s.parts.sessions.machine ts claims t.work copy no_track held c.self.invariant.2 c.self.invariant.3 t.first copied (x.place_ ∙ place) x.track x.index x.session x.key refl in
    record {
      ok = rw (← c.self.view_is, is) (record {
        kid = c.in-Ok.taken.1;
        entry = refl;
        worker_ = x.worker_;
        place = x.place_ ∙ place;
        open_ = subst (λ (w : ℕ). let r : Run = record { tracks = s.ids; history = s.parts.chronicle.entries ++ Claim w held.track held.index held.session c.in-Ok.taken.1 ∷ [] } in IsOpen r held) x.worker_ opened;
        first = first_claim s.ids s.parts.chronicle.entries s.parts.chronicle.effects s.parts.sessions.machine ts claims t.work held.track held.index no_track c.self.invariant.2 c.self.invariant.3 t.first x.track x.index;
      });
      err = tt;
      no_work = search rules;
    }
