-- Lists of places, and which claims wait for their delivery.
use Rattle.std.proofs.Common.{zero, suc, ◌≡◌, ℕ, ◌+◌, ◌-◌, ◌≤◌, ◌⊎◌, inl, inr, Bool, List, [], ◌∷◌, ◌++◌, length, take, Option, Some, None, refl, ap, sym, subst, ◌∙◌, arith}
use Rattle.std.specs.Prelude.{slice_get, not, ◌==◌, filter}
use Rattle.std.specs.List.{sum_by}
use Rattle.std.proofs.lemmas.List.Sums.{sum_by-append}
use Rattle.std.proofs.lemmas.Bool.Decides.{eqb_tells}
use Rattle.eme_types.specs.Fed.{part_samples}
use Rattle.eme_types.specs.declared.limits.TheConstants.{MAX_SAMPLES}
use Rattle.cdm_state.specs.Feeds.{parts_in}
use Rattle.eme_types.specs.declared.entry.Entry.{Entry}
use Rattle.eme_types.specs.declared.entry.Entry.TheVariants.{Claim}
use Rattle.key_claims.specs.TracksState.{FedTrack}
use Rattle.cdm_world.specs.In.{In}
use Rattle.key_claims.specs.TrackValue.{all_fed}
use Rattle.cdm_state.specs.Chronicle.{ChronicleState, HasRoomFor}
use Rattle.cdm_state.specs.Kept.{all_awake, RoomKept, KeptAs}
use Rattle.cdm_state.specs.History.{Spends, Undelivered, fed_samples, fed_samples_of, MayFeedNext, samples_in}
use Rattle.eme_types.specs.declared.media.Fragment.{Fragment}
use Rattle.cdm_state.proofs.TrackLists.{awake_within, GivesOut, Sleeps, Grown}
use Rattle.cdm_state.proofs.Plain.{nothing_there}
use Rattle.cdm_world.proofs.ItemsAt.{get_left, get_here}
use Rattle.cdm_world.proofs.Members.{In_left, In_right}

-- where the items of a list with one more stand
pub either_place : (h : List Entry) (e : Entry) (n : ℕ) (x : Entry) → slice_get (h ++ e ∷ []) n ≡ Some x → ((slice_get h n ≡ Some x) × (take n (h ++ e ∷ []) ≡ take n h)) ⊎ ((x ≡ e) × (take n (h ++ e ∷ []) ≡ h) × (n ≡ length h))
either_place [] e zero x at = inr (cc, refl, refl)
either_place [] e (suc n) x at = absurd cc
either_place (y ∷ h) e zero x at = inl (at, refl)
either_place (y ∷ h) e (suc n) x at =
    elim (either_place h e n x at) [ inl p ↦ inl (p.0, ap (λ ys. y ∷ ys) p.1) | inr p ↦ inr (p.0, ap (λ ys. y ∷ ys) p.1, ap suc p.2) ]

pub slice_get_left : (h : List Entry) (e x : Entry) (n : ℕ) → slice_get h n ≡ Some x → slice_get (h ++ e ∷ []) n ≡ Some x
slice_get_left h e x n at = get_left h (e ∷ []) n x at

pub slice_get_last : (h : List Entry) (e : Entry) → slice_get (h ++ e ∷ []) (length h) ≡ Some e
slice_get_last h e = get_here h e []

-- the entry is no claim
abbrev pub IsPlain : Entry → Type 0
IsPlain e = (worker track index session : ℕ) (kid : List ℕ) → Claim worker track index session kid ≡ e → ⊥

-- a claim that waits in the longer history waited in the shorter one, and the entry did not spend it
pub waited : (h : List Entry) (e : Entry) (c : ℕ) → IsPlain e → Undelivered (h ++ e ∷ []) c → Undelivered h c × (Spends e c → ⊥)
waited h e c plain u =
    elim (either_place h e (c - 1) _ u.at.1) [
      | inl p ↦ (record { worker = u.worker; track = u.track; index = u.index; session = u.session; kid = u.kid; at = (u.at.0, p.0); none = λ n x at. u.none n x (slice_get_left h e x n at) }, u.none (length h) e (slice_get_last h e))
      | inr p ↦ absurd (plain u.worker u.track u.index u.session u.kid p.0)
    ]

-- a claim that waits in the longer history is the new one or waited before
pub waited_or_new : (h : List Entry) (e : Entry) (c : ℕ) → Undelivered (h ++ e ∷ []) c → Undelivered h c ⊎ (c ≡ length h + 1)
waited_or_new h e c u =
    elim (either_place h e (c - 1) _ u.at.1) [
      | inl p ↦ inl (record { worker = u.worker; track = u.track; index = u.index; session = u.session; kid = u.kid; at = (u.at.0, p.0); none = λ n x at. u.none n x (slice_get_left h e x n at) })
      | inr p ↦ inr (omega (arith, u.at.0, p.2))
    ]

abbrev pub other : ℕ → ℕ → Bool
other place p = not (p == place)

pub In-other : (xs : List ℕ) (place c : ℕ) → In xs c → (place ≡ c → ⊥) → In (filter (other place) xs) c
In-other [] place c at ne = absurd at
In-other (x ∷ xs) place c (inl e) ne = elim (eqb_tells x place) [ inl p ↦ absurd (ne (sym p.1 ∙ e)) | inr p ↦ rw p.0 (inl e) ]
In-other (x ∷ xs) place c (inr at) ne = elim (eqb_tells x place) [ inl p ↦ rw p.0 (In-other xs place c at ne) | inr p ↦ rw p.0 (inr (In-other xs place c at ne)) ]

fewer : (xs : List ℕ) (place : ℕ) → length (filter (other place) xs) ≤ length xs
fewer [] place = omega arith
fewer (x ∷ xs) place = elim (eqb_tells x place) [ inl p ↦ rw p.0 (omega (arith, fewer xs place)) | inr p ↦ rw p.0 (omega (arith, fewer xs place)) ]

pub one_fewer : (xs : List ℕ) (place : ℕ) → In xs place → length (filter (other place) xs) + 1 ≤ length xs
one_fewer [] place at = absurd at
one_fewer (x ∷ xs) place (inl e) = elim (eqb_tells x place) [ inl p ↦ rw p.0 (omega (arith, fewer xs place)) | inr p ↦ absurd (p.1 e) ]
one_fewer (x ∷ xs) place (inr at) = elim (eqb_tells x place) [ inl p ↦ rw p.0 (omega (arith, one_fewer xs place at)) | inr p ↦ rw p.0 (omega (arith, one_fewer xs place at)) ]

pub some_in : (xs : List ℕ) (place : ℕ) → In xs place → 1 ≤ length xs
some_in [] place at = absurd at
some_in (x ∷ xs) place at = omega arith

fed_more : (h : List Entry) (e : Entry) → fed_samples (h ++ e ∷ []) ≡ fed_samples h + fed_samples_of e
fed_more h e = sum_by-append fed_samples_of h (e ∷ []) ∙ omega arith

-- after an entry that is no claim, feeds nothing and spends no claim
pub kept_more : (h g : List Entry) (e : Entry) (ts us : List FedTrack) (undelivered : List ℕ) → g ≡ h ++ e ∷ [] → IsPlain e → fed_samples_of e ≡ 0 → all_fed us ≤ all_fed ts → KeptAs h ts undelivered → KeptAs g us undelivered
kept_more h g e ts us undelivered is plain none le kept = rw is (record {
  limit = omega (arith, fed_more h e, none, kept.limit);
  fed = omega (arith, fed_more h e, none, kept.fed, le);
  waits = λ c u. kept.waits c (waited h e c plain u).0;
})

pub kept_fed : (h g : List Entry) (e : Entry) (ts us : List FedTrack) (undelivered : List ℕ) (n : ℕ) → g ≡ h ++ e ∷ [] → IsPlain e → fed_samples_of e ≡ n → fed_samples h + n ≤ MAX_SAMPLES → all_fed us ≤ all_fed ts + n → KeptAs h ts undelivered → KeptAs g us undelivered
kept_fed h g e ts us undelivered n is plain some limit le kept = rw is (record {
  limit = omega (arith, fed_more h e, some, limit);
  fed = omega (arith, fed_more h e, some, kept.fed, le);
  waits = λ c u. kept.waits c (waited h e c plain u).0;
})

pub kept_claim : (h g : List Entry) (e : Entry) (ts : List FedTrack) (undelivered more : List ℕ) (place : ℕ) → g ≡ h ++ e ∷ [] → fed_samples_of e ≡ 0 → place ≡ length h + 1 → more ≡ undelivered ++ place ∷ [] → KeptAs h ts undelivered → KeptAs g ts more
kept_claim h g e ts undelivered more place is none here added kept = rw (is, added) (record {
  limit = omega (arith, fed_more h e, none, kept.limit);
  fed = omega (arith, fed_more h e, none, kept.fed);
  waits = λ c u. elim (waited_or_new h e c u) [
    | inl b ↦ In_left undelivered (place ∷ []) c (kept.waits c b)
    | inr n ↦ (let same : place ≡ c = here ∙ sym n in subst (λ (x : ℕ). In (undelivered ++ place ∷ []) x) same (In_right undelivered (place ∷ []) place (inl refl)))
  ];
})

pub kept_spent : (h g : List Entry) (e : Entry) (ts : List FedTrack) (undelivered fewer : List ℕ) (place : ℕ) → g ≡ h ++ e ∷ [] → IsPlain e → fed_samples_of e ≡ 0 → Spends e place → fewer ≡ filter (other place) undelivered → KeptAs h ts undelivered → KeptAs g ts fewer
kept_spent h g e ts undelivered fewer place is plain none spends less kept = rw (is, less) (record {
  limit = omega (arith, fed_more h e, none, kept.limit);
  fed = omega (arith, fed_more h e, none, kept.fed);
  waits = λ c u. (let w = waited h e c plain u in In-other undelivered place c (kept.waits c w.0) (λ same. w.1 (subst (λ (x : ℕ). Spends e x) same spends)));
})

-- room after a step that reserved it, and then took one entry
pub room_stepped : (c : ChronicleState) (ts : List FedTrack) (w n k : ℕ) → HasRoomFor c w ts 1 → c.room ≤ n + 1 → all_awake ts ≤ k → RoomKept n k ts w
room_stepped c ts w n k room next le = record { entries = omega (arith, awake_within ts, room, next); events = le }

-- room after a claim was delivered or given up
pub room_spent : (ts : List FedTrack) (w v n k m : ℕ) → v + 1 ≤ w → n ≤ m + 1 → RoomKept n k ts w → RoomKept m k ts v
room_spent ts w v n k m less next room = record { entries = omega (arith, room.entries, less, next); events = room.events }

-- room after a publication
pub room_out : (ts us : List FedTrack) (w n k m : ℕ) → GivesOut ts us → n ≤ m + 1 → RoomKept n k ts w → RoomKept m k us w
room_out ts us w n k m out next room = record {
  entries = omega (arith, room.entries, out.left, out.awake, next);
  events = omega (arith, room.events, out.awake);
}

-- room after a track began to wait
pub room_asleep : (ts us : List FedTrack) (w n k m l : ℕ) → Sleeps ts us → n ≤ m + 1 → k ≤ l + 1 → RoomKept n k ts w → RoomKept m l us w
room_asleep ts us w n k m l asleep next fired room = record {
  entries = omega (arith, room.entries, asleep.left, asleep.awake, next);
  events = omega (arith, room.events, asleep.awake, fired);
}

-- room after a feed
pub room_fed : (c : ChronicleState) (ts us : List FedTrack) (w x n k : ℕ) → Grown ts us x → HasRoomFor c w ts (x + 1) → c.room ≤ n + 1 → length ts ≤ k → RoomKept n k us w
room_fed c ts us w x n k g room next le = record {
  entries = omega (arith, awake_within ts, g.left, g.awake, room, next);
  events = omega (arith, awake_within ts, g.awake, le);
}

pub fed_limit : (ids : List ℕ) (h : List Entry) (f : Option Fragment) → fed_samples h ≤ MAX_SAMPLES → MayFeedNext ids h f → fed_samples h + samples_in f ≤ MAX_SAMPLES
fed_limit ids h None few may = omega (arith, few)
fed_limit ids h (Some f) few may = may.samples

pub kept_new : (h : List Entry) (ts : List FedTrack) (undelivered : List ℕ) → h ≡ [] → all_fed ts ≡ 0 → KeptAs h ts undelivered
kept_new h ts undelivered none unfed = rw none (record {
  limit = omega arith;
  fed = omega (arith, unfed);
  waits = λ c u. absurd (nothing_there (c - 1) _ u.at.1);
})

pub same_count : (f : Option Fragment) → sum_by part_samples (parts_in f) ≡ samples_in f
same_count None = refl
same_count (Some f) = refl
