-- The live claims of a history, one entry on.
use Rattle.std.proofs.Common.{◌≡◌, ℕ, ◌+◌, ◌-◌, ◌≤◌, Bool, true, false, List, [], ◌∷◌, ◌++◌, length, Option, Some, None, inl, inr, refl, ap, ◌∙◌, sym, subst, arith, length-append, eqb}
use Rattle.std.specs.Prelude.{filter, ◌&&◌, not, if◌then◌else◌}
use Rattle.std.specs.List.{fold}
use Rattle.std.proofs.lemmas.List.{take_all}
use Rattle.std.proofs.lemmas.Bool.Decides.{eqb_tells}
use Rattle.eme_types.specs.declared.kid.KeyBytes.{KeyBytes}
use Rattle.eme_types.specs.declared.entry.Entry.{Entry}
use Rattle.eme_types.specs.declared.entry.Entry.TheVariants.{Call, Job, Task, Tick, Feed, Evict, Claim, Deliver, GiveUp, Publish, PassClear, WaitForKey, Settle}
use Rattle.cdm_world.specs.In.{In}
use Rattle.cdm_world.proofs.Members.{In_filter, In_either}
use Rattle.key_sessions.specs.Keys.{held_key}
use Rattle.key_sessions.specs.World.{World, empty_world}
use Rattle.key_claims.specs.TracksState.{ClaimState}
use Rattle.key_claims.specs.Claims.{claimed_in}
use Rattle.cdm_state.specs.After.{after_entry}
use Rattle.cdm_state.specs.Slots.{entry_of, holds_still}
use Rattle.cdm_state.specs.History.{world, IsLegal, Ends, HoldsFor, LiveAs}
use Rattle.cdm_state.proofs.Histories.{world_more, legal_induction}
use Rattle.cdm_state.proofs.Places.{either_place, slice_get_last}
use Rattle.cdm_state.proofs.TrackIds.{and_both, or_right}
use Rattle.cdm_state.proofs.Live.{live_more, key_is}
use Rattle.cdm_state.proofs.Claiming.{none_names_next}
use Rattle.track_media.proofs.LineFits.{not_true}
use Rattle.player_core.specs.Left.{ends_claim, claim_under, claim_made, stays, claims_after, claims_from, live_claims}

from_more : (w : World) (n : ℕ) (cs : List ClaimState) (h : List Entry) (e : Entry) → claims_from w n cs (h ++ e ∷ []) ≡ claims_after (after_entry (fold after_entry w h) e) (n + length h + 1) e (claims_from w n cs h)
from_more w n cs [] e = ap (λ k. claims_after (after_entry w e) k e cs) (let same : n + 1 ≡ n + 0 + 1 = omega arith in same)
from_more w n cs (x ∷ h) e =
    from_more (after_entry w x) (n + 1) (claims_after (after_entry w x) (n + 1) x cs) h e
    ∙ ap (λ k. claims_after (after_entry (fold after_entry w (x ∷ h)) e) k e (claims_from w n cs (x ∷ h))) (let same : n + 1 + length h + 1 ≡ n + length (x ∷ h) + 1 = omega arith in same)

-- the live claims after one more entry
pub claims_more : (ids : List ℕ) (h : List Entry) (e : Entry) → live_claims ids (h ++ e ∷ []) ≡ claims_after (world ids (h ++ e ∷ [])) (length h + 1) e (live_claims ids h)
unfolding live_claims world
claims_more ids h e =
    from_more (empty_world ids) 0 [] h e
    ∙ (ap (λ k. claims_after (after_entry (fold after_entry (empty_world ids) h) e) k e (live_claims ids h)) (let same : 0 + length h + 1 ≡ length h + 1 = omega arith in same)
    ∙ ap (λ w. claims_after w (length h + 1) e (live_claims ids h)) (sym (world_more ids h e)))

-- each of these claims is live
abbrev pub AreLive : List ℕ → List Entry → List ClaimState → Type 0
AreLive ids h claims = (c : ClaimState) → In claims c → LiveAs ids h c.place (entry_of c) c.key

unended : (place : ℕ) (e : Entry) → ends_claim place e ≡ false → Ends e place → ⊥
unended place (Call lane line call) is ends = ends
unended place Job is ends = ends
unended place Task is ends = ends
unended place (Tick line moment) is ends = ends
unended place (Feed line fragment) is ends = ends
unended place (Evict line label) is ends = ends
unended place (Claim worker track index session kid) is ends = ends
unended place (Deliver p verdict) is ends = ends
unended place (GiveUp p) is ends = elim (eqb_tells p place) [ inl same ↦ absurd (let no = same.0 in cc) | inr other ↦ other.1 ends ]
unended place (Publish track index p) is ends = elim (eqb_tells p place) [ inl same ↦ absurd (let no = same.0 in cc) | inr other ↦ other.1 ends ]
unended place (PassClear track index) is ends = ends
unended place (WaitForKey track) is ends = ends
unended place (Settle line) is ends = ends

old_live : (ids : List ℕ) (h : List Entry) (e : Entry) (c : ClaimState) → LiveAs ids h c.place (entry_of c) c.key → stays (world ids (h ++ e ∷ [])) e c ≡ true → LiveAs ids (h ++ e ∷ []) c.place (entry_of c) c.key
old_live ids h e c live is =
    let m = (world ids (h ++ e ∷ [])).machine in
    let both = and_both (holds_still m c) (not (ends_claim c.place e)) is in
    live_more ids h e c.place (entry_of c) c.key live (key_is (held_key m c.session c.kid) c.key both.0) (unended c.place e (not_true (ends_claim c.place e) both.1))

new_live : (ids : List ℕ) (h : List Entry) (worker track index session : ℕ) (kid : List ℕ) (key : KeyBytes) → IsLegal ids h → held_key (world ids (h ++ Claim worker track index session kid ∷ [])).machine session kid ≡ Some key → LiveAs ids (h ++ Claim worker track index session kid ∷ []) (length h + 1) (Claim worker track index session kid) key
new_live ids h worker track index session kid key legal holds =
    let e : Entry = Claim worker track index session kid in
    let many : length (h ++ e ∷ []) ≡ length h + 1 = length-append h (e ∷ []) in
    record {
      at = (omega arith, (let last : length h + 1 - 1 ≡ length h = omega arith in rw last (slice_get_last h e)));
      held = λ n from to. (let all : length (h ++ e ∷ []) ≤ n = omega (arith, many, from) in subst (λ (g : List Entry). HoldsFor (world ids g) e key) (sym (take_all n (h ++ e ∷ []) all)) holds);
      unended = λ n x at ends. elim (either_place h e n x at) [
        | inl p ↦ none_names_next ids h n x legal p.0 (inl ends)
        | inr p ↦ subst (λ (y : Entry). Ends y (length h + 1)) p.0 ends
      ];
    }

under_live : (ids : List ℕ) (h : List Entry) (worker track index session : ℕ) (kid : List ℕ) (held : Option KeyBytes) → IsLegal ids h → held_key (world ids (h ++ Claim worker track index session kid ∷ [])).machine session kid ≡ held → AreLive ids (h ++ Claim worker track index session kid ∷ []) (claim_under (length h + 1) worker track index session kid held)
under_live ids h worker track index session kid None legal holds c at = absurd at
under_live ids h worker track index session kid (Some key) legal holds c (inl is) = subst (λ (x : ClaimState). LiveAs ids (h ++ Claim worker track index session kid ∷ []) x.place (entry_of x) x.key) is (new_live ids h worker track index session kid key legal holds)
under_live ids h worker track index session kid (Some key) legal holds c (inr at) = absurd at

made_live : (ids : List ℕ) (h : List Entry) (e : Entry) → IsLegal ids h → AreLive ids (h ++ e ∷ []) (claim_made (world ids (h ++ e ∷ [])) (length h + 1) e)
made_live ids h (Claim worker track index session kid) legal c at = under_live ids h worker track index session kid (held_key (world ids (h ++ Claim worker track index session kid ∷ [])).machine session kid) legal refl c at
made_live ids h _ legal c at = absurd at

after_live : (ids : List ℕ) (h : List Entry) (e : Entry) → IsLegal ids h → AreLive ids h (live_claims ids h) → AreLive ids (h ++ e ∷ []) (live_claims ids (h ++ e ∷ []))
after_live ids h e legal live =
    let w : World = world ids (h ++ e ∷ []) in
    subst (λ claims. AreLive ids (h ++ e ∷ []) claims) (sym (claims_more ids h e)) (λ c at.
    elim (In_either (filter (stays w e) (live_claims ids h)) (claim_made w (length h + 1) e) c at) [
      | inl old ↦ (let was = In_filter (stays w e) (live_claims ids h) c old in old_live ids h e c (live c was.0) was.1)
      | inr new ↦ made_live ids h e legal c new
    ])

none_live : (ids : List ℕ) → AreLive ids [] (live_claims ids [])
unfolding live_claims
none_live ids c at = absurd at

-- the claims of a legal history are live
pub all_live : (ids : List ℕ) (h : List Entry) → IsLegal ids h → AreLive ids h (live_claims ids h)
all_live ids h legal = legal_induction ids (λ g. AreLive ids g (live_claims ids g)) (none_live ids) (λ g e legal_ may live. after_live ids g e legal_ live) h legal

-- a claim that is on the sample
abbrev pub OnSample : ClaimState → ℕ → ℕ → Type 0
OnSample c track index = (c.track ≡ track) × (c.index ≡ index)

-- where no claim is on a sample, none claims it
pub unclaimed : (claims : List ClaimState) (track index : ℕ) → ((c : ClaimState) → In claims c → OnSample c track index → ⊥) → claimed_in claims track index ≡ false
unclaimed [] track index none = refl
unclaimed (c ∷ cs) track index none =
    let rest : claimed_in cs track index ≡ false = unclaimed cs track index (λ d at. none d (inr at)) in
    elim (eqb_tells c.track track) [
      | inl t ↦ elim (eqb_tells c.index index) [
        | inl i ↦ absurd (none c (inl refl) (t.1, i.1))
        | inr i ↦ rw (t.0, i.0) rest
      ]
      | inr t ↦ rw t.0 rest
    ]

kept_case : (b : Bool) (c : ClaimState) (cs : List ClaimState) (track index : ℕ) → claimed_in cs track index ≡ true → claimed_in (if b then c ∷ cs else cs) track index ≡ true
kept_case true c cs track index is = rw is (or_right (eqb c.track track && eqb c.index index))
kept_case false c cs track index is = is

-- a claimed sample stays claimed where the claims on it are kept
pub claimed_kept : (p : ClaimState → Bool) (claims more : List ClaimState) (track index : ℕ) → ((c : ClaimState) → In claims c → OnSample c track index → p c ≡ true) → claimed_in claims track index ≡ true → claimed_in (filter p claims ++ more) track index ≡ true
claimed_kept p claims more track index keep is = appended (filter p claims) (kept claims keep is) where
  kept : (cs : List ClaimState) → ((c : ClaimState) → In cs c → OnSample c track index → p c ≡ true) → claimed_in cs track index ≡ true → claimed_in (filter p cs) track index ≡ true
  kept [] keeps at = absurd cc
  kept (c ∷ cs) keeps at =
      let rest : claimed_in cs track index ≡ true → claimed_in (if p c then c ∷ filter p cs else filter p cs) track index ≡ true = λ there. kept_case (p c) c (filter p cs) track index (kept cs (λ d in_cs. keeps d (inr in_cs)) there) in
      elim (eqb_tells c.track track) [
        | inl t ↦ elim (eqb_tells c.index index) [
          | inl i ↦ (let here : p c ≡ true = keeps c (inl refl) (t.1, i.1) in rw (here, t.0, i.0) refl)
          | inr i ↦ rest (rw (t.0, i.0) at at)
        ]
        | inr t ↦ rest (rw t.0 at at)
      ]

  appended : (cs : List ClaimState) → claimed_in cs track index ≡ true → claimed_in (cs ++ more) track index ≡ true
  appended [] at = absurd cc
  appended (c ∷ cs) at = elim (eqb_tells c.track track) [
    | inl t ↦ elim (eqb_tells c.index index) [
      | inl i ↦ rw (t.0, i.0) refl
      | inr i ↦ rw (t.0, i.0) (appended cs (rw (t.0, i.0) at at))
    ]
    | inr t ↦ rw t.0 (appended cs (rw t.0 at at))
  ]
