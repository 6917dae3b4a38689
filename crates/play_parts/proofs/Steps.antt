-- Steps of lane 0, put together.
use Rattle.std.proofs.Common.{◌≡◌, ℕ, List, [], ◌∷◌, ◌++◌, Contains, refl, ap, sym, subst, ⊎_elim}
use Rattle.std.proofs.lemmas.List.Elements.{Contains-append_left, Contains-append_right, Contains-append_cases, Contains-push, Contains-push_cases}
use Rattle.eme_types.specs.declared.entry.Entry.{Entry}
use Rattle.eme_types.specs.declared.entry.Entry.TheVariants.{Call, Tick, Feed, Evict, Claim, Deliver, GiveUp, Settle}
use Rattle.eme_types.specs.declared.entry.Verdict.{Verdict}
use Rattle.output_order.specs.Lane.{line_of, asked, fed_by}
use Rattle.decrypt_workers.specs.Desks.{Placed}
use Rattle.decrypt_workers.specs.Workers.{IsAnyClaim}
use Rattle.play_parts.specs.Asks.{IsStep}
use Rattle.play_parts.specs.Parts.{AreEnded, AreSteps, IsOfLane0}
use Rattle.play_parts.proofs.Reading.{all_append, nothing_in, only_in}

-- ---- claims that are ended

pub ended_none : AreEnded []
ended_none p e h k = absurd (nothing_in (p, e) h)

pub ended_both : (a b : Placed) → AreEnded a → AreEnded b → AreEnded (a ++ b)
ended_both a b f g p e h k = ⊎_elim
    (λ (l : Contains a (p, e)). let r = f p e l k in (r.0, r.1, Contains-append_left a b (r.0, r.1) r.2, r.3))
    (λ (l : Contains b (p, e)). let r = g p e l k in (r.0, r.1, Contains-append_right a b (r.0, r.1) r.2, r.3))
    (Contains-append_cases a b (p, e) h)

-- an entry that is no claim
pub ended_one : (place : ℕ) (e : Entry) → (IsAnyClaim e → ⊥) → AreEnded ((place, e) ∷ [])
ended_one place e plain p x h k = absurd (plain (subst IsAnyClaim (sym (ap (λ (y : ℕ × Entry). y.1) (only_in (place, e) (p, x) h))) k))

-- ---- steps

pub steps_none : AreSteps []
steps_none = record { kinds = tt; ended = ended_none }

pub steps_both : (a b : Placed) → AreSteps a → AreSteps b → AreSteps (a ++ b)
steps_both a b f g = record { kinds = all_append (λ (x : ℕ × Entry). IsStep x.1) a b f.kinds g.kinds; ended = ended_both a b f.ended g.ended }

-- a step that is no claim
pub steps_one : (place : ℕ) (e : Entry) → IsStep e → (IsAnyClaim e → ⊥) → AreSteps ((place, e) ∷ [])
steps_one place e step plain = record { kinds = (step, tt); ended = ended_one place e plain }

-- a claim, and then its delivery
pub steps_claim : (place behind track index session : ℕ) (kid : List ℕ) (verdict : Verdict) → AreSteps ((place, Claim 0 track index session kid) ∷ ((behind, Deliver place verdict) ∷ []))
steps_claim place behind track index session kid verdict =
    let first : ℕ × Entry = (place, Claim 0 track index session kid) in
    let last : ℕ × Entry = (behind, Deliver place verdict) in record {
      kinds = (refl, (tt, tt));
      ended = λ p e h k. ⊎_elim
          (λ (l : Contains (first ∷ []) (p, e)). (behind, Deliver place verdict, Contains-push (first ∷ []) last, ap (λ (y : ℕ × Entry). y.0) (only_in first (p, e) l)))
          (λ (is : last ≡ (p, e)). absurd (subst IsAnyClaim (sym (ap (λ (y : ℕ × Entry). y.1) is)) k))
          (Contains-push_cases (first ∷ []) last (p, e) h);
    }

-- ---- a step is no line's, and feeds nothing

pub step_line : (e : Entry) → IsStep e → line_of e ≡ []
step_line (Call lane line call) s = absurd s
step_line (Tick line moment) s = absurd s
step_line (Feed line fragment) s = absurd s
step_line (Evict line label) s = absurd s
step_line (GiveUp place) s = absurd s
step_line (Settle line) s = absurd s
step_line e s = refl

pub step_asked : (e : Entry) → IsStep e → asked e ≡ []
step_asked (Call lane line call) s = absurd s
step_asked (Tick line moment) s = absurd s
step_asked (Feed line fragment) s = absurd s
step_asked (Evict line label) s = absurd s
step_asked (GiveUp place) s = absurd s
step_asked (Settle line) s = absurd s
step_asked e s = refl

pub step_feeds : (e : Entry) → IsStep e → fed_by e ≡ []
step_feeds (Call lane line call) s = absurd s
step_feeds (Tick line moment) s = absurd s
step_feeds (Feed line fragment) s = absurd s
step_feeds (Evict line label) s = absurd s
step_feeds (GiveUp place) s = absurd s
step_feeds (Settle line) s = absurd s
step_feeds e s = refl

pub step_of_lane_0 : (e : Entry) → IsStep e → IsOfLane0 e
step_of_lane_0 (Call lane line call) s = absurd s
step_of_lane_0 (Tick line moment) s = absurd s
step_of_lane_0 (Feed line fragment) s = absurd s
step_of_lane_0 (Evict line label) s = absurd s
step_of_lane_0 (Claim worker track index session kid) s = s
step_of_lane_0 (GiveUp place) s = absurd s
step_of_lane_0 (Settle line) s = absurd s
step_of_lane_0 e s = tt
