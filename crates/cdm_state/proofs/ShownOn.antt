-- What tracks show, as their list changes.
use Rattle.std.proofs.Common.{zero, suc, ◌≡◌, ℕ, ◌<◌, Bool, true, false, List, [], ◌∷◌, length, get_or, refl, ap, sym, subst, ◌∙◌, arith, map, eqb}
use Rattle.std.specs.Prelude.{if◌then◌else◌}
use Rattle.std.proofs.lemmas.List.{get_or-map, length-map}
use Rattle.eme_types.specs.declared.sample.EncSample.{EncSample}
use Rattle.eme_types.specs.declared.media.TrackPart.{TrackPart}
use Rattle.cdm_world.specs.Tracks.{Picks}
use Rattle.key_claims.specs.TracksState.{FedTrack}
use Rattle.key_claims.specs.Changes.{changed_at, more_out, with_waiting, more_fed, change_fed, feed_one, feed_all, resumed_one}
use Rattle.cdm_state.specs.Shown.{SameShown, SameOut, OneOut}
use Rattle.cdm_state.proofs.TrackLists.{changed_length, changed_here, changed_other}

pub same_out : (ts : List FedTrack) → SameOut ts ts
same_out ts = record { length_ = refl; each = λ k d lt. record { id = refl; shows = refl } }

pub then_out : (a b c : List FedTrack) → SameOut a b → SameOut b c → SameOut a c
then_out a b c g h = record {
  length_ = h.length_ ∙ g.length_;
  each = λ k d lt. (let x = g.each k d lt in let y = h.each k d (omega (arith, lt, g.length_)) in record { id = y.id ∙ x.id; shows = y.shows ∙ x.shows });
}

more_same : (t u : FedTrack) (ts us : List FedTrack) → SameShown t u → SameOut ts us → SameOut (t ∷ ts) (u ∷ us)
more_same t u ts us here rest = record { length_ = ap suc rest.length_; each = λ k d lt. at k d lt } where
  at : (k : ℕ) (d : FedTrack) → k < length (t ∷ ts) → SameShown (get_or (t ∷ ts) k d) (get_or (u ∷ us) k d)
  at zero d lt = here
  at (suc k) d lt = rest.each k d (omega arith)

pub waiting_out : (ts : List FedTrack) (i : ℕ) → SameOut ts (changed_at ts i (with_waiting true))
waiting_out [] i = same_out []
waiting_out (t ∷ ts) zero = more_same t (with_waiting true t) ts ts (record { id = refl; shows = refl }) (same_out ts)
waiting_out (t ∷ ts) (suc i) = more_same t t ts (changed_at ts i (with_waiting true)) (record { id = refl; shows = refl }) (waiting_out ts i)

fed_one_out : (ts : List FedTrack) (id : ℕ) (samples : List EncSample) → SameOut ts (change_fed ts id (more_fed samples))
fed_one_out [] id samples = same_out []
fed_one_out (t ∷ ts) id samples = go (eqb t.id id) (fed_one_out ts id samples) where
  go : (b : Bool) → SameOut ts (change_fed ts id (more_fed samples)) → SameOut (t ∷ ts) (if b then more_fed samples t ∷ ts else t ∷ change_fed ts id (more_fed samples))
  go true rest = more_same t (more_fed samples t) ts ts (record { id = refl; shows = refl }) (same_out ts)
  go false rest = more_same t t ts (change_fed ts id (more_fed samples)) (record { id = refl; shows = refl }) rest

pub fed_out : (ts : List FedTrack) (parts : List TrackPart) → SameOut ts (feed_all ts parts)
fed_out ts [] = same_out ts
fed_out ts (p ∷ parts) = then_out ts (feed_one ts p) (feed_all (feed_one ts p) parts) (fed_one_out ts p.track p.samples) (fed_out (feed_one ts p) parts)

pub one_out : (ts : List FedTrack) (i : ℕ) (bytes : List ℕ) → i < length ts → OneOut ts (changed_at ts i (more_out bytes)) i bytes
one_out ts i bytes lt = record {
  length_ = changed_length ts i (more_out bytes);
  others = λ k d le ne. subst (λ (y : FedTrack). SameShown (get_or ts k d) y) (sym (changed_other ts i k (more_out bytes) d ne)) (record { id = refl; shows = refl });
  id = λ d. ap (λ (y : FedTrack). y.id) (changed_here ts i (more_out bytes) d lt);
  more = λ d. ap (λ (y : FedTrack). y.outputs) (changed_here ts i (more_out bytes) d lt);
}

pub resumed_out : (b : Bool) (picks : Picks) (ts us : List FedTrack) → us ≡ (if b then map (resumed_one picks) ts else ts) → SameOut ts us
resumed_out false picks ts us is = rw is (same_out ts)
resumed_out true picks ts us is = rw is (record {
  length_ = length-map ts (resumed_one picks);
  each = λ k d lt. subst (λ (y : FedTrack). SameShown (get_or ts k d) y) (sym (get_or-map (resumed_one picks) ts k d d lt)) (record { id = refl; shows = refl });
})
