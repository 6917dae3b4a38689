-- How far a lane has come.
use Rattle.std.proofs.Common.{◌≡◌, ◌≢◌, ℕ, ◌+◌, ◌<◌, List, [], ◌∷◌, ◌++◌, Some, Ok, length, take, drop, refl, ap, sym, subst, ◌∙◌, append_assoc}
use Rattle.std.specs.Prelude.{slice_get}
use mathlib.Core.List.{IsPrefix}
use Rattle.eme_types.specs.Fed.{IsFed}
use Rattle.eme_types.specs.declared.call.AppCall.{AppCall}
use Rattle.eme_types.specs.declared.media.Fragment.{Fragment}
use Rattle.eme_types.specs.declared.media.Media.{Media}
use Rattle.eme_types.specs.declared.entry.Entry.{Entry}
use Rattle.eme_types.specs.declared.entry.Entry.TheVariants.{Call, Feed, Settle}
use Rattle.script_lang.specs.declared.script.Line.{Line}
use Rattle.script_lang.specs.declared.script.Action.{Action}
use Rattle.script_lang.specs.declared.script.Action.TheVariants.{Ask, Feed as FeedAction, Clock, Evict as EvictAction, Settle as SettleAction}
use Rattle.script_lang.specs.Script.{IsScript}
use Rattle.cdm_state.specs.Run.{Run}
use Rattle.cdm_state.specs.Does.{SettleDoes}
use Rattle.cdm_state.specs.History.{world, AtRest, MayFeedNext}
use Rattle.book_lock.specs.declared.book.Book.{Ghosts}
use Rattle.book_lock.specs.declared.pass.Pass.{Pass}
use Rattle.book_lock.proofs.Fronts.{prefix_self}
use Rattle.decrypt_workers.specs.Desks.{Placed}
use Rattle.decrypt_workers.proofs.Works.{prefix_trans}
use Rattle.shared_cdm.specs.declared.shared.SharedCdm.{SharedCdm}
use Rattle.shared_cdm.specs.Own.{entries}
use Rattle.shared_cdm.specs.Shared.{Shared}
use Rattle.shared_cdm.specs.Passes.{IsOf, seen, own, tracks_of}
use Rattle.play_parts.specs.Asks.{entry_of, left_by}
use Rattle.play_parts.specs.Parts.{AreFed, HasLed, HasCalled, HasFollowed}
use Rattle.play_parts.proofs.Feeding.{may_feed}
use Rattle.play_parts.proofs.Lines.{led_none, led_other, led_line, led_clock, called_none, called_other, called_line}
use Rattle.play_parts.proofs.Behind.{followed_first, followed_more, followed_fed}
use Rattle.team_play.specs.Adds.{AddsOne, Steps, StepsAnd, Settles, MayLead, Stays}
use Rattle.team_play.proofs.Added.{settled_after}
use Rattle.team_play.proofs.Stays.{stays_self, stays_trans}

-- ---- a settle

pub settled_now : {g : Ghosts Run Entry} (shared : SharedCdm) (line : ℕ) (u : Unit {0}) (p q r : Pass Run Entry g) → Stays shared p q → Steps (seen p) (own p) (seen q) (own q) → Shared (SettleDoes line) (tracks_of q) (seen q) (own q) (Ok u) (seen r) (own r) → Settles line (tracks_of p) (seen p) (own p) (seen r) (own r)
settled_now shared line u p q r stays steps x =
    subst (λ (ids : List ℕ). Settles line ids (seen p) (own p) (seen r) (own r)) stays.tracks (settled_after line u (tracks_of q) (seen p) (seen q) (seen r) (own p) (own q) (own r) steps x)

-- ---- a lane other than lane 0

-- the calls of the lane's lines among the first n were made
pub record Calls {g : Ghosts Run Entry} (shared : SharedCdm) (script : List Line) (i n : ℕ) (p q : Pass Run Entry g) : Type 0 where
  pub stays : Stays shared p q
  pub later : IsPrefix (seen p) (seen q)
  pub called : HasCalled (take n script) i (own q)

pub calls_none : {g : Ghosts Run Entry} (shared : SharedCdm) (script : List Line) (i : ℕ) (p : Pass Run Entry g) → IsOf shared p → own p ≡ [] → Calls shared script i 0 p p
calls_none shared script i p of none = record { stays = stays_self shared p of; later = prefix_self (seen p); called = subst (λ (z : Placed). HasCalled [] i z) (sym none) (called_none i) }

pub calls_other : {g : Ghosts Run Entry} (shared : SharedCdm) (script : List Line) (i n : ℕ) (line : Line) (p q : Pass Run Entry g) → slice_get script n ≡ Some line → line.lane ≢ i → Calls shared script i n p q → Calls shared script i (n + 1) p q
calls_other shared script i n line p q at other calls = record { stays = calls.stays; later = calls.later; called = called_other script n i line (own q) at other calls.called }

pub calls_line : {g : Ghosts Run Entry} (shared : SharedCdm) (script : List Line) (i n : ℕ) (line : Line) (call : AppCall) (p q r : Pass Run Entry g) → IsScript script → slice_get script n ≡ Some line → line.lane ≡ i → line.action ≡ Ask call → Calls shared script i n p q → Stays shared q r → AddsOne (Call line.lane line.number call) (seen q) (own q) (seen r) (own r) → Calls shared script i (n + 1) p r
calls_line shared script i n line call p q r s at is asks calls stays adds =
    let here : own r ≡ own q ++ (adds.is.0, Call i line.number call) ∷ [] =
    adds.own ∙ (ap (λ (z : Placed). own q ++ z) adds.is.1 ∙ ap (λ (k : ℕ). own q ++ (adds.is.0, Call k line.number call) ∷ []) is) in record {
      stays = stays_trans shared p q r calls.stays stays;
      later = prefix_trans (seen p) (seen q) (seen r) calls.later adds.later;
      called = subst (λ (z : Placed). HasCalled (take (n + 1) script) i z) (sym here) (called_line script n i line call (own q) adds.is.0 s at is asks calls.called);
    }

-- ---- lane 0

-- lane 0 has gone through the first n lines
pub record Leads {g : Ghosts Run Entry} (shared : SharedCdm) (script : List Line) (n : ℕ) (fragments left : List Fragment) (p q : Pass Run Entry g) : Type 0 where
  pub stays : Stays shared p q
  pub led : HasLed (take n script) fragments left (own q)

pub leads_none : {g : Ghosts Run Entry} (shared : SharedCdm) (script : List Line) (fragments : List Fragment) (p : Pass Run Entry g) → IsOf shared p → own p ≡ [] → Leads shared script 0 fragments fragments p p
leads_none shared script fragments p of none = record { stays = stays_self shared p of; led = subst (λ (z : Placed). HasLed [] fragments fragments z) (sym none) (led_none fragments) }

pub leads_other : {g : Ghosts Run Entry} (shared : SharedCdm) (script : List Line) (n : ℕ) (line : Line) (fragments left : List Fragment) (p q : Pass Run Entry g) → IsScript script → slice_get script n ≡ Some line → line.lane ≢ 0 → Leads shared script n fragments left p q → Leads shared script (n + 1) fragments left p q
leads_other shared script n line fragments left p q s at other leads = record { stays = leads.stays; led = led_other script n line fragments left (own q) s at other leads.led }

pub leads_line : {g : Ghosts Run Entry} (shared : SharedCdm) (script : List Line) (n : ℕ) (line : Line) (fragments left rest : List Fragment) (p q r : Pass Run Entry g) → IsScript script → slice_get script n ≡ Some line → line.lane ≡ 0 → Leads shared script n fragments left p q → Stays shared q r → StepsAnd (entry_of line (slice_get left 0)) (seen q) (own q) (seen r) (own r) → rest ≡ left_by left line.action → Leads shared script (n + 1) fragments rest p r
leads_line shared script n line fragments left rest p q r s at is leads stays goes over = record {
  stays = stays_trans shared p q r leads.stays stays;
  led = subst (λ (fs : List Fragment). HasLed (take (n + 1) script) fragments fs (own r)) (sym over) (subst (λ (z : Placed). HasLed (take (n + 1) script) fragments (left_by left line.action) z) (sym goes.own) (led_line script n line fragments left (own q) goes.steps goes.place s at is goes.are leads.led));
}

-- what the next line needs is there
may_lead_by : (script : List Line) (n : ℕ) (line : Line) (action : Action) (media : Media) (left : List Fragment) (ids : List ℕ) (news : Placed) → IsScript script → slice_get script n ≡ Some line → line.action ≡ action → IsFed media → ids ≡ media.tracks → HasLed (take n script) media.fragments left news → MayLead ids news action (slice_get left 0)
may_lead_by script n line (Ask call) media left ids news s at is valid same led = tt
may_lead_by script n line FeedAction media left ids news s at is valid same led = may_feed media ids left (entries news) valid same led.fed
may_lead_by script n line (Clock moment) media left ids news s at is valid same led = led_clock script n line moment media.fragments left news s at is led
may_lead_by script n line (EvictAction label) media left ids news s at is valid same led = tt
may_lead_by script n line SettleAction media left ids news s at is valid same led = tt

pub may_lead : {g : Ghosts Run Entry} (shared : SharedCdm) (script : List Line) (n : ℕ) (line : Line) (media : Media) (fragments left : List Fragment) (p q : Pass Run Entry g) → IsScript script → slice_get script n ≡ Some line → IsFed media → tracks_of p ≡ media.tracks → fragments ≡ media.fragments → Leads shared script n fragments left p q → MayLead (tracks_of q) (own q) line.action (slice_get left 0)
may_lead shared script n line media fragments left p q s at valid same all leads =
    may_lead_by script n line line.action media left (tracks_of q) (own q) s at refl valid (leads.stays.tracks ∙ same) (subst (λ (fs : List Fragment). HasLed (take n script) fs left (own q)) all leads.led)

-- ---- behind the last line

-- what follows the last line was added, but for the fragments that are left
pub record Follows {g : Ghosts Run Entry} (shared : SharedCdm) (first left : List Fragment) (p q : Pass Run Entry g) : Type 0 where
  pub stays : Stays shared p q
  pub later : IsPrefix (seen p) (seen q)
  pub behind : Placed
  pub own_ : own q ≡ own p ++ behind
  pub followed : HasFollowed first left behind
  pub rest : AtRest (world (tracks_of p) (seen q))

pub follows_first : {g : Ghosts Run Entry} (shared : SharedCdm) (left : List Fragment) (p q : Pass Run Entry g) → Stays shared p q → Settles 0 (tracks_of p) (seen p) (own p) (seen q) (own q) → Follows shared left left p q
follows_first shared left p q stays s = record {
  stays = stays;
  later = s.goes.later;
  behind = s.goes.steps ++ (s.goes.place, Settle 0) ∷ [];
  own_ = s.goes.own;
  followed = followed_first left s.goes.steps s.goes.place s.goes.are;
  rest = s.rest;
}

pub follows_more : {g : Ghosts Run Entry} (shared : SharedCdm) (first left rest : List Fragment) (p q r t : Pass Run Entry g) → 0 < length left → Follows shared first left p q → Stays shared q r → AddsOne (Feed 0 (slice_get left 0)) (seen q) (own q) (seen r) (own r) → Stays shared r t → Settles 0 (tracks_of r) (seen r) (own r) (seen t) (own t) → rest ≡ drop 1 left → Follows shared first rest p t
follows_more shared first left rest p q r t some f a adds b s over =
    let steps : Placed = s.goes.steps ++ (s.goes.place, Settle 0) ∷ [] in
    let fed : Placed = (adds.is.0, Feed 0 (slice_get left 0)) ∷ [] in
    let own_r : own r ≡ own p ++ (f.behind ++ fed) = adds.own ∙ (ap (λ (z : Placed). own q ++ z) adds.is.1 ∙ (ap (λ (z : Placed). z ++ fed) f.own_ ∙ append_assoc (own p) f.behind fed)) in
    let tracks : tracks_of r ≡ tracks_of p = a.tracks ∙ f.stays.tracks in record {
      stays = stays_trans shared p r t (stays_trans shared p q r f.stays a) b;
      later = prefix_trans (seen p) (seen q) (seen t) f.later (prefix_trans (seen q) (seen r) (seen t) adds.later s.goes.later);
      behind = (f.behind ++ fed) ++ steps;
      own_ = s.goes.own ∙ (ap (λ (z : Placed). z ++ steps) own_r ∙ append_assoc (own p) (f.behind ++ fed) steps);
      followed = subst (λ (fs : List Fragment). HasFollowed first fs ((f.behind ++ fed) ++ steps)) (sym over) (followed_more first left f.behind s.goes.steps adds.is.0 s.goes.place some s.goes.are f.followed);
      rest = subst (λ (ids : List ℕ). AtRest (world ids (seen t))) tracks s.rest;
    }

-- the next fragment may be fed
pub may_follow : {g : Ghosts Run Entry} (shared : SharedCdm) (media : Media) (first left : List Fragment) (p q : Pass Run Entry g) → IsFed media → tracks_of p ≡ media.tracks → AreFed media.fragments first (entries (own p)) → Follows shared first left p q → MayFeedNext (tracks_of q) (entries (own q)) (slice_get left 0)
may_follow shared media first left p q valid same fed f =
    may_feed media (tracks_of q) left (entries (own q)) valid (f.stays.tracks ∙ same) (subst (λ (z : Placed). AreFed media.fragments left (entries z)) (sym f.own_) (followed_fed media.fragments first left (own p) f.behind fed f.followed))
