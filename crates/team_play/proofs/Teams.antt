-- Passes that are split off for lanes and workers, and joined again.
use Rattle.std.proofs.Common.{◌≡◌, ℕ, ◌+◌, ◌<◌, ◌≤◌, Bool, true, false, if◌then◌else◌, ◌||◌, List, [], ◌∷◌, ◌++◌, Result, Ok, Err, refl, ap, sym, subst, ◌∙◌, arith, Global}
use Rattle.std.specs.Prelude.{IsOk, IfOk, OnOk}
use Rattle.std.specs.List.{list_any}
use Rattle.std.specs.declared.collections.VecDeque.{VecDeque}
use mathlib.Core.List.{IsPrefix}
use Rattle.eme_types.specs.declared.entry.Entry.{Entry}
use Rattle.eme_types.specs.declared.limits.TheConstants.{MAX_LANES}
use Rattle.eme_types.specs.declared.media.Fragment.{Fragment}
use Rattle.eme_types.specs.declared.media.Media.{Media}
use Rattle.script_lang.specs.declared.script.Line.{Line}
use Rattle.cdm_state.specs.History.{world, AtRest, IsLegal}
use Rattle.cdm_state.specs.Run.{Run}
use Rattle.output_order.specs.Lane.{lane, is_of_lane}
use Rattle.book_lock.specs.declared.book.Book.{Ghosts}
use Rattle.book_lock.specs.declared.pass.Pass.{Pass}
use Rattle.book_lock.specs.Places.{times}
use Rattle.book_lock.proofs.Counts.{times-append}
use Rattle.decrypt_workers.specs.Desks.{Placed}
use Rattle.decrypt_workers.specs.Workers.{WorksTo}
use Rattle.decrypt_workers.specs.declared.worker.WorkEnd.{WorkEnd}
use Rattle.shared_cdm.specs.Own.{own_in, AreSeen, entries}
use Rattle.shared_cdm.proofs.Own.{own_beyond}
use Rattle.shared_cdm.specs.Passes.{IsOf, seen, own, own_places, parts, tracks_of, first_of}
use Rattle.shared_cdm.specs.declared.shared.SharedCdm.{SharedCdm}
use Rattle.play_parts.specs.Parts.{HasLed, HasCalled, HasFollowed, LanesIn}
use Rattle.play_parts.specs.Whole.{TeamOver, IsWhole, TeamIsWhole}
use Rattle.play_parts.proofs.Lanes.{lanes_first, lanes_empty, lanes_more}
use Rattle.play_parts.proofs.Crews.{none_own, team_none, team_more}
use Rattle.team_play.specs.Team.{Begins}

-- ---- passes that are split off

module _ {g : Ghosts Run Entry} where
  -- who has lost a part still begins
  pub begins_split : (shared : SharedCdm) (media : Media) (p q : Pass Run Entry g) (left : List Fragment) → IsOf shared q → (seen q ≡ seen p) × (own_places q ≡ own_places p) × (tracks_of q ≡ tracks_of p) × (parts q + 1 ≡ parts p) → Begins shared media p left → Begins shared media q left
  begins_split shared media p q left of kept b = record {
    of = of;
    first = subst (λ (o : List ℕ). 0 < times 0 o) (sym kept.1) b.first;
    none = (ap (λ (o : List ℕ). own_in o (seen q)) kept.1 ∙ ap (own_in (own_places p)) kept.0) ∙ b.none;
    tracks = kept.2 ∙ b.tracks;
    left_ = b.left_;
  }

-- ---- the lanes

pub first_joined : (a b own : List ℕ) → own ≡ a ++ b → times 0 a ≤ times 0 own
first_joined a b own is = subst (λ (o : List ℕ). times 0 a ≤ times 0 o) (sym is) (omega (arith, times-append 0 a b))

no_head : (a b : Bool) → (a || b) ≡ false → (a ≡ false) × (b ≡ false)
no_head true b h = absurd cc
no_head false b h = (refl, h)

-- a lane that no line names
no_line : (i : ℕ) (lines : List Line) → list_any (is_of_lane i) lines ≡ false → lane lines i ≡ []
no_line i [] h = refl
no_line i (l ∷ lines) h =
    let both : (is_of_lane i l ≡ false) × (list_any (is_of_lane i) lines ≡ false) = no_head (is_of_lane i l) (list_any (is_of_lane i) lines) h in
    ap (λ (b : Bool). if b then l ∷ lane lines i else lane lines i) both.0 ∙ no_line i lines both.1

pub lanes_begun : {E : Type 0} (script : List Line) (fragments given : List Fragment) (k : ℕ) (own : List ℕ) (seen : List Entry) (r : Result (VecDeque Fragment Global) E) → k ≡ 0 → given ≡ fragments → IfOk r (λ rest. HasLed script given rest.items (own_in own seen)) → IfOk r (λ rest. LanesIn script fragments rest.items k (own_in own seen))
lanes_begun script fragments given k own seen (Ok rest) zero is led =
    subst (λ (n : ℕ). LanesIn script fragments rest.items n (own_in own seen)) (sym zero) (lanes_first script fragments rest.items (own_in own seen) (subst (λ (fs : List Fragment). HasLed script fs rest.items (own_in own seen)) is led))
lanes_begun script fragments given k own seen (Err e) zero is led = tt

-- a lane without a line starts no thread
pub lanes_passed : {E : Type 0} (script : List Line) (fragments : List Fragment) (k j : ℕ) (own : List ℕ) (seen : List Entry) (r : Result (VecDeque Fragment Global) E) → k ≡ j + 1 → list_any (is_of_lane k) script ≡ false → IfOk r (λ rest. LanesIn script fragments rest.items j (own_in own seen)) → IfOk r (λ rest. LanesIn script fragments rest.items k (own_in own seen))
lanes_passed script fragments k j own seen (Ok rest) next unnamed lanes =
    subst (λ (n : ℕ). LanesIn script fragments rest.items n (own_in own seen)) (sym next) (lanes_empty script fragments rest.items j (own_in own seen) (no_line (j + 1) script (subst (λ (n : ℕ). list_any (is_of_lane n) script ≡ false) next unnamed)) lanes)
lanes_passed script fragments k j own seen (Err e) next unnamed lanes = tt

called_of : {A E : Type 0} (P : Type 0) (r : Result A E) → IsOk r → OnOk r P → P
called_of P (Ok x) ok h = h
called_of P (Err e) ok h = absurd cc

-- a lane more is joined
pub lanes_joined : {A E F : Type 0} (script : List Line) (fragments : List Fragment) (k j : ℕ) (a b own : List ℕ) (s t u : List Entry) (r lined : Result (VecDeque Fragment Global) E) (called : Result A F) → k ≡ j + 1 → k < MAX_LANES → AreSeen a s → AreSeen b t → IsPrefix s u → IsPrefix t u → own ≡ a ++ b → IfOk r (λ rest. (lined ≡ Ok rest) × IsOk called) → IfOk lined (λ rest. LanesIn script fragments rest.items j (own_in a s)) → OnOk called (HasCalled script k (own_in b t)) → IfOk r (λ rest. LanesIn script fragments rest.items k (own_in own u))
lanes_joined {A} {E} script fragments k j a b own s t u (Ok rest) lined called next few below below_b later later_b is both lanes made =
    let below_lane : LanesIn script fragments rest.items j (own_in a s) = subst (λ (l : Result (VecDeque Fragment Global) E). IfOk l (λ x. LanesIn script fragments x.items j (own_in a s))) both.0 lanes in
    let more : LanesIn script fragments rest.items (j + 1) (own_in own u) = lanes_more script fragments rest.items j a b own s t u (omega (arith, next, few)) below below_b later later_b is below_lane (subst (λ (n : ℕ). HasCalled script n (own_in b t)) next (called_of (HasCalled script k (own_in b t)) called both.1 made)) in
    subst (λ (n : ℕ). LanesIn script fragments rest.items n (own_in own u)) (sym next) more
lanes_joined script fragments k j a b own s t u (Err e) lined called next few below below_b later later_b is both lanes made = tt

-- ---- the workers

-- the lanes are over, and no worker is joined yet
pub lanes_over : {A E : Type 0} (script : List Line) (media : Media) (left : List Fragment) (ids a own : List ℕ) (s seen : List Entry) (r : Result A E) → ids ≡ media.tracks → AreSeen own seen → LanesIn script media.fragments left 7 (own_in a s) → OnOk r ((behind : Placed) × (own_in own seen ≡ own_in a s ++ behind) × HasFollowed left [] behind) → OnOk r (AtRest (world ids seen)) → OnOk r (TeamOver script media 0 own seen)
lanes_over script media left ids a own s seen (Ok x) tracks below lanes followed rest =
    team_none script media own seen below (record {
      lines = own_in a s;
      behind = followed.0;
      is = followed.1;
      left = left;
      lanes = lanes;
      follows = followed.2;
      rest = subst (λ (z : List ℕ). AtRest (world z seen)) tracks rest;
    })
lanes_over script media left ids a own s seen (Err e) tracks below lanes followed rest = tt

-- a worker more is joined
pub team_joined : {O S A E : Type 0} (script : List Line) (media : Media) (k j : ℕ) (end : WorkEnd O S) (given before theirs own : List ℕ) (first was had seen : List Entry) (r : Result A E) → k ≡ j + 1 → given ≡ [] → WorksTo k first (own_in given first) had (own_in theirs had) end → AreSeen before was → AreSeen theirs had → own ≡ before ++ theirs → IsPrefix was seen → IsPrefix had seen → OnOk r (TeamOver script media j before was) → OnOk r (TeamOver script media k own seen)
team_joined script media k j end given before theirs own first was had seen (Ok x) next none works below below_theirs is later later_theirs over =
    team_more script media k j end before theirs own was had seen next (record {
      given = given;
      first = first;
      none = none;
      works = works;
      below = below;
      below_theirs = below_theirs;
      is = is;
      later = later;
      later_theirs = later_theirs;
    }) over
team_joined script media k j end given before theirs own first was had seen (Err e) next none works below below_theirs is later later_theirs over = tt

-- ---- the whole

-- all passes are joined, and they own the history
pub all_whole : (script : List Line) (media whole : Media) (k : ℕ) (ids own : List ℕ) (seen h : List Entry) → TeamIsWhole → whole ≡ media → ids ≡ media.tracks → h ≡ seen → IsLegal ids h → TeamOver script whole k own seen → entries (own_in own seen) ≡ seen → IsWhole script media k h
all_whole script media whole k ids own seen h law same tracks is legal over mine =
    law script media k own h (subst (λ (z : List ℕ). IsLegal z h) tracks legal) (subst (λ (m : Media). TeamOver script m k own h) same (subst (λ (s : List Entry). TeamOver script whole k own s) (sym is) over)) (subst (λ (s : List Entry). entries (own_in own s) ≡ s) (sym is) mine)
