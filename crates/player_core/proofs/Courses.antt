-- A play, one line on, and what follows the last line.
use Rattle.std.proofs.Common.{zero, suc, ◌≡◌, ◌≢◌, ℕ, ◌+◌, ◌≤◌, ◌<◌, IsTrue, List, [], ◌∷◌, ◌++◌, Option, Some, length, take, drop, slice_get, refl, ap, ◌∙◌, sym, subst, append-nil, append_assoc, arith}
use Rattle.std.specs.List.{fold, AllByRecursion}
use Rattle.std.specs.Prelude.{nat_le}
use Rattle.std.proofs.lemmas.Bool.{leb-true, ltb-true}
use Rattle.std.proofs.lemmas.List.{take_all}
use Rattle.std.proofs.lemmas.List.Sums.{fold-append}
use Rattle.eme_types.specs.declared.media.Fragment.{Fragment}
use Rattle.eme_types.specs.declared.media.Media.{Media}
use Rattle.eme_types.specs.declared.entry.Entry.{Entry}
use Rattle.eme_types.specs.declared.entry.Entry.TheVariants.{Call, Job, Task, Tick, Feed, Evict, Claim, Deliver, GiveUp, Publish, PassClear, WaitForKey, Settle}
use Rattle.eme_types.specs.declared.limits.TheConstants.{MAX_LANES, MAX_MOMENT}
use Rattle.eme_types.specs.Fed.{IsFed, are_distinct}
use Rattle.script_lang.specs.declared.script.Line.{Line}
use Rattle.script_lang.specs.declared.script.Action.{Action}
use Rattle.script_lang.specs.declared.script.Action.TheVariants.{Ask, Feed as FeedAction, Clock, Evict as EvictAction, Settle as SettleAction}
use Rattle.script_lang.specs.Script.{IsScript, lane_fits, moment_fits, moment_after}
use Rattle.cdm_state.specs.Run.{Run}
use Rattle.cdm_state.specs.History.{world, IsLegal, AtRest, MayFeedNext}
use Rattle.cdm_state.specs.Law.{MomentIsOfLastTick}
use Rattle.cdm_state.specs.Moment.{tick_to}
use Rattle.cdm_state.specs.Progress.{NoneWaits}
use Rattle.output_order.specs.Lane.{lines_in, lane, asked_in, feeds_in}
use Rattle.output_order.specs.Complete.{IsOfLine, feed_rest, implied, IsComplete}
use Rattle.output_order.specs.Staffed.{NamesWorker, times_given_up, IsStaffed}
use Rattle.output_order.proofs.Sizes.{taken_more, some_same}
use Rattle.player_core.specs.Alone.{AreInTurn, IsAlone}
use Rattle.play_parts.specs.Asks.{entry_for, entry_of, IsOfLanes, left_by, moment_by, moment_of}
use Rattle.play_parts.proofs.Reading.{all_append, both_true, feeds_asked}
use Rattle.play_parts.proofs.Complete.{lanes_lane, none_left}
use Rattle.play_parts.proofs.Scripts.{number_above_0, lane_fits_at, moment_fits_at, line_back, asked_back, above_back}
use Rattle.player_core.specs.Course.{Goes, Settles, MayGo, HasFed, HasGone, HasFollowed}
use Rattle.player_core.proofs.Added.{lines_added, asked_added, ticks_added, no_times_given_up}
use Rattle.player_core.proofs.Feeding.{fed_kept, fed_more, may_feed}

all_at : {X : Type 0} (P : X → Type 0) (xs : List X) (n : ℕ) (x : X) → AllByRecursion P xs → slice_get xs n ≡ Some x → P x
all_at P [] n x all at = absurd cc
all_at P (y ∷ xs) zero x all at = subst P (some_same at) all.0
all_at P (y ∷ xs) (suc n) x all at = all_at P xs n x all.1 at

ticks_back : (last number lane : ℕ) (action : Action) (given : Option Fragment) → tick_to last (entry_for number lane action given) ≡ moment_after last action
ticks_back last number lane (Ask call) given = refl
ticks_back last number lane FeedAction given = refl
ticks_back last number lane (Clock moment) given = refl
ticks_back last number lane (EvictAction label) given = refl
ticks_back last number lane SettleAction given = refl

fed_back : (media : Media) (left : List Fragment) (old new : Run) (number lane : ℕ) (action : Action) → IsTrue (lane_fits lane action) → Goes old new (entry_for number lane action (slice_get left 0)) → HasFed media left old → HasFed media (left_by left action) new
fed_back media left old new number lane (Ask call) fits g fed = fed_kept media left old new (Call lane number call) g refl refl refl refl (ltb-true lane MAX_LANES fits) fed
fed_back media left old new number lane FeedAction fits g fed = fed_more media left old new number g fed
fed_back media left old new number lane (Clock moment) fits g fed = fed_kept media left old new (Tick number moment) g refl refl refl refl tt fed
fed_back media left old new number lane (EvictAction label) fits g fed = fed_kept media left old new (Evict number label) g refl refl refl refl tt fed
fed_back media left old new number lane SettleAction fits g fed = fed_kept media left old new (Settle number) g refl refl refl refl tt fed

-- the tracks of a play are distinct
pub fed_distinct : (media : Media) (left : List Fragment) (r : Run) → HasFed media left r → IsTrue (are_distinct r.tracks)
fed_distinct media left r fed = ap are_distinct fed.tracks ∙ fed.valid.distinct

may_do : (r : Run) (now : ℕ) (action : Action) (given : Option Fragment) → MayFeedNext r.tracks r.history given → NoneWaits r.history → IsTrue (are_distinct r.tracks) → (world r.tracks r.history).machine.moment ≡ now → IsTrue (moment_fits now action) → MayGo r action given
may_do r now (Ask call) given may none distinct is fits = tt
may_do r now FeedAction given may none distinct is fits = may
may_do r now (Clock moment) given may none distinct is fits = subst (λ n. n ≤ moment) (sym is) (leb-true now moment (both_true (nat_le now moment) (nat_le moment MAX_MOMENT) fits).0)
may_do r now (EvictAction label) given may none distinct is fits = tt
may_do r now SettleAction given may none distinct is fits = (none, distinct)

-- what the next line needs is there
pub may_go : (script : List Line) (media : Media) (n : ℕ) (left : List Fragment) (r : Run) (line : Line) → MomentIsOfLastTick → IsScript script → slice_get script n ≡ Some line → HasGone script media n left r → MayGo r line.action (slice_get left 0)
may_go script media n left r line law s at gone =
    may_do r (moment_of (take n script)) line.action (slice_get left 0) (may_feed media left r gone.fed) gone.fed.delivered (fed_distinct media left r gone.fed) (law r.tracks r.history ∙ gone.moment) (moment_fits_at script n line s at)

-- one line on
pub gone_more : (script : List Line) (media : Media) (n : ℕ) (left : List Fragment) (old new : Run) (line : Line) → IsScript script → slice_get script n ≡ Some line → Goes old new (entry_of line (slice_get left 0)) → HasGone script media n left old → HasGone script media (n + 1) (left_by left line.action) new
gone_more script media n left old new line s at g gone =
    let given : Option Fragment = slice_get left 0 in
    let e : Entry = entry_of line given in
    let above : line.number ≢ 0 = number_above_0 script n line s at in
    let fits : IsTrue (lane_fits line.lane line.action) = lane_fits_at script n line s at in
    let more : take (n + 1) script ≡ take n script ++ line ∷ [] = taken_more script n line at in
    record {
      fed = fed_back media left old new line.number line.lane line.action fits g gone.fed;
      lines = lines_added old new e g ∙ (ap (λ xs. lines_in old.history ++ xs) (line_back line.number line.lane line.action given above fits) ∙ (ap (λ xs. xs ++ line ∷ []) gone.lines ∙ sym more));
      above = subst (λ xs. AllByRecursion IsOfLine xs) (sym (asked_added old new e g ∙ ap (λ xs. asked_in old.history ++ xs) (asked_back line.number line.lane line.action given))) (all_append IsOfLine (asked_in old.history) (e ∷ []) gone.above (above_back line.number line.lane line.action given above, tt));
      moment = ticks_added old new e g ∙ (ticks_back (fold tick_to 0 old.history) line.number line.lane line.action given ∙ (ap (λ last. moment_after last line.action) gone.moment ∙ sym (ap moment_of more ∙ fold-append moment_by 0 (take n script) (line ∷ []))));
    }

-- nothing is done yet
pub gone_none : (script : List Line) (media : Media) (left : List Fragment) (r : Run) → IsFed media → left ≡ media.fragments → r ≡ record { tracks = media.tracks; history = [] } → HasGone script media 0 left r
gone_none script media left r valid all is =
    let start : Run = record { tracks = media.tracks; history = [] } in
    let begun : HasGone script media 0 media.fragments start = record {
      fed = record {
        valid = valid;
        tracks = refl;
        feeds = λ k given at. absurd cc;
        left_ = refl;
        samples = omega arith;
        bytes = omega arith;
        alone = tt;
        delivered = λ place u. (let at = u.at.1 in absurd cc);
        turns = record { each = λ n e at. absurd cc };
        last = λ e at. (let there = at.1 in absurd cc);
      };
      lines = refl;
      above = tt;
      moment = refl;
    } in
    subst (λ fs. HasGone script media 0 fs r) (sym all) (subst (λ s. HasGone script media 0 media.fragments s) (sym is) begun)

-- the settle behind the last line
pub followed_first : (script : List Line) (media : Media) (left : List Fragment) (old new : Run) → Settles old new 0 → HasGone script media (length script) left old → HasFollowed script media left new
followed_first script media left old new s gone =
    let g : Goes old new (Settle 0) = s.goes in
    let before : List Entry = asked_in old.history in
    let many : length (feeds_in before) ≡ length (feeds_in old.history) = ap length (feeds_asked old.history) in
    let same : drop (length (feeds_in before)) media.fragments ≡ left = ap (λ n. drop n media.fragments) many ∙ gone.fed.left_ in
    record {
      fed = fed_kept media left old new (Settle 0) g refl refl refl refl tt gone.fed;
      lines = lines_added old new (Settle 0) g ∙ (append-nil (lines_in old.history) ∙ (gone.lines ∙ take_all (length script) script (let le : length script ≤ length script = omega arith in le)));
      before = before;
      above = gone.above;
      follows = ap (λ xs. xs ++ feed_rest left) (asked_added old new (Settle 0) g) ∙ (append_assoc before (Settle 0 ∷ []) (feed_rest left) ∙ ap (λ fs. before ++ implied fs) (sym same));
      rest = s.rest;
    }

two_more : (asked_old asked_mid asked_new left : List Entry) (f s : Entry) → asked_mid ≡ asked_old ++ f ∷ [] → asked_new ≡ asked_mid ++ s ∷ [] → asked_new ++ left ≡ asked_old ++ f ∷ (s ∷ left)
two_more asked_old asked_mid asked_new left f s mid new =
    ap (λ xs. xs ++ left) (new ∙ (ap (λ xs. xs ++ s ∷ []) mid ∙ append_assoc asked_old (f ∷ []) (s ∷ []))) ∙ append_assoc asked_old (f ∷ (s ∷ [])) left

followed_next : (script : List Line) (media : Media) (f : Fragment) (left : List Fragment) (old mid new : Run) → Goes old mid (Feed 0 (Some f)) → Settles mid new 0 → HasFollowed script media (f ∷ left) old → HasFollowed script media left new
followed_next script media f left old mid new g s followed =
    let fed : HasFed media left mid = fed_more media (f ∷ left) old mid 0 g followed.fed in
    record {
      fed = fed_kept media left mid new (Settle 0) s.goes refl refl refl refl tt fed;
      lines = lines_added mid new (Settle 0) s.goes ∙ (append-nil (lines_in mid.history) ∙ (lines_added old mid (Feed 0 (Some f)) g ∙ (append-nil (lines_in old.history) ∙ followed.lines)));
      before = followed.before;
      above = followed.above;
      follows = two_more (asked_in old.history) (asked_in mid.history) (asked_in new.history) (feed_rest left) (Feed 0 (Some f)) (Settle 0) (asked_added old mid (Feed 0 (Some f)) g) (asked_added mid new (Settle 0) s.goes) ∙ followed.follows;
      rest = s.rest;
    }

-- one fragment more, and its settle
pub followed_more : (script : List Line) (media : Media) (left : List Fragment) (old mid new : Run) → 0 < length left → Goes old mid (Feed 0 (slice_get left 0)) → Settles mid new 0 → HasFollowed script media left old → HasFollowed script media (drop 1 left) new
followed_more script media [] old mid new some g s followed = absurd (omega (arith, some))
followed_more script media (f ∷ left) old mid new some g s followed = followed_next script media f left old mid new g s followed

alone_worker : (e : Entry) → IsOfLanes e → NamesWorker 0 e
alone_worker (Call lane line call) a = tt
alone_worker Job a = tt
alone_worker Task a = tt
alone_worker (Tick line moment) a = tt
alone_worker (Feed line fragment) a = tt
alone_worker (Evict line label) a = tt
alone_worker (Claim worker track index session kid) a = omega (arith, a)
alone_worker (Deliver place verdict) a = tt
alone_worker (GiveUp place) a = tt
alone_worker (Publish track index place) a = tt
alone_worker (PassClear track index) a = tt
alone_worker (WaitForKey track) a = tt
alone_worker (Settle line) a = tt

-- with no fragment left the history is complete
pub is_complete : (script : List Line) (media : Media) (r : Run) → HasFollowed script media [] r → IsComplete script media r.history
is_complete script media r followed = record {
  lanes = λ i few. ap (λ lines. lane lines i) followed.lines;
  known = λ n e at. lanes_lane e (all_at IsOfLanes r.history n e followed.fed.alone at);
  feeds = record { each = followed.fed.feeds; all = none_left (length (feeds_in r.history)) media.fragments followed.fed.left_ };
  implied = record { lines = followed.before; above = followed.above; is = sym (append-nil (asked_in r.history)) ∙ followed.follows };
  rest = subst (λ ids. AtRest (world ids r.history)) followed.fed.tracks followed.rest;
}

-- and it is that of the alone order
pub is_alone : (script : List Line) (media : Media) (r : Run) → IsLegal r.tracks r.history → HasFollowed script media [] r → IsAlone script media r.history
is_alone script media r legal followed = record {
  legal = subst (λ ids. IsLegal ids r.history) followed.fed.tracks legal;
  complete = is_complete script media r followed;
  order = followed.lines;
  turns = subst (λ ids. AreInTurn ids r.history) followed.fed.tracks followed.fed.turns;
  last = followed.fed.last;
}

-- and one thread has made it
pub is_staffed : (r : Run) → AllByRecursion IsOfLanes r.history → IsStaffed 0 r.history
is_staffed r alone = record {
  named = λ n e at. alone_worker e (all_at IsOfLanes r.history n e alone at);
  none_of_0 = no_times_given_up r.history 0 r.history alone;
  one_each = λ worker. let none : times_given_up r.history worker ≡ 0 = no_times_given_up r.history worker r.history alone in omega (arith, none);
}
