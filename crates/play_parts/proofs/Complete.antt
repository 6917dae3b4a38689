-- A play that is over has a complete history.
use Rattle.std.proofs.Common.{◌≡◌, ℕ, ◌≤◌, List, [], ◌∷◌, ◌++◌, length, drop, refl, ap, sym, subst, ◌∙◌, arith, append-nil}
use Rattle.std.specs.List.{flat_map}
use Rattle.std.proofs.lemmas.List.{length-drop}
use Rattle.eme_types.specs.declared.media.Fragment.{Fragment}
use Rattle.eme_types.specs.declared.media.Media.{Media}
use Rattle.eme_types.specs.declared.entry.Entry.{Entry}
use Rattle.eme_types.specs.declared.entry.Entry.TheVariants.{Call, Tick, Feed, Evict, Settle}
use Rattle.script_lang.specs.declared.script.Line.{Line}
use Rattle.cdm_state.specs.History.{world, IsLegal, AtRest}
use Rattle.output_order.specs.Lane.{lines_in, lane, asked, asked_in, fed_by, feeds_in}
use Rattle.output_order.specs.Complete.{HasLane, FeedsDone, feed_rest, implied, IsComplete}
use Rattle.shared_cdm.specs.Own.{own_in, entries}
use Rattle.play_parts.specs.Asks.{IsOfLanes}
use Rattle.play_parts.specs.Parts.{AreFed}
use Rattle.play_parts.specs.Crew.{IsOfCrew}
use Rattle.play_parts.specs.Whole.{TeamOver}
use Rattle.play_parts.proofs.Reading.{flat_both, line_at, lane_flat, lines_asked, feeds_asked}
use Rattle.play_parts.proofs.Feeding.{fed_same}
use Rattle.play_parts.proofs.Behind.{followed_fed}
use Rattle.play_parts.proofs.Tail.{stays_at_rest}
use Rattle.play_parts.proofs.Team.{of_either, read, crew_behind}

-- ---- workers make no line's entry

crew_line : (k i : ℕ) (e : Entry) → IsOfCrew k e → line_at i e ≡ []
crew_line k i (Call lane line call) w = absurd w
crew_line k i (Tick line moment) w = absurd w
crew_line k i (Feed line fragment) w = absurd w
crew_line k i (Evict line label) w = absurd w
crew_line k i (Settle line) w = absurd w
crew_line k i e w = refl

crew_asked : (k : ℕ) (e : Entry) → IsOfCrew k e → asked e ≡ []
crew_asked k (Call lane line call) w = absurd w
crew_asked k (Tick line moment) w = absurd w
crew_asked k (Feed line fragment) w = absurd w
crew_asked k (Evict line label) w = absurd w
crew_asked k (Settle line) w = absurd w
crew_asked k e w = refl

crew_fed : (k : ℕ) (e : Entry) → IsOfCrew k e → fed_by e ≡ []
crew_fed k (Feed line fragment) w = absurd w
crew_fed k e w = refl

crew_lane : (k : ℕ) (e : Entry) → IsOfCrew k e → HasLane e
crew_lane k (Call lane line call) w = absurd w
crew_lane k e w = tt

pub lanes_lane : (e : Entry) → IsOfLanes e → HasLane e
lanes_lane (Call lane line call) w = w
lanes_lane e w = tt

-- ---- nor does what follows the last line

rest_lines : (left : List Fragment) → lines_in (feed_rest left) ≡ []
rest_lines [] = refl
rest_lines (f ∷ left) = rest_lines left

asked_behind : (first : List Fragment) (es : List Entry) → asked_in es ++ feed_rest [] ≡ implied first → asked_in es ≡ implied first
asked_behind first es is = sym (append-nil (asked_in es)) ∙ is

lines_behind : (first : List Fragment) (es : List Entry) → asked_in es ≡ implied first → lines_in es ≡ []
lines_behind first es is = sym (lines_asked es) ∙ (ap lines_in is ∙ rest_lines first)

pub none_left : {A : Type 0} (n : ℕ) (xs : List A) → drop n xs ≡ [] → length xs ≤ n
none_left n xs is = let many = length-drop n xs in let none = ap length is in omega (arith, many, none)

done_feeds : (fragments : List Fragment) (h : List Entry) → AreFed fragments [] h → FeedsDone fragments h
done_feeds fragments h fed = record { each = fed.each; all = none_left (length (feeds_in h)) fragments fed.left_ }

pub is_complete : (script : List Line) (media : Media) (k : ℕ) (own : List ℕ) (h : List Entry) → IsLegal media.tracks h → TeamOver script media k own h → entries (own_in own h) ≡ h → IsComplete script media h
is_complete script media k own h legal team whole =
    let over = team.lanes in
    let lines : List Entry = entries over.lines in
    let behind : List Entry = entries over.behind in
    let follows : asked_in behind ≡ implied over.left = asked_behind over.left behind over.follows.asked_ in
    let no_lines : lines_in behind ≡ [] = lines_behind over.left behind follows in
    let same : feeds_in h ≡ feeds_in (entries (over.lines ++ over.behind)) = read script media k own h team whole fed_by (crew_fed k) ∙ sym (flat_both fed_by over.lines over.behind) in
    let next : drop (length (feeds_in (asked_in lines))) media.fragments ≡ over.left = ap (λ (n : ℕ). drop n media.fragments) (ap length (feeds_asked lines)) ∙ over.lanes.fed.left_ in
    let rested : AtRest (world media.tracks (team.before ++ team.later.0)) = stays_at_rest media.tracks k team.before team.later.0 (subst (IsLegal media.tracks) (sym team.later.1) legal) over.rest (crew_behind script media k own h team whole) in
    record {
      lanes = λ i lt. lane_flat i h ∙ (read script media k own h team whole (line_at i) (crew_line k i) ∙ (ap (λ (xs : List Line). flat_map (line_at i) lines ++ xs) (sym (lane_flat i behind) ∙ ap (λ (ls : List Line). lane ls i) no_lines) ∙ (append-nil (flat_map (line_at i) lines) ∙ (sym (lane_flat i lines) ∙ over.lanes.done i (omega (arith, lt))))));
      known = of_either script media k own h team whole HasLane lanes_lane (crew_lane k);
      feeds = done_feeds media.fragments h (fed_same media.fragments [] (entries (over.lines ++ over.behind)) h same (followed_fed media.fragments over.left [] over.lines over.behind over.lanes.fed over.follows));
      implied = record {
        lines = asked_in lines;
        above = over.lanes.above;
        is = read script media k own h team whole asked (crew_asked k) ∙ (ap (λ (xs : List Entry). asked_in lines ++ xs) follows ∙ ap (λ (xs : List Fragment). asked_in lines ++ implied xs) (sym next));
      };
      rest = subst (λ (g : List Entry). AtRest (world media.tracks g)) team.later.1 rested;
    }
