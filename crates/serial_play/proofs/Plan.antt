-- What the lines of a script ask, and what is implied behind them: of a complete history of a paced script, all of it, in order.
use Rattle.std.proofs.Common.{zero, suc, ◌≡◌, ◌≢◌, ◌⊎◌, inl, inr, ℕ, ◌+◌, ◌<◌, Bool, true, false, List, [], ◌∷◌, ◌++◌, Option, Some, length, drop, slice_get, refl, ap, ◌∙◌, sym, subst, append-nil, arith, eq-eqb, ne_eqb, lit<}
use Rattle.std.specs.Prelude.{◌==◌, if◌then◌else◌}
use Rattle.std.specs.List.{filter, flat_map, AllByRecursion}
use Rattle.std.proofs.lemmas.Bool.{eqb-true}
use Rattle.std.proofs.lemmas.Bool.Decides.{eqb_tells}
use Rattle.std.proofs.lemmas.List.Concat.{flat_map-append}
use Rattle.eme_types.specs.declared.limits.TheConstants.{MAX_LANES}
use Rattle.eme_types.specs.declared.media.Fragment.{Fragment}
use Rattle.eme_types.specs.declared.media.Media.{Media}
use Rattle.eme_types.specs.declared.entry.Entry.{Entry}
use Rattle.eme_types.specs.declared.entry.Entry.TheVariants.{Call, Job, Task, Tick, Feed, Evict, Claim, Deliver, GiveUp, Publish, PassClear, WaitForKey, Settle}
use Rattle.script_lang.specs.declared.script.Line.{Line}
use Rattle.script_lang.specs.declared.script.Action.{Action}
use Rattle.script_lang.specs.declared.script.Action.TheVariants.{Ask, Feed as FeedAction, Clock, Evict as EvictAction, Settle as SettleAction}
use Rattle.script_lang.specs.Paced.{IsPaced}
use Rattle.cdm_world.proofs.ItemsAt.{get_left}
use Rattle.output_order.specs.Lane.{line_of, lines_in, is_of_lane, lane, line_with, fed_by, asked_in}
use Rattle.output_order.specs.Complete.{IsOfLine, HasLane, LanesDone, LanesKnown, feed_rest, implied, IsComplete}
use Rattle.play_parts.specs.Asks.{entry_of, left_by}
use Rattle.play_parts.proofs.Reading.{all_append, lines_asked, feeds_asked}
use Rattle.play_parts.proofs.Scripts.{line_as, line_above}

-- ---- the plan of a script

-- the entries of these lines, where these fragments are not fed yet, and then what is implied
abbrev pub plan_from : List Fragment → List Line → List Entry
plan_from left [] = implied left
plan_from left (line ∷ more) = entry_of line (slice_get left 0) ∷ plan_from (left_by left line.action) more

-- what is implied is no line's
rest_lines : (left : List Fragment) → flat_map line_of (feed_rest left) ≡ []
rest_lines [] = refl
rest_lines (f ∷ left) = rest_lines left

drop_first : {A : Type 0} (n : ℕ) (xs : List A) → drop n (drop 1 xs) ≡ drop (suc n) xs
drop_first zero [] = refl
drop_first (suc n) [] = refl
drop_first n (x ∷ xs) = refl

get_second : {A : Type 0} (xs : List A) (n : ℕ) → slice_get xs (suc n) ≡ slice_get (drop 1 xs) n
get_second [] n = refl
get_second (x ∷ xs) n = refl

-- feeds give these fragments in order, and none past the last
abbrev FeedsFrom : List Fragment → List Entry → Type 0
FeedsFrom left es = (j : ℕ) (given : Option Fragment) → slice_get (flat_map fed_by es) j ≡ Some given → given ≡ slice_get left j

-- what follows the entries of these lines
abbrev behind : List Fragment → List Entry → List Entry
behind left es = implied (drop (length (flat_map fed_by es)) left)

first_of_plan : (left : List Fragment) (e : Entry) (rest : List Entry) (l : Line) (more : List Line) → line_of e ≡ l ∷ [] → entry_of l (slice_get left 0) ≡ e → rest ≡ plan_from (left_by left l.action) more → e ∷ rest ≡ plan_from left (line_of e ++ more)
first_of_plan left e rest l more line entry later =
    ap (λ (x : Entry). x ∷ rest) (sym entry) ∙ (ap (λ (es : List Entry). entry_of l (slice_get left 0) ∷ es) later ∙ sym (ap (λ (ls : List Line). plan_from left (ls ++ more)) line))

-- entries of lines, with what follows them, are the plan of their lines
planned : (left : List Fragment) (es : List Entry) → AllByRecursion IsOfLine es → FeedsFrom left es → es ++ behind left es ≡ plan_from left (flat_map line_of es)
planned left [] all feeds = refl
planned left (Call lane line call ∷ es) all feeds =
    first_of_plan left (Call lane line call) (es ++ behind left es) (line_as line lane (Ask call)) (flat_map line_of es) (line_above line lane (Ask call) all.0) refl (planned left es all.1 feeds)
planned left (Job ∷ es) all feeds = absurd all.0
planned left (Task ∷ es) all feeds = absurd all.0
planned left (Tick line moment ∷ es) all feeds =
    first_of_plan left (Tick line moment) (es ++ behind left es) (line_as line 0 (Clock moment)) (flat_map line_of es) (line_above line 0 (Clock moment) all.0) refl (planned left es all.1 feeds)
planned left (Feed line fragment ∷ es) all feeds =
    let here : fragment ≡ slice_get left 0 = feeds 0 fragment refl in
    let later : es ++ behind (drop 1 left) es ≡ plan_from (drop 1 left) (flat_map line_of es) = planned (drop 1 left) es all.1 (λ j given at. feeds (suc j) given at ∙ get_second left j) in
    let end : behind left (Feed line fragment ∷ es) ≡ behind (drop 1 left) es = ap implied (sym (drop_first (length (flat_map fed_by es)) left)) in
    first_of_plan left (Feed line fragment) (es ++ behind left (Feed line fragment ∷ es)) (line_as line 0 FeedAction) (flat_map line_of es) (line_above line 0 FeedAction all.0) (ap (λ (given : Option Fragment). Feed line given) (sym here)) (ap (λ (xs : List Entry). es ++ xs) end ∙ later)
planned left (Evict line label ∷ es) all feeds =
    first_of_plan left (Evict line label) (es ++ behind left es) (line_as line 0 (EvictAction label)) (flat_map line_of es) (line_above line 0 (EvictAction label) all.0) refl (planned left es all.1 feeds)
planned left (Claim worker track index session kid ∷ es) all feeds = absurd all.0
planned left (Deliver place verdict ∷ es) all feeds = absurd all.0
planned left (GiveUp place ∷ es) all feeds = absurd all.0
planned left (Publish track index place ∷ es) all feeds = absurd all.0
planned left (PassClear track index ∷ es) all feeds = absurd all.0
planned left (WaitForKey track ∷ es) all feeds = absurd all.0
planned left (Settle line ∷ es) all feeds =
    first_of_plan left (Settle line) (es ++ behind left es) (line_as line 0 SettleAction) (flat_map line_of es) (line_above line 0 SettleAction all.0) refl (planned left es all.1 feeds)

-- a complete history that goes through the lines of the script in order asks what the script plans
pub asked_in_order : (script : List Line) (media : Media) (h : List Entry) → IsComplete script media h → lines_in h ≡ script → asked_in h ≡ plan_from media.fragments script
asked_in_order script media h complete order =
    let done = complete.implied in
    let left : List Entry = behind media.fragments done.lines in
    let feeds : flat_map fed_by h ≡ flat_map fed_by done.lines ++ flat_map fed_by left = sym (feeds_asked h) ∙ (ap (flat_map fed_by) done.is ∙ flat_map-append fed_by done.lines left) in
    let none : flat_map line_of left ≡ [] = rest_lines (drop (length (flat_map fed_by done.lines)) media.fragments) in
    let lines : flat_map line_of done.lines ≡ script = sym (append-nil (flat_map line_of done.lines)) ∙ (ap (λ (xs : List Line). flat_map line_of done.lines ++ xs) (sym none) ∙ (sym (flat_map-append line_of done.lines left) ∙ (sym (ap (flat_map line_of) done.is) ∙ (lines_asked h ∙ order)))) in
    let from : FeedsFrom media.fragments done.lines = λ j given at. complete.feeds.each j given (ap (λ (xs : List (Option Fragment)). slice_get xs j) feeds ∙ get_left (flat_map fed_by done.lines) (flat_map fed_by left) j given at) in
    done.is ∙ (planned media.fragments done.lines done.above from ∙ ap (plan_from media.fragments) lines)

-- ---- one lane

lane_all : (script : List Line) → ((n : ℕ) (line : Line) → slice_get script n ≡ Some line → line.lane ≡ 0) → lane script 0 ≡ script
lane_all [] all = refl
lane_all (l ∷ ls) all =
    ap (λ (b : Bool). if b then l ∷ lane ls 0 else lane ls 0) (eq-eqb l.lane 0 (all 0 l refl)) ∙ ap (λ (xs : List Line). l ∷ xs) (lane_all ls (λ n line at. all (suc n) line at))

lane_none : (script : List Line) (i : ℕ) → i ≢ 0 → ((n : ℕ) (line : Line) → slice_get script n ≡ Some line → line.lane ≡ 0) → lane script i ≡ []
lane_none [] i other all = refl
lane_none (l ∷ ls) i other all =
    ap (λ (b : Bool). if b then l ∷ lane ls i else lane ls i) (ne_eqb l.lane i (λ is. other (sym is ∙ all 0 l refl))) ∙ lane_none ls i other (λ n line at. all (suc n) line at)

-- lines of lanes that there are
abbrev OfLanes : List Line → Type 0
OfLanes lines = AllByRecursion (λ (l : Line). l.lane < MAX_LANES) lines

none_behind : (l : Line) (ls : List Line) (i : ℕ) (b : Bool) → (if b then l ∷ lane ls i else lane ls i) ≡ [] → lane ls i ≡ []
none_behind l ls i true is = absurd cc
none_behind l ls i false is = is

none_here : (l : Line) (ls : List Line) (i : ℕ) (b : Bool) → (if b then l ∷ lane ls i else lane ls i) ≡ [] → b ≡ false
none_here l ls i true is = absurd cc
none_here l ls i false is = refl

-- where the lanes but lane 0 have no line, all lines are of lane 0
all_of_lane_0 : (lines : List Line) → OfLanes lines → ((i : ℕ) → i < MAX_LANES → i ≢ 0 → lane lines i ≡ []) → lane lines 0 ≡ lines
all_of_lane_0 [] known none = refl
all_of_lane_0 (l ∷ ls) known none = elim (eqb_tells l.lane 0) [
  | inl is ↦ ap (λ (b : Bool). if b then l ∷ lane ls 0 else lane ls 0) is.0 ∙ ap (λ (xs : List Line). l ∷ xs) (all_of_lane_0 ls known.1 (λ i lt other. none_behind l ls i (l.lane == i) (none i lt other)))
  | inr other ↦ absurd (let never : (l.lane == l.lane) ≡ false = none_here l ls l.lane (l.lane == l.lane) (none l.lane known.0 other.1) in let same : (l.lane == l.lane) ≡ true = eq-eqb l.lane l.lane refl in cc)
]

of_lanes_with : (line lane_ : ℕ) (action : Action) (none : Bool) → lane_ < MAX_LANES → OfLanes (if none then [] else line_as line lane_ action ∷ [])
of_lanes_with line lane_ action true lt = tt
of_lanes_with line lane_ action false lt = (lt, tt)

of_lanes_in : (e : Entry) → HasLane e → OfLanes (line_of e)
of_lanes_in (Call lane line call) known = of_lanes_with line lane (Ask call) (line == 0) known
of_lanes_in Job known = tt
of_lanes_in Task known = tt
of_lanes_in (Tick line moment) known = of_lanes_with line 0 (Clock moment) (line == 0) (lit< tt)
of_lanes_in (Feed line fragment) known = of_lanes_with line 0 FeedAction (line == 0) (lit< tt)
of_lanes_in (Evict line label) known = of_lanes_with line 0 (EvictAction label) (line == 0) (lit< tt)
of_lanes_in (Claim worker track index session kid) known = tt
of_lanes_in (Deliver place verdict) known = tt
of_lanes_in (GiveUp place) known = tt
of_lanes_in (Publish track index place) known = tt
of_lanes_in (PassClear track index) known = tt
of_lanes_in (WaitForKey track) known = tt
of_lanes_in (Settle line) known = of_lanes_with line 0 SettleAction (line == 0) (lit< tt)

of_lanes : (h : List Entry) → LanesKnown h → OfLanes (lines_in h)
of_lanes [] known = tt
of_lanes (e ∷ es) known = all_append (λ (l : Line). l.lane < MAX_LANES) (line_of e) (lines_in es) (of_lanes_in e (known 0 e refl)) (of_lanes es (λ n x at. known (suc n) x at))

-- a complete history of a script of one lane goes through its lines in order
pub lines_in_order : (script : List Line) (h : List Entry) → ((n : ℕ) (line : Line) → slice_get script n ≡ Some line → line.lane ≡ 0) → LanesDone script h → LanesKnown h → lines_in h ≡ script
lines_in_order script h all done known =
    sym (all_of_lane_0 (lines_in h) (of_lanes h known) (λ i lt other. done i lt ∙ lane_none script i other all)) ∙ (done 0 (lit< tt) ∙ lane_all script all)

-- a complete history of a paced script asks what the script plans
pub asked_plan : (script : List Line) (media : Media) (h : List Entry) → IsPaced script → IsComplete script media h → asked_in h ≡ plan_from media.fragments script
asked_plan script media h paced complete = asked_in_order script media h complete (lines_in_order script h paced.lane complete.lanes complete.known)

-- ---- paced scripts

-- behind its first line a script is paced as well
pub paced_more : (line : Line) (more : List Line) → IsPaced (line ∷ more) → IsPaced more
paced_more line more paced = record {
  lane = λ n l at. paced.lane (suc n) l at;
  settled = λ n l next at behind. paced.settled (suc n) l next at (ap (slice_get (line ∷ more)) (let same : suc n + 1 ≡ suc (n + 1) = omega arith in same) ∙ behind);
}
