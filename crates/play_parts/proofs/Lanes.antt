-- The lanes, one after the other.
use Rattle.std.proofs.Common.{◌≡◌, ◌≢◌, ℕ, ◌+◌, ◌<◌, Bool, true, List, [], ◌∷◌, ◌++◌, Contains, if◌then◌else◌, refl, ap, sym, subst, ◌∙◌, arith, inl, inr, eq-eqb, ne_eqb}
use Rattle.std.specs.List.{flat_map, AllByRecursion}
use Rattle.std.proofs.lemmas.Bool.{eqb-true}
use Rattle.std.proofs.lemmas.List.Elements.{filter_passes, recursion_from_All}
use mathlib.Core.List.{IsPrefix}
use native.Mathlib.Decide.{ℕ_discrete}
use Rattle.eme_types.specs.declared.media.Fragment.{Fragment}
use Rattle.eme_types.specs.declared.entry.Entry.{Entry}
use Rattle.eme_types.specs.declared.entry.Entry.TheVariants.{Call, Feed, Claim, GiveUp}
use Rattle.eme_types.specs.declared.limits.TheConstants.{MAX_LANES}
use Rattle.script_lang.specs.declared.script.Line.{Line}
use Rattle.output_order.specs.Lane.{lines_in, lane, is_of_lane, asked, fed_by}
use Rattle.output_order.specs.Complete.{IsOfLine}
use Rattle.decrypt_workers.specs.Desks.{Placed}
use Rattle.decrypt_workers.specs.Workers.{IsAnyClaim}
use Rattle.shared_cdm.specs.Own.{own_in, AreSeen, entries}
use Rattle.shared_cdm.proofs.Own.{own_later}
use Rattle.output_order.proofs.ComingNext.{all_front as all_left, all_behind as all_right}
use Rattle.play_parts.specs.Asks.{IsOfLanes}
use Rattle.play_parts.specs.Parts.{IsOfLane0, IsCallOf, HasLed, HasCalled, LanesIn}
use Rattle.play_parts.proofs.Reading.{all_mapped, all_append, all_contains, all_placed, line_at, lane_flat}
use Rattle.play_parts.proofs.Feeding.{fed_same}
use Rattle.play_parts.proofs.Joined.{all_joined, read_first, read_second, own_left, own_either}

-- ---- the lines of a lane

are_of : (i : ℕ) (script : List Line) → AllByRecursion (λ (l : Line). l.lane ≡ i) (lane script i)
are_of i script = all_mapped (λ (l : Line). is_of_lane i l ≡ true) (λ (l : Line). l.lane ≡ i) (λ l is. eqb-true l.lane i is) (lane script i) (recursion_from_All (λ (l : Line). is_of_lane i l ≡ true) (lane script i) (filter_passes (is_of_lane i) script))

lane_same : (i : ℕ) (lines : List Line) → AllByRecursion (λ (l : Line). l.lane ≡ i) lines → lane lines i ≡ lines
lane_same i [] all = refl
lane_same i (l ∷ lines) all = ap (λ (b : Bool). if b then l ∷ lane lines i else lane lines i) (eq-eqb l.lane i all.0) ∙ ap (λ (ls : List Line). l ∷ ls) (lane_same i lines all.1)

lane_none : (i j : ℕ) (lines : List Line) → j ≢ i → AllByRecursion (λ (l : Line). l.lane ≡ j) lines → lane lines i ≡ []
lane_none i j [] other all = refl
lane_none i j (l ∷ lines) other all = ap (λ (b : Bool). if b then l ∷ lane lines i else lane lines i) (ne_eqb l.lane i (λ is. other (sym all.0 ∙ is))) ∙ lane_none i j lines other all.1

-- entries with the lines of lane k alone have these, and of other lanes none
lane_done : (script : List Line) (k : ℕ) (es : List Entry) → lines_in es ≡ lane script k → lane (lines_in es) k ≡ lane script k
lane_done script k es is = ap (λ (ls : List Line). lane ls k) is ∙ lane_same k (lane script k) (are_of k script)

lane_other : (script : List Line) (k i : ℕ) (es : List Entry) → k ≢ i → lines_in es ≡ lane script k → lane (lines_in es) i ≡ []
lane_other script k i es other is = ap (λ (ls : List Line). lane ls i) is ∙ lane_none i k (lane script k) other (are_of k script)

pub of_lanes : (e : Entry) → IsOfLane0 e → IsOfLanes e
of_lanes (Call lane line call) h = omega (arith, h)
of_lanes (Claim worker track index session kid) h = h
of_lanes (GiveUp place) h = h
of_lanes e h = tt

pub lanes_first : (script : List Line) (fragments left : List Fragment) (news : Placed) → HasLed script fragments left news → LanesIn script fragments left 0 news
lanes_first script fragments left news led = record {
  done = λ i le. (let is : i ≡ 0 = omega (arith, le) in subst (λ (j : ℕ). lane (lines_in (entries news)) j ≡ lane script j) (sym is) (lane_done script 0 (entries news) led.lines_));
  none = λ i lt. lane_other script 0 i (entries news) (λ e. omega (arith, e, lt)) led.lines_;
  above = led.above;
  fed = led.fed;
  kinds = all_mapped IsOfLane0 IsOfLanes of_lanes (entries news) led.kinds;
  ended = led.ended;
}

-- a lane without lines, which makes no entry
pub lanes_empty : (script : List Line) (fragments left : List Fragment) (k : ℕ) (news : Placed) → lane script (k + 1) ≡ [] → LanesIn script fragments left k news → LanesIn script fragments left (k + 1) news
lanes_empty script fragments left k news none lanes = record {
  done = λ i le. elim (ℕ_discrete i (k + 1)) [
    | yes same ↦ lanes.none i (omega (arith, same)) ∙ sym (ap (lane script) same ∙ none)
    | no other ↦ lanes.done i (omega (arith, le, other))
  ];
  none = λ i lt. lanes.none i (omega (arith, lt));
  above = lanes.above;
  fed = lanes.fed;
  kinds = lanes.kinds;
  ended = lanes.ended;
}

-- ---- lists that are read off entry by entry

split_flat : {A : Type 0} (P : A → Type 0) (f : Entry → List A) (es : List Entry) → AllByRecursion P (flat_map f es) → AllByRecursion (λ e. AllByRecursion P (f e)) es
split_flat P f [] h = tt
split_flat P f (e ∷ es) h = (all_left P (f e) (flat_map f es) h, split_flat P f es (all_right P (f e) (flat_map f es) h))

join_flat : {A : Type 0} (P : A → Type 0) (f : Entry → List A) (es : List Entry) → AllByRecursion (λ e. AllByRecursion P (f e)) es → AllByRecursion P (flat_map f es)
join_flat P f [] h = tt
join_flat P f (e ∷ es) h = all_append P (f e) (flat_map f es) h.0 (join_flat P f es h.1)

nothing_first : {A : Type 0} (xs ys : List A) → xs ++ ys ≡ [] → xs ≡ []
nothing_first [] ys e = refl
nothing_first (x ∷ xs) ys e = absurd cc

nothing_last : {A : Type 0} (xs ys : List A) → xs ++ ys ≡ [] → ys ≡ []
nothing_last [] ys e = e
nothing_last (x ∷ xs) ys e = absurd cc

none_each : {A : Type 0} (f : Entry → List A) (es : List Entry) → flat_map f es ≡ [] → AllByRecursion (λ e. f e ≡ []) es
none_each f [] is = tt
none_each f (e ∷ es) is = (nothing_first (f e) (flat_map f es) is, none_each f es (nothing_last (f e) (flat_map f es) is))

none_of_lane : (i : ℕ) (es : List Entry) → lane (lines_in es) i ≡ [] → AllByRecursion (λ e. line_at i e ≡ []) es
none_of_lane i es none = none_each (line_at i) es (sym (lane_flat i es) ∙ none)

-- ---- calls

call_feeds : (i : ℕ) (e : Entry) → IsCallOf i e → fed_by e ≡ []
call_feeds i (Feed line fragment) h = absurd h
call_feeds i e h = refl

call_of_lanes : (i : ℕ) → i < MAX_LANES → (e : Entry) → IsCallOf i e → IsOfLanes e
call_of_lanes i few (Call lane line call) h = omega (arith, few, h)
call_of_lanes i few (Claim worker track index session kid) h = absurd h
call_of_lanes i few (GiveUp place) h = absurd h
call_of_lanes i few e h = tt

call_no_claim : (i : ℕ) (e : Entry) → IsCallOf i e → IsAnyClaim e → ⊥
call_no_claim i (Claim worker track index session kid) h k = h
call_no_claim i e h k = k

-- one lane more is joined: its pass owns the places b
pub lanes_more : (script : List Line) (fragments left : List Fragment) (k : ℕ) (a b own : List ℕ) (s t u : List Entry) → k + 1 < MAX_LANES → AreSeen a s → AreSeen b t → IsPrefix s u → IsPrefix t u → own ≡ a ++ b → LanesIn script fragments left k (own_in a s) → HasCalled script (k + 1) (own_in b t) → LanesIn script fragments left (k + 1) (own_in own u)
lanes_more script fragments left k a b own s t u few below_a below_b p q is f g =
    let first : List Entry = entries (own_in a s) in
    let more : List Entry = entries (own_in b t) in
    let both : List Entry = entries (own_in (a ++ b) u) in
    let made : LanesIn script fragments left (k + 1) (own_in (a ++ b) u) = record {
      done = λ i le. elim (ℕ_discrete i (k + 1)) [
        | yes same ↦ lane_flat i both ∙ (read_second (line_at i) a b s t u below_a below_b p q (none_of_lane i first (f.none i (omega (arith, same)))) ∙ (sym (lane_flat i more) ∙ subst (λ (j : ℕ). lane (lines_in more) j ≡ lane script j) (sym same) (lane_done script (k + 1) more g.lines_)))
        | no other ↦ lane_flat i both ∙ (read_first (line_at i) a b s t u below_a below_b p q (none_of_lane i more (lane_other script (k + 1) i more (λ e. other (sym e)) g.lines_)) ∙ (sym (lane_flat i first) ∙ f.done i (omega (arith, le, other))))
      ];
      none = λ i lt. lane_flat i both ∙ (read_first (line_at i) a b s t u below_a below_b p q (none_of_lane i more (lane_other script (k + 1) i more (λ e. omega (arith, e, lt)) g.lines_)) ∙ (sym (lane_flat i first) ∙ f.none i (omega (arith, lt))));
      above = join_flat IsOfLine asked both (all_joined (λ (e : Entry). AllByRecursion IsOfLine (asked e)) a b s t u below_a below_b p q (split_flat IsOfLine asked first f.above) (split_flat IsOfLine asked more g.above));
      fed = fed_same fragments left first both (read_first fed_by a b s t u below_a below_b p q (all_mapped (IsCallOf (k + 1)) (λ (e : Entry). fed_by e ≡ []) (call_feeds (k + 1)) more g.kinds)) f.fed;
      kinds = all_joined IsOfLanes a b s t u below_a below_b p q f.kinds (all_mapped (IsCallOf (k + 1)) IsOfLanes (call_of_lanes (k + 1) few) more g.kinds);
      ended = λ place e h c. elim (own_either a b u place e h) [
        | inl mine ↦ (let r = f.ended place e (subst (λ (xs : Placed). Contains xs (place, e)) (own_later a s u below_a p) mine) c in
            (r.0, r.1, own_left a b u r.0 r.1 (subst (λ (xs : Placed). Contains xs (r.0, r.1)) (sym (own_later a s u below_a p)) r.2), r.3))
        | inr theirs ↦ absurd (call_no_claim (k + 1) e (all_contains (λ (x : ℕ × Entry). IsCallOf (k + 1) x.1) (own_in b t) (place, e) (all_placed (IsCallOf (k + 1)) (own_in b t) g.kinds) (subst (λ (xs : Placed). Contains xs (place, e)) (own_later b t u below_b q) theirs)) c)
      ];
    } in
    subst (λ (o : List ℕ). LanesIn script fragments left (k + 1) (own_in o u)) (sym is) made
