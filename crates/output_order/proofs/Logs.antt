-- The log of a longer history, and the log entry by entry.
use Rattle.std.proofs.Common.{zero, suc, ◌≡◌, ℕ, ◌+◌, ◌<◌, ◌≤◌, List, [], ◌∷◌, ◌++◌, Some, None, length, take, drop, get_or, slice_get, refl, ap, ◌∙◌, sym, append_assoc, append-nil, arith}
use Rattle.std.specs.List.{fold, sum_by}
use Rattle.std.proofs.lemmas.List.{take_more, length-take-le, take-append-drop, drop_more, drop_all}
use Rattle.std.proofs.lemmas.List.Sums.{sum_by-cons, sum_by-append}
use Rattle.std.proofs.lemmas.Option.{slice_get_read}
use Rattle.eme_types.specs.declared.entry.Entry.{Entry}
use Rattle.eme_types.specs.declared.entry.Entry.TheVariants.{Feed}
use Rattle.eme_types.specs.declared.call.Effect.{Effect}
use Rattle.key_sessions.specs.World.{World, empty_world}
use Rattle.cdm_state.specs.After.{after_entry, effects_of}
use Rattle.cdm_state.specs.History.{world}
use Rattle.cdm_state.specs.Settlements.{effects_from, effects_in}
use Rattle.output_order.proofs.Puts.{put_two}
use Rattle.output_order.proofs.Sizes.{some_same, counted_more}
use Rattle.cdm_state.specs.Feeds.{fragments_fed}
use Rattle.cdm_state.proofs.Fragments.{one_at_most}
use Rattle.output_order.specs.Log.{entry_line, effect_lines, lines_from, log_of}
use Rattle.output_order.specs.Law.{LogGoesOn}

-- the number of fragments after these entries, where n were fed before
abbrev fed_from : ℕ → List Entry → ℕ
fed_from n h = fold (λ a e. a + fragments_fed e) n h

lines_from-append : (w : World) (p n : ℕ) (h g : List Entry) → lines_from w p n (h ++ g) ≡ lines_from w p n h ++ lines_from (fold after_entry w h) (p + length h) (fed_from n h) g
lines_from-append w p n [] g = ap (λ k. lines_from w k n g) (let e : p ≡ p + 0 = omega arith in e)
lines_from-append w p n (x ∷ h) g =
    let v : World = after_entry w x in
    let m : ℕ = n + fragments_fed x in
    let ih : lines_from v (p + 1) m (h ++ g) ≡ lines_from v (p + 1) m h ++ lines_from (fold after_entry v h) (p + 1 + length h) (fed_from m h) g = lines_from-append v (p + 1) m h g in
    let k : p + 1 + length h ≡ p + suc (length h) = omega arith in
    let e : lines_from v (p + 1) m (h ++ g) ≡ lines_from v (p + 1) m h ++ lines_from (fold after_entry v h) (p + suc (length h)) (fed_from m h) g = ih ∙ ap (λ q. lines_from v (p + 1) m h ++ lines_from (fold after_entry v h) q (fed_from m h) g) k in
    ap (λ (t : List ℕ). entry_line p n x ++ (effect_lines (effects_of w x) ++ t)) e ∙ sym (append_assoc (entry_line p n x) (effect_lines (effects_of w x) ++ lines_from v (p + 1) m h) _ ∙ ap (λ (t : List ℕ). entry_line p n x ++ t) (append_assoc (effect_lines (effects_of w x)) (lines_from v (p + 1) m h) _))

-- the log of a history that goes on
pub log_goes_on : LogGoesOn
unfolding log_of world
log_goes_on ids h g = lines_from-append (empty_world ids) 1 0 h g ∙ ap (λ (p : ℕ). log_of ids h ++ lines_from (world ids h) p (fed_from 0 h) g) (let e : 1 + length h ≡ length h + 1 = omega arith in e)

effects_from_at : (w : World) (h : List Entry) (i : ℕ) (d : Entry) → i < length h → slice_get (effects_from w h) i ≡ Some (effects_of (fold after_entry w (take i h)) (get_or h i d))
effects_from_at w [] i d lt = absurd (omega arith)
effects_from_at w (x ∷ h) zero d lt = refl
effects_from_at w (x ∷ h) (suc i) d lt = effects_from_at (after_entry w x) h i d (omega arith)

-- what the entry at a place did
pub effects_at : (ids : List ℕ) (h : List Entry) (i : ℕ) (d : Entry) → i < length h → slice_get (effects_in ids h) i ≡ Some (effects_of (world ids (take i h)) (get_or h i d))
unfolding effects_in world
effects_at ids h i d lt = effects_from_at (empty_world ids) h i d lt

-- a front feeds no more fragments than it has entries
few_fed : (i : ℕ) (h : List Entry) → sum_by fragments_fed (take i h) ≤ i
few_fed zero h = omega arith
few_fed (suc i) [] = omega arith
few_fed (suc i) (e ∷ h) =
    let one : fragments_fed e ≤ 1 = one_at_most e in
    let rest : sum_by fragments_fed (take i h) ≤ i = few_fed i h in
    let sum : sum_by fragments_fed (e ∷ take i h) ≡ fragments_fed e + sum_by fragments_fed (take i h) = sum_by-cons fragments_fed e (take i h) in
    omega (arith, one, rest, sum)

-- the text is what the log of the entries so far has beyond that of the first ones
pub record IsLogged (ids : List ℕ) (h : List Entry) (first i fed : ℕ) (text : List ℕ) : Type 0 where
  pub all : log_of ids (take i h) ≡ log_of ids (take first h) ++ text
  pub count : fed ≡ sum_by fragments_fed (take i h)
  pub few : fed ≤ i

pub logged_first : (ids : List ℕ) (h : List Entry) (first fed : ℕ) → fed ≡ sum_by fragments_fed (take first h) → IsLogged ids h first first fed []
logged_first ids h first fed count = record {
  all = sym (append-nil (log_of ids (take first h)));
  count = count;
  few = let few : sum_by fragments_fed (take first h) ≤ first = few_fed first h in omega (arith, count, few);
}

-- the line of the entry at an index and the lines of what it did were put behind a text
pub record IsPut (ids : List ℕ) (h : List Entry) (i fed : ℕ) (e : Entry) (text next : List ℕ) : Type 0 where
  pub within : i < length h
  pub is : e ≡ get_or h i e
  pub effects : List Effect
  pub did : slice_get (effects_in ids h) i ≡ Some effects
  pub now : List ℕ
  pub line : now ≡ text ++ entry_line (i + 1) fed e
  pub more : next ≡ now ++ effect_lines effects

-- the log of a front with one entry more
log_more : (ids : List ℕ) (h : List Entry) (i fed : ℕ) (e : Entry) (did : List Effect) → i < length h → e ≡ get_or h i e → fed ≡ sum_by fragments_fed (take i h) → slice_get (effects_in ids h) i ≡ Some did → log_of ids (take (i + 1) h) ≡ log_of ids (take i h) ++ (entry_line (i + 1) fed e ++ effect_lines did)
log_more ids h i fed e did within is count at =
    let c : List Entry = take i h in
    let x : Entry = get_or h i e in
    let w : World = world ids c in
    let same : did ≡ effects_of w x = some_same (sym at ∙ effects_at ids h i e within) in
    let le : i ≤ length h = omega (arith, within) in
    let long : length c ≡ i = length-take-le i h le in
    let G : ℕ → ℕ → Entry → List Effect → List ℕ = λ p n y fx. log_of ids c ++ (entry_line (p + 1) n y ++ effect_lines fx) in
    ap (λ (es : List Entry). log_of ids es) (take_more h i e within) ∙ (log_goes_on ids c (x ∷ []) ∙ (ap (λ (t : List ℕ). log_of ids c ++ (entry_line (length c + 1) (sum_by fragments_fed c) x ++ t)) (append-nil (effect_lines (effects_of w x))) ∙ (ap (λ p. G p (sum_by fragments_fed c) x (effects_of w x)) long ∙ (ap (λ n. G i n x (effects_of w x)) (sym count) ∙ (ap (λ y. G i fed y (effects_of w x)) (sym is) ∙ ap (λ fx. G i fed e fx) (sym same))))))

pub logged_more : (ids : List ℕ) (h : List Entry) (first i fed : ℕ) (e : Entry) (text next : List ℕ) → IsPut ids h i fed e text next → IsLogged ids h first i fed text → IsLogged ids h first (i + 1) (fed + fragments_fed e) next
logged_more ids h first i fed e text next at l =
    let line : List ℕ = entry_line (i + 1) fed e in
    let lines : List ℕ = effect_lines at.effects in
    let front : List ℕ = log_of ids (take first h) in
    let put : next ≡ text ++ (line ++ lines) = put_two text line at.now lines next (line ++ lines) at.line at.more refl in
    let one : fragments_fed e ≤ 1 = one_at_most e in
    let few : fed ≤ i = l.few in
    record {
      all = log_more ids h i fed e at.effects at.within at.is l.count at.did ∙ (ap (λ (t : List ℕ). t ++ (line ++ lines)) l.all ∙ (append_assoc front text (line ++ lines) ∙ ap (λ (t : List ℕ). front ++ t) (sym put)));
      count = counted_more fragments_fed h i e fed (fed + fragments_fed e) (fragments_fed e) (slice_get_read h (length h) i e refl at.within at.is) l.count refl refl;
      few = omega (arith, one, few);
    }

-- the fragments that a history feeds are those of its first entries and those of the others
pub fed_apart : (h : List Entry) (n : ℕ) → sum_by fragments_fed h ≡ sum_by fragments_fed (take n h) + sum_by fragments_fed (drop n h)
fed_apart h n = ap (λ (es : List Entry). sum_by fragments_fed es) (sym (take-append-drop n h)) ∙ sum_by-append fragments_fed (take n h) (drop n h)

-- those of the entries from one on are its own, and those of the entries behind it
pub fed_on : (h : List Entry) (i : ℕ) (e : Entry) → i < length h → e ≡ get_or h i e → sum_by fragments_fed (drop i h) ≡ fragments_fed e + sum_by fragments_fed (drop (i + 1) h)
fed_on h i e lt is = ap (λ (es : List Entry). sum_by fragments_fed es) (drop_more h i e lt) ∙ (sum_by-cons fragments_fed (get_or h i e) (drop (i + 1) h) ∙ ap (λ x. fragments_fed x + sum_by fragments_fed (drop (i + 1) h)) (sym is))

pub fed_over : (h : List Entry) (i : ℕ) → length h ≤ i → sum_by fragments_fed (drop i h) ≡ 0
fed_over h i le = ap (λ (es : List Entry). sum_by fragments_fed es) (drop_all i h le)
