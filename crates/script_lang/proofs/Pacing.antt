-- One pass over the lines of a script finds whether it is paced.
use Rattle.std.proofs.Common.{zero, suc, ◌≡◌, ◌↔◌, ◌⊎◌, ℕ, ◌+◌, Bool, true, false, ◌&&◌, IsTrue, List, [], ◌∷◌, Some, slice_get, inl, inr, refl, ap, ◌∙◌, sym, subst, arith}
use Rattle.std.specs.Prelude.{◌==◌, ◌||◌}
use Rattle.std.proofs.lemmas.Bool.{eqb-true, and_parts}
use Rattle.script_lang.specs.declared.script.Action.{Action}
use Rattle.script_lang.specs.declared.script.Action.TheVariants.{Ask, Feed, Clock, Evict, Settle}
use Rattle.script_lang.specs.declared.script.Line.{Line}
use Rattle.script_lang.specs.Paced.{IsPaced, settles}

-- these lines are paced, where the line before them settles, or where it does not
abbrev pub paced_from : Bool → List Line → Bool
paced_from settled [] = true
paced_from settled (line ∷ more) = (line.lane == 0) && ((settled || settles line.action) && paced_from (settles line.action) more)

settles_is : (a : Action) → settles a ≡ true → a ≡ Settle
settles_is (Ask call) is = absurd cc
settles_is Feed is = absurd cc
settles_is (Clock moment) is = absurd cc
settles_is (Evict label) is = absurd cc
settles_is Settle is = refl

either_is : (settled : Bool) (a : Action) → (settled || settles a) ≡ true → (settled ≡ true) ⊎ (a ≡ Settle)
either_is true a is = inl refl
either_is false a is = inr (settles_is a is)

is_either : (settled : Bool) (a : Action) → (settled ≡ true) ⊎ (a ≡ Settle) → (settled || settles a) ≡ true
is_either true a is = refl
is_either false a (inl never) = absurd cc
is_either false a (inr is) = rw is refl

-- what each line and the line behind it keep
abbrev Pairs : List Line → Type 0
Pairs script = (n : ℕ) (line next : Line) → slice_get script n ≡ Some line → slice_get script (suc n) ≡ Some next → (line.action ≡ Settle) ⊎ (next.action ≡ Settle)

abbrev Lanes : List Line → Type 0
Lanes script = (n : ℕ) (line : Line) → slice_get script n ≡ Some line → line.lane ≡ 0

lanes_of : (settled : Bool) (script : List Line) → paced_from settled script ≡ true → Lanes script
lanes_of settled [] is n line at = absurd cc
lanes_of settled (l ∷ ls) is zero line at = let same : l ≡ line = cc in ap (λ (x : Line). x.lane) (sym same) ∙ eqb-true l.lane 0 (and_parts (l.lane == 0) _ is).0
lanes_of settled (l ∷ ls) is (suc n) line at =
    lanes_of (settles l.action) ls (and_parts (settled || settles l.action) _ (and_parts (l.lane == 0) _ is).1).1 n line at

before_settle : (a : Action) (next : Line) (more : List Line) → paced_from (settles a) (next ∷ more) ≡ true → (a ≡ Settle) ⊎ (next.action ≡ Settle)
before_settle a next more is =
    elim (either_is (settles a) next.action (and_parts (settles a || settles next.action) _ (and_parts (next.lane == 0) _ is).1).0) [
      | inl here ↦ inl (settles_is a here)
      | inr there ↦ inr there
    ]

pairs_of : (settled : Bool) (script : List Line) → paced_from settled script ≡ true → Pairs script
pairs_of settled [] is n line next at then = absurd cc
pairs_of settled (l ∷ []) is zero line next at then = absurd cc
pairs_of settled (l ∷ m ∷ ls) is zero line next at then =
    let same : l ≡ line = cc in
    let after : m ≡ next = cc in
    let found : (l.action ≡ Settle) ⊎ (m.action ≡ Settle) = before_settle l.action m ls (and_parts (settled || settles l.action) _ (and_parts (l.lane == 0) _ is).1).1 in
    subst (λ (x : Line). (line.action ≡ Settle) ⊎ (x.action ≡ Settle)) after (subst (λ (x : Line). (x.action ≡ Settle) ⊎ (m.action ≡ Settle)) same found)
pairs_of settled (l ∷ ls) is (suc n) line next at then =
    pairs_of (settles l.action) ls (and_parts (settled || settles l.action) _ (and_parts (l.lane == 0) _ is).1).1 n line next at then

all_true : (a b c : Bool) → a ≡ true → b ≡ true → c ≡ true → (a && (b && c)) ≡ true
all_true a b c x y z = rw (x, y, z) refl

paced_back : (settled : Bool) (script : List Line) → Lanes script → Pairs script → ((line : Line) → slice_get script 0 ≡ Some line → (settled ≡ true) ⊎ (line.action ≡ Settle)) → paced_from settled script ≡ true
paced_back settled [] lanes pairs first = refl
paced_back settled (l ∷ ls) lanes pairs first =
    all_true (l.lane == 0) (settled || settles l.action) (paced_from (settles l.action) ls) (let zero_ : l.lane ≡ 0 = lanes 0 l refl in rw zero_ refl) (is_either settled l.action (first l refl)) (paced_back (settles l.action) ls (λ n line at. lanes (suc n) line at) (λ n line next at then. pairs (suc n) line next at then) later)
  where
    later : (line : Line) → slice_get ls 0 ≡ Some line → (settles l.action ≡ true) ⊎ (line.action ≡ Settle)
    later line at = elim (pairs 0 l line refl at) [ inl here ↦ inl (ap settles here) | inr there ↦ inr there ]

-- the pass from the first line on tells whether the script is paced
pub pass_tells : (script : List Line) → IsTrue (paced_from true script) ↔ IsPaced script
pass_tells script = (
  λ is. record { lane = lanes_of true script is; settled = λ n line next at then. pairs_of true script is n line next at (ap (slice_get script) (let same : suc n ≡ n + 1 = omega arith in same) ∙ then) },
  λ paced. paced_back true script paced.lane (λ n line next at then. paced.settled n line next at (ap (slice_get script) (let same : n + 1 ≡ suc n = omega arith in same) ∙ then)) (λ line at. inl refl),
)

and_false : (a b : Bool) → (a && (false && b)) ≡ false
and_false true b = refl
and_false false b = refl

-- no line without a settle stands behind another
pub not_behind : (settled : Bool) (line : Line) (more : List Line) → settled ≡ false → settles line.action ≡ false → paced_from settled (line ∷ more) ≡ false
not_behind settled line more before here = rw (before, here) (and_false (line.lane == 0) (paced_from false more))
