-- Each step keeps the rule of the parts.
use Rattle.std.proofs.Common.{◌≡◌, ℕ, ◌<◌, List, [], ◌∷◌, ◌++◌, set, refl, ◌∙◌, subst, arith, Option, Some}
use mathlib.Core.Option.{some}
use mathlib.Core.Option as maybe
use lib.ListN.{get_elem?}
use Rattle.atomic_table.specs.Table.{opening}
use Rattle.book_lock.specs.declared.view.View.{View}
use Rattle.book_lock.specs.Views.{opened, left_of, right_of, both_of, spent_view}
use Rattle.book_lock.specs.Parts.{Shares, Parted}
use Rattle.book_lock.proofs.Sums.{each_set, each_snoc, first_only}
use Rattle.book_lock.proofs.TicketsKept.{St}

-- a seat that is not spent, and keeps its fixed part
pub shares_kept : {E : Type 0} (base : List ℕ) (v w : View E) → 0 < v.parts → 0 < w.parts → w.fixed ≡ v.fixed → Shares base v → Shares base w
shares_kept base v w part after same k = record { spent = λ z. absurd (omega arith); same = λ _. same ∙ k.same part }

module _ {B E : Type 0} (fixed : B → List ℕ) (base : List ℕ) where
  -- a step of one seat
  pub parts_kept : (s : St B E) → Parted fixed base s → (ws : List ℕ) (hs : List (maybe.Option (Option B))) (me : ℕ) (w : View E) → ((b : B) → hs ≡ some (Some b) ∷ [] → fixed b ≡ base) → Shares base w
      → Parted fixed base record { words = ws; homes = hs; views = set s.views me w }
  parts_kept s r ws hs me w home shares = record { at_home = home; each = each_set (λ _ d. Shares base d) s.views me w shares (λ j d _ e. r.each j d e) }

  pub parts_split : (s : St B E) → Parted fixed base s → (id : ℕ) (v : View E) → get_elem? s.views id ≡ some v → 1 < v.parts
      → Parted fixed base record { words = s.words; homes = s.homes; views = set s.views id (left_of v) ++ right_of v ∷ [] }
  parts_split s r id v at left = let k = r.each id v at in record {
    at_home = r.at_home;
    each = each_snoc (Shares base) (set s.views id (left_of v)) (right_of v) (shares_kept base v (right_of v) (omega arith) (omega arith) refl k)
        (each_set (λ _ d. Shares base d) s.views id (left_of v) (shares_kept base v (left_of v) (omega arith) (omega arith) refl k) (λ j d _ e. r.each j d e));
  }

  pub parts_join : (s : St B E) → Parted fixed base s → (id other : ℕ) (v w : View E) → get_elem? s.views id ≡ some v → 0 < v.parts
      → Parted fixed base record { words = s.words; homes = s.homes; views = set (set s.views id (both_of v w)) other spent_view }
  parts_join s r id other v w at part = record {
    at_home = r.at_home;
    each = each_set (λ _ d. Shares base d) (set s.views id (both_of v w)) other spent_view record { spent = λ _. (refl, refl, refl); same = λ h. absurd (omega arith) }
        (λ j d _. each_set (λ _ x. Shares base x) s.views id (both_of v w) (shares_kept base v (both_of v w) part (omega arith) refl (r.each id v at)) (λ i x _ e. r.each i x e) j d);
  }

pub parts_open : {B E : Type 0} (fixed : B → List ℕ) (t : ℕ) (b : B) → Parted {B = B} {E = E} fixed (fixed b) (opening (t ∷ t ∷ 0 ∷ []) (Some b ∷ []) (opened (fixed b)))
parts_open {B} {E} fixed t b = record {
  at_home = λ x h. let e : b ≡ x = cc (h) in subst (λ (z : B). fixed z ≡ fixed b) e refl;
  each = λ i w at. subst (Shares (fixed b)) (first_only (opened (fixed b)) i w at) record { spent = λ z. absurd (omega arith); same = λ _. refl };
}
