-- What is known once the lock is closed with a pass that has all parts.
use Rattle.std.proofs.Common.{◌≡◌, ℕ, ◌^◌, ◌≢◌, List, [], ◌∷◌, length, inl, inr, sym, ap, ◌∙◌, subst, arith, Option, Some, None}
use mathlib.Core.Option.{some, some-injective}
use mathlib.Core.Option as maybe
use native.Mathlib.Decide.{ℕ_discrete}
use lib.ListN.{get_elem?}
use Rattle.atomic_table.specs.Table.{Final, Seen}
use Rattle.book_lock.specs.declared.view.Phase.TheVariants.{Idle}
use Rattle.book_lock.specs.declared.view.View.{View}
use Rattle.book_lock.specs.Views.{parts_of}
use Rattle.book_lock.specs.Places.{times, once_to}
use Rattle.book_lock.specs.Rule.{Rule}
use Rattle.book_lock.specs.Steps.{Stand}
use Rattle.book_lock.proofs.Fronts.{prefix_whole}
use Rattle.book_lock.proofs.Sums.{sum_two, sum_alone}
use Rattle.book_lock.proofs.Counts.{once_at}
use Rattle.book_lock.proofs.TicketsKept.{St, not_idle}
use Rattle.book_lock.proofs.PlacesKept.{owned_times}

module _ {B E : Type 0} (entries : B → List E) (fixed : B → List ℕ) (bound : E → maybe.Option ℕ) (base : List ℕ) where
  abbrev R : St B E → Type 0
  R = Rule entries fixed bound base

  -- where a seat has all parts, the others have none
  others_spent : (s : St B E) (r : R s) (id : ℕ) (v : View E) → get_elem? s.views id ≡ some v → v.parts ≡ 2 ^ 32 → (j : ℕ) (d : View E) → j ≢ id → get_elem? s.views j ≡ some d → (d.phase ≡ Idle) × (d.seen ≡ []) × (d.own ≡ [])
  others_spent s r id v at all j d apart bt = (r.parted.each j d bt).spent (omega (arith, sum_two parts_of s.views j id d v apart bt at, r.tickets.parts))

  -- the book is at home, and its list is what the pass has seen
  closes : (id : ℕ) (v : View E) (ws : List ℕ) (xs : List (Option B)) → v.phase ≡ Idle → v.parts ≡ 2 ^ 32 → Final (Seen R id v) ws xs
      → (b : B) × (get_elem? xs 0 ≡ some (Some b)) × (entries b ≡ v.seen) × (fixed b ≡ v.fixed) × ((p : ℕ) → times p v.own ≡ once_to p (length v.seen))
  closes id v ws xs is all f =
      let s = f.0 in let r = f.1.0 in let at = f.1.1 in let cur : List E = r.current in
      let mine : (p : ℕ) → times p v.own ≡ once_to p (length cur) =
      λ p. sym (sum_alone (owned_times p) s.views id v at (λ j d ne e. ap (times p) (others_spent s r id v at all j d ne e).2)) ∙ r.owned.owners p in
      let whole : v.seen ≡ cur = prefix_whole v.seen cur (r.listed.each id v at).seen
      ((r.owned.each id v at).below (length cur) (omega (arith, mine (length cur), once_at (length cur) (length cur) (omega arith)))) in
      let home : (b : B) × (s.homes ≡ some (Some b) ∷ []) = elim r.tickets.slot [
        | inl h ↦ (h.0, h.1)
        | inr h ↦ absurd (elim (ℕ_discrete h.1.0 id) [
          | yes e ↦ not_idle h.1.1.phase (ap (λ (d : View E). d.phase) (some-injective h.1.1 v (sym h.1.2 ∙ (ap (get_elem? s.views) e ∙ at))) ∙ is) h.1.3
          | no apart ↦ not_idle h.1.1.phase (others_spent s r id v at all h.1.0 h.1.1 apart h.1.2).0 h.1.3
        ])
      ] in (
        home.0,
        f.4 0 (Some home.0) (ap (λ (z : List (maybe.Option (Option B))). get_elem? z 0) home.1),
        r.listed.at_home home.0 home.1 ∙ sym whole,
        r.parted.at_home home.0 home.1 ∙ sym ((r.parted.each id v at).same (omega arith)),
        (λ p. mine p ∙ ap (λ (z : List E). once_to p (length z)) (sym whole)),
      )

  pub closes_with : (id : ℕ) (m me : Stand B E) (ws : List ℕ) (xs : List (Option B)) (o : Option B) (b : B) → m ≡ me → me.0.phase ≡ Idle → me.0.parts ≡ 2 ^ 32 → Final (Seen R id m.0) ws xs → get_elem? xs 0 ≡ some o → o ≡ Some b
      → (entries b ≡ me.0.seen) × (fixed b ≡ me.0.fixed) × ((p : ℕ) → times p me.0.own ≡ once_to p (length me.0.seen))
  closes_with id m me ws xs o b same is all f at held =
      let x = closes id me.0 ws xs is all (subst (λ (z : Stand B E). Final (Seen R id z.0) ws xs) same f) in
      let e : o ≡ Some x.0 = some-injective o (Some x.0) (sym at ∙ x.1) in
      let b' : x.0 ≡ b = cc (e, held) in (ap entries (sym b') ∙ x.2, ap fixed (sym b') ∙ x.3, x.4)

  pub closes_full : (id : ℕ) (m me : Stand B E) (ws : List ℕ) (xs : List (Option B)) (o : Option B) → m ≡ me → me.0.phase ≡ Idle → me.0.parts ≡ 2 ^ 32 → Final (Seen R id m.0) ws xs → get_elem? xs 0 ≡ some o → o ≡ None → ⊥
  closes_full id m me ws xs o same is all f at gone =
      let x = closes id me.0 ws xs is all (subst (λ (z : Stand B E). Final (Seen R id z.0) ws xs) same f) in
      let e : o ≡ Some x.0 = some-injective o (Some x.0) (sym at ∙ x.1) in cc (e, gone)
