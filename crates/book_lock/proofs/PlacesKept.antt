-- Each step keeps the rule of the places.
use Rattle.std.proofs.Common.{◌≡◌, ℕ, ◌+◌, ◌<◌, ◌≤◌, ◌⊎◌, List, [], ◌∷◌, ◌++◌, length, set, sym, ap, ◌∙◌, subst, inl, inr, ⊎_elim, arith, length-append, lt_of_not-le}
use Rattle.std.proofs.lemmas.List.Sums.{sum_by_push}
use mathlib.Core.List.{IsPrefix}
use mathlib.Core.Option.{some, some-ne-none}
use mathlib.Core.Option as maybe
use native.Mathlib.Decide.{ℕ_discrete, dec_le}
use lib.ListN.{get_elem?}
use Rattle.book_lock.specs.declared.view.View.{View}
use Rattle.book_lock.specs.Views.{opened, counted, left_of, right_of, both_of, spent_view}
use Rattle.book_lock.specs.Places.{times, once_to, Closed, Below, Owns, Owned}
use Rattle.book_lock.proofs.Fronts.{prefix_length, long_left, long_right}
use Rattle.book_lock.proofs.Sums.{each_set, each_snoc, first_only, at_inside, at_longer_one, sum_set, sum_two}
use Rattle.book_lock.proofs.Counts.{times-append, times_here, times_other, times_last, once_at, once_above, once_one}

abbrev pub owned_times : {E : Type 0} → ℕ → View E → ℕ
owned_times p v = times p v.own

-- a place of a list that is one longer
has_counted : (own : List ℕ) (n p : ℕ) → 0 < times p (own ++ n ∷ []) → (0 < times p own) ⊎ (p ≡ n)
has_counted own n p h = elim (ℕ_discrete p n) [
  | yes e ↦ inr e
  | no other ↦ inl (omega (arith, times-append p own (n ∷ []), times_other p n other))
]

-- the place of one entry more is owned once
once_more : (p n : ℕ) → once_to p (n + 1) ≡ times p ((n + 1) ∷ []) + once_to p n
once_more p n = elim (ℕ_discrete p (n + 1)) [
  | yes e ↦ let here : times p ((n + 1) ∷ []) ≡ 1 = subst (λ (z : ℕ). times p (z ∷ []) ≡ 1) e (times_here p) in omega (arith, once_at (n + 1) p (omega arith), once_above n p (omega arith))
  | no other ↦ elim (dec_le p n) [
    | yes le ↦ omega (arith, times_other p (n + 1) other, once_at (n + 1) p (omega arith), once_at n p le)
    | no gt ↦ let above = lt_of_not-le gt in omega (arith, times_other p (n + 1) other, once_above (n + 1) p (omega arith), once_above n p above)
  ]
]

module _ {E : Type 0} (bound : E → maybe.Option ℕ) where
  -- the places of a seat stay, and it has seen no less
  pub owns_kept : (cur : List E) (v w : View E) → w.own ≡ v.own → length v.seen ≤ length w.seen → Owns bound cur v → Owns bound cur w
  owns_kept cur v w same seen k = record {
    below = λ p h. omega (arith, k.below p (subst (λ (own : List ℕ). 0 < times p own) same h), seen);
    closed = subst (λ (own : List ℕ). Closed bound own cur) (sym same) k.closed;
  }

  -- where the entry that was added is bound to no place of the seat
  owns_more : (cur : List E) (e : E) (d : View E) → ((p : ℕ) → bound e ≡ some p → 0 < times p d.own → ⊥) → Owns bound cur d → Owns bound (cur ++ e ∷ []) d
  owns_more cur e d foreign k = record {
    below = k.below;
    closed = λ i p x at b has. ⊎_elim (λ old. k.closed i p x old b has) (λ (last : (i ≡ length cur) × (e ≡ x)). absurd (foreign p (ap bound last.1 ∙ b) has)) (at_longer_one cur e i x at);
  }

  -- where the seat added the entry itself
  owns_counted : (cur : List E) (e : E) (v : View E) → IsPrefix v.seen cur → Below bound cur → Owns bound cur v → Owns bound (cur ++ e ∷ []) (counted v (cur ++ e ∷ []))
  owns_counted cur e v seen earlier k =
      let n : ℕ = length (cur ++ e ∷ []) in
      let long : n ≡ length cur + 1 = length-append cur (e ∷ []) in
      let own' : List ℕ = v.own ++ n ∷ [] in
      let mine : 0 < times n own' = times_last n v.own in record {
        below = λ p h. ⊎_elim (λ (old : 0 < times p v.own). omega (arith, k.below p old, prefix_length v.seen cur seen)) (λ (is : p ≡ n). omega arith) (has_counted v.own n p h);
        closed = λ i p x at b has. ⊎_elim
            (λ (there : get_elem? cur i ≡ some x). ⊎_elim
            (λ (old : 0 < times p v.own). omega (arith, k.closed i p x there b old, times-append (i + 1) v.own (n ∷ [])))
            (λ (is : p ≡ n). absurd (omega (arith, earlier i p x there b, at_inside cur i x there)))
            (has_counted v.own n p has))
            (λ (last : (i ≡ length cur) × (e ≡ x)). subst (λ (z : ℕ). 0 < times z own') (omega arith) mine)
            (at_longer_one cur e i x at);
      }

  owns_both : (cur : List E) (v w : View E) → Owns bound cur v → Owns bound cur w → Owns bound cur (both_of v w)
  owns_both cur v w k m = record {
    below = λ p h. elim (dec_le 1 (times p v.own)) [
      | yes here ↦ omega (arith, k.below p here, long_left v.seen w.seen)
      | no away ↦ omega (arith, m.below p (omega (arith, times-append p v.own w.own, lt_of_not-le away)), long_right v.seen w.seen)
    ];
    closed = λ i p e at b h. elim (dec_le 1 (times p v.own)) [
      | yes here ↦ omega (arith, k.closed i p e at b here, times-append (i + 1) v.own w.own)
      | no away ↦ omega (arith, m.closed i p e at b (omega (arith, times-append p v.own w.own, lt_of_not-le away)), times-append (i + 1) v.own w.own)
    ];
  }

  -- a step of one seat that adds no entry
  pub places_kept : (cur : List E) (vs : List (View E)) → Owned bound cur vs → (me : ℕ) (v w : View E) → get_elem? vs me ≡ some v → w.own ≡ v.own → Owns bound cur w → Owned bound cur (set vs me w)
  places_kept cur vs r me v w at same owns = record {
    owners = λ p. omega (arith, sum_set (owned_times p) vs me v w at, ap (times p) same, r.owners p);
    bound_below = r.bound_below;
    each = each_set (λ _ d. Owns bound cur d) vs me w owns (λ j d _ e. r.each j d e);
  }

  -- a seat counts an entry, which is bound to a place of its own if it is bound
  pub places_counted : (cur : List E) (vs : List (View E)) → Owned bound cur vs → (id : ℕ) (v : View E) (e : E) → get_elem? vs id ≡ some v → IsPrefix v.seen cur
      → ((p : ℕ) → bound e ≡ some p → 0 < times p v.own) → Owned bound (cur ++ e ∷ []) (set vs id (counted v (cur ++ e ∷ [])))
  places_counted cur vs r id v e at seen owned =
      let n : ℕ = length (cur ++ e ∷ []) in
      let long : n ≡ length cur + 1 = length-append cur (e ∷ []) in
      let w : View E = counted v (cur ++ e ∷ []) in
      let more : (p : ℕ) → once_to p n ≡ times p (n ∷ []) + once_to p (length cur) = λ p. subst (λ (z : ℕ). once_to p z ≡ times p (z ∷ []) + once_to p (length cur)) (sym long) (once_more p (length cur)) in
      let k = r.each id v at in record {
        owners = λ p. omega (arith, sum_set (owned_times p) vs id v w at, times-append p v.own (n ∷ []), r.owners p, more p);
        bound_below = λ i p x there b. ⊎_elim
            (λ (old : get_elem? cur i ≡ some x). r.bound_below i p x old b)
            (λ (last : (i ≡ length cur) × (e ≡ x)). omega (arith, k.below p (owned p (ap bound last.1 ∙ b)), prefix_length v.seen cur seen))
            (at_longer_one cur e i x there);
        each = each_set (λ _ d. Owns bound (cur ++ e ∷ []) d) vs id w (owns_counted cur e v seen r.bound_below k)
            (λ j d other there. owns_more cur e d
            (λ p b has. absurd (omega (arith, owned p b, sum_two (owned_times p) vs j id d v other there at, r.owners p, once_one (length cur) p)))
            (r.each j d there));
      }

  pub places_split : (cur : List E) (vs : List (View E)) → Owned bound cur vs → (id : ℕ) (v : View E) → get_elem? vs id ≡ some v → Owned bound cur (set vs id (left_of v) ++ right_of v ∷ [])
  places_split cur vs r id v at = let k = r.each id v at in record {
    owners = λ p. omega (arith, sum_by_push (owned_times p) (set vs id (left_of v)) (right_of v), sum_set (owned_times p) vs id v (left_of v) at, r.owners p);
    bound_below = r.bound_below;
    each = each_snoc (Owns bound cur) (set vs id (left_of v)) (right_of v)
        record { below = λ p h. absurd (omega arith); closed = λ i p e _ _ h. absurd (omega arith) }
        (each_set (λ _ d. Owns bound cur d) vs id (left_of v) record { below = k.below; closed = k.closed } (λ j d _ e. r.each j d e));
  }

  pub places_join : (cur : List E) (vs : List (View E)) → Owned bound cur vs → (id other : ℕ) (v w : View E) → get_elem? vs id ≡ some v → get_elem? vs other ≡ some w → get_elem? (set vs id (both_of v w)) other ≡ some w
      → Owned bound cur (set (set vs id (both_of v w)) other spent_view)
  places_join cur vs r id other v w at wt bt = let u : View E = both_of v w in record {
    owners = λ p. omega (arith, sum_set (owned_times p) (set vs id u) other w spent_view bt, sum_set (owned_times p) vs id v u at, times-append p v.own w.own, r.owners p);
    bound_below = r.bound_below;
    each = each_set (λ _ d. Owns bound cur d) (set vs id u) other spent_view record { below = λ p h. absurd (omega arith); closed = λ i p e _ _ h. absurd (omega arith) }
        (λ j d _. each_set (λ _ x. Owns bound cur x) vs id u (owns_both cur v w (r.each id v at) (r.each other w wt)) (λ i x _ e. r.each i x e) j d);
  }

  pub places_open : (base : List ℕ) → Owned bound [] (opened base ∷ [])
  places_open base = record {
    owners = λ p. elim (ℕ_discrete p 0) [
      | yes e ↦ omega (arith, subst (λ (z : ℕ). times z (0 ∷ []) ≡ 1) (sym e) (times_here 0), once_at 0 p (omega arith))
      | no other ↦ omega (arith, times_other p 0 other, once_above 0 p (omega arith))
    ];
    bound_below = λ k p e at. absurd (some-ne-none e (sym at));
    each = λ i w at. subst (Owns bound []) (first_only (opened base) i w at) record {
      below = λ p h. elim (ℕ_discrete p 0) [ yes e ↦ omega arith | no other ↦ absurd (omega (arith, times_other p 0 other)) ];
      closed = λ k p e at. absurd (some-ne-none e (sym at));
    };
  }
