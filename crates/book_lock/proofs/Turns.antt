-- What each step of a turn asks of the table: draw a ticket, look, count an entry, serve the next.
use Rattle.std.proofs.Common.{◌≡◌, ℕ, ◌+◌, ◌%◌, ◌^◌, ◌<◌, ◌≢◌, Bool, List, [], ◌∷◌, ◌++◌, length, get_or, set, sym, refl, ap, ◌∙◌, subst, arith, eq-eqb, ne_eqb, get_or-set_other, Option, Some, None, MatchBool}
use mathlib.Core.List.{IsPrefix}
use mathlib.Core.Option.{none, some}
use mathlib.Core.Option as maybe
use native.Mathlib.Decide.{ℕ_discrete}
use lib.ListN.{get_elem?}
use Rattle.atomic_table.specs.Table.{Step, step, keeps, takes, gives, homes_after, Allows, opening, rest}
use Rattle.atomic_table.proofs.Lists.{set_again}
use Rattle.book_lock.specs.declared.view.Phase.{Phase}
use Rattle.book_lock.specs.declared.view.Phase.TheVariants.{Idle, Waiting, Turn}
use Rattle.book_lock.specs.declared.view.View.{View}
use Rattle.book_lock.specs.Views.{Holds, opened, waiting, turn, counted, idle, seen_after}
use Rattle.book_lock.specs.Places.{times, Closed, Below}
use Rattle.book_lock.specs.Rule.{Rule}
use Rattle.book_lock.specs.Steps.{Stand, IsTaken, drew, looked, did_count, did_serve}
use Rattle.book_lock.proofs.Fronts.{prefix_length}
use Rattle.book_lock.proofs.Sums.{sum_one}
use Rattle.book_lock.proofs.Counts.{once_one}
use Rattle.book_lock.proofs.TicketsKept.{St, slot_gone, unmoved, draw_tickets, found_home, hit_tickets, count_tickets, serve_tickets, open_tickets}
use Rattle.book_lock.proofs.ListsKept.{after_is, saw_waiting, saw_turn, saw_idle, lists_kept, lists_counted, lists_open}
use Rattle.book_lock.proofs.PlacesKept.{owned_times, owns_kept, places_kept, places_counted, places_open}
use Rattle.book_lock.proofs.PartsKept.{shares_kept, parts_kept, parts_open}

-- no `Play` here reads the step
abbrev pub any : {B : Type 0} → Step B
any = step 0 0 0 0 none

abbrev head_slot : {B : Type 0} → List (ℕ × Option B) → Option B
head_slot [] = None
head_slot (x ∷ xs) = x.1

held_one : {B : Type 0} (a b : B) (c : List (ℕ × Option B)) → c ≡ (0, Some a) ∷ [] → c ≡ (0, Some b) ∷ [] → a ≡ b
held_one {B} a b c p q = let e : Some a ≡ Some b = ap (head_slot {B = B}) (sym p ∙ q) in cc

one_value : {B : Type 0} (a b : B) (hs : List (maybe.Option (Option B))) → hs ≡ some (Some a) ∷ [] → hs ≡ some (Some b) ∷ [] → a ≡ b
one_value a b hs p q = cc

module _ {B E : Type 0} (entries : B → List E) (fixed : B → List ℕ) (bound : E → maybe.Option ℕ) where
  looked_hit : (me : Stand B E) (b : B) (n : ℕ) → n ≡ me.0.ticket % 2 ^ 64 → IsTaken entries fixed bound me.0 b → looked entries fixed bound any me n (turn me.0 (entries b), (0, Some b) ∷ me.1)
  looked_hit me b n hit is = let m : Stand B E = (turn me.0 (entries b), (0, Some b) ∷ me.1) in
      subst (λ (z : Bool). MatchBool z ((x : B) × (m ≡ (turn me.0 (entries x), (0, Some x) ∷ me.1)) × IsTaken entries fixed bound me.0 x) (m ≡ me)) (sym (eq-eqb n (me.0.ticket % 2 ^ 64) hit)) (b, refl, is)

  looked_miss : (me : Stand B E) (n : ℕ) → n ≢ me.0.ticket % 2 ^ 64 → looked entries fixed bound any me n me
  looked_miss me n miss =
      subst (λ (z : Bool). MatchBool z ((b : B) × (me ≡ (turn me.0 (entries b), (0, Some b) ∷ me.1)) × IsTaken entries fixed bound me.0 b) (me ≡ me)) (sym (ne_eqb n (me.0.ticket % 2 ^ 64) miss)) refl

  -- what a look tells where it finds the seat's own ticket
  took : (me m : Stand B E) (n : ℕ) → looked entries fixed bound any me n m → n ≡ me.0.ticket % 2 ^ 64 → (b : B) × (m ≡ (turn me.0 (entries b), (0, Some b) ∷ me.1)) × IsTaken entries fixed bound me.0 b
  took me m n h hit = subst (λ (z : Bool). MatchBool z ((b : B) × (m ≡ (turn me.0 (entries b), (0, Some b) ∷ me.1)) × IsTaken entries fixed bound me.0 b) (m ≡ me)) (eq-eqb n (me.0.ticket % 2 ^ 64) hit) h

  -- the seat after it took the book
  pub took_from : (me m : Stand B E) (v : View E) (t n : ℕ) → me ≡ (waiting v t, []) → looked entries fixed bound any me n m → n ≡ me.0.ticket % 2 ^ 64
      → (b : B) × (m ≡ (turn (waiting v t) (entries b), (0, Some b) ∷ [])) × IsTaken entries fixed bound v b
  took_from me m v t n same h hit = let x = took me m n h hit in (
    x.0,
    x.1 ∙ (λ i. (turn (same i).0 (entries x.0), (0, Some x.0) ∷ (same i).1)),
    (let k = subst (λ (u : View E). IsTaken entries fixed bound u x.0) (ap (λ (z : Stand B E). z.0) same) x.2 in record { later = k.later; same = k.same; once = k.once; below = k.below; closed = k.closed; earlier = k.earlier }),
  )

module _ {B E : Type 0} (entries : B → List E) (fixed : B → List ℕ) (bound : E → maybe.Option ℕ) (base : List ℕ) where
  abbrev R : St B E → Type 0
  R = Rule entries fixed bound base

  pub draws : (slots id : ℕ) (me : Stand B E) → me.0.phase ≡ Idle → 0 < me.0.parts → Allows R slots id me 0 (λ n. (n + 1) % 2 ^ 64) (drew any me)
  draws slots id me is part s r _ at fits =
      let t = r.tickets in let v : View E = me.0 in let w : View E = waiting v t.next in (
        w,
        keeps,
        tt,
        record {
          tickets = draw_tickets s t id v me.1 at is part;
          current = r.current;
          listed = lists_kept entries s r.current r.listed _ s.homes id w (get_or-set_other s.words 0 2 _ 0 (λ e. omega arith)) r.listed.at_home (saw_waiting r.current v t.next (r.listed.each id v at));
          owned = places_kept bound r.current s.views r.owned id v w at refl (owns_kept bound r.current v w refl (omega arith) (r.owned.each id v at));
          parted = parts_kept fixed base s r.parted _ s.homes id w r.parted.at_home (shares_kept base v w part part refl (r.parted.each id v at));
        },
        (t.next, sym t.ticket_word, refl),
      )

  -- a step that changes nothing
  pub idles : (s : St B E) → R s → (i id : ℕ) (v : View E) → get_elem? s.views id ≡ some v → R record { words = set s.words i (get_or s.words i 0); homes = s.homes; views = set s.views id v }
  idles s r i id v at = unmoved R s i s.homes (set s.views id v) (subst (λ (z : List (View E)). R record { words = s.words; homes = s.homes; views = z }) (sym (set_again s.views id v at)) r)

  -- what is known of the book that is found at home
  is_taken : (s : St B E) (r : R s) (id : ℕ) (v : View E) (b : B) → get_elem? s.views id ≡ some v → 0 < v.parts → s.homes ≡ some (Some b) ∷ [] → IsTaken entries fixed bound v b
  is_taken s r id v b at part home =
      let is : entries b ≡ r.current = r.listed.at_home b home in record {
        later = subst (IsPrefix v.seen) (sym is) (r.listed.each id v at).seen;
        same = r.parted.at_home b home ∙ sym ((r.parted.each id v at).same part);
        once = λ p. omega (arith, sum_one (owned_times p) s.views id v at, r.owned.owners p, once_one (length r.current) p);
        below = (r.owned.each id v at).below;
        closed = subst (Closed bound v.own) (sym is) (r.owned.each id v at).closed;
        earlier = subst (Below bound) (sym is) r.owned.bound_below;
      }

  pub looks : (slots id : ℕ) (me : Stand B E) → me.0.phase ≡ Waiting → 0 < me.0.parts → Allows R slots id me 1 (λ n. n) (looked entries fixed bound any me)
  looks slots id me is part s r _ at fits = let t = r.tickets in let v : View E = me.0 in
      elim (ℕ_discrete (get_or s.words 1 0) (v.ticket % 2 ^ 64)) [
        | yes hit ↦
            let found = found_home s t id v at is hit in
            let b : B = found.1.0 in
            let home = found.1.1 in
            let w : View E = turn v (entries b) in
            let hs : List (maybe.Option (Option B)) = set s.homes 0 none in
            let gone : (x : B) → hs ≡ some (Some x) ∷ [] → ⊥ = λ x h. cc (ap (λ (z : List (maybe.Option (Option B))). set z 0 none) home, h) in (
              w,
              takes 0 (Some b),
              ap (λ (z : List (maybe.Option (Option B))). get_elem? z 0) home,
              record {
                tickets = hit_tickets s t id v me.1 b (entries b) at is found.0 home;
                current = r.current;
                listed = lists_kept entries s r.current r.listed _ hs id w (get_or-set_other s.words 1 2 _ 0 (λ e. omega arith)) (λ x h. absurd (gone x h)) (saw_turn r.current v (entries b) (r.listed.at_home b home) (r.listed.each id v at));
                owned = places_kept bound r.current s.views r.owned id v w at refl (owns_kept bound r.current v w refl (omega arith) (r.owned.each id v at));
                parted = parts_kept fixed base s r.parted _ hs id w (λ x h. absurd (gone x h)) (shares_kept base v w part part refl (r.parted.each id v at));
              },
              looked_hit entries fixed bound me b (get_or s.words 1 0) hit (is_taken s r id v b at part home),
            )
        | no miss ↦ (v, keeps, tt, idles s r 1 id v at, looked_miss entries fixed bound me (get_or s.words 1 0) miss)
      ]

  counts : (slots id : ℕ) (v : View E) (c : List (ℕ × Option B)) (b : B) (e : E) → v.phase ≡ Turn → 0 < v.parts → c ≡ (0, Some b) ∷ [] → entries b ≡ v.taken ++ e ∷ []
      → ((p : ℕ) → bound e ≡ some p → 0 < times p v.own) → Allows R slots id (v, c) 2 (λ n. (n + 1) % 2 ^ 64) (did_count entries any (v, c))
  counts slots id v c b e is part has more owned s r _ at fits =
      let k = r.listed.each id v at in
      let cur : List E = r.current in
      let taken : v.taken ≡ cur = k.in_turn is in
      let w : View E = counted v (cur ++ e ∷ []) in
      let now : entries b ≡ cur ++ e ∷ [] = more ∙ ap (λ (xs : List E). xs ++ e ∷ []) taken in (
        w,
        keeps,
        tt,
        record {
          tickets = count_tickets s r.tickets id v c (cur ++ e ∷ []) _ at is;
          current = cur ++ e ∷ [];
          listed = lists_counted entries s r.tickets cur r.listed id v c e at (subst Holds (sym is) tt);
          owned = places_counted bound cur s.views r.owned id v e at k.seen owned;
          parted = parts_kept fixed base s r.parted _ s.homes id w r.parted.at_home (shares_kept base v w part part refl (r.parted.each id v at));
        },
        (λ x h. let same : b ≡ x = held_one b x c has h in ap (λ (z : List E). (counted v z, c)) (sym now ∙ ap entries same)),
      )

  serves : (slots id : ℕ) (v : View E) (c : List (ℕ × Option B)) (b : B) → Holds v.phase → 0 < v.parts → c ≡ (0, Some b) ∷ [] → entries b ≡ seen_after v.phase v → fixed b ≡ base
      → Allows R slots id (v, c) 1 (λ n. (n + 1) % 2 ^ 64) (did_serve fixed any (v, c))
  serves slots id v c b holds part has is same s r _ at fits =
      let cur : List E = r.current in
      let k = r.listed.each id v at in
      let w : View E = idle v in
      let gone = slot_gone s r.tickets id v at holds in
      let after : seen_after v.phase v ≡ cur = after_is v.phase v cur holds k.in_turn k.just_counted in
      let hs : List (maybe.Option (Option B)) = homes_after s.homes c gives in
      let back : hs ≡ some (Some b) ∷ [] = (λ i. homes_after (gone i) (has i) gives) in (
        w,
        gives,
        tt,
        record {
          tickets = serve_tickets s r.tickets id v c b at holds has;
          current = cur;
          listed = lists_kept entries s cur r.listed _ hs id w (get_or-set_other s.words 1 2 _ 0 (λ e. omega arith)) (λ x h. subst (λ (z : B). entries z ≡ cur) (one_value b x hs back h) (is ∙ after)) (saw_idle cur v holds k);
          owned = places_kept bound cur s.views r.owned id v w at refl (owns_kept bound cur v w refl (omega (arith, prefix_length v.seen cur k.seen, ap length after)) (r.owned.each id v at));
          parted = parts_kept fixed base s r.parted _ hs id w (λ x h. subst (λ (z : B). fixed z ≡ base) (one_value b x hs back h) same) (shares_kept base v w part part refl (r.parted.each id v at));
        },
        (refl, λ x h. subst (λ (z : B). fixed z ≡ v.fixed) (held_one b x c has h) (same ∙ sym ((r.parted.each id v at).same part))),
      )

  -- The same of a seat whose view and slots are known by an equation.
  pub counts_at : (slots id : ℕ) (me : Stand B E) (v : View E) (b : B) (e : E) → me ≡ (v, (0, Some b) ∷ []) → v.phase ≡ Turn → 0 < v.parts → entries b ≡ v.taken ++ e ∷ []
      → ((p : ℕ) → bound e ≡ some p → 0 < times p v.own) → Allows R slots id me 2 (λ n. (n + 1) % 2 ^ 64) (did_count entries any me)
  counts_at slots id me v b e same is part more owned =
      subst (λ (m : Stand B E). Allows R slots id m 2 (λ n. (n + 1) % 2 ^ 64) (did_count entries any m)) (sym same) (counts slots id v ((0, Some b) ∷ []) b e is part refl more owned)

  pub serves_at : (slots id : ℕ) (me : Stand B E) (v : View E) (b : B) → me ≡ (v, (0, Some b) ∷ []) → Holds v.phase → 0 < v.parts → entries b ≡ seen_after v.phase v → fixed b ≡ base
      → Allows R slots id me 1 (λ n. (n + 1) % 2 ^ 64) (did_serve fixed any me)
  serves_at slots id me v b same holds part is kept =
      subst (λ (m : Stand B E). Allows R slots id m 1 (λ n. (n + 1) % 2 ^ 64) (did_serve fixed any m)) (sym same) (serves slots id v ((0, Some b) ∷ []) b holds part refl is kept)

pub after_turn : {E : Type 0} (v : View E) → v.phase ≡ Turn → seen_after v.phase v ≡ v.taken
after_turn v e = ap (λ (ph : Phase). seen_after ph v) e

module _ {B E : Type 0} where
  -- the seat after it gave the book back into the slot
  pub gave_back : (m m' : Stand B E) (b : B) → m.1 ≡ (0, None) ∷ [] → m' ≡ (m.0, (0, Some b) ∷ rest m.1) → m' ≡ (m.0, (0, Some b) ∷ [])
  gave_back m m' b out same = same ∙ (λ i. (m.0, (0, Some b) ∷ rest (out i)))

  -- the seat after it counted
  pub did : (entries : B → List E) (m m' : Stand B E) (v : View E) (b : B) → m ≡ (v, (0, Some b) ∷ []) → did_count entries any m 0 m' → m' ≡ (counted v (entries b), (0, Some b) ∷ [])
  did entries m m' v b same h = h b (ap (λ (x : Stand B E). x.1) same) ∙ (λ i. (counted (same i).0 (entries b), (same i).1))

pub opens : {B E : Type 0} (entries : B → List E) (fixed : B → List ℕ) (bound : E → maybe.Option ℕ) (t : ℕ) (b : B) → t < 2 ^ 64 → entries b ≡ []
    → Rule entries fixed bound (fixed b) (opening (t ∷ t ∷ 0 ∷ []) (Some b ∷ []) (opened (fixed b)))
opens entries fixed bound t b small none_yet = record {
  tickets = open_tickets t b (fixed b) small;
  current = [];
  listed = lists_open entries t b (fixed b) none_yet;
  owned = places_open bound (fixed b);
  parted = parts_open fixed t b;
}
