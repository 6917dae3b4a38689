-- Each step keeps the rule of the tickets.
use Rattle.std.proofs.Common.{◌≡◌, ℕ, ◌+◌, ◌%◌, ◌^◌, ◌<◌, ◌≤◌, ◌≢◌, List, [], ◌∷◌, ◌++◌, length, get_or, set, sym, refl, ap, ◌∙◌, subst, inl, inr, ⊎_elim, arith, add-zero, length-set, get_or-set_other, get_or-set_same, Option, Some}
use Rattle.std.specs.Prelude.{sum_by}
use Rattle.std.proofs.Math.Nat.{mod-add-mod, mod-eq_of_lt}
use Rattle.std.proofs.lemmas.List.{set-get_or}
use Rattle.std.proofs.lemmas.List.Sums.{sum_by_push}
use mathlib.Core.Logic.{dite}
use mathlib.Core.Option.{none, some, some-injective, some-ne-none}
use mathlib.Core.Option as maybe
use native.Mathlib.Decide.{ℕ_discrete}
use lib.ListN.{get_elem?}
use Rattle.atomic_table.specs.Table.{State, keeps, takes, gives, stepped, homes_after, opening}
use Rattle.atomic_table.proofs.Lists.{at_set, at_snoc, at_longer, set_else, set_here, one_turn}
use Rattle.book_lock.specs.declared.view.Phase.{Phase}
use Rattle.book_lock.specs.declared.view.Phase.TheVariants.{Idle, Waiting, Turn, Counted}
use Rattle.book_lock.specs.declared.view.View.{View}
use Rattle.book_lock.specs.Views.{out, Holds, is_out, parts_of, opened, waiting, turn, counted, idle, left_of, right_of, both_of, spent_view}
use Rattle.book_lock.specs.Tickets.{FitsAt, Slot, Tickets}
use Rattle.book_lock.proofs.Sums.{each_set, each_snoc, first_only, at_inside, sum_set, sum_below}

abbrev pub St : Type 0 → Type 0 → Type 0
St B E = State (Option B) (View E)

abbrev pub Apart : {E : Type 0} → List (View E) → Type 0
Apart {E} vs = (i j : ℕ) (v w : View E) → get_elem? vs i ≡ some v → get_elem? vs j ≡ some w → is_out v ≡ 1 → is_out w ≡ 1 → v.ticket ≡ w.ticket → i ≡ j

pub apart_set : {E : Type 0} (vs : List (View E)) (me : ℕ) (w : View E) → Apart vs
    → ((j : ℕ) (d : View E) → j ≢ me → get_elem? vs j ≡ some d → is_out d ≡ 1 → is_out w ≡ 1 → d.ticket ≢ w.ticket) → Apart (set vs me w)
apart_set {E} vs me w old differ i j a b ea eb oa ob e = ⊎_elim
    (λ (x : (i ≡ me) × (w ≡ a)). ⊎_elim
    (λ (y : (j ≡ me) × (w ≡ b)). x.0 ∙ sym y.0)
    (λ (y : (j ≢ me) × (get_elem? vs j ≡ some b)). absurd (differ j b y.0 y.1 ob (ap is_out x.1 ∙ oa) (sym e ∙ sym (ap (λ (d : View E). d.ticket) x.1))))
    (at_set vs me j w b eb))
    (λ (x : (i ≢ me) × (get_elem? vs i ≡ some a)). ⊎_elim
    (λ (y : (j ≡ me) × (w ≡ b)). absurd (differ i a x.0 x.1 oa (ap is_out y.1 ∙ ob) (e ∙ sym (ap (λ (d : View E). d.ticket) y.1))))
    (λ (y : (j ≢ me) × (get_elem? vs j ≡ some b)). old i j a b x.1 y.1 oa ob e)
    (at_set vs me j w b eb))
    (at_set vs me i w a ea)

-- a view that keeps its phase or goes to one in which its seat has no turn, while the value is at home
slot_home : {B E : Type 0} (vs : List (View E)) (me : ℕ) (w : View E) (b : B) → (Holds w.phase → ⊥) → ((i : ℕ) (v : View E) → i ≢ me → get_elem? vs i ≡ some v → Holds v.phase → ⊥) → Slot (some (Some b) ∷ []) (set vs me w)
slot_home {B} {E} vs me w b none_here others = inl (b, refl, each_set (λ j (d : View E). Holds d.phase → ⊥) vs me w none_here others)

slot_out : {B E : Type 0} (vs : List (View E)) (me : ℕ) (v w : View E) → get_elem? vs me ≡ some v → Holds w.phase → Slot {B = B} (none ∷ []) (set vs me w)
slot_out {B} {E} vs me v w at here = inr (refl, (me, w, set_here vs me w (at_inside vs me v at), here))

module _ {B E : Type 0} where
  -- the rule after the view of one seat has changed from v to w
  pub moved : (s : St B E) (r : Tickets s) (ws : List ℕ) (hs : List (maybe.Option (Option B))) (next served me : ℕ) (v w : View E)
      → get_elem? s.views me ≡ some v → w.parts ≡ v.parts → is_out w ≤ w.parts → length ws ≡ 3 → get_or ws 0 0 ≡ next % 2 ^ 64 → get_or ws 1 0 ≡ served % 2 ^ 64
      → next + (r.served + is_out v) ≡ served + (r.next + is_out w) → FitsAt served next w.ticket w.phase
      → ((j : ℕ) (d : View E) → j ≢ me → get_elem? s.views j ≡ some d → FitsAt served next d.ticket d.phase)
      → ((j : ℕ) (d : View E) → j ≢ me → get_elem? s.views j ≡ some d → is_out d ≡ 1 → is_out w ≡ 1 → d.ticket ≢ w.ticket)
      → Slot hs (set s.views me w) → Tickets record { words = ws; homes = hs; views = set s.views me w }
  moved s r ws hs next served me v w at same part wide t_word s_word count mine others differ slot = record {
    next = next;
    served = served;
    wide = wide;
    ticket_word = t_word;
    serving_word = s_word;
    drawn = omega (arith, sum_set is_out s.views me v w at, r.drawn);
    parts = omega (arith, sum_set parts_of s.views me v w at, r.parts);
    has_part = each_set (λ j d. is_out d ≤ d.parts) s.views me w part (λ j d _ e. r.has_part j d e);
    each = each_set (λ j d. FitsAt served next d.ticket d.phase) s.views me w mine others;
    apart = apart_set s.views me w r.apart differ;
    slot = slot;
  }

pub slot_stay : {B E : Type 0} (hs : List (maybe.Option (Option B))) (vs : List (View E)) (me : ℕ) (v w : View E) → get_elem? vs me ≡ some v → (Holds v.phase → ⊥) → (Holds w.phase → ⊥) → Slot hs vs → Slot hs (set vs me w)
slot_stay {B} {E} hs vs me v w at before after slot = elim slot [
  | inl h ↦ inl (h.0, h.1, each_set (λ j (d : View E). Holds d.phase → ⊥) vs me w after (λ j d _ e. h.2 j d e))
  | inr o ↦
      let apart : o.1.0 ≢ me = λ e. before (subst (λ (d : View E). Holds d.phase) (some-injective o.1.1 v (sym o.1.2 ∙ (ap (get_elem? vs) e ∙ at))) o.1.3) in
      inr (o.0, (o.1.0, o.1.1, set_else vs me o.1.0 w apart ∙ o.1.2, o.1.3))
]

fits_more : (served next t : ℕ) (ph : Phase) → FitsAt served next t ph → FitsAt served (next + 1) t ph
fits_more served next t Idle f = tt
fits_more served next t Waiting f = (f.0, omega arith)
fits_more served next t Turn f = (f.0, omega arith)
fits_more served next t Counted f = (f.0, omega arith)

fits_below : (served next t : ℕ) (ph : Phase) → FitsAt served next t ph → out ph ≡ 1 → t < next
fits_below served next t Idle f o = absurd (omega arith)
fits_below served next t Waiting f o = f.1
fits_below served next t Turn f o = f.1
fits_below served next t Counted f o = f.1

not_waiting : (ph : Phase) → ph ≡ Waiting → Holds ph → ⊥
not_waiting Idle e h = h
not_waiting Waiting e h = h
not_waiting Turn e h = cc
not_waiting Counted e h = cc

pub not_idle : (ph : Phase) → ph ≡ Idle → Holds ph → ⊥
not_idle Idle e h = h
not_idle Waiting e h = h
not_idle Turn e h = cc
not_idle Counted e h = cc

pub holds_out : (ph : Phase) → Holds ph → out ph ≡ 1
holds_out Idle h = absurd h
holds_out Waiting h = absurd h
holds_out Turn h = refl
holds_out Counted h = refl

pub holds_served : (served next t : ℕ) (ph : Phase) → FitsAt served next t ph → Holds ph → (t ≡ served) × (t < next)
holds_served served next t Idle f h = absurd h
holds_served served next t Waiting f h = absurd h
holds_served served next t Turn f h = f
holds_served served next t Counted f h = f

fits_next : (served next t : ℕ) (ph : Phase) → FitsAt served next t ph → (out ph ≡ 1 → t ≢ served) → FitsAt (served + 1) next t ph
fits_next served next t Idle f n = tt
fits_next served next t Waiting f n = let m = n refl in (omega arith, f.1)
fits_next served next t Turn f n = absurd (n refl f.0)
fits_next served next t Counted f n = absurd (n refl f.0)

module _ {B E : Type 0} where
  -- a step that changes no word
  pub unmoved : (P : St B E → Type 0) (s : St B E) (i : ℕ) (hs : List (maybe.Option (Option B))) (vs : List (View E)) → P record { words = s.words; homes = hs; views = vs } → P record { words = set s.words i (get_or s.words i 0); homes = hs; views = vs }
  unmoved P s i hs vs r = subst (λ (ws : List ℕ). P record { words = ws; homes = hs; views = vs }) (sym (set-get_or s.words i 0)) r

  pub draw_tickets : (s : St B E) (r : Tickets s) (id : ℕ) (v : View E) (c : List (ℕ × Option B)) → get_elem? s.views id ≡ some v → v.phase ≡ Idle → 0 < v.parts
      → Tickets (stepped s 0 ((get_or s.words 0 0 + 1) % 2 ^ 64) id c (waiting v r.next) keeps)
  draw_tickets s r id v c at is part =
      let before : is_out v ≡ 0 = ap out is in
      let w : View E = waiting v r.next in
      let ws : List ℕ = set s.words 0 ((get_or s.words 0 0 + 1) % 2 ^ 64) in
      let word : get_or ws 0 0 ≡ (r.next + 1) % 2 ^ 64 =
      get_or-set_same s.words 0 _ 0 (omega (arith, r.wide)) ∙ (ap (λ (z : ℕ). (z + 1) % 2 ^ 64) r.ticket_word ∙ mod-add-mod r.next (2 ^ 64) 1) in
      let other : get_or ws 1 0 ≡ r.served % 2 ^ 64 = get_or-set_other s.words 0 1 _ 0 (λ e. omega arith) ∙ r.serving_word in
      moved s r ws s.homes (r.next + 1) r.served id v w at refl (omega arith) (length-set s.words 0 _ ∙ r.wide) word other (omega arith)
      (omega (arith, r.drawn), omega arith)
      (λ j d _ e. fits_more r.served r.next d.ticket d.phase (r.each j d e))
      (λ j d _ e o _ same. let below = fits_below r.served r.next d.ticket d.phase (r.each j d e) o in omega arith)
      (slot_stay s.homes s.views id v w at (not_idle v.phase is) (λ h. h) r.slot)

  -- only one seat has the ticket that is served
  alone_served : (s : St B E) (r : Tickets s) (me : ℕ) (v : View E) → get_elem? s.views me ≡ some v → is_out v ≡ 1 → v.ticket ≡ r.served
      → (j : ℕ) (d : View E) → j ≢ me → get_elem? s.views j ≡ some d → Holds d.phase → ⊥
  alone_served s r me v at o is j d other e h = other (r.apart j me d v e at (holds_out d.phase h) o ((holds_served r.served r.next d.ticket d.phase (r.each j d e) h).0 ∙ sym is))

  -- only one seat has the turn
  pub alone : (s : St B E) (r : Tickets s) (me : ℕ) (v : View E) → get_elem? s.views me ≡ some v → Holds v.phase → (j : ℕ) (d : View E) → j ≢ me → get_elem? s.views j ≡ some d → Holds d.phase → ⊥
  alone s r me v at h = alone_served s r me v at (holds_out v.phase h) (holds_served r.served r.next v.ticket v.phase (r.each me v at) h).0

  -- the book is at home where the seat that is served waits
  is_home : (s : St B E) (r : Tickets s) (me : ℕ) (v : View E) → get_elem? s.views me ≡ some v → v.phase ≡ Waiting → v.ticket ≡ r.served → (b : B) × (s.homes ≡ some (Some b) ∷ [])
  is_home s r me v at is served = elim r.slot [
    | inl h ↦ (h.0, h.1)
    | inr o ↦ absurd (
        let none_else = alone_served s r me v at (ap out is) served in
        dite (ℕ_discrete o.1.0 me)
        (λ e. not_waiting o.1.1.phase (ap (λ (d : View E). d.phase) (some-injective o.1.1 v (sym o.1.2 ∙ (ap (get_elem? s.views) e ∙ at))) ∙ is) o.1.3)
        (λ other. none_else o.1.0 o.1.1 other o.1.2 o.1.3))
  ]

  pub found_home : (s : St B E) (r : Tickets s) (id : ℕ) (v : View E) → get_elem? s.views id ≡ some v → v.phase ≡ Waiting → get_or s.words 1 0 ≡ v.ticket % 2 ^ 64
      → (r.served ≡ v.ticket) × ((b : B) × (s.homes ≡ some (Some b) ∷ []))
  found_home s r id v at is hit =
      let fits : (r.served ≤ v.ticket) × (v.ticket < r.next) = subst (FitsAt r.served r.next v.ticket) is (r.each id v at) in
      let few : sum_by is_out s.views ≤ 2 ^ 32 = omega (arith, sum_below is_out parts_of s.views r.has_part, r.parts) in
      let served : r.served ≡ v.ticket = one_turn r.served v.ticket (2 ^ 64) fits.0 (omega (arith, r.drawn)) (sym r.serving_word ∙ hit) in
      (served, is_home s r id v at is (sym served))

  pub hit_tickets : (s : St B E) (r : Tickets s) (id : ℕ) (v : View E) (c : List (ℕ × Option B)) (b : B) (xs : List E) → get_elem? s.views id ≡ some v → v.phase ≡ Waiting → r.served ≡ v.ticket → s.homes ≡ some (Some b) ∷ []
      → Tickets (stepped s 1 (get_or s.words 1 0) id c (turn v xs) (takes 0 (Some b)))
  hit_tickets s r id v c b xs at is served home =
      let fits : (r.served ≤ v.ticket) × (v.ticket < r.next) = subst (FitsAt r.served r.next v.ticket) is (r.each id v at) in
      let w : View E = turn v xs in
      let o : is_out v ≡ 1 = ap out is in
      let hs : List (maybe.Option (Option B)) = none ∷ [] in
      let moved_to : Tickets record { words = s.words; homes = hs; views = set s.views id w } =
      moved s r s.words hs r.next r.served id v w at refl (omega (arith, r.has_part id v at)) r.wide r.ticket_word r.serving_word (omega arith)
      (sym served, fits.1)
      (λ j d _ e. r.each j d e)
      (λ j d other e od _ same. other (r.apart j id d v e at od o same))
      (slot_out s.views id v w at tt) in
      unmoved Tickets s 1 (set s.homes 0 none) (set s.views id w) (subst (λ (z : List (maybe.Option (Option B))). Tickets record { words = s.words; homes = set z 0 none; views = set s.views id w }) (sym home) moved_to)

  -- while a seat has the turn the slot is empty
  pub slot_gone : (s : St B E) (r : Tickets s) (id : ℕ) (v : View E) → get_elem? s.views id ≡ some v → Holds v.phase → s.homes ≡ none ∷ []
  slot_gone s r id v at holds = elim r.slot [ inl h ↦ absurd (h.2 id v at holds) | inr q ↦ q.0 ]

  pub count_tickets : (s : St B E) (r : Tickets s) (id : ℕ) (v : View E) (c : List (ℕ × Option B)) (xs : List E) (n : ℕ) → get_elem? s.views id ≡ some v → v.phase ≡ Turn
      → Tickets (stepped s 2 n id c (counted v xs) keeps)
  count_tickets s r id v c xs n at is =
      let holds : Holds v.phase = subst Holds (sym is) tt in
      let o : is_out v ≡ 1 = ap out is in
      let w : View E = counted v xs in
      let ws : List ℕ = set s.words 2 n in
      let here = holds_served r.served r.next v.ticket v.phase (r.each id v at) holds in
      let first : get_or ws 0 0 ≡ r.next % 2 ^ 64 = get_or-set_other s.words 2 0 _ 0 (λ e. omega arith) ∙ r.ticket_word in
      let second : get_or ws 1 0 ≡ r.served % 2 ^ 64 = get_or-set_other s.words 2 1 _ 0 (λ e. omega arith) ∙ r.serving_word in
      moved s r ws s.homes r.next r.served id v w at refl (omega (arith, r.has_part id v at)) (length-set s.words 2 _ ∙ r.wide) first second (omega arith)
      here
      (λ j d _ e. r.each j d e)
      (λ j d other e od _ same. other (r.apart j id d v e at od o same))
      (subst (λ (z : List (maybe.Option (Option B))). Slot z (set s.views id w)) (sym (slot_gone s r id v at holds)) (slot_out s.views id v w at tt))

  pub serve_tickets : (s : St B E) (r : Tickets s) (id : ℕ) (v : View E) (c : List (ℕ × Option B)) (b : B) → get_elem? s.views id ≡ some v → Holds v.phase → c ≡ (0, Some b) ∷ []
      → Tickets (stepped s 1 ((get_or s.words 1 0 + 1) % 2 ^ 64) id c (idle v) gives)
  serve_tickets s r id v c b at holds has =
      let w : View E = idle v in
      let o : is_out v ≡ 1 = holds_out v.phase holds in
      let here = holds_served r.served r.next v.ticket v.phase (r.each id v at) holds in
      let none_else = alone s r id v at holds in
      let gone = slot_gone s r id v at holds in
      let ws : List ℕ = set s.words 1 ((get_or s.words 1 0 + 1) % 2 ^ 64) in
      let word : get_or ws 1 0 ≡ (r.served + 1) % 2 ^ 64 =
      get_or-set_same s.words 1 _ 0 (omega (arith, r.wide)) ∙ (ap (λ (z : ℕ). (z + 1) % 2 ^ 64) r.serving_word ∙ mod-add-mod r.served (2 ^ 64) 1) in
      let other : get_or ws 0 0 ≡ r.next % 2 ^ 64 = get_or-set_other s.words 1 0 _ 0 (λ e. omega arith) ∙ r.ticket_word in
      let moved_to : Tickets record { words = ws; homes = some (Some b) ∷ []; views = set s.views id w } =
      moved s r ws (some (Some b) ∷ []) r.next (r.served + 1) id v w at refl (omega arith) (length-set s.words 1 _ ∙ r.wide) other word (omega arith) tt
      (λ j d apart e. fits_next r.served r.next d.ticket d.phase (r.each j d e) (λ od same. apart (r.apart j id d v e at od o (same ∙ sym here.0))))
      (λ j d _ e od ow _. omega arith)
      (slot_home s.views id w b (λ h. h) none_else) in
      subst (λ (z : List (maybe.Option (Option B)) × List (ℕ × Option B)). Tickets record { words = ws; homes = homes_after z.0 z.1 gives; views = set s.views id w }) (λ i. (sym gone i, sym has i)) moved_to

  -- any first ticket will do
  pub open_tickets : (t : ℕ) (b : B) (base : List ℕ) → t < 2 ^ 64 → Tickets {B = B} {E = E} (opening (t ∷ t ∷ 0 ∷ []) (Some b ∷ []) (opened base))
  open_tickets t b base small = record {
    next = t;
    served = t;
    wide = refl;
    ticket_word = sym (mod-eq_of_lt small);
    serving_word = sym (mod-eq_of_lt small);
    drawn = sym (add-zero t);
    parts = refl;
    has_part = λ i v e. omega (arith, ap is_out (first_only (opened base) i v e));
    each = λ i v e. subst (λ (d : View E). FitsAt t t d.ticket d.phase) (first_only (opened base) i v e) tt;
    apart = λ i j v w e f o _ _. absurd (omega (arith, ap is_out (first_only (opened base) i v e)));
    slot = inl (b, refl, λ i v e h. subst (λ (d : View E). Holds d.phase) (sym (first_only (opened base) i v e)) h);
  }

at_rest : (served next t : ℕ) (ph : Phase) → ph ≡ Idle → FitsAt served next t ph
at_rest served next t ph e = subst (FitsAt served next t) (sym e) tt

module _ {B E : Type 0} where
  pub split_tickets : (s : St B E) (r : Tickets s) (id : ℕ) (v : View E) → get_elem? s.views id ≡ some v → v.phase ≡ Idle → 1 < v.parts
      → Tickets record { words = s.words; homes = s.homes; views = set s.views id (left_of v) ++ right_of v ∷ [] }
  split_tickets s r id v at is some_left =
      let l : View E = left_of v in let q : View E = right_of v in let vs = set s.views id l in
      let o : is_out v ≡ 0 = ap out is in record {
        next = r.next;
        served = r.served;
        wide = r.wide;
        ticket_word = r.ticket_word;
        serving_word = r.serving_word;
        drawn = omega (arith, sum_by_push is_out vs q, sum_set is_out s.views id v l at, r.drawn);
        parts = omega (arith, sum_by_push parts_of vs q, sum_set parts_of s.views id v l at, r.parts);
        has_part = each_snoc (λ d. is_out d ≤ d.parts) vs q (omega arith) (each_set (λ _ d. is_out d ≤ d.parts) s.views id l (omega arith) (λ j d _ e. r.has_part j d e));
        each = each_snoc (λ d. FitsAt r.served r.next d.ticket d.phase) vs q (at_rest r.served r.next v.ticket v.phase is)
            (each_set (λ _ d. FitsAt r.served r.next d.ticket d.phase) s.views id l (at_rest r.served r.next v.ticket v.phase is) (λ j d _ e. r.each j d e));
        apart = λ i j a b ea eb oa ob e.
            ⊎_elim
            (λ (x : get_elem? vs i ≡ some a). ⊎_elim
            (λ (y : get_elem? vs j ≡ some b). apart_set s.views id l r.apart (λ _ _ _ _ _ w _. omega arith) i j a b x y oa ob e)
            (λ (y : q ≡ b). absurd (omega (arith, ap is_out y)))
            (at_snoc vs q b j eb))
            (λ (x : q ≡ a). absurd (omega (arith, ap is_out x)))
            (at_snoc vs q a i ea);
        slot = elim (slot_stay s.homes s.views id v l at (not_idle v.phase is) (not_idle v.phase is) r.slot) [
          | inl h ↦ inl (h.0, h.1, each_snoc (λ (d : View E). Holds d.phase → ⊥) vs q (not_idle v.phase is) h.2)
          | inr h ↦ inr (h.0, (h.1.0, h.1.1, at_longer vs (q ∷ []) h.1.0 h.1.1 h.1.2, h.1.3))
        ];
      }

  pub join_tickets : (s : St B E) (r : Tickets s) (id other : ℕ) (v w : View E) → get_elem? s.views id ≡ some v → get_elem? (set s.views id (both_of v w)) other ≡ some w → v.phase ≡ Idle → w.phase ≡ Idle
      → Tickets record { words = s.words; homes = s.homes; views = set (set s.views id (both_of v w)) other spent_view }
  join_tickets s r id other v w at bt iv iw =
      let u : View E = both_of v w in let z : View E = spent_view in let vs = set s.views id u in
      let ov : is_out v ≡ 0 = ap out iv in let ow : is_out w ≡ 0 = ap out iw in record {
        next = r.next;
        served = r.served;
        wide = r.wide;
        ticket_word = r.ticket_word;
        serving_word = r.serving_word;
        drawn = omega (arith, sum_set is_out vs other w z bt, sum_set is_out s.views id v u at, r.drawn);
        parts = omega (arith, sum_set parts_of vs other w z bt, sum_set parts_of s.views id v u at, r.parts);
        has_part = each_set (λ _ d. is_out d ≤ d.parts) vs other z (omega arith) (λ j d _. each_set (λ _ x. is_out x ≤ x.parts) s.views id u (omega arith) (λ i x _ e. r.has_part i x e) j d);
        each = each_set (λ _ d. FitsAt r.served r.next d.ticket d.phase) vs other z tt
            (λ j d _. each_set (λ _ x. FitsAt r.served r.next x.ticket x.phase) s.views id u (at_rest r.served r.next v.ticket v.phase iv) (λ i x _ e. r.each i x e) j d);
        apart = apart_set vs other z (apart_set s.views id u r.apart (λ _ _ _ _ _ o _. omega arith)) (λ _ _ _ _ _ o _. omega arith);
        slot = slot_stay s.homes vs other w z bt (not_idle w.phase iw) (λ h. h) (slot_stay s.homes s.views id v u at (not_idle v.phase iv) (not_idle v.phase iv) r.slot);
      }
