-- Each step keeps the rule of the list.
use Rattle.std.proofs.Common.{◌≡◌, ℕ, ◌+◌, ◌%◌, ◌^◌, ltb, if◌then◌else◌, Bool, true, false, List, [], ◌∷◌, ◌++◌, length, get_or, set, sym, refl, ap, ◌∙◌, subst, arith, length-append, get_or-set_same, Option, Some}
use Rattle.std.proofs.Math.Nat.{mod-add-mod}
use mathlib.Core.List.{IsPrefix}
use mathlib.Core.Option.{some}
use mathlib.Core.Option as maybe
use lib.ListN.{get_elem?}
use Rattle.atomic_table.specs.Table.{keeps, stepped, opening}
use Rattle.book_lock.specs.declared.view.Phase.{Phase}
use Rattle.book_lock.specs.declared.view.Phase.TheVariants.{Idle, Waiting, Turn, Counted}
use Rattle.book_lock.specs.declared.view.View.{View}
use Rattle.book_lock.specs.Views.{Holds, opened, waiting, turn, counted, idle, seen_after, left_of, right_of, both_of, spent_view}
use Rattle.book_lock.specs.Tickets.{Tickets}
use Rattle.book_lock.specs.Lists.{Saw, Listed}
use Rattle.book_lock.proofs.Fronts.{prefix_self, prefix_is, prefix_more}
use Rattle.book_lock.proofs.Sums.{each_set, each_snoc, first_only}
use Rattle.book_lock.proofs.TicketsKept.{St, alone, holds_served, slot_gone}

-- one of two lists
pick : {E : Type 0} (P : List E → Type 0) (b : Bool) (xs ys : List E) → P xs → P ys → P (if b then xs else ys)
pick P true xs ys p q = p
pick P false xs ys p q = q

module _ {E : Type 0} where
  -- who gives the turn up has seen the current list
  pub after_is : (ph : Phase) (v : View E) (cur : List E) → Holds ph → (ph ≡ Turn → v.taken ≡ cur) → (ph ≡ Counted → v.seen ≡ cur) → seen_after ph v ≡ cur
  after_is Idle v cur h t c = absurd h
  after_is Waiting v cur h t c = absurd h
  after_is Turn v cur h t c = t refl
  after_is Counted v cur h t c = c refl

  pub saw_waiting : (cur : List E) (v : View E) (t : ℕ) → Saw cur v → Saw cur (waiting v t)
  saw_waiting cur v t k = record { seen = k.seen; told = k.told; in_turn = λ e. absurd (cc (e)); just_counted = λ e. absurd (cc (e)) }

  pub saw_turn : (cur : List E) (v : View E) (xs : List E) → xs ≡ cur → Saw cur v → Saw cur (turn v xs)
  saw_turn cur v xs is k = record { seen = k.seen; told = k.told; in_turn = λ e. is; just_counted = λ e. absurd (cc (e)) }

  pub saw_idle : (cur : List E) (v : View E) → Holds v.phase → Saw cur v → Saw cur (idle v)
  saw_idle cur v holds k = record {
    seen = prefix_is (seen_after v.phase v) cur (after_is v.phase v cur holds k.in_turn k.just_counted);
    told = k.told;
    in_turn = λ e. absurd (cc (e));
    just_counted = λ e. absurd (cc (e));
  }

  -- who counted the entry
  saw_counted : (cur : List E) (e : E) (v : View E) → Saw cur v → Saw (cur ++ e ∷ []) (counted v (cur ++ e ∷ []))
  saw_counted cur e v k = record { seen = prefix_self (cur ++ e ∷ []); told = prefix_more v.told cur e k.told; in_turn = λ is. absurd (cc (is)); just_counted = λ _. refl }

  -- who has no turn, where an entry was added
  saw_more : (cur : List E) (e : E) (d : View E) → (Holds d.phase → ⊥) → Saw cur d → Saw (cur ++ e ∷ []) d
  saw_more cur e d away k = record {
    seen = prefix_more d.seen cur e k.seen;
    told = prefix_more d.told cur e k.told;
    in_turn = λ is. absurd (away (subst Holds (sym is) tt));
    just_counted = λ is. absurd (away (subst Holds (sym is) tt));
  }

  saw_both : (cur : List E) (v w : View E) → v.phase ≡ Idle → Saw cur v → Saw cur w → Saw cur (both_of v w)
  saw_both cur v w iv k m = record {
    seen = pick (λ xs. IsPrefix xs cur) (ltb (length v.seen) (length w.seen)) w.seen v.seen m.seen k.seen;
    told = pick (λ xs. IsPrefix xs cur) (ltb (length v.seen) (length w.seen)) v.seen w.seen k.seen m.seen;
    in_turn = λ e. absurd (cc (iv, e));
    just_counted = λ e. absurd (cc (iv, e));
  }

module _ {B E : Type 0} (entries : B → List E) where
  -- a step of one seat that adds no entry
  pub lists_kept : (s : St B E) (cur : List E) → Listed entries cur s → (ws : List ℕ) (hs : List (maybe.Option (Option B))) (me : ℕ) (w : View E) → get_or ws 2 0 ≡ get_or s.words 2 0
      → ((b : B) → hs ≡ some (Some b) ∷ [] → entries b ≡ cur) → Saw cur w → Listed entries cur record { words = ws; homes = hs; views = set s.views me w }
  lists_kept s cur r ws hs me w word home saw = record {
    count_word = word ∙ r.count_word;
    at_home = home;
    each = each_set (λ _ d. Saw cur d) s.views me w saw (λ j d _ e. r.each j d e);
  }

  -- a seat in its turn counts an entry
  pub lists_counted : (s : St B E) (t : Tickets s) (cur : List E) → Listed entries cur s → (id : ℕ) (v : View E) (c : List (ℕ × Option B)) (e : E) → get_elem? s.views id ≡ some v → Holds v.phase
      → Listed entries (cur ++ e ∷ []) (stepped s 2 ((get_or s.words 2 0 + 1) % 2 ^ 64) id c (counted v (cur ++ e ∷ [])) keeps)
  lists_counted s t cur r id v c e at holds =
      let long : length (cur ++ e ∷ []) ≡ length cur + 1 = length-append cur (e ∷ []) in
      let served = holds_served t.served t.next v.ticket v.phase (t.each id v at) holds in record {
        count_word = get_or-set_same s.words 2 _ 0 (omega (arith, t.wide)) ∙ (ap (λ (z : ℕ). (z + 1) % 2 ^ 64) r.count_word ∙ (mod-add-mod (length cur) (2 ^ 64) 1 ∙ ap (λ (z : ℕ). z % 2 ^ 64) (sym long)));
        at_home = λ b h. absurd (cc (slot_gone s t id v at holds, h));
        each = each_set (λ _ d. Saw (cur ++ e ∷ []) d) s.views id (counted v (cur ++ e ∷ [])) (saw_counted cur e v (r.each id v at))
            (λ j d other there. saw_more cur e d (alone s t id v at holds j d other there) (r.each j d there));
      }

  pub lists_split : (s : St B E) (cur : List E) → Listed entries cur s → (id : ℕ) (v : View E) → get_elem? s.views id ≡ some v
      → Listed entries cur record { words = s.words; homes = s.homes; views = set s.views id (left_of v) ++ right_of v ∷ [] }
  lists_split s cur r id v at = let k = r.each id v at in record {
    count_word = r.count_word;
    at_home = r.at_home;
    each = each_snoc (Saw cur) (set s.views id (left_of v)) (right_of v)
        record { seen = k.seen; told = k.told; in_turn = k.in_turn; just_counted = k.just_counted }
        (each_set (λ _ d. Saw cur d) s.views id (left_of v) record { seen = k.seen; told = k.told; in_turn = k.in_turn; just_counted = k.just_counted } (λ j d _ e. r.each j d e));
  }

  pub lists_join : (s : St B E) (cur : List E) → Listed entries cur s → (id other : ℕ) (v w : View E) → get_elem? s.views id ≡ some v → get_elem? s.views other ≡ some w → v.phase ≡ Idle
      → Listed entries cur record { words = s.words; homes = s.homes; views = set (set s.views id (both_of v w)) other spent_view }
  lists_join s cur r id other v w at bt iv = record {
    count_word = r.count_word;
    at_home = r.at_home;
    each = each_set (λ _ d. Saw cur d) (set s.views id (both_of v w)) other spent_view
        record { seen = (cur, refl); told = (cur, refl); in_turn = λ e. absurd (cc (e)); just_counted = λ e. absurd (cc (e)) }
        (λ j d _. each_set (λ _ x. Saw cur x) s.views id (both_of v w) (saw_both cur v w iv (r.each id v at) (r.each other w bt)) (λ i x _ e. r.each i x e) j d);
  }

  pub lists_open : (t : ℕ) (b : B) (base : List ℕ) → entries b ≡ [] → Listed entries [] (opening (t ∷ t ∷ 0 ∷ []) (Some b ∷ []) (opened base))
  lists_open t b base none_yet = record {
    count_word = refl;
    at_home = λ x h. let e : b ≡ x = cc (h) in subst (λ (z : B). entries z ≡ []) e none_yet;
    each = λ i w at. subst (Saw []) (first_only (opened base) i w at) record { seen = prefix_self []; told = prefix_self []; in_turn = λ _. refl; just_counted = λ _. refl };
  }
