-- What a split and a join ask of the table, and what a join learns.
use Rattle.std.proofs.Common.{◌≡◌, ℕ, ◌<◌, ◌≤◌, List, length, sym, refl, ◌∙◌, subst, arith}
use mathlib.Core.Option as maybe
use Rattle.atomic_table.specs.Table.{keeps, Allows, Splits, Joins}
use Rattle.atomic_table.proofs.Lists.{set_else}
use Rattle.book_lock.specs.declared.view.Phase.TheVariants.{Idle}
use Rattle.book_lock.specs.declared.view.View.{View}
use Rattle.book_lock.specs.Views.{left_of, right_of, both_of, spent_view}
use Rattle.book_lock.specs.Places.{times}
use Rattle.book_lock.specs.Rule.{Rule}
use Rattle.book_lock.specs.Steps.{Stand, learned}
use Rattle.book_lock.proofs.Fronts.{prefix_shorter}
use Rattle.book_lock.proofs.Sums.{sum_one}
use Rattle.book_lock.proofs.Counts.{once_one}
use Rattle.book_lock.proofs.TicketsKept.{St, split_tickets, join_tickets}
use Rattle.book_lock.proofs.ListsKept.{lists_split, lists_join}
use Rattle.book_lock.proofs.PlacesKept.{owned_times, places_split, places_join}
use Rattle.book_lock.proofs.PartsKept.{parts_split, parts_join}
use Rattle.book_lock.proofs.Turns.{any, idles}

module _ {B E : Type 0} (entries : B → List E) (fixed : B → List ℕ) (bound : E → maybe.Option ℕ) (base : List ℕ) where
  abbrev R : St B E → Type 0
  R = Rule entries fixed bound base

  pub splits : (id : ℕ) (v : View E) → v.phase ≡ Idle → 1 < v.parts → Splits R id v (left_of v) (right_of v)
  splits id v is left s r at = record {
    tickets = split_tickets s r.tickets id v at is left;
    current = r.current;
    listed = lists_split entries s r.current r.listed id v at;
    owned = places_split bound r.current s.views r.owned id v at;
    parted = parts_split fixed base s r.parted id v at left;
  }

  pub joins : (id other : ℕ) (v w : View E) → v.phase ≡ Idle → w.phase ≡ Idle → 0 < v.parts → Joins R id v other w (both_of v w) spent_view
  joins id other v w iv iw part s r at apart bt = let wt = sym (set_else s.views id other (both_of v w) apart) ∙ bt in record {
    tickets = join_tickets s r.tickets id other v w at bt iv iw;
    current = r.current;
    listed = lists_join entries s r.current r.listed id other v w at wt iv;
    owned = places_join bound r.current s.views r.owned id other v w at wt bt;
    parted = parts_join fixed base s r.parted id other v w at part;
  }

  pub learns : (slots id : ℕ) (me : Stand B E) → Allows R slots id me 0 (λ n. n) (learned any me)
  learns slots id me s r _ at fits = let k = r.listed.each id me.0 at in (
    me.0,
    keeps,
    tt,
    idles entries fixed bound base s r 0 id me.0 at,
    (
      refl,
      record {
        told = λ h. prefix_shorter me.0.told me.0.seen r.current k.told k.seen h;
        once = λ p. omega (arith, sum_one (owned_times p) s.views id me.0 at, r.owned.owners p, once_one (length r.current) p);
      },
    ),
  )

-- the places of a seat after it learned
pub once_after : {B E : Type 0} (m m' : Stand B E) → learned any m 0 m' → (p : ℕ) → times p m'.0.own ≤ 1
once_after {B} {E} m m' h p = subst (λ (x : Stand B E). times p x.0.own ≤ 1) (sym h.0) (h.1.once p)
