-- What a disk in memory keeps of its steps.
use Rattle.std.specs.Prelude.{ℕ, zero, suc, ◌+◌, ◌≡◌, ◌≤◌, List, [], ◌∷◌, length, take, drop}
use Rattle.std.proofs.Common.{refl, sym, ap, ◌∙◌, subst, arith}
use Rattle.std.proofs.lemmas.List.{take_all}
use Rattle.vault_disk.specs.declared.step.Step.{Step}
use Rattle.vault_disk.specs.declared.step.Step.TheVariants.{Wrote, Synced}
use Rattle.vault_disk.specs.Disk.{Torn}
use Rattle.vault_disk.specs.Content.{put_at, Content, begun, after, replayed, MayLeave}
use Rattle.vault_disk.specs.Memory.{Memory, content, memory_state, left_now, left_from}

pub untorn : (place : ℕ) (xs : List ℕ) → Torn place 1 xs xs
untorn place xs = record { before = refl; behind = refl; no_shorter = omega arith; no_longer = omega arith }

torn_cons : (x place : ℕ) (xs ys : List ℕ) → Torn place 1 xs ys → Torn (suc place) 1 (x ∷ xs) (x ∷ ys)
torn_cons x place xs ys torn = record {
  before = ap (λ (l : List ℕ). x ∷ l) torn.before;
  behind = let e : suc place + 1 ≡ suc (place + 1) = omega arith in rw e torn.behind;
  no_shorter = omega (arith, torn.no_shorter);
  no_longer = omega (arith, torn.no_longer);
}

-- a byte put there is one outcome of its write
pub torn_put : (xs : List ℕ) (place byte : ℕ) → Torn place 1 xs (put_at xs place byte)
torn_put [] zero byte = record { before = refl; behind = refl; no_shorter = omega arith; no_longer = omega arith }
torn_put [] (suc place) byte = untorn (suc place) []
torn_put (x ∷ xs) zero byte = record { before = refl; behind = refl; no_shorter = omega arith; no_longer = omega arith }
torn_put (x ∷ xs) (suc place) byte = torn_cons x place xs (put_at xs place byte) (torn_put xs place byte)

abbrev ReadsLeft : Content → Type 0
ReadsLeft c = MayLeave c c.seen

step_reads : (step : Step) (c : Content) → ReadsLeft c → ReadsLeft (after step c)
step_reads (Wrote place byte) c left = (c.seen, left, torn_put c.seen place byte)
step_reads Synced c left = refl

pub replayed_reads : (c : Content) (steps : List Step) → ReadsLeft c → ReadsLeft (replayed c steps)
replayed_reads c [] left = left
replayed_reads c (step ∷ steps) left = replayed_reads (after step c) steps (step_reads step c left)

pub reads_left : (m : Memory) → left_now m (content m).seen
reads_left m = replayed_reads (begun m.first) m.steps refl

abbrev left_after : Memory → List ℕ → List Step → Type 0
left_after m c steps = MayLeave (replayed (begun m.first) steps) c

pub counts_now : (m : Memory) (t : ℕ) (c : List ℕ) → t ≤ length m.steps → left_now m c → left_from m t c
counts_now m t c le left = (length m.steps, le, omega arith, subst (left_after m c) (sym (take_all (length m.steps) m.steps (omega arith))) left)

pub only_now : (m : Memory) (c : List ℕ) → left_from m (length m.steps) c → left_now m c
only_now m c (k, from, within, left) = subst (left_after m c) (take_all k m.steps from) left
