use Rattle.std.proofs.Common.{◌≡◌, ℕ, ◌-◌, ◌+◌, ◌≤◌, List, Option}
use Rattle.prot_boxes.specs.declared.sbgp.SbgpItem.{SbgpItem}
use Rattle.prot_boxes.specs.declared.seig.Seig.{Seig}
use Rattle.prot_boxes.specs.declared.sinf.Sinf.{Sinf}
use Rattle.sample_aux.specs.declared.groups.Grouping.{Grouping}
use Rattle.sample_aux.specs.declared.groups.SampleProtection.{SampleProtection}
use Rattle.sample_aux.specs.InOrder.{in_order}
use Rattle.sample_aux.specs.Groups.{index_at, rule_at, rules_at}
use Rattle.sample_aux.proofs.InOrder.{with_front}
use Rattle.sample_aux.proofs.groups.rules_at.Given as goal

pub record IsSoFar (g : Grouping) (entry : Option Sinf) (own movie : List Seig) (n : ℕ) (rules : List (Option SampleProtection)) (rest : List SbgpItem) (passed k : ℕ) : Type 0 where
  pub so_far : with_front rules (in_order (λ (none : Unit {0}) j. rule_at g.place entry own movie (index_at g.items j)) (λ none x. tt) tt k (n - k)) ≡ rules_at g entry own movie n
  pub follow : (m : ℕ) → index_at rest (passed + m) ≡ index_at g.items (k + m)
  pub low : passed ≤ k

abbrev pub invariant-loop-k : goal.invariant-loop-k
invariant-loop-k l = IsSoFar l.grouping l.entry l.own l.movie l.n l.rules l.cursor.items.now l.cursor.passed l.k
