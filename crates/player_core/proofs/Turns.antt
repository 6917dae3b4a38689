-- Entries in turn, one more.
use Rattle.std.proofs.Common.{◌≡◌, ◌≤◌, ℕ, ◌+◌, ◌-◌, List, [], ◌∷◌, ◌++◌, Some, length, slice_get, length-append, inl, inr, ◌∙◌, sym, subst, arith}
use Rattle.eme_types.specs.declared.entry.Entry.{Entry}
use Rattle.cdm_state.specs.History.{MayClaim, MayPublish, MayPassClear, MayWait}
use Rattle.cdm_state.specs.Contract.{ComesFirst}
use Rattle.cdm_state.specs.Run.{Run}
use Rattle.cdm_state.proofs.Places.{either_place}
use Rattle.output_order.specs.Lane.{asked}
use Rattle.output_order.proofs.Sizes.{something_at}
use Rattle.player_core.specs.Alone.{NoJob, NoTask, NoPublish, NoPass, NoClaim, PublishFirst, PassFirst, ClaimFirst, WaitFirst, LastAsked, InTurn, AreInTurn}

-- one more entry, in turn
pub turns_more : (ids : List ℕ) (h : List Entry) (e : Entry) → AreInTurn ids h → InTurn ids h e → AreInTurn ids (h ++ e ∷ [])
turns_more ids h e all one = record {
  each = λ n x at.
      elim (either_place h e n x at) [
        | inl p ↦ subst (λ (g : List Entry). InTurn ids g x) (sym p.1) (all.each n x p.0)
        | inr p ↦ subst (λ (g : List Entry). InTurn ids g x) (sym p.1) (subst (λ (y : Entry). InTurn ids h y) (sym p.0) one)
      ];
}

last_pushed : (h : List Entry) (e x : Entry) → slice_get (h ++ e ∷ []) (length (h ++ e ∷ []) - 1) ≡ Some x → x ≡ e
last_pushed h e x at =
    let many : length (h ++ e ∷ []) ≡ length h + 1 = length-append h (e ∷ []) in
    elim (either_place h e (length (h ++ e ∷ []) - 1) x at) [
      | inl p ↦ (let lt = something_at h (length (h ++ e ∷ []) - 1) x p.0 in absurd (omega (arith, many, lt)))
      | inr p ↦ p.0
    ]

-- an entry of a line is the last
pub last_asked : (h : List Entry) (e : Entry) → asked e ≡ e ∷ [] → LastAsked (h ++ e ∷ [])
last_asked h e is x at = subst (λ (y : Entry). asked y ≡ y ∷ []) (sym (last_pushed h e x at.1)) is

-- the refusals of the calls before a choice, each of which left the core as it was
pub publish_first : (now job task : Run) (track : ℕ) → job ≡ now → task ≡ job → NoJob now.tracks now.history → NoTask job.tracks job.history → ((other index place : ℕ) → MayPublish task.tracks task.history other index place → ComesFirst task.tracks track other) → PublishFirst now.tracks now.history track
publish_first now job task track a b jobs tasks first = record {
  jobs = jobs;
  tasks = subst (λ (r : Run). NoTask r.tracks r.history) a tasks;
  first = subst (λ (r : Run). (other index place : ℕ) → MayPublish r.tracks r.history other index place → ComesFirst r.tracks track other) (b ∙ a) first;
}

pub pass_first : (now job task publish : Run) (track : ℕ) → job ≡ now → task ≡ job → publish ≡ task → NoJob now.tracks now.history → NoTask job.tracks job.history → NoPublish task.tracks task.history → ((other index : ℕ) → MayPassClear publish.tracks publish.history other index → ComesFirst publish.tracks track other) → PassFirst now.tracks now.history track
pass_first now job task publish track a b c jobs tasks published first = record {
  jobs = jobs;
  tasks = subst (λ (r : Run). NoTask r.tracks r.history) a tasks;
  publish = subst (λ (r : Run). NoPublish r.tracks r.history) (b ∙ a) published;
  first = subst (λ (r : Run). (other index : ℕ) → MayPassClear r.tracks r.history other index → ComesFirst r.tracks track other) (c ∙ (b ∙ a)) first;
}

pub claim_first : (now job task publish pass : Run) (worker track index : ℕ) → job ≡ now → task ≡ job → publish ≡ task → pass ≡ publish → NoJob now.tracks now.history → NoTask job.tracks job.history → NoPublish task.tracks task.history → NoPass publish.tracks publish.history → worker ≡ 0 → ((other at session : ℕ) (kid : List ℕ) → MayClaim pass.tracks pass.history other at session kid → ComesFirst pass.tracks track other × (other ≡ track → index ≤ at)) → ClaimFirst now.tracks now.history worker track index
claim_first now job task publish pass worker track index a b c d jobs tasks published passed zeroth first = record {
  jobs = jobs;
  tasks = subst (λ (r : Run). NoTask r.tracks r.history) a tasks;
  publish = subst (λ (r : Run). NoPublish r.tracks r.history) (b ∙ a) published;
  pass = subst (λ (r : Run). NoPass r.tracks r.history) (c ∙ (b ∙ a)) passed;
  worker_ = zeroth;
  first = subst (λ (r : Run). (other at session : ℕ) (kid : List ℕ) → MayClaim r.tracks r.history other at session kid → ComesFirst r.tracks track other × (other ≡ track → index ≤ at)) (d ∙ (c ∙ (b ∙ a))) first;
}

pub wait_first : (now job task publish pass claim : Run) (track : ℕ) → job ≡ now → task ≡ job → publish ≡ task → pass ≡ publish → claim ≡ pass → NoJob now.tracks now.history → NoTask job.tracks job.history → NoPublish task.tracks task.history → NoPass publish.tracks publish.history → NoClaim pass.tracks pass.history → ((other : ℕ) → MayWait claim.tracks claim.history other → ComesFirst claim.tracks track other) → WaitFirst now.tracks now.history track
wait_first now job task publish pass claim track a b c d e jobs tasks published passed claimed first = record {
  jobs = jobs;
  tasks = subst (λ (r : Run). NoTask r.tracks r.history) a tasks;
  publish = subst (λ (r : Run). NoPublish r.tracks r.history) (b ∙ a) published;
  pass = subst (λ (r : Run). NoPass r.tracks r.history) (c ∙ (b ∙ a)) passed;
  claim = subst (λ (r : Run). NoClaim r.tracks r.history) (d ∙ (c ∙ (b ∙ a))) claimed;
  first = subst (λ (r : Run). (other : ℕ) → MayWait r.tracks r.history other → ComesFirst r.tracks track other) (e ∙ (d ∙ (c ∙ (b ∙ a)))) first;
}
