use Rattle.std.proofs.Common.{rules, ◌∙◌, ◌++◌, ◌∷◌, [], ap, length, List, ℕ}
use Rattle.eme_types.specs.declared.entry.Entry.TheVariants.{Evict}
use Rattle.cdm_state.specs.Run.{Run}
use Rattle.cdm_state.specs.Does.{EvictDoes}
use Rattle.shared_cdm.proofs.Shares.{shared_adds, shared_refuses, kept_adds, kept_refuses}
use Rattle.shared_cdm.proofs.shared.SharedCdm.evict.Goals as goal

pub returns-in-Ok-clause-kept : goal.returns-in-Ok-clause-kept
returns-in-Ok-clause-kept g c =
    let take = c.take-hold.ensures in
    let put = c.put.ensures in
    kept_adds _ _ _ (Evict c.args.line c.args.label) c.book.result.now c.evict.new.self _ _ take.below take.once take.later (ap (λ (r : Run). r.history) c.book.ensures.value ∙ take.book) c.in-Ok.ensures.ok put.seen take.own put.own (search rules) (put.parts ∙ take.parts) (put.fixed ∙ take.still_fixed)

pub returns-in-Ok-clause-shared : goal.returns-in-Ok-clause-shared
returns-in-Ok-clause-shared g c =
    let take = c.take-hold.ensures in
    let put = c.put.ensures in
    shared_adds (EvictDoes c.args.line c.args.label) _ (Evict c.args.line c.args.label) c.book.result.now c.evict.new.self _ _ _ _ _ _ take.below take.later (ap (λ (r : Run). r.history) c.book.ensures.value ∙ take.book) (ap (λ (r : Run). r.tracks) c.book.ensures.value ∙ take.fixed) c.in-Ok.ensures.ok put.seen (put.own ∙ ap (λ (z : List ℕ). z ++ length c.evict.new.self.history ∷ []) take.own) c.in-Ok.ensures

pub returns-in-Err-clause-kept : goal.returns-in-Err-clause-kept
returns-in-Err-clause-kept g c =
    let take = c.take-hold.ensures in
    let put = c.put_back.ensures in
    kept_refuses _ _ _ _ _ take.below take.once take.later put.seen take.own put.own (search rules) (put.parts ∙ take.parts) (put.fixed ∙ take.still_fixed)

pub returns-in-Err-clause-shared : goal.returns-in-Err-clause-shared
returns-in-Err-clause-shared g c =
    let take = c.take-hold.ensures in
    let put = c.put_back.ensures in
    shared_refuses (EvictDoes c.args.line c.args.label) _ c.book.result.now c.evict.new.self _ _ _ _ _ _ take.below take.later (ap (λ (r : Run). r.history) c.book.ensures.value ∙ take.book) (ap (λ (r : Run). r.tracks) c.book.ensures.value ∙ take.fixed) c.in-Err.ensures.err put.seen (put.own ∙ take.own) c.in-Err.ensures
