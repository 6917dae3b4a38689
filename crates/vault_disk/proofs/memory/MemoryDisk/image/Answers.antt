use Rattle.std.proofs.Common.{rules, ◌≡◌, sym, ap, ◌∙◌, subst, List, ℕ}
use Rattle.std.specs.Prelude.{IfOk, MatchResult, Result, Ok, Err}
use Rattle.vault_disk.specs.Memory.{Memory, left_now, content, image_of}
use Rattle.vault_disk.specs.Laws.{reads_left}
use Rattle.vault_disk.specs.declared.step.Step.{Step}
use Rattle.vault_disk.specs.Content.{Content, filled}
use Rattle.vault_disk.proofs.Written.{At}
use Rattle.vault_disk.proofs.Replay.{filled_left}
use Rattle.vault_disk.proofs.memory.MemoryDisk.image.Goals as goal

if_ok : {T E : Type 0} (P Q : T → Type 0) → ((x : T) → P x → Q x) → (r : Result T E) → IfOk r P → IfOk r Q
if_ok P Q f (Ok x) p = f x p
if_ok P Q f (Err e) p = p

pub returns-in-None-clause-left : goal.returns-in-None-clause-left
returns-in-None-clause-left c =
    let m = c.args.self.now in
    let kept = c.self.invariant.0 in
    let view = c.self.view_is in
    let seen : c.deref.result.now ≡ (content m).seen = c.deref.ensures.value ∙ kept ∙ ap (λ (n : Memory). (content n).seen) view in
    if_ok (λ (x : List ℕ). x ≡ c.deref.result.now) (left_now m) (λ x is. subst (left_now m) (sym (is ∙ seen)) (reads_left m)) c.from_slice.result c.from_slice.ensures

pub returns-in_ok-image-in-Some-clause-left : goal.returns-in_ok-image-in-Some-clause-left
returns-in_ok-image-in-Some-clause-left c =
    let m = c.args.self.now in
    let byte = c.in-Some.byte in
    let made : c.in_ok-image-in-Some.image.items ≡ filled byte (At c.as_slice.result.now c.deref-in-Some.result.now).written (At c.as_slice.result.now c.deref-in-Some.result.now).synced = c.in_ok-image-in-Some.ensures in
    let same : At c.as_slice.result.now c.deref-in-Some.result.now ≡ content m =
    ap (λ (l : List ℕ). At l c.deref-in-Some.result.now) c.as_slice.ensures
    ∙ ap (λ (l : List Step). At c.self.inside.first l) c.deref-in-Some.ensures.value
    ∙ ap content c.self.view_is in
    let is : c.from_vec.result ≡ filled byte (content m).written (content m).synced = c.from_vec.ensures ∙ made ∙ ap (λ (w : Content). filled byte w.written w.synced) same in
    subst (left_now m) (sym is) (filled_left c.in-Some.byte (content m).written (content m).synced)
