use Rattle.std.proofs.Common.{◌≡◌, ◌+◌, ◌∙◌, sym, ap, take, List, ℕ, Vec, Global}
use Rattle.vault_disk.specs.declared.step.Step.TheVariants.{Wrote, Synced}
use Rattle.vault_disk.specs.Content.{Content, begun, replayed, after, filled, put_at}
use Rattle.vault_disk.proofs.Replay.{one_more}
use Rattle.vault_disk.proofs.bytes.filled.Goals.{in-Wrote+in_ok-put-in-Wrote+in_ok-put-in-Wrote-2, in-Synced+in_ok-image-in-Synced}
use Rattle.vault_disk.proofs.bytes.filled.Goals as goal

pub loop-step-preserved : goal.loop-step-preserved
loop-step-preserved c =
    let start = begun c.args.first.now in
    let steps = c.args.steps.now in
    let i = c.loop-step.step-index in
    let so_far = replayed start (take i steps) in
    let fill = c.args.fill in
    elim c.match-step.branch [
      | in-Wrote+in_ok-put-in-Wrote+in_ok-put-in-Wrote-2 w ↦
          let step = Wrote w.in-Wrote.place w.in-Wrote.byte in
          let at : replayed start (take (i + 1) steps) ≡ after step so_far = one_more start steps i (Wrote 0 0) step c.loop-step-test.true w.in-Wrote.is in
          record {
            seen =
                ap (λ (v : Vec ℕ Global). v.items) w.seen-is
                ∙ w.in_ok-put-in-Wrote.ensures
                ∙ ap (λ (l : List ℕ). put_at l w.in-Wrote.place w.in-Wrote.byte) c.loop-step.invariant.seen
                ∙ ap (λ (s : Content). s.seen) (sym at);
            image =
                ap (λ (v : Vec ℕ Global). v.items) w.image-is
                ∙ w.in_ok-put-in-Wrote-2.ensures
                ∙ ap (λ (l : List ℕ). put_at l w.in-Wrote.place fill) c.loop-step.invariant.image
                ∙ ap (λ (s : Content). filled fill s.written s.synced) (sym at);
          }
      | in-Synced+in_ok-image-in-Synced w ↦
          let at : replayed start (take (i + 1) steps) ≡ after Synced so_far = one_more start steps i (Wrote 0 0) Synced c.loop-step-test.true w.in-Synced.is in
          record {
            seen = ap (λ (v : Vec ℕ Global). v.items) w.seen-is ∙ c.loop-step.invariant.seen ∙ ap (λ (s : Content). s.seen) (sym at);
            image =
                ap (λ (v : Vec ℕ Global). v.items) w.image-is
                ∙ w.in_ok-image-in-Synced.ensures.items
                ∙ w.deref.ensures.value
                ∙ c.loop-step.invariant.seen
                ∙ ap (λ (s : Content). filled fill s.written s.synced) (sym at);
          }
    ]
