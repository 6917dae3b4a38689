use Rattle.std.proofs.Common.{◌≡◌, ◌+◌, ◌++◌, [], ◌∷◌, take, drop, ◌∙◌, ap, arith, get_or, length, length-append, ℕ, List}
use Rattle.std.proofs.lemmas.List.{get_or_default}
use Rattle.vault_disk.specs.declared.step.Step.{Step}
use Rattle.vault_disk.specs.declared.step.Step.TheVariants.{Wrote}
use Rattle.vault_disk.specs.Content.{put_at, wrote}
use Rattle.vault_disk.proofs.Puts.{puts_more, wrote_more}
use Rattle.vault_disk.proofs.bytes.write_bytes.Goals as goal

pub loop-i-preserved : goal.loop-i-preserved
loop-i-preserved c =
    let old = c.args.content.now.items in
    let bytes = c.args.bytes.now in
    let i = c.loop-i.i in
    let byte = get_or bytes i 0 in
    let is : byte ≡ get_or bytes i byte = get_or_default bytes i 0 byte c.loop-i-test.true in
    let more = puts_more old bytes c.args.place i byte (omega arith) c.loop-i-test.true is in
    let noted = wrote_more c.args.steps.now.items bytes c.args.place i byte c.loop-i-test.true is in
    record {
      bytes = c.write_byte.ensures.bytes ∙ ap (λ (l : List ℕ). put_at l (c.args.place + i) byte) c.loop-i.invariant.bytes ∙ more;
      steps = c.push_reserved.ensures.items ∙ ap (λ (l : List Step). l ++ Wrote (c.args.place + i) byte ∷ []) c.loop-i.invariant.steps ∙ noted;
      longer = omega arith;
      inside = omega arith;
      noted = omega arith;
      room = omega arith;
      note_room = omega arith;
    }
