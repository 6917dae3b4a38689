use Rattle.std.proofs.Common.{rules, arith, ap, ◌∙◌, Err, ◌≤◌, ◌+◌, ◌^◌, length}
use Rattle.init_data.specs.Pssh.{pssh_body}
use Rattle.seal_media.specs.Sealed.{pssh_of}
use Rattle.seal_media.proofs.LengthLemmas.{HasSixteen, pssh_size}
use Rattle.seal_media.proofs.movie.append_pssh.Goals as goal

pub unreachable-requires : goal.unreachable-requires
unreachable-requires c =
    let has : HasSixteen c.args.plan.now = record { kid = search rules; iv = search rules } in
    let long : 2 ^ 32 ≤ 8 + length (pssh_body (pssh_of c.args.plan.now)) = rw (c.in_ok-kids.ensures, c.new.ensures) at c.put_pssh.ensures.too_long (c.in-Err-TooLong.is ∙ ap Err c.in-Err-TooLong.field-0-is) in
    omega (arith, long, pssh_size c.args.plan.now has)
