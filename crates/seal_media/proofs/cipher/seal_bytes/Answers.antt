use Rattle.std.proofs.Common.{◌-◌, length, drop, refl, arith, length-drop}
use Rattle.std.proofs.lemmas.List.{take_all}
use Rattle.seal_media.proofs.OpeningLemmas.{sealed_opens}
use Rattle.seal_media.proofs.cipher.seal_bytes.Goals as goal

pub returns-clause-opens : goal.returns-clause-opens
returns-clause-opens c =
    let was = c.args.bytes.now in
    let clear = c.min-clear.result in
    sealed_opens c.inverse_law.ensures.back c.args.plan.now c.args.number clear (length was - clear) was c.seal_part.new.bytes c.are_bytes.ensures c.are_bytes-2.ensures c.are_bytes-3.ensures c.are_bytes-4.ensures (rw c.from.ensures at c.min-clear.ensures) refl (omega (arith, c.seal_part.auto.bytes, length-drop clear was)) (rw (c.requires, take_all (length was - clear) (drop clear was) (omega (arith, length-drop clear was))) at c.seal_part.ensures)
