use Rattle.std.proofs.Common.{arith}
use Rattle.ctr_cbc.proofs.BlockLemmas.{byte_of_xor}
use Rattle.ctr_cbc.proofs.counter.add_stream.Goals as goal

pub returns-then-stream-eq16 : goal.returns-then-stream-eq16
returns-then-stream-eq16 c = λ i lt.
    rw (c.copy_from_slice.ensures.after, c.exclusive_or-sum.ensures, c.block_of.ensures, c.block_of-then-stream-eq16.ensures)
    (byte_of_xor c.args.bytes.now c.args.stream.now i (omega arith))
