use Rattle.std.proofs.Common.{◌≡◌, ℕ, ◌*◌, ◌<◌, drop}
use Rattle.ctr_cbc.specs.Blocks.{block}
use Rattle.ctr_cbc.specs.Chain.{block_before, opened_block}
use Rattle.ctr_cbc.proofs.chain.cbc_decrypt.Given as goal

abbrev pub invariant-loop-r : goal.invariant-loop-r
invariant-loop-r l = record {
  before : l.before ≡ block_before l.fn.iv l.initial.bytes l.r;
  opened : (q : ℕ) → q < l.r → block l.bytes q ≡ opened_block l.keys l.fn.iv l.initial.bytes q;
  rest : drop (l.r * 16) l.bytes ≡ drop (l.r * 16) l.initial.bytes;
}
