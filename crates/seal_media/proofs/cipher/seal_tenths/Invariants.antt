use Rattle.std.proofs.Common.{◌≡◌, ℕ, ◌*◌, ◌%◌, ◌<◌, ◌≤◌, ◌⊎◌, drop, get_or}
use Rattle.aes128.specs.Cipher.{cipher}
use Rattle.ctr_cbc.specs.Blocks.{exclusive_or}
use Rattle.seal_media.specs.Views.{tenth, tenth_before}
use Rattle.seal_media.proofs.cipher.seal_tenths.Given as goal

abbrev pub invariant-loop-r : goal.invariant-loop-r
invariant-loop-r l = record {
  before : l.before ≡ tenth_before l.fn.iv l.bytes l.r;
  sealed : (q : ℕ) → q < l.r → tenth l.bytes q ≡ cipher l.keys (exclusive_or (tenth l.initial.bytes q) (tenth_before l.fn.iv l.bytes q));
  rest : drop (l.r * 160) l.bytes ≡ drop (l.r * 160) l.initial.bytes;
  left : (i : ℕ) → (l.r * 160 ≤ i) ⊎ (16 ≤ i % 160) → get_or l.bytes i 0 ≡ get_or l.initial.bytes i 0;
}
