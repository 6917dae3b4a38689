use Rattle.aes128.specs.KeyExpansion.{round_constant, round_key, round_keys}
use Rattle.aes128.specs.InverseCipher.{inverse_round_keys}
use Rattle.aes128.proofs.key_expansion.expand.Goals as goal

pub invariant_of-result : goal.invariant_of-result
unfolding round_constant round_key round_keys inverse_round_keys
invariant_of-result c = (
  simp (
    c.next_key-k10.ensures,
    c.next_key-k9.ensures,
    c.next_key-k8.ensures,
    c.next_key-k7.ensures,
    c.next_key-k6.ensures,
    c.next_key-k5.ensures,
    c.next_key-k4.ensures,
    c.next_key-k3.ensures,
    c.next_key-k2.ensures,
    c.next_key-k1.ensures,
  ),
  simp (
    c.mixed_key-m9.ensures,
    c.mixed_key-m8.ensures,
    c.mixed_key-m7.ensures,
    c.mixed_key-m6.ensures,
    c.mixed_key-m5.ensures,
    c.mixed_key-m4.ensures,
    c.mixed_key-m3.ensures,
    c.mixed_key-m2.ensures,
    c.mixed_key-m1.ensures,
    c.next_key-k10.ensures,
    c.next_key-k9.ensures,
    c.next_key-k8.ensures,
    c.next_key-k7.ensures,
    c.next_key-k6.ensures,
    c.next_key-k5.ensures,
    c.next_key-k4.ensures,
    c.next_key-k3.ensures,
    c.next_key-k2.ensures,
    c.next_key-k1.ensures,
  ),
)
