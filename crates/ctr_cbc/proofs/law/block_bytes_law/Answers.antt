use Rattle.ctr_cbc.proofs.BlockLemmas.{byte_of_block, byte_of_xor, length_of_xor}
use Rattle.ctr_cbc.proofs.law.block_bytes_law.Goals as goal

pub returns : goal.returns
returns c = record { block = byte_of_block; exclusive_or = byte_of_xor; exclusive_or_len = length_of_xor }
