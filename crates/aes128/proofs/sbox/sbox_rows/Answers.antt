use Rattle.aes128.proofs.Tables.{sub_table, inv_sub_table}
use Rattle.aes128.proofs.sbox.sbox_rows.Goals as goal

pub returns : goal.returns
returns c = record { sbox = sub_table; inverse = inv_sub_table }
