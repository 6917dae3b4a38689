use Rattle.aes128.proofs.InverseOfCipher.{inverse_of_cipher}
use Rattle.aes128.proofs.CipherOfInverse.{cipher_of_inverse}
use Rattle.aes128.proofs.inverse_law.Goals as goal

pub returns : goal.returns
returns c = record {
  back = λ key block len fk fb. inverse_of_cipher key block len fk fb;
  forth = λ key block len fk fb. cipher_of_inverse key block len fk fb;
}
