-- A tenc that was written is read again.
use Rattle.std.proofs.Common.{◌≡◌, ℕ, ◌∷◌, ◌++◌, refl}
use Rattle.prot_boxes.specs.declared.fault.ProtKind.TheVariants.{Short}
use Rattle.prot_boxes.specs.declared.tenc.Tenc.{Tenc}
use Rattle.prot_boxes.specs.Seig.{seig_body}
use Rattle.prot_boxes.specs.Tenc.{patterned, seig_of, tenc_fields, tenc_body, IsCanonical}
use Rattle.prot_boxes.proofs.Again.{IsAgain, u8_again, flags_again}
use Rattle.prot_boxes.proofs.SeigAgain.{seig_again}

-- in version 0 there is no pattern to mask once more
masked : (version blocks : ℕ) → blocks ≡ patterned version blocks → patterned version (patterned version blocks) ≡ blocks
masked version blocks e = rw (← e, ← e) refl

pub tenc_again : (t : Tenc) → IsCanonical t → IsAgain tenc_fields (tenc_body t) t
unfolding tenc_fields tenc_body
tenc_again t canonical rest =
    rw (
      u8_again Short t.version (0 ∷ 0 ∷ 0 ∷ (seig_body (seig_of t) ++ rest)),
      flags_again Short 0 (seig_body (seig_of t) ++ rest) refl,
      seig_again (seig_of t) canonical.fields rest,
      masked t.version t.crypt canonical.crypt,
      masked t.version t.skip canonical.skip,
    ) refl
