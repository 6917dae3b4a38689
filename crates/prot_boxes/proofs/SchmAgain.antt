-- A schm that was written is read again.
use Rattle.std.proofs.Common.{◌≡◌, ◌∷◌, ◌++◌, refl, append_assoc}
use Rattle.std.specs.Int.{w32, to_be_bytes}
use Rattle.prot_boxes.specs.declared.fault.ProtKind.TheVariants.{Short}
use Rattle.prot_boxes.specs.declared.schm.Schm.{Schm}
use Rattle.prot_boxes.specs.Schm.{schm_fields, schm_body, IsCanonical}
use Rattle.prot_boxes.proofs.Again.{IsAgain, u8_again, u32_again, flags_again, bytes_again}

pub schm_again : (s : Schm) → IsCanonical s → IsAgain schm_fields (schm_body s) s
unfolding schm_fields schm_body
schm_again s canonical rest =
    let flat : (s.kind ++ to_be_bytes w32 s.version) ++ rest ≡ s.kind ++ (to_be_bytes w32 s.version ++ rest) = append_assoc s.kind (to_be_bytes w32 s.version) rest in
    rw (
      flat,
      u8_again Short 0 (0 ∷ 0 ∷ 0 ∷ (s.kind ++ (to_be_bytes w32 s.version ++ rest))),
      flags_again Short 0 (s.kind ++ (to_be_bytes w32 s.version ++ rest)) refl,
      bytes_again Short 4 s.kind (to_be_bytes w32 s.version ++ rest) canonical.kind,
      u32_again Short s.version rest canonical.version,
    ) refl
