-- The type of auxiliary data, saiz and saio are read again.
use Rattle.std.proofs.Common.{◌≡◌, ◌⊎◌, inl, inr, ℕ, ◌^◌, ◌<◌, false, List, [], ◌∷◌, ◌++◌, length, Option, Some, None, Ok, refl, append_assoc}
use Rattle.std.specs.Prelude.{◌==◌}
use Rattle.std.specs.List.{flat_map}
use Rattle.std.specs.Int.{w32, to_be_bytes}
use Rattle.std.proofs.lemmas.List.Elements.{All-weaker}
use Rattle.iso_boxes.specs.Reading.{number24}
use Rattle.prot_boxes.specs.declared.fault.ProtKind.TheVariants.{Short}
use Rattle.prot_boxes.specs.declared.saiz.Saiz.{Saiz}
use Rattle.prot_boxes.specs.declared.saio.Saio.{Saio}
use Rattle.prot_boxes.specs.AuxType.{aux_type, aux_type_if, aux_flags, aux_body, IsAuxType}
use Rattle.prot_boxes.specs.Saiz.{sizes_if, saiz_fields, saiz_body, IsCanonical}
use Rattle.prot_boxes.specs.Saio.{offset, offset_body, saio_fields, saio_body, IsCanonical as SuitsSaio}
use Rattle.prot_boxes.proofs.Again.{IsAgain, u8_again, u32_again, u64_again, zero_again, flags_again, bytes_again, repeated_again, small}

aux_flags_again : (kind : Option (List ℕ)) (rest : List ℕ) → number24 Short (0 ∷ 0 ∷ aux_flags kind ∷ rest) ≡ Ok (aux_flags kind, rest)
aux_flags_again None rest = flags_again Short 0 rest refl
aux_flags_again (Some k) rest = flags_again Short 1 rest refl

aux_again : (kind : Option (List ℕ)) (rest : List ℕ) → IsAuxType kind → aux_type_if (aux_flags kind) (aux_body kind ++ rest) ≡ Ok (kind, rest)
unfolding aux_type
aux_again None rest len = refl
aux_again (Some k) rest len =
    let flat : (k ++ (0 ∷ 0 ∷ 0 ∷ 0 ∷ [])) ++ rest ≡ k ++ (0 ∷ 0 ∷ 0 ∷ 0 ∷ rest) = append_assoc k (0 ∷ 0 ∷ 0 ∷ 0 ∷ []) rest in
    rw (flat, bytes_again Short 4 k (0 ∷ 0 ∷ 0 ∷ 0 ∷ rest) len, zero_again Short rest) refl

sizes_again : (default count : ℕ) (sizes rest : List ℕ) → ((default ≡ 0) × (length sizes ≡ count)) ⊎ (((default == 0) ≡ false) × (sizes ≡ [])) → sizes_if default count (sizes ++ rest) ≡ Ok (sizes, rest)
sizes_again default count sizes rest (inl p) = rw (p.0, bytes_again Short count sizes rest p.1) refl
sizes_again default count sizes rest (inr p) = rw (p.0, p.1) refl

pub saiz_again : (s : Saiz) → IsCanonical s → IsAgain saiz_fields (saiz_body s) s
unfolding saiz_fields saiz_body
saiz_again s canonical rest =
    let flat : (aux_body s.kind ++ (s.default_size ∷ (to_be_bytes w32 s.count ++ s.sizes))) ++ rest ≡ aux_body s.kind ++ (s.default_size ∷ (to_be_bytes w32 s.count ++ (s.sizes ++ rest))) = append_assoc (aux_body s.kind) (s.default_size ∷ (to_be_bytes w32 s.count ++ s.sizes)) rest in
    rw (
      flat,
      u8_again Short 0 (0 ∷ 0 ∷ aux_flags s.kind ∷ (aux_body s.kind ++ (s.default_size ∷ (to_be_bytes w32 s.count ++ (s.sizes ++ rest))))),
      aux_flags_again s.kind (aux_body s.kind ++ (s.default_size ∷ (to_be_bytes w32 s.count ++ (s.sizes ++ rest)))),
      aux_again s.kind (s.default_size ∷ (to_be_bytes w32 s.count ++ (s.sizes ++ rest))) canonical.kind,
      u8_again Short s.default_size (to_be_bytes w32 s.count ++ (s.sizes ++ rest)),
      u32_again Short s.count (s.sizes ++ rest) canonical.count,
      sizes_again s.default_size s.count s.sizes rest canonical.sizes,
    ) refl

pub saio_again : (s : Saio) → SuitsSaio s → IsAgain saio_fields (saio_body s) s
unfolding saio_fields saio_body
saio_again s canonical rest =
    let n = length s.offsets in
    let flat : (aux_body s.kind ++ (to_be_bytes w32 (length s.offsets) ++ flat_map offset_body s.offsets)) ++ rest ≡ aux_body s.kind ++ (to_be_bytes w32 (length s.offsets) ++ (flat_map offset_body s.offsets ++ rest)) = append_assoc (aux_body s.kind) (to_be_bytes w32 (length s.offsets) ++ flat_map offset_body s.offsets) rest in
    let each = All-weaker (λ m. m < 2 ^ 64) (λ m. IsAgain (offset 1) (offset_body m) m) (λ m lt more. u64_again Short m more lt) s.offsets canonical.offsets in
    rw (
      small (length s.offsets) canonical.count,
      flat,
      u8_again Short 1 (0 ∷ 0 ∷ aux_flags s.kind ∷ (aux_body s.kind ++ (to_be_bytes w32 (length s.offsets) ++ (flat_map offset_body s.offsets ++ rest)))),
      aux_flags_again s.kind (aux_body s.kind ++ (to_be_bytes w32 (length s.offsets) ++ (flat_map offset_body s.offsets ++ rest))),
      aux_again s.kind (to_be_bytes w32 (length s.offsets) ++ (flat_map offset_body s.offsets ++ rest)) canonical.kind,
      u32_again Short (length s.offsets) (flat_map offset_body s.offsets ++ rest) canonical.count,
      repeated_again (offset 1) offset_body s.offsets each rest,
    ) refl
