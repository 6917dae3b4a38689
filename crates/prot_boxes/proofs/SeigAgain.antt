-- The fields of a seig entry and of a tenc are read again.
use Rattle.std.proofs.Common.{◌≡◌, ◌⊎◌, inl, inr, ℕ, ◌+◌, ◌*◌, ◌/◌, ◌%◌, ◌<◌, Bool, true, false, ◌&&◌, List, ◌∷◌, ◌++◌, length, Option, Some, None, Ok, refl, arith, append_assoc}
use Rattle.std.specs.Prelude.{IfSome, is_some, ◌==◌, if◌then◌else◌}
use Rattle.iso_boxes.specs.Reading.{given}
use Rattle.eme_types.specs.declared.sample.Iv.{Iv}
use Rattle.eme_types.specs.declared.sample.Iv.TheVariants.{Eight, Sixteen}
use Rattle.prot_boxes.specs.declared.fault.ProtKind.TheVariants.{Short}
use Rattle.prot_boxes.specs.declared.seig.Seig.{Seig}
use Rattle.prot_boxes.specs.Seig.{is_protected, iv_size, eight, sixteen, constant_iv, seig_fields, constant_body, seig_body, IsIv, IsCanonical}
use Rattle.prot_boxes.proofs.Again.{IsAgain, u8_again, bytes_again}

protected_again : (b : Bool) (rest : List ℕ) → is_protected ((if b then 1 else 0) ∷ rest) ≡ Ok (b, rest)
unfolding is_protected
protected_again true rest = rw (u8_again Short 1 rest) refl
protected_again false rest = rw (u8_again Short 0 rest) refl

iv_size_again : (n : ℕ) (rest : List ℕ) → (n ≡ 0) ⊎ ((n ≡ 8) ⊎ (n ≡ 16)) → iv_size (n ∷ rest) ≡ Ok (n, rest)
unfolding iv_size
iv_size_again n rest (inl e) = rw (e, u8_again Short 0 rest) refl
iv_size_again n rest (inr (inl e)) = rw (e, u8_again Short 8 rest) refl
iv_size_again n rest (inr (inr e)) = rw (e, u8_again Short 16 rest) refl

pub eight_again : (iv rest : List ℕ) → length iv ≡ 8 → eight (iv ++ rest) ≡ Ok (Eight iv, rest)
unfolding eight
eight_again iv rest len = rw (bytes_again Short 8 iv rest len) refl

pub sixteen_again : (iv rest : List ℕ) → length iv ≡ 16 → sixteen (iv ++ rest) ≡ Ok (Sixteen iv, rest)
unfolding sixteen
sixteen_again iv rest len = rw (bytes_again Short 16 iv rest len) refl

constant_iv_again : (iv : Iv) (rest : List ℕ) → IsIv iv → constant_iv (constant_body (Some iv) ++ rest) ≡ Ok (iv, rest)
unfolding constant_iv
constant_iv_again (Eight iv) rest len = rw (u8_again Short 8 (iv ++ rest), eight_again iv rest len) refl
constant_iv_again (Sixteen iv) rest len = rw (u8_again Short 16 (iv ++ rest), sixteen_again iv rest len) refl

constant_again : (present : Bool) (o : Option Iv) (rest : List ℕ) → IfSome o IsIv → is_some o ≡ present → given present constant_iv (constant_body o ++ rest) ≡ Ok (o, rest)
constant_again present None rest fits e = rw (← e) refl
constant_again present (Some iv) rest fits e = rw (← e, constant_iv_again iv rest fits) refl

halves : (c s : ℕ) → c < 16 → s < 16 → ((16 * (c % 16) + s % 16) / 16 ≡ c) × ((16 * (c % 16) + s % 16) % 16 ≡ s)
halves c s low high = (omega arith, omega arith)

pub seig_again : (s : Seig) → IsCanonical s → IsAgain seig_fields (seig_body s) s
unfolding seig_fields seig_body
seig_again s canonical rest =
    let flat : (s.kid ++ constant_body s.constant) ++ rest ≡ s.kid ++ (constant_body s.constant ++ rest) = simp append_assoc in
    let p = halves s.crypt s.skip canonical.crypt canonical.skip in
    rw (
      flat,
      u8_again Short 0 ((16 * (s.crypt % 16) + s.skip % 16) ∷ (if s.protected then 1 else 0) ∷ s.iv_size ∷ (s.kid ++ (constant_body s.constant ++ rest))),
      u8_again Short (16 * (s.crypt % 16) + s.skip % 16) ((if s.protected then 1 else 0) ∷ s.iv_size ∷ (s.kid ++ (constant_body s.constant ++ rest))),
      protected_again s.protected (s.iv_size ∷ (s.kid ++ (constant_body s.constant ++ rest))),
      iv_size_again s.iv_size (s.kid ++ (constant_body s.constant ++ rest)) canonical.iv_size,
      bytes_again Short 16 s.kid (constant_body s.constant ++ rest) canonical.kid,
      constant_again (s.protected && s.iv_size == 0) s.constant rest canonical.iv canonical.constant,
      p.0,
      p.1,
    ) refl
