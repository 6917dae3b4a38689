-- Sample groups, sbgp and sgpd, that were written are read again.
use Rattle.std.proofs.Common.{◌≡◌, ℕ, ◌+◌, ◌^◌, ◌<◌, List, [], ◌∷◌, ◌++◌, length, Option, Some, None, Ok, refl, arith, append-nil}
use Rattle.std.specs.Prelude.{codes, IfSome}
use Rattle.std.specs.List.{flat_map}
use Rattle.std.specs.Int.{w32, to_be_bytes}
use Rattle.std.proofs.lemmas.List.Elements.{All-weaker}
use Rattle.prot_boxes.specs.declared.fault.ProtKind.TheVariants.{Short}
use Rattle.prot_boxes.specs.declared.sbgp.Sbgp.{Sbgp}
use Rattle.prot_boxes.specs.declared.sbgp.SbgpItem.{SbgpItem}
use Rattle.prot_boxes.specs.Sbgp.{item, items, item_body, sbgp_fields, sbgp_body, IsCanonical}
use Rattle.std.proofs.lemmas.List.{length-append}
use Rattle.eme_types.specs.declared.sample.Iv.{Iv}
use Rattle.eme_types.specs.declared.sample.Iv.TheVariants.{Eight, Sixteen}
use Rattle.prot_boxes.specs.declared.seig.Seig.{Seig}
use Rattle.prot_boxes.specs.declared.sgpd.Sgpd.{Sgpd}
use Rattle.prot_boxes.specs.Seig.{seig_fields, seig_body, constant_body, IsIv, IsCanonical as SuitsSeig}
use Rattle.prot_boxes.specs.Sgpd.{entry_within, entry_with_length, entry, entries, entry_length, entry_body, sgpd_fields, sgpd_body, IsCanonical as SuitsSgpd}
use Rattle.prot_boxes.proofs.SeigAgain.{seig_again}
use Rattle.prot_boxes.proofs.Again.{IsAgain, zero_again, u8_again, u32_again, flags_again, bytes_again, repeated_again, small}

item_again : (i : SbgpItem) → (i.count < 2 ^ 32) × (i.index < 2 ^ 32) → IsAgain item (item_body i) i
unfolding item
item_again i fits rest = rw (u32_again Short i.count (to_be_bytes w32 i.index ++ rest) fits.0, u32_again Short i.index rest fits.1) refl

items_again : (s : Sbgp) → IsCanonical s → (rest : List ℕ) → items 0 (to_be_bytes w32 (length s.entries) ++ (flat_map item_body s.entries ++ rest)) ≡ Ok (s, rest)
unfolding items
items_again s canonical rest =
    let each = All-weaker (λ i. (i.count < 2 ^ 32) × (i.index < 2 ^ 32)) (λ i. IsAgain item (item_body i) i) item_again s.entries canonical.entries in
    rw (u32_again Short (length s.entries) (flat_map item_body s.entries ++ rest) canonical.count, repeated_again item item_body s.entries each rest) refl

pub sbgp_again : (s : Sbgp) → IsCanonical s → IsAgain sbgp_fields (sbgp_body s) (Some s)
unfolding sbgp_fields sbgp_body
sbgp_again s canonical rest =
    rw (
      small (length s.entries) canonical.count,
      u8_again Short 0 (0 ∷ 0 ∷ 0 ∷ (codes "seig" ++ (to_be_bytes w32 (length s.entries) ++ (flat_map item_body s.entries ++ rest)))),
      flags_again Short 0 (codes "seig" ++ (to_be_bytes w32 (length s.entries) ++ (flat_map item_body s.entries ++ rest))) refl,
      bytes_again Short 4 (codes "seig") (to_be_bytes w32 (length s.entries) ++ (flat_map item_body s.entries ++ rest)) refl,
      items_again s canonical rest,
    ) refl

-- ---- sgpd

constant_length : (o : Option Iv) → IfSome o IsIv → 20 + length (constant_body o) ≡ entry_length o
constant_length None fits = refl
constant_length (Some (Eight iv)) fits = omega (arith, fits)
constant_length (Some (Sixteen iv)) fits = omega (arith, fits)

short_entry : (o : Option Iv) → entry_length o < 2 ^ 32
short_entry None = omega arith
short_entry (Some (Eight iv)) = omega arith
short_entry (Some (Sixteen iv)) = omega arith

seig_length : (s : Seig) → SuitsSeig s → length (seig_body s) ≡ entry_length s.constant
unfolding seig_body
seig_length s canonical =
    let c = constant_length s.constant canonical.iv in
    omega (arith, c, canonical.kid, length-append s.kid (constant_body s.constant))

entry_again : (s : Seig) → SuitsSeig s → IsAgain (entry (Some 0)) (entry_body s) s
unfolding entry_with_length entry_within
entry_again s canonical rest =
    let whole : seig_fields (seig_body s) ≡ Ok (s, []) = rw append-nil at (seig_again s canonical []) in
    rw (
      u32_again Short (entry_length s.constant) (seig_body s ++ rest) (short_entry s.constant),
      bytes_again Short (entry_length s.constant) (seig_body s) rest (seig_length s canonical),
      whole,
    ) refl

entries_again : (s : Sgpd) → SuitsSgpd s → (rest : List ℕ) → entries 1 (0 ∷ 0 ∷ 0 ∷ 0 ∷ (to_be_bytes w32 (length s.entries) ++ (flat_map entry_body s.entries ++ rest))) ≡ Ok (s, rest)
unfolding entries
entries_again s canonical rest =
    let each = All-weaker SuitsSeig (λ e. IsAgain (entry (Some 0)) (entry_body e) e) entry_again s.entries canonical.entries in
    rw (
      zero_again Short (to_be_bytes w32 (length s.entries) ++ (flat_map entry_body s.entries ++ rest)),
      u32_again Short (length s.entries) (flat_map entry_body s.entries ++ rest) canonical.count,
      repeated_again (entry (Some 0)) entry_body s.entries each rest,
    ) refl

pub sgpd_again : (s : Sgpd) → SuitsSgpd s → IsAgain sgpd_fields (sgpd_body s) (Some s)
unfolding sgpd_fields sgpd_body
sgpd_again s canonical rest =
    rw (
      small (length s.entries) canonical.count,
      u8_again Short 1 (0 ∷ 0 ∷ 0 ∷ (codes "seig" ++ (0 ∷ 0 ∷ 0 ∷ 0 ∷ (to_be_bytes w32 (length s.entries) ++ (flat_map entry_body s.entries ++ rest))))),
      flags_again Short 0 (codes "seig" ++ (0 ∷ 0 ∷ 0 ∷ 0 ∷ (to_be_bytes w32 (length s.entries) ++ (flat_map entry_body s.entries ++ rest)))) refl,
      bytes_again Short 4 (codes "seig") (0 ∷ 0 ∷ 0 ∷ 0 ∷ (to_be_bytes w32 (length s.entries) ++ (flat_map entry_body s.entries ++ rest))) refl,
      entries_again s canonical rest,
    ) refl
