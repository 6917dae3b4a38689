-- A senc that was written is read again.
use Rattle.std.proofs.Common.{◌≡◌, ℕ, ◌%◌, ◌^◌, ◌<◌, Bool, true, false, List, [], ◌∷◌, ◌++◌, length, Option, Some, None, Ok, refl, sym, arith, append_assoc}
use Rattle.std.specs.Prelude.{map, IfSome, ◌==◌, if◌then◌else◌}
use Rattle.std.specs.List.{All, flat_map}
use Rattle.std.specs.Int.{w32, to_be_bytes}
use Rattle.std.proofs.lemmas.Bool.{eq-eqb}
use Rattle.std.proofs.lemmas.List.{length-map}
use Rattle.std.proofs.lemmas.List.Elements.{All-weaker}
use Rattle.eme_types.specs.declared.sample.Iv.{Iv}
use Rattle.eme_types.specs.declared.sample.Iv.TheVariants.{Eight, Sixteen}
use Rattle.eme_types.specs.declared.sample.Sub.{Sub}
use Rattle.iso_boxes.specs.Reading.{number24, has}
use Rattle.prot_boxes.specs.Seig.{IsIv}
use Rattle.prot_boxes.specs.declared.fault.ProtKind.TheVariants.{Short}
use Rattle.prot_boxes.specs.declared.senc.SencItem.{SencItem}
use Rattle.prot_boxes.specs.declared.senc.Senc.{Senc}
use Rattle.prot_boxes.specs.Senc.{iv_fields, sub, counted_subs, subs_if, item, senc_fields, iv_body, sub_body, subs_body, subs_body_if, item_body, senc_body, iv_length, iv_lengths, SuitsItem, IsCanonical}
use Rattle.prot_boxes.proofs.Again.{IsAgain, u8_again, u16_again, u32_again, flags_again, repeated_again, one_each_again, small}
use Rattle.prot_boxes.proofs.SeigAgain.{eight_again, sixteen_again}

iv_again : (o : Option Iv) (subs : List Sub) (rest : List ℕ) → IfSome o IsIv → iv_fields (iv_length (record { iv = o; subs = subs })) (iv_body o ++ rest) ≡ Ok (o, rest)
iv_again None subs rest fits = refl
iv_again (Some (Eight iv)) subs rest fits = rw (eight_again iv rest fits) refl
iv_again (Some (Sixteen iv)) subs rest fits = rw (sixteen_again iv rest fits) refl

sub_again : (s : Sub) → (s.clear < 2 ^ 16) × (s.prot < 2 ^ 32) → IsAgain sub (sub_body s) s
unfolding sub
sub_again s fits rest = rw (u16_again Short s.clear (to_be_bytes w32 s.prot ++ rest) fits.0, u32_again Short s.prot rest fits.1) refl

small_16 : (n : ℕ) → n < 2 ^ 16 → n % 2 ^ 16 ≡ n
small_16 n lt = omega arith

subs_again : (subs : List Sub) → length subs < 2 ^ 16 → All (λ s. (s.clear < 2 ^ 16) × (s.prot < 2 ^ 32)) subs → IsAgain counted_subs (subs_body subs) subs
unfolding counted_subs subs_body
subs_again subs count fits rest =
    let each = All-weaker (λ s. (s.clear < 2 ^ 16) × (s.prot < 2 ^ 32)) (λ s. IsAgain sub (sub_body s) s) sub_again subs fits in
    rw (small_16 (length subs) count, u16_again Short (length subs) (flat_map sub_body subs ++ rest) count, repeated_again sub sub_body subs each rest) refl

subs_if_again : (flag2 : Bool) (subs : List Sub) (rest : List ℕ) → length subs < 2 ^ 16 → All (λ s. (s.clear < 2 ^ 16) × (s.prot < 2 ^ 32)) subs → (flag2 ≡ false → subs ≡ []) → subs_if flag2 (subs_body_if flag2 subs ++ rest) ≡ Ok (subs, rest)
subs_if_again true subs rest count fits plain = subs_again subs count fits rest
subs_if_again false subs rest count fits plain = rw (plain refl) refl

item_again : (flag2 : Bool) (i : SencItem) → SuitsItem flag2 i → IsAgain (item flag2 (iv_length i)) (item_body flag2 i) i
unfolding item
item_again flag2 i suits rest =
    let flat : (iv_body i.iv ++ subs_body_if flag2 i.subs) ++ rest ≡ iv_body i.iv ++ (subs_body_if flag2 i.subs ++ rest) = append_assoc (iv_body i.iv) (subs_body_if flag2 i.subs) rest in
    rw (
      flat,
      iv_again i.iv i.subs (subs_body_if flag2 i.subs ++ rest) suits.iv,
      subs_if_again flag2 i.subs rest suits.count suits.subs suits.plain,
    ) refl

flag_again : (flag2 : Bool) (rest : List ℕ) → number24 Short (0 ∷ 0 ∷ (if flag2 then 2 else 0) ∷ rest) ≡ Ok ((if flag2 then 2 else 0), rest)
flag_again true rest = flags_again Short 2 rest refl
flag_again false rest = flags_again Short 0 rest refl

has_flag : (flag2 : Bool) → has 0x2 (if flag2 then 2 else 0) ≡ flag2
has_flag true = refl
has_flag false = refl

pub senc_again : (s : Senc) → IsCanonical s → IsAgain (senc_fields (iv_lengths s)) (senc_body s) s
unfolding senc_fields senc_body
senc_again s canonical rest =
    let each = All-weaker (SuitsItem s.flag2) (λ i. IsAgain (item s.flag2 (iv_length i)) (item_body s.flag2 i) i) (item_again s.flag2) s.items canonical.items in
    let many : (length s.items == length (map iv_length s.items)) ≡ true = eq-eqb _ _ (sym (length-map s.items iv_length)) in
    rw (
      small (length s.items) canonical.count,
      u8_again Short 0 (0 ∷ 0 ∷ (if s.flag2 then 2 else 0) ∷ (to_be_bytes w32 (length s.items) ++ (flat_map (item_body s.flag2) s.items ++ rest))),
      flag_again s.flag2 (to_be_bytes w32 (length s.items) ++ (flat_map (item_body s.flag2) s.items ++ rest)),
      u32_again Short (length s.items) (flat_map (item_body s.flag2) s.items ++ rest) canonical.count,
      many,
      has_flag s.flag2,
      one_each_again (item s.flag2) iv_length (item_body s.flag2) s.items each rest,
    ) refl
