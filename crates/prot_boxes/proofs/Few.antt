-- No list that is read has more items than its box has bytes.
use Rattle.std.proofs.Common.{◌≡◌, ℕ, ◌≤◌, Bool, true, false, List, [], length, Option, Some, None, Ok, refl, arith}
use Rattle.std.specs.Prelude.{◌==◌, ◌&&◌, ◌||◌, nat_lt, bytes_eq, codes, IfSome}
use Rattle.std.specs.List.{All}
use Rattle.std.proofs.lemmas.List.Elements.{All-weaker}
use Rattle.std.specs.Int.{w8, w16, w32, w64}
use Rattle.iso_boxes.specs.Reading.{yield, broken, number, number24, some_bytes, given, repeated, one_each, has}
use Rattle.prot_boxes.specs.declared.fault.ProtKind.{ProtKind}
use Rattle.prot_boxes.specs.declared.fault.ProtKind.TheVariants.{Short, IsProtected, IvSize, Version, CountDiffers}
use Rattle.prot_boxes.specs.declared.saiz.Saiz.{Saiz}
use Rattle.prot_boxes.specs.declared.saio.Saio.{Saio}
use Rattle.prot_boxes.specs.declared.sbgp.Sbgp.{Sbgp}
use Rattle.prot_boxes.specs.AuxType.{aux_type, aux_type_if}
use Rattle.prot_boxes.specs.Saiz.{sizes_if, saiz_fields}
use Rattle.prot_boxes.specs.Saio.{offset, saio_fields}
use Rattle.prot_boxes.specs.Sbgp.{u32, item, items, sbgp_fields}
use Rattle.prot_boxes.specs.declared.sgpd.Sgpd.{Sgpd}
use Rattle.prot_boxes.specs.declared.senc.Senc.{Senc}
use Rattle.prot_boxes.specs.declared.senc.SencItem.{SencItem}
use Rattle.prot_boxes.specs.Seig.{u8, is_protected, iv_size, eight, sixteen, constant_iv, seig_fields}
use Rattle.prot_boxes.specs.Sgpd.{entry_within, entry_with_length, entry, entries, sgpd_fields}
use Rattle.prot_boxes.specs.Senc.{iv_fields, sub, counted_subs, subs_if, item as senc_item, senc_fields}
use Rattle.iso_boxes.proofs.Bounds.{Bounded, Says, then_says, called_says, choice_says, broken_says, broken_takes, within_takes, each_few, nothing, one, in_some, number_takes, number24_takes, bytes_take, bytes_taken, yield_takes, bind_takes, field_then, named_takes, given_takes, given_nothing, choice_takes, repeated_takes, few_of, few_in}

u8_takes : Bounded {E = ProtKind} {A = ℕ} nothing (number Short w8)
u8_takes = number_takes Short w8 0 (omega arith)

u32_takes : Bounded {E = ProtKind} {A = ℕ} nothing (number Short w32)
u32_takes = number_takes Short w32 0 (omega arith)

aux_takes : (flags : ℕ) → Bounded nothing (aux_type_if flags)
unfolding aux_type
aux_takes flags = given_nothing _ aux_type (field_then nothing (some_bytes Short 4) _ (bytes_take Short 4) (λ kind. field_then nothing (number Short w32) _ u32_takes (λ parameter. yield_takes nothing kind refl)))

-- ---- saiz

sizes_take : (default count : ℕ) → Bounded length (sizes_if default count)
sizes_take default count = choice_takes length (default == 0) (some_bytes Short count) (yield []) (bytes_taken Short count) (yield_takes length [] refl)

abbrev saiz_size : Saiz → ℕ
saiz_size s = length s.sizes

saiz_takes : Bounded saiz_size saiz_fields
unfolding saiz_fields
saiz_takes =
    field_then saiz_size (number Short w8) _ u8_takes (λ version.
    field_then saiz_size (number24 Short) _ (number24_takes Short) (λ flags.
    field_then saiz_size (aux_type_if flags) _ (aux_takes flags) (λ kind.
    field_then saiz_size (number Short w8) _ u8_takes (λ default.
    field_then saiz_size (number Short w32) _ u32_takes (λ count.
    named_takes length saiz_size (sizes_if default count) _ (sizes_take default count) (λ xs. refl))))))

pub few_sizes : (bytes : List ℕ) (s : Saiz) (after : List ℕ) → saiz_fields bytes ≡ Ok (s, after) → length s.sizes ≤ length bytes
few_sizes bytes s after h = few_of _ _ _ (saiz_takes.bound bytes s after h)

-- ---- saio

offset_takes : (version : ℕ) → Bounded one (offset version)
offset_takes version = choice_takes one (version == 0) (number Short w32) (number Short w64) (number_takes Short w32 1 (omega arith)) (number_takes Short w64 1 (omega arith))

abbrev saio_size : Saio → ℕ
saio_size s = length s.offsets

saio_takes : Bounded saio_size saio_fields
unfolding saio_fields
saio_takes =
    field_then saio_size (number Short w8) _ u8_takes (λ version.
    field_then saio_size (number24 Short) _ (number24_takes Short) (λ flags.
    field_then saio_size (aux_type_if flags) _ (aux_takes flags) (λ kind.
    field_then saio_size (number Short w32) _ u32_takes (λ count.
    named_takes length saio_size (repeated count (offset version)) _ (repeated_takes count (offset version) (offset_takes version)) (λ xs. refl)))))

pub few_offsets : (bytes : List ℕ) (s : Saio) (after : List ℕ) → saio_fields bytes ≡ Ok (s, after) → length s.offsets ≤ length bytes
few_offsets bytes s after h = few_of _ _ _ (saio_takes.bound bytes s after h)

-- ---- sbgp

item_takes : Bounded one item
unfolding item
item_takes = bind_takes 1 nothing one u32 _ (number_takes Short w32 1 (omega arith)) (λ count. field_then nothing u32 _ u32_takes (λ index. yield_takes nothing _ refl)) (λ y. omega arith)

abbrev sbgp_size : Sbgp → ℕ
sbgp_size s = length s.entries

items_take : (version : ℕ) → Bounded sbgp_size (items version)
unfolding items
items_take version =
    field_then sbgp_size (given (version == 1) u32) _ (given_nothing (version == 1) u32 u32_takes) (λ parameter.
    field_then sbgp_size u32 _ u32_takes (λ count.
    named_takes length sbgp_size (repeated count item) _ (repeated_takes count item item_takes) (λ xs. refl)))

sbgp_takes : Bounded (in_some sbgp_size) sbgp_fields
unfolding sbgp_fields
sbgp_takes =
    field_then (in_some sbgp_size) (number Short w8) _ u8_takes (λ version.
    field_then (in_some sbgp_size) (number24 Short) _ (number24_takes Short) (λ flags.
    field_then (in_some sbgp_size) (some_bytes Short 4) _ (bytes_take Short 4) (λ kind.
    given_takes sbgp_size (bytes_eq kind (codes "seig")) (items version) (items_take version))))

pub few_items : (bytes : List ℕ) (o : Option Sbgp) (after : List ℕ) → sbgp_fields bytes ≡ Ok (o, after) → IfSome o (λ s. length s.entries ≤ length bytes)
few_items bytes o after h = few_in sbgp_size o (length after) (length bytes) (sbgp_takes.bound bytes o after h)

-- ---- sgpd

protected_takes : Bounded nothing is_protected
unfolding is_protected
protected_takes = field_then nothing u8 _ u8_takes (λ flag. choice_takes nothing (nat_lt 1 flag) (broken IsProtected) (yield (flag == 1)) (broken_takes nothing IsProtected) (yield_takes nothing (flag == 1) refl))

iv_size_takes : Bounded nothing iv_size
unfolding iv_size
iv_size_takes = field_then nothing u8 _ u8_takes (λ size. choice_takes nothing (size == 0 || (size == 8 || size == 16)) (yield size) (broken IvSize) (yield_takes nothing size refl) (broken_takes nothing IvSize))

eight_takes : Bounded nothing eight
unfolding eight
eight_takes = field_then nothing (some_bytes Short 8) _ (bytes_take Short 8) (λ iv. yield_takes nothing _ refl)

sixteen_takes : Bounded nothing sixteen
unfolding sixteen
sixteen_takes = field_then nothing (some_bytes Short 16) _ (bytes_take Short 16) (λ iv. yield_takes nothing _ refl)

constant_takes : Bounded nothing constant_iv
unfolding constant_iv
constant_takes = field_then nothing u8 _ u8_takes (λ size. choice_takes nothing (size == 8) eight _ eight_takes (choice_takes nothing (size == 16) sixteen (broken IvSize) sixteen_takes (broken_takes nothing IvSize)))

seig_takes : Bounded one seig_fields
unfolding seig_fields
seig_takes =
    bind_takes 1 nothing one u8 _ (number_takes Short w8 1 (omega arith)) (λ reserved.
    field_then nothing u8 _ u8_takes (λ pattern.
    field_then nothing is_protected _ protected_takes (λ protected.
    field_then nothing iv_size _ iv_size_takes (λ size.
    field_then nothing (some_bytes Short 16) _ (bytes_take Short 16) (λ kid.
    field_then nothing (given (protected && size == 0) constant_iv) _ (given_nothing (protected && size == 0) constant_iv constant_takes) (λ constant. yield_takes nothing _ refl)))))) (λ y. omega arith)

within_entry : (n : ℕ) → Bounded one (entry_within n)
unfolding entry_within
within_entry n = within_takes Short n seig_fields seig_takes

entry_with_length_takes : Bounded one entry_with_length
unfolding entry_with_length
entry_with_length_takes = field_then one u32 _ u32_takes (λ n. within_entry n)

entry_takes : (default : Option ℕ) → Bounded one (entry default)
entry_takes None = seig_takes
entry_takes (Some n) = choice_takes one (n == 0) entry_with_length (entry_within n) entry_with_length_takes (within_entry n)

abbrev sgpd_size : Sgpd → ℕ
sgpd_size s = length s.entries

entries_take : (version : ℕ) → Bounded sgpd_size (entries version)
unfolding entries
entries_take version = choice_takes sgpd_size (nat_lt 1 version) (broken Version) _ (broken_takes sgpd_size Version)
    (field_then sgpd_size (given (version == 1) u32) _ (given_nothing (version == 1) u32 u32_takes) (λ default.
    field_then sgpd_size u32 _ u32_takes (λ count.
    named_takes length sgpd_size (repeated count (entry default)) _ (repeated_takes count (entry default) (entry_takes default)) (λ xs. refl))))

sgpd_takes : Bounded (in_some sgpd_size) sgpd_fields
unfolding sgpd_fields
sgpd_takes =
    field_then (in_some sgpd_size) (number Short w8) _ u8_takes (λ version.
    field_then (in_some sgpd_size) (number24 Short) _ (number24_takes Short) (λ flags.
    field_then (in_some sgpd_size) (some_bytes Short 4) _ (bytes_take Short 4) (λ kind.
    given_takes sgpd_size (bytes_eq kind (codes "seig")) (entries version) (entries_take version))))

pub few_entries : (bytes : List ℕ) (o : Option Sgpd) (after : List ℕ) → sgpd_fields bytes ≡ Ok (o, after) → IfSome o (λ s. length s.entries ≤ length bytes)
few_entries bytes o after h = few_in sgpd_size o (length after) (length bytes) (sgpd_takes.bound bytes o after h)

-- ---- senc

u16_takes : Bounded {E = ProtKind} {A = ℕ} nothing (number Short w16)
u16_takes = number_takes Short w16 0 (omega arith)

iv_takes : (size : ℕ) → Bounded nothing (iv_fields size)
iv_takes size = choice_takes nothing (size == 8) _ _ (field_then nothing eight _ eight_takes (λ iv. yield_takes nothing _ refl)) (choice_takes nothing (size == 16) _ _ (field_then nothing sixteen _ sixteen_takes (λ iv. yield_takes nothing _ refl)) (yield_takes nothing None refl))

sub_takes : Bounded one sub
unfolding sub
sub_takes = bind_takes 1 nothing one (number Short w16) _ (number_takes Short w16 1 (omega arith)) (λ clear. field_then nothing (number Short w32) _ u32_takes (λ prot. yield_takes nothing _ refl)) (λ y. omega arith)

subs_take : (flag2 : Bool) → Bounded length (subs_if flag2)
unfolding counted_subs
subs_take true = field_then length (number Short w16) _ u16_takes (λ n. repeated_takes n sub sub_takes)
subs_take false = yield_takes length [] refl

abbrev pub item_size : SencItem → ℕ
item_size i = length i.subs

pub senc_item_takes : (flag2 : Bool) (size : ℕ) → Bounded item_size (senc_item flag2 size)
unfolding senc_item
senc_item_takes flag2 size = field_then item_size (iv_fields size) _ (iv_takes size) (λ iv. named_takes length item_size (subs_if flag2) _ (subs_take flag2) (λ xs. refl))

abbrev pub FewEach : ℕ → ℕ → List SencItem → Type 0
FewEach many n items = All (λ i. length i.subs ≤ n) items × (length items ≡ many)

each_says : (flag2 : Bool) (sizes : List ℕ) → Says (FewEach (length sizes)) (one_each (senc_item flag2) sizes)
each_says flag2 sizes = record { says = λ bytes items after h. each_few item_size (senc_item flag2) (senc_item_takes flag2) sizes bytes items after h }

abbrev InSenc : ℕ → ℕ → Senc → Type 0
InSenc many n s = FewEach many n s.items

grows : (many n m : ℕ) (s : Senc) → n ≤ m → InSenc many n s → InSenc many m s
grows many n m s le few = (All-weaker (λ i. length i.subs ≤ n) (λ i. length i.subs ≤ m) (λ i low. omega (arith, low, le)) s.items few.0, few.1)

senc_says : (sizes : List ℕ) → Says (InSenc (length sizes)) (senc_fields sizes)
unfolding senc_fields
senc_says sizes =
    let P = InSenc (length sizes) in
    then_says P (number Short w8) _ (grows (length sizes)) u8_takes (λ version.
    then_says P (number24 Short) _ (grows (length sizes)) (number24_takes Short) (λ flags.
    then_says P (number Short w32) _ (grows (length sizes)) u32_takes (λ count.
    choice_says P (count == length sizes) _ (broken CountDiffers)
    (called_says (FewEach (length sizes)) P (one_each (senc_item (has 0x2 flags)) sizes) _ (each_says (has 0x2 flags) sizes) (λ n x few. few))
    (broken_says P CountDiffers))))

pub few_subs : (sizes bytes : List ℕ) (s : Senc) (after : List ℕ) → senc_fields sizes bytes ≡ Ok (s, after) → FewEach (length sizes) (length bytes) s.items
few_subs sizes bytes s after h = (senc_says sizes).says bytes s after h
