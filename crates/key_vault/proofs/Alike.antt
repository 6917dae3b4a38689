-- The bytes of a command tell it.
use Rattle.std.proofs.Common.{◌≡◌, ◌≢◌, ℕ, ◌+◌, ◌<◌, ◌≤◌, ◌^◌, List, [], ◌∷◌, ◌++◌, length, get_or, take, drop, refl, sym, ◌∙◌, ap, subst, arith, append_assoc, length-append}
use Rattle.std.specs.Prelude.{Result, Ok, Err, Bool, true, false, nat_le, is_ok, is_none}
use Rattle.std.specs.Int.{w32, to_be_bytes, from_be_bytes}
use Rattle.std.proofs.lemmas.List.{take_at, drop_at, append_cancel_left}
use Rattle.std.proofs.lemmas.Nat.{from_be_bytes-to_be_bytes_4}
use Rattle.std.proofs.lemmas.Bool.Decides.{nat_tests}
use Rattle.eme_types.specs.FirstFault.{◌>>=◌, demanded}
use Rattle.key_vault.specs.declared.stored.VaultRecord.{VaultRecord}
use Rattle.key_vault.specs.declared.command.Command.{Command}
use Rattle.key_vault.specs.declared.command.Command.TheVariants.{Store, Release, Ack}
use Rattle.key_vault.specs.declared.fault.VaultFault.{VaultFault}
use Rattle.key_vault.specs.declared.fault.VaultFault.TheVariants.{MustReopen, Label, Licence, Exists, Unknown, NotHeld, NotReleasing, Full, Disk, OutOfMemory}
use Rattle.key_vault.specs.Bytes.{command_bytes, length_bytes, HasCommand}
use Rattle.clearkey_json.specs.KeySet.{key_set}
use Rattle.key_vault.specs.Label.{is_label}
use Rattle.key_vault.specs.Records.{record_of}
use Rattle.key_vault.specs.Rules.{fits, loaded, releasing, allowed, Obeys}
use Rattle.key_vault.specs.File.{frame}
use Rattle.key_vault.specs.Opening.{RefusesFrame, refused_as}

-- two lists of one length before others
fronts : (a b x y : List ℕ) → length a ≡ length b → a ++ x ≡ b ++ y → a ≡ b
fronts a b x y long is = sym (take_at a x (length a) refl) ∙ ap (λ (l : List ℕ). take (length a) l) is ∙ take_at b y (length a) (sym long)

backs : (a b x y : List ℕ) → length a ≡ length b → a ++ x ≡ b ++ y → x ≡ y
backs a b x y long is = sym (drop_at a x (length a) refl) ∙ ap (λ (l : List ℕ). drop (length a) l) is ∙ drop_at b y (length a) (sym long)

heads : (a b : ℕ) (x y : List ℕ) → a ∷ x ≡ b ∷ y → a ≡ b
heads a b x y is = ap (λ (l : List ℕ). get_or l 0 0) is

pub told_alike : (c d : Command) → command_bytes c ≡ command_bytes d → c ≡ d
told_alike (Store l x) (Store m y) is =
    let long : length l ≡ length m = ap (λ (b : List ℕ). get_or b 1 0) is in
    let rest : l ++ x ≡ m ++ y = ap (λ (b : List ℕ). drop 2 b) is in
    ap (λ (k : List ℕ). Store k x) (fronts l m x y long rest) ∙ ap (λ (k : List ℕ). Store m k) (backs l m x y long rest)
told_alike (Store l x) (Release m) is = let k = heads 1 2 (length l ∷ l ++ x) (length m ∷ m) is in absurd (omega (arith, k))
told_alike (Store l x) (Ack m) is = let k = heads 1 3 (length l ∷ l ++ x) (length m ∷ m) is in absurd (omega (arith, k))
told_alike (Release l) (Store m y) is = let k = heads 2 1 (length l ∷ l) (length m ∷ m ++ y) is in absurd (omega (arith, k))
told_alike (Release l) (Release m) is = ap (λ (k : List ℕ). Release k) (ap (λ (b : List ℕ). drop 2 b) is)
told_alike (Release l) (Ack m) is = let k = heads 2 3 (length l ∷ l) (length m ∷ m) is in absurd (omega (arith, k))
told_alike (Ack l) (Store m y) is = let k = heads 3 1 (length l ∷ l) (length m ∷ m ++ y) is in absurd (omega (arith, k))
told_alike (Ack l) (Release m) is = let k = heads 3 2 (length l ∷ l) (length m ∷ m) is in absurd (omega (arith, k))
told_alike (Ack l) (Ack m) is = ap (λ (k : List ℕ). Ack k) (ap (λ (b : List ℕ). drop 2 b) is)

-- two commands behind one gate are one
pub one_command : (c d : Command) (x y : List ℕ) → length (command_bytes c) < 2 ^ 32 → length (command_bytes d) < 2 ^ 32
    → length_bytes (length (command_bytes c)) ++ command_bytes c ++ x ≡ length_bytes (length (command_bytes d)) ++ command_bytes d ++ y → (c ≡ d) × (x ≡ y)
one_command c d x y short_c short_d is =
    let n = length (command_bytes c) in
    let m = length (command_bytes d) in
    let grouped : length_bytes n ++ (command_bytes c ++ x) ≡ length_bytes m ++ (command_bytes d ++ y) =
    sym (append_assoc (length_bytes n) (command_bytes c) x) ∙ is ∙ append_assoc (length_bytes m) (command_bytes d) y in
    let lengths : length_bytes n ≡ length_bytes m = fronts (length_bytes n) (length_bytes m) (command_bytes c ++ x) (command_bytes d ++ y) refl grouped in
    let same : n ≡ m = sym (from_be_bytes-to_be_bytes_4 n short_c) ∙ ap (λ (l : List ℕ). from_be_bytes w32 l) lengths ∙ from_be_bytes-to_be_bytes_4 m short_d in
    let rest : command_bytes c ++ x ≡ command_bytes d ++ y = backs (length_bytes n) (length_bytes m) (command_bytes c ++ x) (command_bytes d ++ y) refl grouped in
    (told_alike c d (fronts (command_bytes c) (command_bytes d) x y same rest), backs (command_bytes c) (command_bytes d) x y same rest)

last_ok : {A : Type 0} (r : Result A VaultFault) (f : A → Bool) → (r >>= (λ x. demanded Full (f x))) ≡ Ok tt → (x : A) × (f x ≡ true)
last_ok (Ok x) f ok = (x, fits_then (f x) ok)
  where
    fits_then : (b : Bool) → demanded Full b ≡ Ok tt → b ≡ true
    fits_then true ok = refl
    fits_then false ok = absurd cc
last_ok (Err e) f ok = absurd cc

room_means : (gate n : ℕ) → fits gate n ≡ true → gate + 5 + n + 1 ≤ 16777216
room_means gate n is = grind (arith, nat_tests)

store_fits : (a b c t : Bool) → (demanded Label a >>= (λ named. demanded Licence b >>= (λ read. demanded Exists c >>= (λ fresh. demanded Full t)))) ≡ Ok tt → t ≡ true
store_fits true true true true ok = refl
store_fits true true true false ok = absurd cc
store_fits true true false t ok = absurd cc
store_fits true false c t ok = absurd cc
store_fits false b c t ok = absurd cc

ack_fits : (a : Bool) (r : Result (Unit {0}) VaultFault) (t : Bool) → (demanded Label a >>= (λ named. r >>= (λ there. demanded Full t))) ≡ Ok tt → t ≡ true
ack_fits true r t ok = (last_ok r (λ x. t) ok).1
ack_fits false r t ok = absurd cc

-- a command that is accepted is short
pub allowed_room : (c : Command) (records : List VaultRecord) (gate : ℕ) → allowed c records gate ≡ Ok tt → gate + 5 + length (command_bytes c) + 1 ≤ 16777216
allowed_room (Store label licence) records gate ok =
    room_means gate _ (store_fits (is_label label) (is_ok (key_set licence)) (is_none (record_of label records)) (fits gate (length (command_bytes (Store label licence)))) ok)
allowed_room (Release label) records gate ok = room_means gate _ (last_ok (loaded records label) (λ x. fits gate (length (command_bytes (Release label)))) ok).1
allowed_room (Ack label) records gate ok =
    room_means gate _ (ack_fits (is_label label) (releasing (record_of label records)) (fits gate (length (command_bytes (Ack label)))) ok)

-- where the command that was read is refused, no other one that is accepted stands there
pub no_other : (behind : List ℕ) (records : List VaultRecord) (gate n : ℕ) (c : Command) (fault : VaultFault) → HasCommand behind c n → allowed c records gate ≡ Err fault
    → (d : Command) (more : List ℕ) → allowed d records gate ≡ Ok tt → 1 ∷ behind ≡ frame d ++ more → ⊥
no_other behind records gate n c fault stands refused d more ok is =
    let room = allowed_room d records gate ok in
    let there : behind ≡ length_bytes (length (command_bytes d)) ++ command_bytes d ++ more = ap (λ (l : List ℕ). drop 1 l) is in
    let same = one_command c d (drop n behind) more stands.short (omega arith) (sym stands.stands ∙ there) in
    let both : Err fault ≡ Ok tt = sym refused ∙ ap (λ (k : Command). allowed k records gate) same.0 ∙ ok in
    absurd cc

pub frame_refused : (behind : List ℕ) (records : List VaultRecord) (gate n : ℕ) (c : Command) (fault : VaultFault) → HasCommand behind c n → Obeys {T = Unit {0}} (allowed c records gate) (Err fault)
    → RefusesFrame behind records gate (refused_as gate fault)
frame_refused behind records gate n c MustReopen stands follows = absurd follows
frame_refused behind records gate n c Label stands follows = (refl, no_other behind records gate n c Label stands follows)
frame_refused behind records gate n c Licence stands follows = (refl, no_other behind records gate n c Licence stands follows)
frame_refused behind records gate n c Exists stands follows = (refl, no_other behind records gate n c Exists stands follows)
frame_refused behind records gate n c Unknown stands follows = (refl, no_other behind records gate n c Unknown stands follows)
frame_refused behind records gate n c NotHeld stands follows = (refl, no_other behind records gate n c NotHeld stands follows)
frame_refused behind records gate n c NotReleasing stands follows = (refl, no_other behind records gate n c NotReleasing stands follows)
frame_refused behind records gate n c Full stands follows = (refl, no_other behind records gate n c Full stands follows)
frame_refused behind records gate n c Disk stands follows = absurd follows
frame_refused behind records gate n c OutOfMemory stands follows = tt
