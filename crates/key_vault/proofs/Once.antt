-- A file tells one vault, or none.
use Rattle.std.proofs.Common.{◌≡◌, ◌≢◌, ◌⊎◌, inl, inr, ℕ, ◌+◌, ◌<◌, ◌≤◌, List, [], ◌∷◌, ◌++◌, length, get_or, drop, refl, sym, ◌∙◌, ap, subst, arith, append_assoc, length-append}
use Rattle.std.specs.Prelude.{Result, Ok}
use Rattle.key_vault.specs.declared.stored.VaultRecord.{VaultRecord}
use Rattle.key_vault.specs.declared.command.Command.{Command}
use Rattle.key_vault.specs.Bytes.{command_bytes, length_bytes}
use Rattle.key_vault.specs.Records.{after, replayed, vault}
use Rattle.key_vault.specs.Rules.{allowed}
use Rattle.key_vault.specs.File.{frame, file_of, AllAllowed, IsVault, IsBroken, HasNoFrame}
use Rattle.key_vault.specs.Readings.{OneReading, NeverBroken}
use Rattle.key_vault.proofs.Alike.{allowed_room, one_command}

-- two accepted frames at one place are one
one_frame : (records : List VaultRecord) (gate : ℕ) (c d : Command) (xs ys x y : List ℕ) → allowed c records gate ≡ Ok tt → allowed d records gate ≡ Ok tt → (frame c ++ xs) ++ x ≡ (frame d ++ ys) ++ y → (c ≡ d) × (xs ++ x ≡ ys ++ y)
one_frame records gate c d xs ys x y ok_c ok_d is =
    let room_c = allowed_room c records gate ok_c in
    let room_d = allowed_room d records gate ok_d in
    let grouped : frame c ++ (xs ++ x) ≡ frame d ++ (ys ++ y) = sym (append_assoc (frame c) xs x) ∙ is ∙ append_assoc (frame d) ys y in
    one_command c d (xs ++ x) (ys ++ y) (omega arith) (omega arith) (ap (λ (l : List ℕ). drop 1 l) grouped)

shut_is_no_frame : (c : Command) (xs x rest : List ℕ) (g : ℕ) → g ≢ 1 → g ∷ rest ≡ (frame c ++ xs) ++ x → ⊥
shut_is_no_frame c xs x rest g shut is = shut (ap (λ (l : List ℕ). get_or l 0 0) is)

readings : (records : List VaultRecord) (gate : ℕ) (cs ds : List Command) (g h : ℕ) (x y : List ℕ) → AllAllowed records gate cs → AllAllowed records gate ds → g ≢ 1 → h ≢ 1 → file_of cs ++ g ∷ x ≡ file_of ds ++ h ∷ y → cs ≡ ds
readings records gate [] [] g h x y all_c all_d shut_g shut_h is = refl
readings records gate [] (d ∷ ds) g h x y all_c all_d shut_g shut_h is = absurd (shut_is_no_frame d (file_of ds) (h ∷ y) x g shut_g is)
readings records gate (c ∷ cs) [] g h x y all_c all_d shut_g shut_h is = absurd (shut_is_no_frame c (file_of cs) (g ∷ x) y h shut_h (sym is))
readings records gate (c ∷ cs) (d ∷ ds) g h x y all_c all_d shut_g shut_h is =
    let first = one_frame records gate c d (file_of cs) (file_of ds) (g ∷ x) (h ∷ y) all_c.0 all_d.0 is in
    let all_e = subst (λ (k : Command). AllAllowed (after k records) (gate + length (frame k)) ds) (sym first.0) all_d.1 in
    let rest = readings (after c records) (gate + length (frame c)) cs ds g h x y all_c.1 all_e shut_g shut_h first.1 in
    ap (λ (k : Command). k ∷ cs) first.0 ∙ ap (λ (l : List Command). d ∷ l) rest

abbrev NoFrame : List VaultRecord → ℕ → List ℕ → Type 0
NoFrame records place tail = (tail ≡ []) ⊎ ((rest : List ℕ) × (tail ≡ 1 ∷ rest) × ((c : Command) (more : List ℕ) → allowed c records place ≡ Ok tt → tail ≡ frame c ++ more → ⊥))

no_end : (tail front rest : List ℕ) (g : ℕ) → tail ≡ [] → front ++ g ∷ rest ≡ tail → ⊥
no_end tail front rest g ended is = absurd (omega (arith, ap length (is ∙ ended), length-append front (g ∷ rest)))

unbroken : (records : List VaultRecord) (gate place : ℕ) (cs bs : List Command) (g : ℕ) (x tail : List ℕ) → AllAllowed records gate cs → AllAllowed records gate bs → g ≢ 1
    → place ≡ gate + length (file_of bs) → NoFrame (replayed records bs) place tail → file_of cs ++ g ∷ x ≡ file_of bs ++ tail → ⊥
unbroken records gate place cs [] g x tail all_c all_b shut at (inl ended) is = no_end tail (file_of cs) x g ended is
unbroken records gate place [] [] g x tail all_c all_b shut at (inr found) is = shut (ap (λ (l : List ℕ). get_or l 0 0) (is ∙ found.1))
unbroken records gate place (c ∷ cs) [] g x tail all_c all_b shut at (inr found) is =
    let e : gate ≡ place = omega (arith, at) in
    found.2 c (file_of cs ++ g ∷ x) (subst (λ (n : ℕ). allowed c records n ≡ Ok tt) e all_c.0) (sym is ∙ append_assoc (frame c) (file_of cs) (g ∷ x))
unbroken records gate place [] (b ∷ bs) g x tail all_c all_b shut at none is = shut_is_no_frame b (file_of bs) tail x g shut is
unbroken records gate place (c ∷ cs) (b ∷ bs) g x tail all_c all_b shut at none is =
    let first = one_frame records gate c b (file_of cs) (file_of bs) (g ∷ x) tail all_c.0 all_b.0 is in
    let all_e = subst (λ (k : Command). AllAllowed (after k records) (gate + length (frame k)) bs) (sym first.0) all_b.1 in
    let none_e = subst (λ (k : Command). NoFrame (replayed (after k records) bs) place tail) (sym first.0) none in
    let at_e : place ≡ gate + length (frame c) + length (file_of bs) =
    subst (λ (k : Command). place ≡ gate + length (frame k) + length (file_of bs)) (sym first.0) (omega (arith, at, length-append (frame b) (file_of bs))) in
    unbroken (after c records) (gate + length (frame c)) place cs bs g x tail all_c.1 all_e shut at_e none_e first.1

pub one_reading : OneReading
one_reading file cs ds v w = readings [] 0 cs ds v.gate w.gate v.rest w.rest v.accepted w.accepted v.closed w.closed (sym v.bytes ∙ w.bytes)

pub never_broken : NeverBroken
never_broken file cs place v b = unbroken [] 0 place cs b.commands v.gate v.rest b.tail v.accepted b.accepted v.closed (omega (arith, b.at)) b.broken (sym v.bytes ∙ b.bytes)
