-- As far as a vault's file may go, its front tells it.
use Rattle.std.proofs.Common.{◌≡◌, ◌⊎◌, inl, inr, ℕ, ◌+◌, ◌-◌, ◌<◌, ◌≤◌, min, List, [], ◌∷◌, ◌++◌, length, take, drop, refl, sym, ◌∙◌, ap, subst, arith, append_assoc, length-append, length-take, length-drop, take-append-drop}
use Rattle.std.specs.Prelude.{Result, Ok}
use Rattle.std.proofs.lemmas.List.{append-nil, drop_all, take-append-le, take_at}
use Rattle.key_vault.specs.declared.stored.VaultRecord.{VaultRecord}
use Rattle.key_vault.specs.declared.command.Command.{Command}
use Rattle.key_vault.specs.Bytes.{command_bytes, length_bytes}
use Rattle.key_vault.specs.Records.{after, vault}
use Rattle.key_vault.specs.Rules.{allowed}
use Rattle.key_vault.specs.File.{frame, file_of, AllAllowed, IsVault, IsBroken, HasNoFrame}
use Rattle.key_vault.proofs.Alike.{allowed_room}

pub frame_long : (c : Command) → length (frame c) ≡ 5 + length (command_bytes c)
frame_long c = omega (arith, length-append (length_bytes (length (command_bytes c))) (command_bytes c))

-- the gate behind accepted frames ends within the limit
pub vault_room : (records : List VaultRecord) (gate : ℕ) (cs : List Command) → AllAllowed records gate cs → gate + 1 ≤ 16777216 → gate + length (file_of cs) + 1 ≤ 16777216
vault_room records gate [] all room = omega arith
vault_room records gate (c ∷ cs) all room =
    let here = allowed_room c records gate all.0 in
    let rest = vault_room (after c records) (gate + length (frame c)) cs all.1 (omega (arith, frame_long c)) in
    omega (arith, length-append (frame c) (file_of cs))

pub prefix_vault : (file : List ℕ) (cs : List Command) → IsVault (take 16777216 file) cs → IsVault file cs
prefix_vault file cs v =
    let more = drop 16777216 file in
    record {
      gate = v.gate;
      rest = v.rest ++ more;
      closed = v.closed;
      bytes = sym (take-append-drop 16777216 file) ∙ ap (λ (l : List ℕ). l ++ more) v.bytes ∙ append_assoc (file_of cs) (v.gate ∷ v.rest) more;
      accepted = v.accepted;
    }

-- a frame that stands in a longer list stands in its front, where that is long enough
in_front : (xs ys fr more : List ℕ) → xs ++ ys ≡ fr ++ more → length fr ≤ length xs → xs ≡ fr ++ drop (length fr) xs
in_front xs ys fr more is le =
    let front : take (length fr) xs ≡ fr = sym (take-append-le (length fr) xs ys le) ∙ ap (λ (l : List ℕ). take (length fr) l) is ∙ take_at fr more (length fr) refl in
    sym (take-append-drop (length fr) xs) ∙ ap (λ (l : List ℕ). l ++ drop (length fr) xs) front

none_in_whole : (file tail : List ℕ) (cs : List Command) (place : ℕ) → take 16777216 file ≡ file_of cs ++ tail → place ≡ length (file_of cs)
    → ((c : Command) (more : List ℕ) → allowed c (vault cs) place ≡ Ok tt → tail ≡ frame c ++ more → ⊥)
    → (c : Command) (more : List ℕ) → allowed c (vault cs) place ≡ Ok tt → tail ++ drop 16777216 file ≡ frame c ++ more → ⊥
none_in_whole file tail cs place bytes at none c more ok is =
    let behind = drop 16777216 file in
    let room = allowed_room c (vault cs) place ok in
    let whole : min 16777216 (length file) ≡ place + length tail = omega (arith, ap length bytes, length-take 16777216 file, length-append (file_of cs) tail) in
    let lengths : length tail + (length file - 16777216) ≡ length (frame c) + length more = omega (arith, ap length is, length-append tail behind, length-append (frame c) more, length-drop 16777216 file) in
    none c (drop (length (frame c)) tail) ok (in_front tail behind (frame c) more is (omega (arith, whole, lengths, room, frame_long c)))

pub prefix_broken : (file : List ℕ) (place : ℕ) → IsBroken (take 16777216 file) place → IsBroken file place
prefix_broken file place b =
    let behind = drop 16777216 file in
    let cs = b.commands in
    record {
      commands = cs;
      tail = b.tail ++ behind;
      bytes = sym (take-append-drop 16777216 file) ∙ ap (λ (l : List ℕ). l ++ behind) b.bytes ∙ append_assoc (file_of cs) b.tail behind;
      accepted = b.accepted;
      at = b.at;
      broken = elim b.broken [
        | inl ended ↦
            let room = vault_room [] 0 cs b.accepted (omega arith) in
            let whole : take 16777216 file ≡ file_of cs = b.bytes ∙ ap (λ (l : List ℕ). file_of cs ++ l) ended ∙ append-nil (file_of cs) in
            let short : length file ≤ 16777216 = omega (arith, ap length whole, length-take 16777216 file) in
            inl (ap (λ (l : List ℕ). l ++ behind) ended ∙ drop_all 16777216 file short)
        | inr found ↦
            inr (
              found.0 ++ behind,
              ap (λ (l : List ℕ). l ++ behind) found.1,
              none_in_whole file b.tail cs place b.bytes b.at found.2,
            )
      ];
    }
