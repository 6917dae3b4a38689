-- Texts that grow.
use Rattle.std.proofs.Common.{◌≡◌, ℕ, ◌+◌, ◌<◌, List, [], ◌∷◌, ◌++◌, length, take, get_or, refl, ap, ◌∙◌, sym, append_assoc, codes}
use Rattle.std.specs.List.{flat_map}
use Rattle.std.proofs.lemmas.List.{take_more, flat_map_more}
use Rattle.std.specs.Fmt.{decimal}
use Rattle.eme_types.specs.declared.call.Event.TheVariants.{Message}
use Rattle.eme_types.specs.declared.kid.Status.{Status}
use Rattle.eme_types.specs.declared.call.Settled.{Settled}
use Rattle.eme_types.specs.declared.call.Effect.TheVariants.{Statuses, Promise}
use Rattle.output_order.specs.Log.{event_line, effect_line, status_words, settled_words}

pub put_one : (old text new words : List ℕ) → new ≡ old ++ text → text ≡ words → new ≡ old ++ words
put_one old text new words e is = e ∙ ap (λ (x : List ℕ). old ++ x) is

pub put_two : (old a mid b new words : List ℕ) → mid ≡ old ++ a → new ≡ mid ++ b → a ++ b ≡ words → new ≡ old ++ words
put_two old a mid b new words e f is = f ∙ (ap (λ (x : List ℕ). x ++ b) e ∙ (append_assoc old a b ∙ ap (λ (x : List ℕ). old ++ x) is))

-- one item more of a text that is made of pieces
pub put_piece : {X : Type 0} (f : X → List ℕ) (old now next : List ℕ) (xs : List X) (i : ℕ) (x : X) → i < length xs → x ≡ get_or xs i x → now ≡ old ++ flat_map f (take i xs) → next ≡ now ++ f x → next ≡ old ++ flat_map f (take (i + 1) xs)
put_piece f old now next xs i x lt is e more =
    more ∙ (ap (λ (z : List ℕ). z ++ f x) e ∙ (flat_map_more f old (take i xs) x ∙ sym (ap (λ ys. old ++ flat_map f ys) (take_more xs i x lt ∙ ap (λ y. take i xs ++ y ∷ []) (sym is)))))

pub put_three : (old a one b two c new words : List ℕ) → one ≡ old ++ a → two ≡ one ++ b → new ≡ two ++ c → a ++ (b ++ c) ≡ words → new ≡ old ++ words
put_three old a one b two c new words e f g is =
    put_two old (a ++ b) two c new words (put_two old a one b two (a ++ b) e f refl) g (append_assoc a b c ∙ is)

-- what stands in front of a message's text
abbrev message_head : ℕ → ℕ → List ℕ
message_head session id = codes "  event message " ++ (decimal session ++ (codes " " ++ (decimal id ++ codes " license-request ")))

pub message_words : (session id : ℕ) (text head : List ℕ) → head ≡ message_head session id → head ++ (text ++ codes "\n") ≡ event_line (Message session id text)
message_words session id text head is =
    ap (λ (x : List ℕ). x ++ (text ++ codes "\n")) is ∙ simp append_assoc

pub statuses_line : (session : ℕ) (list : List (List ℕ × Status)) (head : List ℕ) → head ≡ codes "  statuses " ++ decimal session → head ++ (flat_map status_words list ++ codes "\n") ≡ effect_line (Statuses session list)
statuses_line session list head is =
    ap (λ (x : List ℕ). x ++ (flat_map status_words list ++ codes "\n")) is ∙ simp append_assoc

pub promise_line : (promise : ℕ) (how : Settled) (head : List ℕ) → head ≡ codes "  promise " ++ decimal promise → head ++ settled_words how ≡ effect_line (Promise promise how)
promise_line promise how head is =
    ap (λ (x : List ℕ). x ++ settled_words how) is ∙ simp append_assoc
