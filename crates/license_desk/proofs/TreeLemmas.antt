-- The text of a licence is what its JSON value is printed as.
use Rattle.std.proofs.Common.{◌≡◌, ℕ, Bool, true, false, List, [], ◌∷◌, ◌++◌, Option, Some, None, refl, sym, ap, ◌∙◌, append_assoc, All, codes, decimal}
use Rattle.std.specs.List.{flat_map}
use Rattle.std.proofs.lemmas.List.Elements.{All-head, All-tail}
use Rattle.json.specs.Token.{Token}
use Rattle.json.specs.Json as json
use Rattle.json.specs.Print.{print, print_from, escape, escape_byte}
use Rattle.json.specs.Tree.{json_tokens, items_tokens, members_tokens}
use Rattle.clearkey_json.specs.Base64url.{base64url}
use Rattle.license_desk.specs.Rows.{Row}
use Rattle.license_desk.specs.Licence.{key_text, further_key, keys_text, stated, latest_start, earliest_end, start_text, end_text, licence_text}
use Rattle.license_desk.specs.ReadBack.{IsReadBack}

-- ---- the value

abbrev pub key_tree : List ℕ → List ℕ → json.Json
key_tree kid k =
    json.object (json.member (codes "kty") (json.string (codes "oct")) (json.member (codes "kid") (json.string kid) (json.member (codes "k") (json.string k) json.no_members)))

abbrev pub row_tree : Row → json.Json
row_tree row = key_tree (base64url row.0) (base64url row.1.key.bytes)

abbrev pub row_trees : List Row → json.Items
row_trees [] = json.no_items
row_trees (row ∷ rows) = json.item (row_tree row) (row_trees rows)

abbrev pub end_member : Option ℕ → json.Members
end_member None = json.no_members
end_member (Some moment) = json.member (codes "expires") (json.number (decimal moment)) json.no_members

abbrev pub time_members : Option ℕ → Option ℕ → json.Members
time_members None last = end_member last
time_members (Some moment) last = json.member (codes "from") (json.number (decimal moment)) (end_member last)

abbrev pub type_members : Option ℕ → Option ℕ → json.Members
type_members start last = json.member (codes "type") (json.string (codes "temporary")) (time_members start last)

abbrev pub set_tree : List Row → Option ℕ → Option ℕ → json.Json
set_tree rows start last = json.object (json.member (codes "keys") (json.array (row_trees rows)) (type_members start last))

-- ---- its text

abbrev pub comma : Bool → List ℕ
comma false = []
comma true = codes ","

abbrev web_key_text : List ℕ → List ℕ → List ℕ
web_key_text kid k = codes "{\"kty\":\"oct\",\"kid\":\"" ++ (kid ++ (codes "\",\"k\":\"" ++ (k ++ codes "\"}")))

regroup : (kid k rest : List ℕ) → (kid ++ 34 ∷ []) ++ (codes ",\"k\":\"" ++ ((k ++ 34 ∷ []) ++ (125 ∷ rest))) ≡ (kid ++ (codes "\",\"k\":\"" ++ (k ++ codes "\"}"))) ++ rest
regroup kid k rest = simp append_assoc

print_key : (later : Bool) (kid k : List ℕ) (ts : List Token) → escape kid ≡ kid → escape k ≡ k
    → print_from later (json_tokens (key_tree kid k) ++ ts) ≡ comma later ++ (web_key_text kid k ++ print_from true ts)
unfolding print_from escape_byte
print_key true kid k ts e f = rw (e, f) (ap (λ s. codes ",{\"kty\":\"oct\",\"kid\":\"" ++ s) (regroup kid k (print_from true ts)))
print_key false kid k ts e f = rw (e, f) (ap (λ s. codes "{\"kty\":\"oct\",\"kid\":\"" ++ s) (regroup kid k (print_from true ts)))

print_further : (rows : List Row) (ts : List Token) → All IsReadBack rows
    → print_from true (items_tokens (row_trees rows) ++ ts) ≡ flat_map further_key rows ++ 93 ∷ print_from true ts
unfolding print_from
print_further [] ts read = refl
print_further (row ∷ rows) ts read =
    let here = All-head IsReadBack row rows read in
    ap (print_from true) (append_assoc (json_tokens (row_tree row)) (items_tokens (row_trees rows)) ts)
    ∙ print_key true _ _ (items_tokens (row_trees rows) ++ ts) here.plain_kid here.plain_key
    ∙ ap (λ s. further_key row ++ s) (print_further rows ts (All-tail IsReadBack row rows read))
    ∙ sym (append_assoc (further_key row) (flat_map further_key rows) (93 ∷ print_from true ts))

print_keys : (rows : List Row) (ts : List Token) → All IsReadBack rows
    → print_from false (items_tokens (row_trees rows) ++ ts) ≡ keys_text rows ++ 93 ∷ print_from true ts
unfolding print_from
print_keys [] ts read = refl
print_keys (row ∷ rows) ts read =
    let here = All-head IsReadBack row rows read in
    ap (print_from false) (append_assoc (json_tokens (row_tree row)) (items_tokens (row_trees rows)) ts)
    ∙ print_key false _ _ (items_tokens (row_trees rows) ++ ts) here.plain_kid here.plain_key
    ∙ ap (λ s. key_text row ++ s) (print_further rows ts (All-tail IsReadBack row rows read))
    ∙ sym (append_assoc (key_text row) (flat_map further_key rows) (93 ∷ print_from true ts))

print_times : (start last : Option ℕ) → 93 ∷ print_from true (members_tokens (type_members start last)) ≡ codes "],\"type\":\"temporary\"" ++ (start_text start ++ (end_text last ++ codes "}"))
unfolding print_from escape_byte
print_times None None = refl
print_times None (Some b) = refl
print_times (Some a) None = refl
print_times (Some a) (Some b) = refl

print_open : (rows : List Row) (start last : Option ℕ)
    → print (json_tokens (set_tree rows start last)) ≡ codes "{\"keys\":[" ++ print_from false (items_tokens (row_trees rows) ++ members_tokens (type_members start last))
unfolding print_from escape_byte
print_open rows start last = refl

pub printed : (rows : List Row) → All IsReadBack rows → print (json_tokens (set_tree rows (stated (latest_start rows)) (earliest_end rows))) ≡ licence_text rows
unfolding licence_text
printed rows read =
    let start = stated (latest_start rows) in
    let last = earliest_end rows in
    print_open rows start last
    ∙ ap (λ s. codes "{\"keys\":[" ++ s) (print_keys rows (members_tokens (type_members start last)) read ∙ ap (λ s. keys_text rows ++ s) (print_times start last))
