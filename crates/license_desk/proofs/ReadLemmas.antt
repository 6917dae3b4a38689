-- What the text of a licence is read as.
use Rattle.std.proofs.Common.{◌≡◌, ℕ, ◌<◌, ◌≤◌, ◌^◌, true, List, [], ◌∷◌, Option, Some, None, refl, sym, ap, ◌∙◌, append-nil, codes, option_map, option_and_then, arith}
use Rattle.std.proofs.lemmas.Bool.{leb-true}
use Rattle.json.specs.Token.{Token}
use Rattle.json.specs.Json as json
use Rattle.json.specs.Print.{print}
use Rattle.json.specs.Tree.{json_tokens, depth, items_depth, HasNumbers, ItemsHaveNumbers, MembersHaveNumbers}
use Rattle.json.proofs.Printed.Tokens.{tokens-print}
use Rattle.json.proofs.Printed.Trees.{value-json_tokens, ArePrintable-json_tokens}
use Rattle.json.proofs.Printed.Decimals.{IsNumber-decimal}
use Rattle.serde_json.specs.Data.{Data, unsigned, number, string, array, object, Items, no_items, item, Members, no_members, member, put}
use Rattle.serde_json.specs.Read.{read, of_json, of_items, of_members, max_depth}
use Rattle.serde_json.proofs.Numbers.{number_of-decimal}
use Rattle.eme_types.specs.declared.limits.TheConstants.{MAX_MOMENT}
use Rattle.clearkey_json.specs.Base64url.{base64url}
use Rattle.license_desk.specs.Rows.{Row, is_end}
use Rattle.license_desk.proofs.TreeLemmas.{key_tree, row_trees, end_member, time_members, set_tree}

-- ---- any value that is printed

abbrev whole : Option (json.Json × List Token) → Option Data
whole o = option_and_then of_json (option_and_then (λ p. json.if_last p.0 p.1) o)

pub read_printed : (j : json.Json) (d : Data) → HasNumbers j → depth j ≤ 127 → of_json j ≡ Some d → read (print (json_tokens j)) ≡ Some d
read_printed j d numbers shallow is =
    ap whole (ap (json.value max_depth) (tokens-print (json_tokens j) (ArePrintable-json_tokens j numbers) ∙ sym (append-nil _)) ∙ value-json_tokens j max_depth [] shallow) ∙ is

-- ---- the data

abbrev pub key_data : List ℕ → List ℕ → Data
key_data kid k = object (member (codes "k") (string k) (member (codes "kid") (string kid) (member (codes "kty") (string (codes "oct")) no_members)))

abbrev pub row_data : List Row → Items
row_data [] = no_items
row_data (row ∷ rows) = item (key_data (base64url row.0) (base64url row.1.key.bytes)) (row_data rows)

abbrev pub end_put : Option ℕ → Members → Members
end_put None ms = ms
end_put (Some moment) ms = put (codes "expires") (number (unsigned moment)) ms

abbrev pub times_put : Option ℕ → Option ℕ → Members → Members
times_put None last ms = end_put last ms
times_put (Some moment) last ms = end_put last (put (codes "from") (number (unsigned moment)) ms)

abbrev pub set_data : Items → Option ℕ → Option ℕ → Data
set_data keys start last = object (times_put start last (put (codes "type") (string (codes "temporary")) (put (codes "keys") (array keys) no_members)))

of_key : (kid k : List ℕ) → of_json (key_tree kid k) ≡ Some (key_data kid k)
of_key kid k = refl

of_rows : (rows : List Row) → of_items (row_trees rows) ≡ Some (row_data rows)
of_rows [] = refl
of_rows (row ∷ rows) = ap (λ (o : Option Items). option_map (item (key_data (base64url row.0) (base64url row.1.key.bytes))) o) (of_rows rows)

small_end : (moment : ℕ) → is_end (Some moment) ≡ true → moment < 2 ^ 64
small_end moment small = let le : moment ≤ MAX_MOMENT = leb-true _ _ small in omega arith

of_end : (last : Option ℕ) (ms : Members) → is_end last ≡ true → of_members (end_member last) ms ≡ Some (end_put last ms)
of_end None ms small = refl
of_end (Some moment) ms small = rw (number_of-decimal moment (small_end moment small))

of_times : (start last : Option ℕ) (ms : Members) → is_end start ≡ true → is_end last ≡ true → of_members (time_members start last) ms ≡ Some (times_put start last ms)
of_times None last ms a b = of_end last ms b
of_times (Some moment) last ms a b = rw (number_of-decimal moment (small_end moment a)) (of_end last _ b)

of_set : (rows : List Row) (start last : Option ℕ) → is_end start ≡ true → is_end last ≡ true → of_json (set_tree rows start last) ≡ Some (set_data (row_data rows) start last)
of_set rows start last a b = rw (of_rows rows, of_times start last (put (codes "type") (string (codes "temporary")) (put (codes "keys") (array (row_data rows)) no_members)) a b)

-- ---- its numbers and its depth

rows_have_numbers : (rows : List Row) → ItemsHaveNumbers (row_trees rows)
rows_have_numbers [] = tt
rows_have_numbers (row ∷ rows) = ((tt, (tt, (tt, tt))), rows_have_numbers rows)

end_has_numbers : (last : Option ℕ) → is_end last ≡ true → MembersHaveNumbers (end_member last)
end_has_numbers None small = tt
end_has_numbers (Some moment) small = (IsNumber-decimal moment (small_end moment small), tt)

times_have_numbers : (start last : Option ℕ) → is_end start ≡ true → is_end last ≡ true → MembersHaveNumbers (time_members start last)
times_have_numbers None last a b = end_has_numbers last b
times_have_numbers (Some moment) last a b = (IsNumber-decimal moment (small_end moment a), end_has_numbers last b)

rows_shallow : (rows : List Row) → items_depth (row_trees rows) ≤ 1
rows_shallow [] = omega arith
rows_shallow (row ∷ rows) = let rest = rows_shallow rows in omega arith

set_shallow : (rows : List Row) (start last : Option ℕ) → depth (set_tree rows start last) ≤ 127
set_shallow rows None None = let rest = rows_shallow rows in omega arith
set_shallow rows None (Some b) = let rest = rows_shallow rows in omega arith
set_shallow rows (Some a) None = let rest = rows_shallow rows in omega arith
set_shallow rows (Some a) (Some b) = let rest = rows_shallow rows in omega arith

pub read_set : (rows : List Row) (start last : Option ℕ) → is_end start ≡ true → is_end last ≡ true → read (print (json_tokens (set_tree rows start last))) ≡ Some (set_data (row_data rows) start last)
read_set rows start last a b =
    read_printed (set_tree rows start last) _ (rows_have_numbers rows, (tt, times_have_numbers start last a b)) (set_shallow rows start last) (of_set rows start last a b)
