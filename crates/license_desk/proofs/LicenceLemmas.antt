-- A licence is accepted as a key set, and is usable only within the time of each row.
use Rattle.std.proofs.Common.{◌≡◌, ℕ, ◌<◌, ◌≤◌, max, Bool, true, false, List, [], ◌∷◌, length, Option, Some, None, Ok, refl, sym, ap, ◌∙◌, All, codes, map, fold, arith, nat_le, unwrap_or, ◌==◌, cond}
use Rattle.std.specs.List.{list_all}
use Rattle.std.specs.Str.{is_utf8}
use Rattle.std.proofs.lemmas.List.Elements.{All-head, All-tail, All-nil, All-cons}
use Rattle.std.proofs.lemmas.Bool.{and_parts, leb-true, le-leb, eqb-true}
use Rattle.json.specs.Print.{print}
use Rattle.json.specs.Tree.{json_tokens}
use Rattle.serde_json.specs.Data.{Data, unsigned, number, string, array, Items}
use Rattle.serde_json.specs.Find.{get}
use Rattle.serde_json.specs.Read.{read}
use Rattle.eme_types.specs.FirstFault.{read_each}
use Rattle.eme_types.specs.declared.limits.TheConstants.{MAX_MOMENT, MAX_KEY_SET_BYTES}
use Rattle.eme_types.specs.declared.kid.KeyBytes.{KeyBytes}
use Rattle.clearkey_json.specs.Base64url.{base64url}
use Rattle.clearkey_json.specs.Json.{json_of, list_of}
use Rattle.clearkey_json.specs.KeySet.{is_web_key, web_keys, pair_of, pairs_of, is_temporary, moment_of, key_set}
use Rattle.clearkey_json.specs.declared.key_set.KeySetFault.{KeySetFault}
use Rattle.clearkey_json.specs.declared.key_set.KeySetFault.TheVariants.{Expires, From}
use Rattle.license_desk.specs.Rows.{Row, is_end, has_moments}
use Rattle.license_desk.specs.Licence.{pair_in, stated, latest_start, earliest_end, earlier, licence_text, IsNoLater, IsLicenceFor}
use Rattle.license_desk.specs.ReadBack.{IsReadBack}
use Rattle.license_desk.proofs.TreeLemmas.{set_tree, printed}
use Rattle.license_desk.proofs.ReadLemmas.{key_data, row_data, set_data, read_set}

-- ---- the keys

all_web_keys : (rows : List Row) → list_all is_web_key (list_of (row_data rows)) ≡ true
all_web_keys [] = refl
all_web_keys (row ∷ rows) = all_web_keys rows

pair_read : (row : Row) → IsReadBack row → pair_of (key_data (base64url row.0) (base64url row.1.key.bytes)) ≡ Ok (pair_in row)
unfolding pair_of
pair_read row read = rw (read.kid, read.key) refl

pairs_read : (rows : List Row) → All IsReadBack rows → read_each pair_of (list_of (row_data rows)) ≡ Ok (map pair_in rows)
unfolding read_each
pairs_read [] read = refl
pairs_read (row ∷ rows) read = rw (pair_read row (All-head IsReadBack row rows read), pairs_read rows (All-tail IsReadBack row rows read)) refl

some_pairs : (rows : List Row) → 0 < length rows → pairs_of (list_of (row_data rows)) ≡ read_each pair_of (list_of (row_data rows))
some_pairs [] some = absurd (omega arith)
some_pairs (row ∷ rows) some = refl

-- ---- the members

keys_at : (keys : Items) (start last : Option ℕ) → get (codes "keys") (set_data keys start last) ≡ Some (array keys)
keys_at keys None None = refl
keys_at keys None (Some b) = refl
keys_at keys (Some a) None = refl
keys_at keys (Some a) (Some b) = refl

type_at : (keys : Items) (start last : Option ℕ) → get (codes "type") (set_data keys start last) ≡ Some (string (codes "temporary"))
type_at keys None None = refl
type_at keys None (Some b) = refl
type_at keys (Some a) None = refl
type_at keys (Some a) (Some b) = refl

abbrev stated_data : Option ℕ → Option Data
stated_data None = None
stated_data (Some moment) = Some (number (unsigned moment))

from_at : (keys : Items) (start last : Option ℕ) → get (codes "from") (set_data keys start last) ≡ stated_data start
from_at keys None None = refl
from_at keys None (Some b) = refl
from_at keys (Some a) None = refl
from_at keys (Some a) (Some b) = refl

expires_at : (keys : Items) (start last : Option ℕ) → get (codes "expires") (set_data keys start last) ≡ stated_data last
expires_at keys None None = refl
expires_at keys None (Some b) = refl
expires_at keys (Some a) None = refl
expires_at keys (Some a) (Some b) = refl

moment_read : (fault : KeySetFault) (moment : Option ℕ) → is_end moment ≡ true → moment_of fault (stated_data moment) ≡ Ok moment
moment_read fault None small = refl
moment_read fault (Some moment) small = rw small refl

web_keys_read : (rows : List Row) (start last : Option ℕ) → web_keys (set_data (row_data rows) start last) ≡ Some (list_of (row_data rows))
unfolding web_keys
web_keys_read rows start last = rw (keys_at (row_data rows) start last, all_web_keys rows) refl

-- ---- the whole

json_of-is : (text : List ℕ) (d : Data) → is_utf8 text ≡ true → read text ≡ Some d → json_of text ≡ Some d
unfolding json_of
json_of-is text d utf8 is = rw utf8 is

key_set-is : (text : List ℕ) (d : Data) (keys : List Data) (pairs : List (List ℕ × KeyBytes)) (last start : Option ℕ) → nat_le (length text) MAX_KEY_SET_BYTES ≡ true → json_of text ≡ Some d
    → web_keys d ≡ Some keys → pairs_of keys ≡ Ok pairs → is_temporary (get (codes "type") d) ≡ true → moment_of Expires (get (codes "expires") d) ≡ Ok last
    → moment_of From (get (codes "from") d) ≡ Ok start → key_set text ≡ Ok (record { keys = pairs; expires = last; from = start })
unfolding key_set
key_set-is text d keys pairs last start short json listed paired temporary expires from = rw (short, json, listed, paired, temporary, expires, from) refl

text_read : (rows : List Row) (start last : Option ℕ) (text : List ℕ) → 0 < length rows → All IsReadBack rows → is_end start ≡ true → is_end last ≡ true
    → print (json_tokens (set_tree rows start last)) ≡ text → is_utf8 text ≡ true → length text ≤ MAX_KEY_SET_BYTES → key_set text ≡ Ok (record { keys = map pair_in rows; expires = last; from = start })
text_read rows start last text some back small_start small_last is utf8 short =
    let d = set_data (row_data rows) start last in
    key_set-is text d (list_of (row_data rows)) (map pair_in rows) last start (le-leb _ _ short) (json_of-is text d utf8 (ap read (sym is) ∙ read_set rows start last small_start small_last))
    (web_keys_read rows start last) (some_pairs rows some ∙ pairs_read rows back) (ap is_temporary (type_at (row_data rows) start last))
    (ap (moment_of Expires) (expires_at (row_data rows) start last) ∙ moment_read Expires last small_last)
    (ap (moment_of From) (from_at (row_data rows) start last) ∙ moment_read From start small_start)

-- ---- the start

abbrev latest_from : ℕ → List Row → ℕ
latest_from latest rows = fold (λ latest row. max latest row.1.from) latest rows

above_first : (rows : List Row) (latest : ℕ) → latest ≤ latest_from latest rows
above_first [] latest = omega arith
above_first (row ∷ rows) latest = let rest : max latest row.1.from ≤ latest_from (max latest row.1.from) rows = above_first rows (max latest row.1.from) in omega arith

starts_within : (rows : List Row) (latest : ℕ) → All (λ row. row.1.from ≤ latest_from latest rows) rows
starts_within [] latest = All-nil (λ (row : Row). row.1.from ≤ latest)
starts_within (row ∷ rows) latest =
    let rest : max latest row.1.from ≤ latest_from (max latest row.1.from) rows = above_first rows (max latest row.1.from) in
    All-cons (λ (r : Row). r.1.from ≤ latest_from (max latest row.1.from) rows) row rows (omega arith) (starts_within rows (max latest row.1.from))

start_small : (rows : List Row) (latest : ℕ) → latest ≤ MAX_MOMENT → list_all (λ row. has_moments row.1) rows ≡ true → latest_from latest rows ≤ MAX_MOMENT
start_small [] latest le small = le
start_small (row ∷ rows) latest le small =
    let parts = and_parts _ _ small in
    let here : row.1.from ≤ MAX_MOMENT = leb-true _ _ (and_parts _ _ parts.0).0 in
    start_small rows (max latest row.1.from) (omega arith) parts.1

stated_small : (start : ℕ) → start ≤ MAX_MOMENT → is_end (stated start) ≡ true
stated_small start le = by_test (start == 0)
  where
    by_test : (b : Bool) → is_end (cond b None (Some start)) ≡ true
    by_test true = refl
    by_test false = le-leb _ _ le

stated_value : (start : ℕ) → unwrap_or (stated start) 0 ≡ start
stated_value start = by_test (start == 0) refl
  where
    by_test : (b : Bool) → (start == 0) ≡ b → unwrap_or (cond b None (Some start)) 0 ≡ start
    by_test true zero = sym (eqb-true _ _ zero)
    by_test false some = refl

-- ---- the expiration

abbrev earliest_from : Option ℕ → List Row → Option ℕ
earliest_from last rows = fold (λ last row. earlier last row.1.expires) last rows

no_later_same : (last : Option ℕ) → IsNoLater last last
no_later_same None = tt
no_later_same (Some a) = omega arith

no_later_both : (a b c : Option ℕ) → IsNoLater a b → IsNoLater b c → IsNoLater a c
no_later_both a b None p q = tt
no_later_both a None (Some c) p q = absurd q
no_later_both None (Some b) (Some c) p q = absurd p
no_later_both (Some a) (Some b) (Some c) p q = omega arith

earlier_first : (a b : Option ℕ) → IsNoLater (earlier a b) a
earlier_first None b = tt
earlier_first (Some a) None = omega arith
earlier_first (Some a) (Some b) = omega arith

earlier_second : (a b : Option ℕ) → IsNoLater (earlier a b) b
earlier_second a None = tt
earlier_second None (Some b) = omega arith
earlier_second (Some a) (Some b) = omega arith

before_first : (rows : List Row) (last : Option ℕ) → IsNoLater (earliest_from last rows) last
before_first [] last = no_later_same last
before_first (row ∷ rows) last = no_later_both _ _ _ (before_first rows (earlier last row.1.expires)) (earlier_first last row.1.expires)

ends_within : (rows : List Row) (last : Option ℕ) → All (λ row. IsNoLater (earliest_from last rows) row.1.expires) rows
ends_within [] last = All-nil (λ (row : Row). IsNoLater last row.1.expires)
ends_within (row ∷ rows) last =
    let next = earlier last row.1.expires in
    All-cons (λ (r : Row). IsNoLater (earliest_from next rows) r.1.expires) row rows (no_later_both _ _ _ (before_first rows next) (earlier_second last row.1.expires)) (ends_within rows next)

earlier_small : (a b : Option ℕ) → is_end a ≡ true → is_end b ≡ true → is_end (earlier a b) ≡ true
earlier_small None b p q = q
earlier_small (Some a) None p q = p
earlier_small (Some a) (Some b) p q = let le : a ≤ MAX_MOMENT = leb-true _ _ p in le-leb _ _ (omega arith)

end_small : (rows : List Row) (last : Option ℕ) → is_end last ≡ true → list_all (λ row. has_moments row.1) rows ≡ true → is_end (earliest_from last rows) ≡ true
end_small [] last le small = le
end_small (row ∷ rows) last le small =
    let parts = and_parts _ _ small in
    end_small rows (earlier last row.1.expires) (earlier_small last row.1.expires le (and_parts _ _ parts.0).1) parts.1

-- ---- the law

pub is_licence : (rows : List Row) → 0 < length rows → All IsReadBack rows → list_all (λ row. has_moments row.1) rows ≡ true → is_utf8 (licence_text rows) ≡ true
    → length (licence_text rows) ≤ MAX_KEY_SET_BYTES → IsLicenceFor rows (licence_text rows)
is_licence rows some read small utf8 short =
    let start = latest_start rows in
    let small_start = stated_small start (start_small rows 0 (omega arith) small) in
    let starts = starts_within rows 0 in
    let ends = ends_within rows None in record {
      accepted = text_read rows (stated start) (earliest_end rows) (licence_text rows) some read small_start (end_small rows None refl small) (printed rows read) utf8 short;
      within = λ k d lt. record { start = rw (stated_value start) (starts k d lt); expiration = ends k d lt };
    }
