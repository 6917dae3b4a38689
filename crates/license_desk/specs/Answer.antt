-- What the desk answers to a licence request (Encrypted Media Extensions section 9.1.3).
use Rattle.std.specs.Prelude.{ℕ, nat_le, nat_lt, Bool, false, if◌then◌else◌, List, [], length, codes, Option, Some, None, option_and_then, Result, Ok, Err}
use Rattle.std.specs.List.{filter_map}
use Rattle.std.specs.Result.{result_unwrap_or}
use Rattle.serde_json.specs.Find.{get}
use Rattle.eme_types.specs.FirstFault.{◌>>=◌, demanded}
use Rattle.eme_types.specs.declared.limits.TheConstants.{MAX_KEY_SET_BYTES, MAX_SESSION_KIDS}
use Rattle.eme_types.specs.declared.media.InitKind.TheVariants.{Keyids}
use Rattle.clearkey_json.specs.Json.{json_of}
use Rattle.clearkey_json.specs.KeySet.{is_temporary}
use Rattle.init_data.specs.InitData.{kids_of}
use Rattle.init_data.specs.declared.fault.InitFault.{InitFault}
use Rattle.init_data.specs.declared.fault.InitFault.TheVariants as init
use Rattle.license_desk.specs.declared.terms.Terms.{Terms}
use Rattle.license_desk.specs.declared.fault.AnswerFault.{AnswerFault}
use Rattle.license_desk.specs.declared.fault.AnswerFault.TheVariants.{Invalid, NoKids, Kind, NoKeys, TooMany, TooLong, OutOfMemory}
use Rattle.license_desk.specs.Rows.{Row, terms_of}
use Rattle.license_desk.specs.Licence.{licence_text}

-- ---- the rows that are given

-- an end is reached at its moment
abbrev pub is_reached : ℕ → Option ℕ → Bool
is_reached moment None = false
is_reached moment (Some last) = nat_le last moment

-- a row, unless it has expired
abbrev pub unless_expired : ℕ → List ℕ → Terms → Option Row
unless_expired moment kid terms = if is_reached moment terms.expires then None else Some (kid, terms)

-- the row of a key id, where the table has one that has not expired
abbrev pub row_for : List Row → ℕ → List ℕ → Option Row
row_for desk moment kid = option_and_then (unless_expired moment kid) (terms_of desk kid)

-- the rows of the key ids, in the order of the ids
abbrev pub given : List Row → ℕ → List (List ℕ) → List Row
given desk moment kids = filter_map (row_for desk moment) kids

-- ---- the request

-- the key ids that a request names, each once, in order; none where it is refused
abbrev pub requested : List ℕ → List (List ℕ)
requested request = result_unwrap_or (kids_of Keyids request) []

-- a request that names no key ids
abbrev pub refusal_of : InitFault → AnswerFault
refusal_of init.Invalid = Invalid
refusal_of init.NoKids = NoKids
refusal_of init.OutOfMemory = OutOfMemory

-- the key ids, or why there are none
abbrev pub asked_kids : Result (List (List ℕ)) InitFault → Result (List (List ℕ)) AnswerFault
asked_kids (Ok kids) = Ok kids
asked_kids (Err fault) = Err (refusal_of fault)

-- the request is for keys of a temporary session, or does not say
abbrev pub asks_temporary : List ℕ → Bool
asks_temporary request = is_temporary (option_and_then (get (codes "type")) (json_of request))

-- ---- the answer

-- the text of the licence for these rows, within the limits of a session and of a key set
unfoldable pub licence_of : List Row → Result (List ℕ) AnswerFault
licence_of rows = do
  some ← demanded NoKeys (nat_lt 0 (length rows))
  few ← demanded TooMany (nat_le (length rows) MAX_SESSION_KIDS)
  short ← demanded TooLong (nat_le (length (licence_text rows)) MAX_KEY_SET_BYTES)
  Ok (licence_text rows)

-- the licence that a request gets at a moment, or the first rule that it breaks
unfoldable pub answer_of : List Row → ℕ → List ℕ → Result (List ℕ) AnswerFault
answer_of desk moment request = do
  kids ← asked_kids (kids_of Keyids request)
  temporary ← demanded Kind (asks_temporary request)
  licence_of (given desk moment kids)
