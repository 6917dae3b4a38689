-- The files of a history have distinct names.
use Rattle.std.proofs.Common.{◌≡◌, ◌≢◌, ◌≤◌, ◌<◌, ℕ, zero, suc, ◌+◌, ◌^◌, List, [], ◌∷◌, ◌++◌, length, take, get_or, map, true, false, ap, sym, ◌∙◌, arith}
use Rattle.std.specs.Prelude.{IsTrue, codes, ◌==◌}
use Rattle.std.specs.Fmt.{decimal}
use Rattle.std.proofs.lemmas.List.{append_cancel_left, get_or-map, length-map, take_all, take_more, map-append}
use Rattle.std.proofs.lemmas.Fmt.{decimal_injective, decimal_is_IsNumeral}
use Rattle.std.proofs.lemmas.Bool.{and_parts, not-true, or_parts}
use Rattle.eme_types.specs.declared.entry.Entry.{Entry}
use Rattle.eme_types.specs.Fed.{are_distinct, is_among}
use Rattle.player_cli.specs.FileText.{FileText}
use Rattle.player_cli.specs.Files.{log_name, track_name, track_file, files_of, file_at, HaveDistinctNames}

-- a number that is not among them is none of them
is_none_of : (ids : List ℕ) (x k : ℕ) → is_among ids x ≡ false → k < length ids → get_or ids k 0 ≢ x
is_none_of [] x k none lt same = omega arith
is_none_of (id ∷ ids) x zero none lt same = grind (arith, none, same)
is_none_of (id ∷ ids) x (suc k) none lt same = is_none_of ids x k (or_parts (id == x) (is_among ids x) none).1 (omega arith) same

-- distinct numbers stand at distinct places
distinct_at : (ids : List ℕ) (i j : ℕ) → are_distinct ids ≡ true → i < j → j < length ids → get_or ids i 0 ≢ get_or ids j 0
distinct_at [] i j distinct lt within same = omega arith
distinct_at (id ∷ ids) i zero distinct lt within same = omega arith
distinct_at (id ∷ ids) zero (suc j) distinct lt within same = is_none_of ids id j (not-true (is_among ids id) (and_parts _ _ distinct).0) (omega arith) (sym same)
distinct_at (id ∷ ids) (suc i) (suc j) distinct lt within same = distinct_at ids i j (and_parts _ _ distinct).1 (omega arith) (omega arith) same

-- two tracks' files have two names
track_names : (prefix : List ℕ) (a b : ℕ) → a < 2 ^ 64 → b < 2 ^ 64 → track_name prefix a ≡ track_name prefix b → a ≡ b
track_names prefix a b la lb e = decimal_injective a b la lb (append_cancel_left (codes ".") (decimal a) (decimal b) (append_cancel_left prefix _ _ e))

-- digits are not `log`
log_is_no_track : (prefix : List ℕ) (a : ℕ) → a < 2 ^ 64 → log_name prefix ≢ track_name prefix a
log_is_no_track prefix a la e =
    let same : codes "log" ≡ decimal a = append_cancel_left (codes ".") (codes "log") (decimal a) (append_cancel_left prefix _ _ e) in
    let digits = rw (← same) at (decimal_is_IsNumeral a la).0.1 in
    absurd (omega (arith, digits.0))

track_at : (prefix ids : List ℕ) (h : List Entry) (k : ℕ) → k < length ids → (file_at (files_of prefix ids h) (suc k)).name ≡ track_name prefix (get_or ids k 0)
track_at prefix ids h k lt = ap (λ (f : FileText). f.name) (get_or-map (track_file prefix ids h) ids k 0 _ lt)

pub distinct_names : (prefix ids : List ℕ) (h : List Entry) → IsTrue (are_distinct ids) → ((k : ℕ) → get_or ids k 0 < 2 ^ 64) → HaveDistinctNames (files_of prefix ids h)
distinct_names prefix ids h distinct fits i zero lt within same = omega arith
distinct_names prefix ids h distinct fits zero (suc j) lt within same =
    let below : j < length ids = omega (arith, within, length-map ids (track_file prefix ids h)) in
    log_is_no_track prefix (get_or ids j 0) (fits j) (same ∙ track_at prefix ids h j below)
distinct_names prefix ids h distinct fits (suc i) (suc j) lt within same =
    let below : j < length ids = omega (arith, within, length-map ids (track_file prefix ids h)) in
    let above : i < length ids = omega (arith, below, lt) in
    distinct_at ids i j distinct (omega (arith, lt)) below (track_names prefix _ _ (fits i) (fits j) (sym (track_at prefix ids h i above) ∙ (same ∙ track_at prefix ids h j below)))

-- one more file
pub files_more : (f : ℕ → FileText) (log : FileText) (files new : List FileText) (ids : List ℕ) (i : ℕ) (x : FileText) → i < length ids → files ≡ log ∷ map f (take i ids) → new ≡ files ++ x ∷ [] → x ≡ f (get_or ids i 0) → new ≡ log ∷ map f (take (i + 1) ids)
files_more f log files new ids i x lt so more one =
    let next : map f (take (i + 1) ids) ≡ map f (take i ids) ++ f (get_or ids i 0) ∷ [] = ap (map f) (take_more ids i 0 lt) ∙ map-append f (take i ids) (get_or ids i 0 ∷ []) in
    more ∙ (ap (λ xs. xs ++ x ∷ []) so ∙ (ap (λ y. log ∷ (map f (take i ids) ++ y ∷ [])) one ∙ ap (λ ys. log ∷ ys) (sym next)))

-- all of them
pub files_all : (f : ℕ → FileText) (log : FileText) (files : List FileText) (ids tracks : List ℕ) (i : ℕ) → files ≡ log ∷ map f (take i ids) → length ids ≤ i → ids ≡ tracks → files ≡ log ∷ map f tracks
files_all f log files ids tracks i so le same = so ∙ ap (λ ys. log ∷ map f ys) (take_all i ids le ∙ same)
