-- The keys of a licence, put one behind another.
use Rattle.std.proofs.Common.{◌≡◌, ℕ, ◌+◌, ◌<◌, List, [], ◌∷◌, ◌++◌, length, get_or, take, sym, subst, ap, ◌∙◌, append_assoc, codes}
use Rattle.std.specs.List.{flat_map}
use Rattle.std.proofs.lemmas.List.{take_more, flat_map_more}
use Rattle.license_desk.specs.Rows.{Row}
use Rattle.license_desk.specs.Licence.{key_text, further_key}

pub further_put : (rows : List Row) (i : ℕ) (row : Row) (start text comma key all : List ℕ) → i < length rows → row ≡ get_or rows i row → text ≡ start ++ flat_map further_key (take i rows)
    → comma ≡ text ++ codes "," → key ≡ key_text row → all ≡ comma ++ key → all ≡ start ++ flat_map further_key (take (i + 1) rows)
further_put rows i row start text comma key all lt is before then this after =
    let front : take (i + 1) rows ≡ take i rows ++ row ∷ [] = take_more rows i row lt ∙ ap (λ x. take i rows ++ x ∷ []) (sym is) in
    let added : all ≡ text ++ further_key row = after ∙ ap (λ s. s ++ key) then ∙ ap (λ s. (text ++ codes ",") ++ s) this ∙ append_assoc text (codes ",") (key_text row) in
    added ∙ ap (λ s. s ++ further_key row) before ∙ flat_map_more further_key start (take i rows) row ∙ ap (λ rs. start ++ flat_map further_key rs) (sym front)

-- an item of a list, as it was read
pub at_place : (P : Row → Type 0) (rows : List Row) (i : ℕ) (row : Row) → row ≡ get_or rows i row → P row → P (get_or rows i row)
at_place P rows i row is p = subst P is p
