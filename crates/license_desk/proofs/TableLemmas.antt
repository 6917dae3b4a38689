-- The first line of a table.
use Rattle.std.proofs.Common.{◌≡◌, ℕ, true, false, List, [], ◌∷◌, Err, refl, ap, ◌∙◌, codes}
use Rattle.std.specs.Prelude.{bytes_eq}
use Rattle.text_words.specs.Lines.{lines_of}
use Rattle.license_desk.specs.declared.fault.DeskKind.TheVariants.{Header}
use Rattle.license_desk.specs.Table.{with_lines, rows_in, desk_of}

-- a file without a line
pub no_header : (text : List ℕ) → lines_of text ≡ [] → desk_of text ≡ Err (1, Header)
unfolding desk_of
no_header text none = ap rows_in none

-- another first line
pub other_header : (text line : List ℕ) (more : List (List ℕ)) → lines_of text ≡ line ∷ more → bytes_eq line (codes "DESK 1") ≡ false → desk_of text ≡ Err (1, Header)
unfolding desk_of
other_header text line more lines other = ap rows_in lines ∙ rw other refl

-- the rows stand behind the header
pub behind_header : (text line : List ℕ) (more : List (List ℕ)) → lines_of text ≡ line ∷ more → bytes_eq line (codes "DESK 1") ≡ true → desk_of text ≡ with_lines [] 2 more
unfolding desk_of
behind_header text line more lines is = ap rows_in lines ∙ rw is refl
