-- What contracts see of words that were taken from a line.
use Rattle.license_desk.specs.declared.words.RowWords.{RowWords}
use Rattle.license_desk.specs.Words.{RowText}

-- the words as texts
abbrev pub row_text_of : RowWords → RowText
row_text_of w = record { kid = w.kid.now; key = w.key.now; from = w.from.now; expires = w.expires.now }
