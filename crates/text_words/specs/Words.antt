-- The words of a line. One space parts each from the next.
use Rattle.std.specs.Prelude.{ℕ, ◌==◌, ◌&&◌, Bool, not, List, drop}
use Rattle.std.specs.List.{before_first, position_or_len, list_any}
use Rattle.text_words.specs.Fronts.{is_nothing}

-- the byte parts words
abbrev pub is_space : ℕ → Bool
is_space b = b == 32

-- the word that a text begins with
abbrev pub first_word : List ℕ → List ℕ
first_word text = before_first is_space text

-- what follows that word: nothing, or a space and more
abbrev pub after_word : List ℕ → List ℕ
after_word text = drop (position_or_len is_space text) text

-- the word behind a space; it is empty where nothing follows
abbrev pub next_word : List ℕ → List ℕ
next_word rest = first_word (drop 1 rest)

-- what follows the word behind a space
abbrev pub after_next : List ℕ → List ℕ
after_next rest = after_word (drop 1 rest)

-- a text that is one word
abbrev pub is_word : List ℕ → Bool
is_word text = not (is_nothing text) && not (list_any is_space text)
