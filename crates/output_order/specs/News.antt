-- What a history has beyond a mark: more lines of its log, and more samples on its tracks.
use Rattle.std.specs.Prelude.{ℕ, ◌≡◌, List, [], ◌++◌, length, map, All}
use mathlib.Core.List.{IsPrefix}
use Rattle.eme_types.specs.declared.entry.Entry.{Entry}
use Rattle.cdm_state.specs.Output.{out}
use Rattle.output_order.specs.declared.marks.Mark.{Mark}
use Rattle.output_order.specs.declared.since.News.{News}
use Rattle.output_order.specs.Log.{log_of}
use Rattle.output_order.specs.TrackFile.{file_of}

-- how many samples are out on each track, in track order
abbrev pub counts_out : List ℕ → List Entry → List ℕ
counts_out ids h = map (λ t. length (out ids h t)) ids

-- the mark of a history: how many entries it has, and how many samples are out on each track
pub record IsMarkOf (ids : List ℕ) (h : List Entry) (mark : Mark) : Type 0 where
  pub entries : mark.entries ≡ length h
  pub published : mark.published ≡ counts_out ids h

-- the mark is that of a front of the history
pub record IsMark (ids : List ℕ) (h : List Entry) (mark : Mark) : Type 0 where
  pub front : List Entry
  pub goes_on : IsPrefix front h
  pub of : IsMarkOf ids front mark

-- what a history has beyond a front: put behind the log of the front it is the whole log, so it is with the file of each track,
-- in track order, and the mark is that of the whole
pub record IsNews (ids : List ℕ) (front h : List Entry) (news : News) : Type 0 where
  pub log : log_of ids h ≡ log_of ids front ++ news.log
  pub order : map (λ x. x.0) news.tracks ≡ ids
  pub files : All (λ x. file_of ids h x.0 ≡ file_of ids front x.0 ++ x.1) news.tracks
  pub mark : IsMarkOf ids h news.mark

-- what it has beyond the front of which the mark is
abbrev pub IsNewsSince : List ℕ → List Entry → Mark → News → Type 0
IsNewsSince ids h mark news = (front : List Entry) → IsPrefix front h → IsMarkOf ids front mark → IsNews ids front h news

-- beyond the empty history a history has its whole log and its whole files
abbrev pub AllIsNews : Type 0
AllIsNews = (ids : List ℕ) (h : List Entry) (news : News) → IsNews ids [] h news → (news.log ≡ log_of ids h) × (news.tracks ≡ map (λ t. (t, file_of ids h t)) ids)
