-- Files that are read one after another.
use Rattle.std.proofs.Common.{inl, inr, ℕ, List, sym, subst, ◌∙◌, le_trans, arith}
use Rattle.std.specs.Prelude.{IsTrue}
use Rattle.eme_types.specs.declared.media.Media.{Media}
use Rattle.eme_edge.specs.Shelf.{ShelfState}
use Rattle.player_cli.specs.ReadAll.{LeavesShelf, HasMore, ReadsCause, ReadEnds}
use Rattle.player_cli.specs.Inputs.{MediaRead, RequestRead, MediaEnds}
use Rattle.player_cli.specs.Written.{IsUntouched}
use Rattle.player_cli.specs.declared.read.ReadEnd.{ReadEnd}
use Rattle.player_cli.specs.declared.read.ReadEnd.TheVariants.{TooLarge, Fault, OutOfMemory}
use Rattle.player_cli.specs.declared.end.MediaEnd.{MediaEnd}
use Rattle.player_cli.specs.declared.end.MediaEnd.TheVariants.{Unread, Refused}
use Rattle.player_cli.proofs.TextsAppended.{tells_on}

-- reading changes no file and says nothing
pub untouched_by_reading : (old new : ShelfState) → LeavesShelf old new → IsUntouched old new
untouched_by_reading old new kept = record { files = kept.files; said = kept.said }

-- two readings leave the shelf as it was
pub both_leave : (old mid last : ShelfState) → LeavesShelf old mid → LeavesShelf mid last → LeavesShelf old last
both_leave old mid last p q = record {
  files = λ name. q.files name ∙ p.files name;
  said = q.said ∙ p.said;
  tells = tells_on old mid last p.tells q.tells;
  later = le_trans p.later q.later;
  writes = q.writes ∙ p.writes;
}

-- what a reading says of a shelf that was only read from, it says of the shelf before
module _ (old mid last : ShelfState) (first : LeavesShelf old mid) where
  pub still_tells : IsTrue old.tells_files → IsTrue mid.tells_files
  still_tells t = subst IsTrue (sym first.tells.files) t

  tells_old : IsTrue mid.tells_files → IsTrue old.tells_files
  tells_old t = subst IsTrue first.tells.files t

  pub media_read_before : (name : List ℕ) (media : Media) → MediaRead mid name media → MediaRead old name media
  media_read_before name media r = record { bytes = r.bytes; told = λ t. sym (first.files name) ∙ r.told (still_tells t); small = r.small; fits = r.fits }

  has_more : (name : List ℕ) (limit : ℕ) → HasMore mid name limit → HasMore old name limit
  has_more name limit more t = let m = more (still_tells t) in (m.0, sym (first.files name) ∙ m.1, m.2)

  reads_cause : (name : List ℕ) → ReadsCause mid last name → ReadsCause old last name
  reads_cause name (inl rose) = inl (omega (arith, first.later, rose))
  reads_cause name (inr gone) = inr (tells_old gone.0, rw (first.files name) at gone.1)

  pub read_ends : (end : ReadEnd) (name : List ℕ) (limit : ℕ) → ReadEnds end mid last name limit → ReadEnds end old last name limit
  read_ends TooLarge name limit says = has_more name limit says
  read_ends Fault name limit says = reads_cause name says
  read_ends OutOfMemory name limit says = says

  pub request_read_before : (name bytes : List ℕ) → RequestRead mid name bytes → RequestRead old name bytes
  request_read_before name bytes r = record { told = λ t. sym (first.files name) ∙ r.told (still_tells t); small = r.small }

  pub media_ends_before : (end : MediaEnd) (name : List ℕ) → MediaEnds end mid last name → MediaEnds end old last name
  media_ends_before (Unread end) name says = read_ends end name _ says
  media_ends_before (Refused place rule) name says = record { bytes = says.bytes; told = λ t. sym (first.files name) ∙ says.told (still_tells t); small = says.small; refused = says.refused }
