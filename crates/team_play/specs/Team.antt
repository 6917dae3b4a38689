-- What lane 0 begins with.
use Rattle.std.specs.Prelude.{ℕ, ◌≡◌, ◌<◌, List, []}
use Rattle.eme_types.specs.declared.entry.Entry.{Entry}
use Rattle.eme_types.specs.declared.media.Fragment.{Fragment}
use Rattle.eme_types.specs.declared.media.Media.{Media}
use Rattle.cdm_state.specs.Run.{Run}
use Rattle.book_lock.specs.declared.book.Book.{Ghosts}
use Rattle.book_lock.specs.declared.pass.Pass.{Pass}
use Rattle.shared_cdm.specs.Passes.{IsOf, own, tracks_of, first_of}
use Rattle.shared_cdm.specs.declared.shared.SharedCdm.{SharedCdm}

module _ {g : Ghosts Run Entry} where
  -- the pass may feed, and has made no entry; all fragments of the media are left
  pub record Begins (shared : SharedCdm) (media : Media) (pass : Pass Run Entry g) (left : List Fragment) : Type 0 where
    pub of : IsOf shared pass
    pub first : 0 < first_of pass
    pub none : own pass ≡ []
    pub tracks : tracks_of pass ≡ media.tracks
    pub left_ : left ≡ media.fragments
