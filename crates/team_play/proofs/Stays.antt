-- What every pass keeps, call after call.
use Rattle.std.proofs.Common.{refl, ◌∙◌}
use Rattle.eme_types.specs.declared.entry.Entry.{Entry}
use Rattle.cdm_state.specs.Run.{Run}
use Rattle.book_lock.specs.declared.book.Book.{Ghosts}
use Rattle.book_lock.specs.declared.pass.Pass.{Pass}
use Rattle.shared_cdm.specs.declared.shared.SharedCdm.{SharedCdm}
use Rattle.shared_cdm.specs.Passes.{IsOf, Kept}
use Rattle.team_play.specs.Adds.{Stays}

pub stays_self : {g : Ghosts Run Entry} (shared : SharedCdm) (p : Pass Run Entry g) → IsOf shared p → Stays shared p p
stays_self shared p of = record { of = of; parts_ = refl; tracks = refl; first = refl }

pub stays_kept : {g : Ghosts Run Entry} (shared : SharedCdm) (p q : Pass Run Entry g) → Kept shared p q → Stays shared p q
stays_kept shared p q k = record { of = k.of; parts_ = k.parts_; tracks = k.tracks; first = k.first }

pub stays_trans : {g : Ghosts Run Entry} (shared : SharedCdm) (p q r : Pass Run Entry g) → Stays shared p q → Stays shared q r → Stays shared p r
stays_trans shared p q r a b = record { of = b.of; parts_ = b.parts_ ∙ a.parts_; tracks = b.tracks ∙ a.tracks; first = b.first ∙ a.first }
