-- What lane 0 adds by its pass.
use Rattle.std.specs.Prelude.{ℕ, ◌≡◌, List, [], ◌∷◌, ◌++◌, Option}
use mathlib.Core.List.{IsPrefix}
use Rattle.eme_types.specs.declared.media.Fragment.{Fragment}
use Rattle.eme_types.specs.declared.entry.Entry.{Entry}
use Rattle.eme_types.specs.declared.entry.Entry.TheVariants.{Settle}
use Rattle.script_lang.specs.declared.script.Action.{Action}
use Rattle.script_lang.specs.declared.script.Action.TheVariants.{Ask, Feed as FeedAction, Clock, Evict as EvictAction, Settle as SettleAction}
use Rattle.cdm_state.specs.Run.{Run}
use Rattle.cdm_state.specs.History.{world, AtRest, MayFeedNext}
use Rattle.book_lock.specs.declared.book.Book.{Ghosts}
use Rattle.book_lock.specs.declared.pass.Pass.{Pass}
use Rattle.decrypt_workers.specs.Desks.{Placed}
use Rattle.shared_cdm.specs.declared.shared.SharedCdm.{SharedCdm}
use Rattle.shared_cdm.specs.Own.{entries, NoneAbove}
use Rattle.shared_cdm.specs.Passes.{IsOf, parts, tracks_of, first_of}
use Rattle.play_parts.specs.Parts.{AreSteps}

-- these own entries more, behind what others may have added; `s` and `s'` are what the pass has seen before and after
pub record Adds (P : Placed → Type 0) (s : List Entry) (o : Placed) (s' : List Entry) (o' : Placed) : Type 0 where
  pub later : IsPrefix s s'
  pub news : Placed
  pub own : o' ≡ o ++ news
  pub is : P news

-- steps
abbrev pub Steps : List Entry → Placed → List Entry → Placed → Type 0
Steps s o s' o' = Adds AreSteps s o s' o'

-- this entry alone
abbrev pub AddsOne : Entry → List Entry → Placed → List Entry → Placed → Type 0
AddsOne entry s o s' o' = Adds (λ news. (place : ℕ) × (news ≡ (place, entry) ∷ [])) s o s' o'

-- steps, and then this entry
pub record StepsAnd (entry : Entry) (s : List Entry) (o : Placed) (s' : List Entry) (o' : Placed) : Type 0 where
  pub later : IsPrefix s s'
  pub steps : Placed
  pub place : ℕ
  pub own : o' ≡ o ++ (steps ++ (place, entry) ∷ [])
  pub are : AreSteps steps

-- steps, and then the settle of the line, after which what was seen is at rest
pub record Settles (line : ℕ) (ids : List ℕ) (s : List Entry) (o : Placed) (s' : List Entry) (o' : Placed) : Type 0 where
  pub goes : StepsAnd (Settle line) s o s' o'
  pub rest : AtRest (world ids s')

-- what the action of a line needs of the pass; `given` is what a feed gives
abbrev pub MayLead : List ℕ → Placed → Action → Option Fragment → Type 0
MayLead ids own (Ask call) given = Unit {0}
MayLead ids own FeedAction given = MayFeedNext ids (entries own) given
MayLead ids own (Clock moment) given = NoneAbove moment own
MayLead ids own (EvictAction label) given = Unit {0}
MayLead ids own SettleAction given = Unit {0}

-- what every pass keeps, also one by which no call was made: the shared core, its parts, the tracks, and whether it owns place 0
pub record Stays {g : Ghosts Run Entry} (shared : SharedCdm) (p q : Pass Run Entry g) : Type 0 where
  pub of : IsOf shared q
  pub parts_ : parts q ≡ parts p
  pub tracks : tracks_of q ≡ tracks_of p
  pub first : first_of q ≡ first_of p
