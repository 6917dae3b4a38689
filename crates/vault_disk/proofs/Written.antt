-- The clauses of a write and of a sync, of the bytes at first and the steps before and after.
use Rattle.std.proofs.Common.{◌≡◌, ℕ, ◌+◌, ◌≤◌, List, [], ◌∷◌, ◌++◌, length, refl, sym, ap, ◌∙◌, subst}
use Rattle.vault_disk.specs.declared.step.Step.{Step}
use Rattle.vault_disk.specs.declared.step.Step.TheVariants.{Synced}
use Rattle.vault_disk.specs.Disk.{Holds, Torn, Follows, Elapses}
use Rattle.vault_disk.specs.Content.{Content, begun, replayed, wrote, MayLeave}
use Rattle.vault_disk.specs.Laws.{replayed_reads}
use Rattle.vault_disk.proofs.Replay.{replayed-append, write_holds, write_torn, write_tears}
use Rattle.vault_disk.proofs.Moments.{Left, write_elapses, sync_elapses}

abbrev pub At : List ℕ → List Step → Content
At first steps = replayed (begun first) steps

at_more : (f f' : List ℕ) (s s' more : List Step) → f' ≡ f → s' ≡ s ++ more → At f' s' ≡ replayed (At f s) more
at_more f f' s s' more same grown = ap (λ (l : List ℕ). At l s') same ∙ ap (λ (l : List Step). At f l) grown ∙ replayed-append (begun f) s more

module _ (f f' : List ℕ) (s s' : List Step) (place : ℕ) (bytes : List ℕ) (same : f' ≡ f) (grown : s' ≡ s ++ wrote place bytes) where
  whole : At f' s' ≡ replayed (At f s) (wrote place bytes)
  whole = at_more f f' s s' (wrote place bytes) same grown

  pub holds : place ≤ length (At f s).seen → Holds (At f s).seen place bytes (At f' s').seen
  holds inside = ap (λ (c : Content). c.seen) whole ∙ write_holds (At f s) place bytes inside

  pub torn : Torn place (length bytes) (At f s).seen (At f' s').seen
  torn = subst (λ (c : Content). Torn place (length bytes) (At f s).seen c.seen) (sym whole) (write_torn (At f s) place bytes)

  pub tears : Follows (Torn place (length bytes)) (MayLeave (At f s)) (MayLeave (At f' s'))
  tears c left = write_tears (At f s) place bytes c (subst (λ (w : Content). MayLeave w c) whole left)

  pub elapses : Elapses (length s) (length s') (Left f s) (Left f' s') (MayLeave (At f' s'))
  elapses =
      subst (λ (l : List ℕ). Elapses (length s) (length s') (Left f s) (Left l s') (MayLeave (At l s'))) (sym same)
      (subst (λ (l : List Step). Elapses (length s) (length l) (Left f s) (Left f l) (MayLeave (At f l))) (sym grown) (write_elapses f s place bytes))

module _ (f f' : List ℕ) (s s' : List Step) (same : f' ≡ f) (grown : s' ≡ s ++ Synced ∷ []) where
  synced : At f' s' ≡ begun (At f s).seen
  synced = at_more f f' s s' (Synced ∷ []) same grown

  pub sync_seen : (At f' s').seen ≡ (At f s).seen
  sync_seen = ap (λ (c : Content). c.seen) synced

  pub sync_only : (c : List ℕ) → MayLeave (At f' s') c → c ≡ (At f s).seen
  sync_only c left = subst (λ (w : Content). MayLeave w c) synced left

  pub sync_crash : (c : List ℕ) → MayLeave (At f' s') c → MayLeave (At f s) c
  sync_crash c left = subst (λ (l : List ℕ). MayLeave (At f s) l) (sym (sync_only c left)) (replayed_reads (begun f) s refl)

  pub sync_time : Elapses (length s) (length s') (Left f s) (Left f' s') (MayLeave (At f' s'))
  sync_time =
      subst (λ (l : List ℕ). Elapses (length s) (length s') (Left f s) (Left l s') (MayLeave (At l s'))) (sym same)
      (subst (λ (l : List Step). Elapses (length s) (length l) (Left f s) (Left f l) (MayLeave (At f l))) (sym grown) (sync_elapses f s))
