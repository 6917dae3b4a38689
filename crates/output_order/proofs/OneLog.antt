-- Two histories of one script and one media that have one log are equal, along their common front.
use Rattle.std.proofs.Common.{◌≡◌, ℕ, ◌+◌, ◌<◌, ◌≤◌, ◌^◌, List, [], ◌∷◌, ◌++◌, length, refl, ap, sym, subst, ◌∙◌, append_assoc, length-append, arith}
use Rattle.std.specs.Prelude.{All}
use Rattle.std.specs.Fmt.{decimal}
use Rattle.std.proofs.lemmas.List.{append_cancel_left}
use Rattle.std.proofs.lemmas.Option.{same_Some}
use Rattle.eme_types.specs.declared.media.Media.{Media}
use Rattle.eme_types.specs.declared.entry.Entry.{Entry}
use Rattle.eme_types.specs.declared.entry.Entry.TheVariants.{Call, Job, Task, Tick, Feed, Evict, Claim, Deliver, GiveUp, Publish, PassClear, WaitForKey, Settle}
use Rattle.script_lang.specs.declared.script.Line.{Line}
use Rattle.key_sessions.specs.World.{World}
use Rattle.cdm_state.specs.After.{after_entry, effects_of}
use Rattle.cdm_state.specs.History.{world}
use Rattle.cdm_state.proofs.Histories.{world_more, legal_front}
use Rattle.cdm_state.specs.Feeds.{fragments_fed}
use Rattle.output_order.specs.Log.{entry_words, entry_line, effect_lines, lines_from, log_of}
use Rattle.output_order.specs.Law.{IsOnTheWay, LogDetermines}
use Rattle.output_order.proofs.LineReading.{read_entry, read_back}
use Rattle.output_order.proofs.ComingNext.{here, IsShort, follows, may_come}

some_words : (n : ℕ) (e : Entry) → 1 ≤ length (entry_words n e)
some_words n (Call lane line call) = omega arith
some_words n Job = omega arith
some_words n Task = omega arith
some_words n (Tick line moment) = omega arith
some_words n (Feed line fragment) = omega arith
some_words n (Evict line label) = omega arith
some_words n (Claim worker track index session kid) = omega arith
some_words n (Deliver place verdict) = omega arith
some_words n (GiveUp place) = omega arith
some_words n (Publish track index place) = omega arith
some_words n (PassClear track index) = omega arith
some_words n (WaitForKey track) = omega arith
some_words n (Settle line) = omega arith

-- a line is not empty
some_line : (p n : ℕ) (e : Entry) (r : List ℕ) → [] ≡ entry_line p n e ++ r → ⊥
some_line p n e r is =
    let none : 0 ≡ length (entry_line p n e ++ r) = ap length is in
    let some : 1 ≤ length (entry_words n e) = some_words n e in
    absurd (omega (arith, none, some, length-append (entry_line p n e) r, length-append (decimal p) (entry_words n e)))

-- what follows the place of an entry
behind_place : (p n : ℕ) (x y : Entry) (r s : List ℕ) → entry_line p n x ++ r ≡ entry_line p n y ++ s → entry_words n x ++ r ≡ entry_words n y ++ s
behind_place p n x y r s e = append_cancel_left (decimal p) (entry_words n x ++ r) (entry_words n y ++ s) (sym (append_assoc (decimal p) (entry_words n x) r) ∙ (e ∙ append_assoc (decimal p) (entry_words n y) s))

module _ (n : ℕ) (script : List Line) (media : Media) (few : n < 2 ^ 64) (small : All (λ t. t < 2 ^ 64) media.tracks) where
  -- the first entries behind a common front are one
  same_entry : (c xs ys : List Entry) (x y : Entry) (m : ℕ) (r s : List ℕ) → IsShort c → IsOnTheWay n script media (c ++ x ∷ xs) → IsOnTheWay n script media (c ++ y ∷ ys) → entry_words m x ++ r ≡ entry_words m y ++ s → x ≡ y
  same_entry c xs ys x y m r s short a b e =
      let front = legal_front media.tracks c (x ∷ xs) a.legal in
      let mx = may_come n script media c x few small short front (follows n script media c x xs a) in
      let my = may_come n script media c y few small short front (follows n script media c y ys b) in
      same_Some x y (sym (read_back (here script media c) m x r mx) ∙ (ap (λ (t : List ℕ). read_entry (here script media c) t) e ∙ read_back (here script media c) m y s my))

  same_rest : (xs ys c : List Entry) (p m : ℕ) → IsShort (c ++ xs) → IsOnTheWay n script media (c ++ xs) → IsOnTheWay n script media (c ++ ys) → lines_from (world media.tracks c) p m xs ≡ lines_from (world media.tracks c) p m ys → xs ≡ ys
  same_rest [] [] c p m short a b e = refl
  same_rest [] (y ∷ ys) c p m short a b e = absurd (some_line p m y _ e)
  same_rest (x ∷ xs) [] c p m short a b e = absurd (some_line p m x _ (sym e))
  same_rest (x ∷ xs) (y ∷ ys) c p m short a b e =
      let w : World = world media.tracks c in
      let v : World = after_entry w x in
      let brief : IsShort c = omega (arith, short, length-append c (x ∷ xs)) in
      let same : x ≡ y = same_entry c xs ys x y m _ _ brief a b (behind_place p m x y (effect_lines (effects_of w x) ++ lines_from v (p + 1) (m + fragments_fed x) xs) (effect_lines (effects_of w y) ++ lines_from (after_entry w y) (p + 1) (m + fragments_fed y) ys) e) in
      let Same : Entry → Type 0 = λ z. IsOnTheWay n script media (c ++ z ∷ ys) → entry_line p m x ++ (effect_lines (effects_of w x) ++ lines_from v (p + 1) (m + fragments_fed x) xs) ≡ entry_line p m z ++ (effect_lines (effects_of w z) ++ lines_from (after_entry w z) (p + 1) (m + fragments_fed z) ys) → x ∷ xs ≡ z ∷ ys in
      let seam : (zs : List Entry) → c ++ x ∷ zs ≡ (c ++ x ∷ []) ++ zs = λ zs. sym (append_assoc c (x ∷ []) zs) in
      let on : Same x = λ d f.
      (let effects : effect_lines (effects_of w x) ++ lines_from v (p + 1) (m + fragments_fed x) xs ≡ effect_lines (effects_of w x) ++ lines_from v (p + 1) (m + fragments_fed x) ys = append_cancel_left (entry_line p m x) _ _ f in
      let rest : lines_from v (p + 1) (m + fragments_fed x) xs ≡ lines_from v (p + 1) (m + fragments_fed x) ys = append_cancel_left (effect_lines (effects_of w x)) _ _ effects in
      let L : World → Type 0 = λ u. lines_from u (p + 1) (m + fragments_fed x) xs ≡ lines_from u (p + 1) (m + fragments_fed x) ys in
      ap (λ (zs : List Entry). x ∷ zs) (same_rest xs ys (c ++ x ∷ []) (p + 1) (m + fragments_fed x)
      (subst IsShort (seam xs) short)
      (subst (λ (zs : List Entry). IsOnTheWay n script media zs) (seam xs) a)
      (subst (λ (zs : List Entry). IsOnTheWay n script media zs) (seam ys) d)
      (subst L (sym (world_more media.tracks c x)) rest))) in
      subst Same same on b e

pub log_determines : LogDetermines
unfolding log_of world
log_determines n script media h g few small short a b e = same_rest n script media few small h g [] 1 0 short a b e
