-- Marks, and what lies beyond them.
use Rattle.std.proofs.Common.{◌≡◌, ℕ, ◌+◌, ◌<◌, ◌≤◌, List, [], ◌∷◌, ◌++◌, length, take, drop, get_or, map, refl, ap, sym, ◌∙◌, length-append, arith}
use Rattle.std.specs.Prelude.{All}
use Rattle.std.specs.List.{concat, AllByRecursion}
use Rattle.std.proofs.Math.Seq.{take-append_seam}
use Rattle.std.proofs.lemmas.List.{take-append-drop, take_more, map_more, get_or-map, length-map, map-append}
use Rattle.std.proofs.lemmas.List.Elements.{All-push, recursion_from_All}
use mathlib.Core.List.{IsPrefix}
use Rattle.eme_types.specs.declared.entry.Entry.{Entry}
use Rattle.cdm_state.specs.Output.{out, out_from}
use Rattle.cdm_state.proofs.OutOn.{out_goes_on}
use Rattle.output_order.specs.TrackFile.{file_of}
use Rattle.output_order.specs.Log.{log_of}
use Rattle.output_order.specs.declared.marks.Mark.{Mark}
use Rattle.output_order.specs.News.{counts_out, IsMarkOf, IsMark, AllIsNews}

-- the front of which a mark is
pub front_is : (front h : List Entry) (n : ℕ) → IsPrefix front h → n ≡ length front → take n h ≡ front
front_is front h n p is = ap (λ (k : ℕ). take k h) is ∙ (ap (λ (es : List Entry). take (length front) es) (sym p.1) ∙ take-append_seam front p.0)

pub front_within : (front h : List Entry) (n : ℕ) → IsPrefix front h → n ≡ length front → n ≤ length h
front_within front h n p is =
    let long : length front + length p.0 ≡ length h = sym (length-append front p.0) ∙ ap length p.1 in
    omega (arith, is, long)

-- the mark of a history is a mark of each that goes on
pub stays_a_mark : (ids : List ℕ) (h g : List Entry) (mark : Mark) → IsPrefix h g → IsMarkOf ids h mark → IsMark ids g mark
stays_a_mark ids h g mark p of = record { front = h; goes_on = p; of = of }

module _ (ids : List ℕ) (h : List Entry) (n : ℕ) where
  -- what is out goes on from what the front has put out
  out_parts : (t : ℕ) → out ids h t ≡ out ids (take n h) t ++ out_from ids (take n h) t (drop n h)
  out_parts t = ap (λ (es : List Entry). out ids es t) (sym (take-append-drop n h)) ∙ out_goes_on ids (take n h) (drop n h) t

  front_out : (t : ℕ) → take (length (out ids (take n h) t)) (out ids h t) ≡ out ids (take n h) t
  front_out t = ap (λ (xs : List (List ℕ)). take (length (out ids (take n h) t)) xs) (out_parts t) ∙ take-append_seam (out ids (take n h) t) (out_from ids (take n h) t (drop n h))

  -- the front has put out no more
  pub front_fewer : (t first : ℕ) → first ≡ length (out ids (take n h) t) → first ≤ length (out ids h t)
  front_fewer t first is =
      let long : length (out ids h t) ≡ length (out ids (take n h) t) + length (out_from ids (take n h) t (drop n h)) = ap length (out_parts t) ∙ length-append (out ids (take n h) t) (out_from ids (take n h) t (drop n h)) in
      omega (arith, is, long)

  -- a file goes on from the samples that the front has put out
  file_beyond : (t first : ℕ) (new : List ℕ) → first ≡ length (out ids (take n h) t) → file_of ids h t ≡ concat (take first (out ids h t)) ++ new → file_of ids h t ≡ file_of ids (take n h) t ++ new
  unfolding file_of
  file_beyond t first new is e = e ∙ ap (λ (xs : List (List ℕ)). concat xs ++ new) (ap (λ (k : ℕ). take k (out ids h t)) is ∙ front_out t)

  -- the counts of a mark are one for each track
  pub many_counts : (counts tracks : List ℕ) → counts ≡ counts_out ids (take n h) → tracks ≡ ids → length counts ≡ length tracks
  many_counts counts tracks is same = ap length is ∙ (length-map ids (λ t. length (out ids (take n h) t)) ∙ ap length (sym same))

  pub count_at : (counts tracks : List ℕ) (at : ℕ) → counts ≡ counts_out ids (take n h) → tracks ≡ ids → at < length tracks → get_or counts at 0 ≡ length (out ids (take n h) (get_or tracks at 0))
  count_at counts tracks at is same lt =
      let many : length tracks ≡ length ids = ap length same in
      let within : at < length ids = omega (arith, lt, many) in
      ap (λ (xs : List ℕ). get_or xs at 0) is ∙ (get_or-map (λ t. length (out ids (take n h) t)) ids at 0 0 within ∙ ap (λ (xs : List ℕ). length (out ids (take n h) (get_or xs at 0))) (sym same))

  -- the files of the first tracks, and how many samples are out on them
  pub record AreTold (tracks : List ℕ) (at : ℕ) (texts : List (ℕ × List ℕ)) (counts : List ℕ) : Type 0 where
    pub order : map (λ x. x.0) texts ≡ take at tracks
    pub files : All (λ x. file_of ids h x.0 ≡ file_of ids (take n h) x.0 ++ x.1) texts
    pub published : counts ≡ map (λ t. length (out ids h t)) (take at tracks)

  -- what was read of a track, from its first samples on
  pub record IsRead (t first : ℕ) (new : List ℕ) (samples : ℕ) : Type 0 where
    pub before : first ≡ length (out ids (take n h) t)
    pub bytes : file_of ids h t ≡ concat (take first (out ids h t)) ++ new
    pub samples_ : samples ≡ length (out ids h t)

  pub told_more : (tracks : List ℕ) (at : ℕ) (texts : List (ℕ × List ℕ)) (counts : List ℕ) (first : ℕ) (new : List ℕ) (samples : ℕ) → at < length tracks → IsRead (get_or tracks at 0) first new samples → AreTold tracks at texts counts → AreTold tracks (at + 1) (texts ++ (get_or tracks at 0, new) ∷ []) (counts ++ samples ∷ [])
  told_more tracks at texts counts first new samples lt r told =
      let t : ℕ = get_or tracks at 0 in
      record {
        order = map-append (λ x. x.0) texts ((t, new) ∷ []) ∙ (ap (λ (ts : List ℕ). ts ++ t ∷ []) told.order ∙ sym (take_more tracks at 0 lt));
        files = All-push (λ x. file_of ids h x.0 ≡ file_of ids (take n h) x.0 ++ x.1) texts (t, new) told.files (file_beyond t first new r.before r.bytes);
        published = ap (λ (ns : List ℕ). ns ++ samples ∷ []) told.published ∙ (ap (λ k. map (λ u. length (out ids h u)) (take at tracks) ++ k ∷ []) r.samples_ ∙ sym (map_more (λ u. length (out ids h u)) tracks at 0 lt));
      }

-- beyond the empty history a file is whole
none_before : (ids : List ℕ) (t : ℕ) → file_of ids [] t ≡ []
unfolding file_of out
none_before ids t = refl

whole_files : (ids : List ℕ) (h : List Entry) (xs : List (ℕ × List ℕ)) → AllByRecursion (λ x. file_of ids h x.0 ≡ file_of ids [] x.0 ++ x.1) xs → xs ≡ map (λ t. (t, file_of ids h t)) (map (λ x. x.0) xs)
whole_files ids h [] all = refl
whole_files ids h (x ∷ xs) all =
    let is : x.1 ≡ file_of ids h x.0 = sym (all.0 ∙ ap (λ (bytes : List ℕ). bytes ++ x.1) (none_before ids x.0)) in
    ap (λ (bytes : List ℕ). (x.0, bytes) ∷ xs) is ∙ ap (λ (ys : List (ℕ × List ℕ)). (x.0, file_of ids h x.0) ∷ ys) (whole_files ids h xs all.1)

pub all_is_news : AllIsNews
unfolding log_of
all_is_news ids h news n =
    (sym n.log, whole_files ids h news.tracks (recursion_from_All (λ x. file_of ids h x.0 ≡ file_of ids [] x.0 ++ x.1) news.tracks n.files) ∙ ap (λ (ts : List ℕ). map (λ t. (t, file_of ids h t)) ts) n.order)
