-- A file ends as its front.
use Rattle.std.proofs.Common.{◌≡◌, ℕ, ◌+◌, Bool, true, false, List, [], ◌∷◌, ◌++◌, length, take, drop, Some, None, Result, Ok, Err, refl, sym, ap, ◌∙◌}
use Rattle.std.specs.Prelude.{is_some, if◌then◌else◌, bytes_eq}
use Rattle.std.specs.List.{list_any}
use Rattle.eme_types.specs.declared.media.Media.{Media}
use Rattle.iso_boxes.specs.Walk.{Found, walk}
use Rattle.iso_boxes.specs.Children.{each_knowing, ended as box_ended, all_knowing}
use Rattle.iso_boxes.proofs.Front.{all_before}
use Rattle.frag_boxes.proofs.Taking.{then_ok}
use Rattle.text_words.specs.Lines.{lines_of}
use Rattle.track_media.specs.declared.kind.LineFault.{LineFault}
use Rattle.track_media.specs.declared.kind.MediaFault.{MediaFault}
use Rattle.track_media.specs.declared.line.ListLine.{ListLine}
use Rattle.track_media.specs.declared.top.TopPart.{TopPart}
use Rattle.track_media.specs.Refusals.{header_fault}
use Rattle.track_media.specs.ListLine.{line_in}
use Rattle.track_media.specs.SampleList.{is_fragment, media_from, known_from, placed, lines_from, list_media, ◌>>=◌}
use Rattle.track_media.specs.Mp4.{top_part_at, seen_from, movie_in, media_of_parts, followed_by, mp4_media}
use Rattle.track_media.specs.File.{header, media_of}
use Rattle.track_media.specs.Front.{Front, refusal, opened, up_to, lines_before, whole_list, list_front_of, list_front, parts_before, mp4_front, front, to_the_end, EndsAsItsFile}

ends_well : (b : Bool) (m : Media) → Ok m ≡ to_the_end (opened b None m)
ends_well true m = refl
ends_well false m = refl

ends_broken : (b : Bool) (fault : MediaFault) (m : Media) → Err fault ≡ to_the_end (opened b (Some fault) m)
ends_broken true fault m = refl
ends_broken false fault m = refl

-- ---- a sample list

one_line : (before : List ListLine) (place : ℕ) (r : Result ListLine LineFault) (next : ListLine → Result (List ListLine) MediaFault) (more : ListLine → List ListLine) (lines : List ListLine)
    → ((x : ListLine) → next x ≡ Ok lines → more x ≡ lines) → (placed place r >>= next) ≡ Ok lines → up_to before r more ≡ lines
one_line before place (Ok x) next more lines h e = h x e
one_line before place (Err fault) next more lines h e = absurd cc

all_lines : (before : List ListLine) (place : ℕ) (texts : List (List ℕ)) (lines : List ListLine) → lines_from before place texts ≡ Ok lines → lines_before before texts ≡ lines
unfolding lines_from lines_before
all_lines before place [] lines e = cc
all_lines before place (text ∷ more) lines e =
    one_line before place (line_in (known_from before) text) (λ x. lines_from (before ++ x ∷ []) (place + length text + 1) more) (λ x. lines_before (before ++ x ∷ []) more) lines (λ x h. all_lines (before ++ x ∷ []) (place + length text + 1) more lines h) e

lines_end : (r : Result (List ListLine) MediaFault) (lines : List ListLine) → ((xs : List ListLine) → r ≡ Ok xs → lines ≡ xs)
    → (r >>= λ xs. Ok (media_from xs)) ≡ to_the_end (list_front_of (refusal (r >>= λ xs. Ok (media_from xs))) lines)
unfolding media_from
lines_end (Ok xs) lines h = ap (λ (ys : List ListLine). Ok (media_from ys)) (sym (h xs refl)) ∙ ends_well (list_any is_fragment lines) (whole_list None lines)
lines_end (Err e) lines h = ends_broken (list_any is_fragment lines) e (whole_list (Some e) lines)

list_ends : (text : List ℕ) → list_media text ≡ to_the_end (list_front text)
unfolding list_media list_front
list_ends text = lines_end (lines_from [] 7 (lines_of text)) (lines_before [] (lines_of text)) (λ xs e. all_lines [] 7 (lines_of text) xs e)

-- ---- fragmented MP4

media_end : (b : Bool) (r : Result Media MediaFault) (m : Media) → ((x : Media) → r ≡ Ok x → m ≡ x) → r ≡ to_the_end (opened b (refusal r) m)
media_end b (Ok x) m h = ap (λ (y : Media). Ok y) (sym (h x refl)) ∙ ends_well b m
media_end b (Err e) m h = ends_broken b e m

whole_file : (file : List ℕ) (m : Media) → mp4_media file ≡ Ok m → media_of_parts file (parts_before file) ≡ m
unfolding mp4_media all_knowing
whole_file file m h =
    let read = λ (before : List TopPart) (b : Found). top_part_at file (seen_from before) b in
    let w = walk file 0 true in
    let p = then_ok (all_knowing header_fault read followed_by [] w) _ m h in
    let q = then_ok (each_knowing read followed_by [] w.boxes) _ p.0 p.1 in
    let r = then_ok (box_ended header_fault w.fault) _ p.0 q.2 in
    let before : parts_before file ≡ q.0 = all_before read followed_by [] w.boxes q.0 q.1 in
    let same : q.0 ≡ p.0 = cc in
    let is : media_of_parts file p.0 ≡ m = cc in
    ap (media_of_parts file) (before ∙ same) ∙ is

mp4_ends : (file : List ℕ) → mp4_media file ≡ to_the_end (mp4_front file)
unfolding mp4_front
mp4_ends file = media_end (is_some (movie_in (parts_before file))) (mp4_media file) (media_of_parts file (parts_before file)) (λ x e. whole_file file x e)

-- ---- either form

either_ends : (c : Bool) (a b : Result Media MediaFault) (x y : Result Front MediaFault) → a ≡ to_the_end x → b ≡ to_the_end y → (if c then a else b) ≡ to_the_end (if c then x else y)
either_ends true a b x y e f = e
either_ends false a b x y e f = f

pub ends_as_its_file : EndsAsItsFile
unfolding media_of front
ends_as_its_file bytes = either_ends (bytes_eq (take 7 bytes) header) (list_media (drop 7 bytes)) (mp4_media bytes) (list_front (drop 7 bytes)) (mp4_front bytes) (list_ends (drop 7 bytes)) (mp4_ends bytes)
