-- One step of a reader: a line of a section, a section, a box, a fragment.
use Rattle.std.proofs.Common.{◌≡◌, ◌⊎◌, inl, inr, ℕ, ◌+◌, Bool, true, false, List, [], ◌∷◌, length, Option, Some, None, Result, Ok, Err, refl, sym, ap, subst, ◌∙◌}
use Rattle.std.specs.Prelude.{if◌then◌else◌}
use Rattle.eme_types.specs.declared.media.Fragment.{Fragment}
use Rattle.iso_boxes.specs.declared.walk.BoxFault.{BoxFault}
use Rattle.iso_boxes.specs.Walk.{Found, Walked, before}
use Rattle.iso_boxes.specs.Children.{◌>>=◌}
use Rattle.sample_aux.specs.declared.fragment.Room.{Room}
use Rattle.track_media.specs.declared.kind.LineFault.{LineFault}
use Rattle.track_media.specs.declared.kind.MediaFault.{MediaFault}
use Rattle.track_media.specs.declared.line.ListLine.{ListLine}
use Rattle.track_media.specs.declared.line.Known.{Known}
use Rattle.track_media.specs.declared.top.KnownMovie.{KnownMovie}
use Rattle.track_media.specs.declared.top.TopPart.{TopPart}
use Rattle.track_media.specs.declared.top.TopPart.TheVariants as part
use Rattle.track_media.specs.Refusals.{header_fault}
use Rattle.track_media.specs.ListLine.{line_in}
use Rattle.track_media.specs.SampleList.{is_fragment, placed}
use Rattle.text_words.specs.Lines.{lines_of}
use Rattle.track_media.specs.Gathering.{Gathering, added, nothing, open_fragment}
use Rattle.track_media.specs.Mp4.{top_part_at, seen_from, with_first}
use Rattle.track_media.specs.Front.{Coming, Front, list_front}
use Rattle.track_media.specs.Reader.{ahead, nothing_comes, refused_next}
use Rattle.track_media.specs.Rests.{section_read, begun, section_of, coming_by, lines_coming, section_coming, list_begun, behind_movie, less_room, boxes_coming, walk_coming, opened_by, boxes_opened, walk_opened, without_movie}
use Rattle.track_media.proofs.LineFits.{line_fits}
use Rattle.track_media.proofs.ListFront.{begun_stays, list_front_is}

abbrev SectionResult : Type 0
SectionResult = Result (Gathering × Option (ℕ × List (List ℕ))) MediaFault

-- ---- a line of a section

abbrev line_read : Gathering → ℕ → List (List ℕ) → ListLine → SectionResult
line_read g place more x = if is_fragment x then Ok (g, Some (place, more)) else section_read (added g x) place more

pub line_broken : (g : Gathering) (place : ℕ) (text : List ℕ) (more : List (List ℕ)) (e : MediaFault) → placed place (line_in g.known text) ≡ Err e → section_read g place (text ∷ more) ≡ Err e
unfolding section_read
line_broken g place text more e h = ap (λ (r : Result ListLine MediaFault). r >>= line_read g (place + length text + 1) more) h

pub line_begins : (g : Gathering) (place : ℕ) (text : List ℕ) (more : List (List ℕ)) (x : ListLine) → placed place (line_in g.known text) ≡ Ok x → is_fragment x ≡ true → section_read g place (text ∷ more) ≡ Ok (g, Some (place + length text + 1, more))
unfolding section_read
line_begins g place text more x h t =
    ap (λ (r : Result ListLine MediaFault). r >>= line_read g (place + length text + 1) more) h
    ∙ ap (λ (b : Bool). if b then Ok (g, Some (place + length text + 1, more)) else section_read (added g x) (place + length text + 1) more) t

pub line_added : (g : Gathering) (place : ℕ) (text : List ℕ) (more : List (List ℕ)) (x : ListLine) → placed place (line_in g.known text) ≡ Ok x → is_fragment x ≡ false → section_read g place (text ∷ more) ≡ section_read (added g x) (place + length text + 1) more
unfolding section_read
line_added g place text more x h t =
    ap (λ (r : Result ListLine MediaFault). r >>= line_read g (place + length text + 1) more) h
    ∙ ap (λ (b : Bool). if b then Ok (g, Some (place + length text + 1, more)) else section_read (added g x) (place + length text + 1) more) t

pub no_line : (g : Gathering) (place : ℕ) → section_read g place [] ≡ Ok (g, None)
unfolding section_read
no_line g place = refl

-- ---- a section

abbrev rest_coming : Gathering → Option (ℕ × List (List ℕ)) → Coming
rest_coming g None = nothing_comes
rest_coming g (Some rest) = lines_coming (section_of (begun g.known)) rest.0 rest.1

abbrev section_next : SectionResult → Coming
section_next (Ok x) = ahead (open_fragment x.0) (rest_coming x.0 x.1)
section_next (Err e) = refused_next e

one_line_comes : (g : Gathering) (place : ℕ) (more : List (List ℕ)) (b : Bool) (x : ListLine) → lines_coming (added g x) place more ≡ section_next (section_read (added g x) place more)
    → (if b then ahead (open_fragment g) (lines_coming (section_of (begun g.known)) place more) else lines_coming (added g x) place more)
    ≡ section_next (if b then Ok (g, Some (place, more)) else section_read (added g x) place more)
one_line_comes g place more true x h = refl
one_line_comes g place more false x h = h

line_comes : (g : Gathering) (place : ℕ) (more : List (List ℕ)) (r : Result ListLine MediaFault) → ((x : ListLine) → lines_coming (added g x) place more ≡ section_next (section_read (added g x) place more))
    → coming_by r (λ x. if is_fragment x then ahead (open_fragment g) (lines_coming (section_of (begun g.known)) place more) else lines_coming (added g x) place more) ≡ section_next (r >>= line_read g place more)
line_comes g place more (Ok x) h = one_line_comes g place more (is_fragment x) x (h x)
line_comes g place more (Err e) h = refl

pub section_comes : (g : Gathering) (place : ℕ) (texts : List (List ℕ)) → lines_coming g place texts ≡ section_next (section_read g place texts)
unfolding section_read lines_coming
section_comes g place [] = refl
section_comes g place (text ∷ more) =
    line_comes g (place + length text + 1) more (placed place (line_in g.known text)) (λ x. section_comes (added g x) (place + length text + 1) more)

-- in an open section no track is named
abbrev Keeps : Gathering → Gathering → Type 0
Keeps g h = (h.known.begun ≡ true) × (h.known.tracks ≡ g.known.tracks)

placed_ok : (place : ℕ) (r : Result ListLine LineFault) (x : ListLine) → placed place r ≡ Ok x → r ≡ Ok x
placed_ok place (Ok y) x e = let h : y ≡ x = cc in subst (λ (z : ListLine). (let r : Result ListLine LineFault = Ok y in r) ≡ Ok z) h refl
placed_ok place (Err f) x e = absurd cc

same_known : (g : Gathering) (rest : Option (ℕ × List (List ℕ))) (x : Gathering × Option (ℕ × List (List ℕ))) → g.known.begun ≡ true → (let r : SectionResult = Ok (g, rest) in r) ≡ Ok x → Keeps g x.0
same_known g rest x e h = subst (λ (y : Gathering × Option (ℕ × List (List ℕ))). Keeps g y.0) (let s : (g, rest) ≡ x = cc in s) (e, refl)

line_keeps : (g : Gathering) (place : ℕ) (more : List (List ℕ)) (b : Bool) (next : SectionResult) → g.known.begun ≡ true → ((y : Gathering × Option (ℕ × List (List ℕ))) → next ≡ Ok y → Keeps g y.0) → (x : Gathering × Option (ℕ × List (List ℕ))) → (if b then Ok (g, Some (place, more)) else next) ≡ Ok x → Keeps g x.0
line_keeps g place more true next e go x h = same_known g (Some (place, more)) x e h
line_keeps g place more false next e go x h = go x h

answer_keeps : (g : Gathering) (place : ℕ) (more : List (List ℕ)) (r : Result ListLine MediaFault) → g.known.begun ≡ true → ((y : ListLine) → r ≡ Ok y → (z : Gathering × Option (ℕ × List (List ℕ))) → section_read (added g y) place more ≡ Ok z → Keeps g z.0) → (x : Gathering × Option (ℕ × List (List ℕ))) → (r >>= line_read g place more) ≡ Ok x → Keeps g x.0
answer_keeps g place more (Ok y) e go x h = line_keeps g place more (is_fragment y) (section_read (added g y) place more) e (go y refl) x h
answer_keeps g place more (Err f) e go x h = absurd cc

pub section_keeps : (g : Gathering) (place : ℕ) (texts : List (List ℕ)) → g.known.begun ≡ true → (x : Gathering × Option (ℕ × List (List ℕ))) → section_read g place texts ≡ Ok x → Keeps g x.0
unfolding section_read
section_keeps g place [] e x h = same_known g None x e h
section_keeps g place (text ∷ more) e x h =
    answer_keeps g (place + length text + 1) more (placed place (line_in g.known text)) e (λ y read z k.
    let stays = begun_stays g y (line_fits g.known text y (placed_ok place (line_in g.known text) y read)) e in
    let keeps = section_keeps (added g y) (place + length text + 1) more stays.0 z k in
    (keeps.0, keeps.1 ∙ stays.1)) x h

-- ---- a box behind the movie

box_comes : (file : List ℕ) (m : KnownMovie) (room : Room) (b : Found) (old new : Walked) (o : Option Fragment) → old ≡ before b new → behind_movie file m room b ≡ Ok o
    → walk_coming file m room old ≡ walk_coming file m room (before b new)
box_comes file m room b old new o e h = ap (walk_coming file m room) e

pub box_passed : (file : List ℕ) (m : KnownMovie) (room : Room) (b : Found) (old new : Walked) → old ≡ before b new → behind_movie file m room b ≡ Ok None → walk_coming file m room old ≡ walk_coming file m room new
unfolding boxes_coming
box_passed file m room b old new e h = ap (walk_coming file m room) e ∙ rw h refl

pub box_given : (file : List ℕ) (m : KnownMovie) (room : Room) (b : Found) (old new : Walked) (f : Fragment) → old ≡ before b new → behind_movie file m room b ≡ Ok (Some f) → walk_coming file m room old ≡ ahead f (walk_coming file m (less_room room f) new)
unfolding boxes_coming
box_given file m room b old new f e h = ap (walk_coming file m room) e ∙ rw h refl

pub box_broken : (memory : Type 0) (file : List ℕ) (m : KnownMovie) (room : Room) (b : Found) (old new : Walked) (f : MediaFault) → old ≡ before b new → memory ⊎ (behind_movie file m room b ≡ Err f) → memory ⊎ (walk_coming file m room old ≡ refused_next f)
unfolding boxes_coming
box_broken memory file m room b old new f e (inl w) = inl w
box_broken memory file m room b old new f e (inr h) = inr (ap (walk_coming file m room) e ∙ rw h refl)

pub header_comes : (file : List ℕ) (m : KnownMovie) (room : Room) (old : Walked) (f : BoxFault) → old ≡ record { boxes = []; fault = Some f } → walk_coming file m room old ≡ refused_next (header_fault f)
unfolding boxes_coming
header_comes file m room old f e = ap (walk_coming file m room) e

pub end_comes : (file : List ℕ) (m : KnownMovie) (room : Room) (old : Walked) → old ≡ record { boxes = []; fault = None } → walk_coming file m room old ≡ nothing_comes
unfolding boxes_coming
end_comes file m room old e = ap (walk_coming file m room) e

-- without initialization data before the first
pub none_first : (fs : List Fragment) → with_first [] fs ≡ fs
none_first [] = refl
none_first (f ∷ fs) = refl

-- ---- a box before the movie

pub part_passed : (file : List ℕ) (b : Found) (old new : Walked) (p : TopPart) → old ≡ before b new → top_part_at file (seen_from []) b ≡ Ok p → ((m : KnownMovie) → p ≡ part.Movie m → ⊥) → walk_opened file old ≡ walk_opened file new
unfolding boxes_opened
part_passed file b old new (part.Movie m) e h none = absurd (none m refl)
part_passed file b old new (part.Fragment f) e h none = ap (walk_opened file) e ∙ rw h refl
part_passed file b old new part.Other e h none = ap (walk_opened file) e ∙ rw h refl

pub part_read : (file : List ℕ) (b : Found) (old new : Walked) (p : TopPart) → old ≡ before b new → top_part_at file (seen_from []) b ≡ Ok p → walk_opened file old ≡ opened_by file new (walk_opened file new) p
unfolding boxes_opened
part_read file b old new p e h = ap (walk_opened file) e ∙ rw h refl

pub part_broken : (memory : Type 0) (file : List ℕ) (b : Found) (old new : Walked) (f : MediaFault) → old ≡ before b new → memory ⊎ (top_part_at file (seen_from []) b ≡ Err f) → memory ⊎ (walk_opened file old ≡ Err f)
unfolding boxes_opened
part_broken memory file b old new f e (inl w) = inl w
part_broken memory file b old new f e (inr h) = inr (ap (walk_opened file) e ∙ rw h refl)

pub no_part : (file : List ℕ) (old : Walked) (end : Option BoxFault) → old ≡ record { boxes = []; fault = end } → walk_opened file old ≡ without_movie end
unfolding boxes_opened
no_part file old end e = ap (walk_opened file) e

-- ---- what is the same as before

pub broken_on : (memory : Type 0) (first here next : Coming) → first ≡ here → memory ⊎ (here ≡ next) → memory ⊎ (first ≡ next)
broken_on memory first here next e (inl w) = inl w
broken_on memory first here next e (inr h) = inr (e ∙ h)

pub refused_on : (memory : Type 0) (first here : Result Front MediaFault) (f : MediaFault) → first ≡ here → memory ⊎ (here ≡ Err f) → memory ⊎ (first ≡ Err f)
refused_on memory first here f e (inl w) = inl w
refused_on memory first here f e (inr h) = inr (e ∙ h)

-- ---- a sample list

abbrev rest_of : Bool → ℕ → List (List ℕ) → Option (ℕ × List (List ℕ))
rest_of more place lines = if more then Some (place, lines) else None

rest_is : (g : Gathering) (more : Bool) (place : ℕ) (lines : List (List ℕ)) → rest_coming g (rest_of more place lines) ≡ section_coming more (begun g.known) place lines
rest_is g true place lines = refl
rest_is g false place lines = refl

same_rest : (t u : List ℕ) (c d : Coming) → t ≡ u → c ≡ d → (let f : Front = record { tracks = t; coming = c } in f) ≡ record { tracks = u; coming = d }
same_rest t u c d e f = cc

read_as : (g h : Gathering) (place : ℕ) (lines : List (List ℕ)) (r : SectionResult) → g ≡ h → section_read g place lines ≡ r → section_read h place lines ≡ r
read_as g h place lines r e read = subst (λ (k : Gathering). section_read k place lines ≡ r) e read

-- a section was read, and given as a fragment
pub section_given : (known : Known) (place : ℕ) (lines : List (List ℕ)) (g h : Gathering) (more : Bool) (next : ℕ) (left : List (List ℕ)) (f : Fragment) (k b : Known)
    → known.begun ≡ true → g ≡ section_of known → section_read g place lines ≡ Ok (h, rest_of more next left) → (let p : Fragment × Known = (f, k) in p) ≡ (open_fragment h, h.known) → b ≡ begun k
    → (let front : Front = record { tracks = known.tracks; coming = section_coming true known place lines } in front) ≡ record { tracks = b.tracks; coming = ahead f (section_coming more b next left) }
section_given known place lines g h more next left f k b has_begun start read given is =
    let from = read_as g (section_of known) place lines (Ok (h, rest_of more next left)) start read in
    let keeps = section_keeps (section_of known) place lines has_begun (h, rest_of more next left) from in
    let fragment : open_fragment h ≡ f = sym (ap (λ (p : Fragment × Known). p.0) given) in
    let behind : begun h.known ≡ b = sym (is ∙ ap begun (ap (λ (p : Fragment × Known). p.1) given)) in
    let tracks : known.tracks ≡ b.tracks = sym keeps.1 ∙ ap (λ (n : Known). n.tracks) behind in
    same_rest _ _ _ _ tracks (section_comes (section_of known) place lines ∙ ap section_next from ∙ ap (ahead (open_fragment h)) (rest_is h more next left)
    ∙ ap (λ (x : Fragment). ahead x (section_coming more (begun h.known) next left)) fragment
    ∙ ap (λ (n : Known). ahead f (section_coming more n next left)) behind)

pub section_refused : (known : Known) (place : ℕ) (lines : List (List ℕ)) (g : Gathering) (e : MediaFault) → g ≡ section_of known → section_read g place lines ≡ Err e → section_coming true known place lines ≡ refused_next e
section_refused known place lines g e start read =
    section_comes (section_of known) place lines ∙ ap section_next (read_as g (section_of known) place lines (Err e) start read)

begun_as : (h : Gathering) (more : Bool) (next : ℕ) (left : List (List ℕ)) → list_begun (h, rest_of more next left) ≡ record { tracks = h.known.tracks; coming = section_coming more (begun h.known) next left }
begun_as h true next left = refl
begun_as h false next left = refl

abbrev as_front : SectionResult → Result Front MediaFault
as_front r = r >>= λ x. Ok (list_begun x)

pub list_opened : (text : List ℕ) (g h : Gathering) (more : Bool) (next : ℕ) (left : List (List ℕ)) (k b : Known) → g ≡ nothing → section_read g 7 (lines_of text) ≡ Ok (h, rest_of more next left) → k ≡ h.known → b ≡ begun k
    → list_front text ≡ Ok (record { tracks = b.tracks; coming = section_coming more b next left })
list_opened text g h more next left k b start read same is =
    let from = read_as g nothing 7 (lines_of text) (Ok (h, rest_of more next left)) start read in
    let behind : begun h.known ≡ b = sym (is ∙ ap begun same) in
    list_front_is text ∙ ap as_front from ∙ ap (λ (f : Front). Ok f) (begun_as h more next left) ∙ ap (λ (n : Known). Ok (record { tracks = n.tracks; coming = section_coming more n next left })) behind

pub list_refused : (text : List ℕ) (g : Gathering) (e : MediaFault) → g ≡ nothing → section_read g 7 (lines_of text) ≡ Err e → list_front text ≡ Err e
list_refused text g e start read = list_front_is text ∙ ap as_front (read_as g nothing 7 (lines_of text) (Err e) start read)
