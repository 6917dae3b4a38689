-- A sample table and its entries are gathered box after box.
use Rattle.std.proofs.Common.{◌≡◌, ℕ, suc, ◌+◌, ◌-◌, ◌<◌, ◌≤◌, arith, Bool, true, false, cond, ltb, List, [], ◌∷◌, ◌++◌, length, take, Option, Some, None, Result, Ok, Err, ◌⊎◌, inl, inr, refl, sym, ap, ◌∙◌, append_assoc}
use Rattle.std.specs.Prelude.{is_some}
use Rattle.std.proofs.lemmas.Bool.{ltb-true, ltb-false, lt-ltb, le-ltb}
use Rattle.std.proofs.lemmas.List.{append-nil}
use Rattle.iso_boxes.specs.declared.walk.BoxFault.{BoxFault}
use Rattle.iso_boxes.specs.Walk.{Found, Walked, inside, before}
use Rattle.iso_boxes.specs.Children.{◌>>=◌, each_knowing}
use Rattle.iso_boxes.proofs.Gathering.{Reader, Gathers, left, ends, chosen, chosen_more, chosen_none, known_more}
use Rattle.frag_boxes.specs.declared.fault.FragKind.TheVariants.{Short}
use Rattle.frag_boxes.specs.declared.fault.FragFault.{FragFault}
use Rattle.frag_boxes.specs.declared.records.Span.{Span}
use Rattle.frag_boxes.specs.declared.records.SampleEntry.{SampleEntry}
use Rattle.frag_boxes.specs.declared.table.Table.{Table}
use Rattle.frag_boxes.specs.declared.table.StblPart.{StblPart}
use Rattle.frag_boxes.specs.declared.table.StblPart.TheVariants as part
use Rattle.frag_boxes.specs.declared.table.StblParts.{StblParts}
use Rattle.frag_boxes.specs.Moof.{GivesBox, fault_at, header_fault}
use Rattle.frag_boxes.specs.Table.{behind, sinf_part, somes, entry_from, sinfs_at, protected_at, entry_at, too_few, enough, entries_at, entries_in, stbl_part_at, stsd_seen, entries_of, groups, or_nothing, stbl_at}
use Rattle.frag_boxes.specs.Gathering.{span_added, stbl_added}

abbrev stbl_closing : StblParts → List StblPart → Result Table FragFault
stbl_closing s ps = Ok (record { entries = or_nothing (chosen s.entries (entries_of ps)); groups = s.groups ++ groups ps })

abbrev pub stbl_reader : Reader FragFault StblPart Bool StblParts Table
stbl_reader = record { header = header_fault; read = stbl_part_at; learn = stsd_seen; know = λ s. is_some s.entries; add = stbl_added; finish = stbl_closing }

stbl_knows : (s : StblParts) (p : StblPart) → is_some (stbl_added s p).entries ≡ stsd_seen (is_some s.entries) p
stbl_knows s (part.Entries entries) = known_more s.entries entries
stbl_knows s (part.Group x) = refl
stbl_knows s part.Other = refl

stbl_adds : (s : StblParts) (p : StblPart) (ps : List StblPart) → stbl_closing s (p ∷ ps) ≡ stbl_closing (stbl_added s p) ps
stbl_adds s (part.Entries entries) ps = rw (chosen_more s.entries entries (entries_of ps)) refl
stbl_adds s (part.Group x) ps = simp append_assoc
stbl_adds s part.Other ps = refl

pub stbl_gathers : Gathers stbl_reader
stbl_gathers = record { knows = stbl_knows; adds = stbl_adds }

pub stbl_starts : (b : Found) → left stbl_reader (record { entries = None; groups = [] }) (inside b) ≡ stbl_at b
unfolding left stbl_at
stbl_starts b = refl

pub stbl_ends : (s : StblParts) (w : Walked) (total : Result Table FragFault) → w ≡ record { boxes = []; fault = None } → left stbl_reader s w ≡ total → total ≡ Ok (record { entries = or_nothing s.entries; groups = s.groups })
stbl_ends s w total e so_far = ends stbl_reader s w total e so_far ∙ rw (chosen_none s.entries) (simp append-nil)

-- ---- the sinf boxes of an entry

abbrev sinf_closing : ℕ → List Span → List (Option Span) → Result SampleEntry FragFault
sinf_closing place s ps = entry_from place (s ++ somes ps)

abbrev pub sinf_reader : ℕ → Reader FragFault (Option Span) (Unit {0}) (List Span) SampleEntry
sinf_reader place = record { header = header_fault; read = λ none b. Ok (sinf_part b); learn = λ none p. tt; know = λ s. tt; add = span_added; finish = sinf_closing place }

sinf_adds : (place : ℕ) (s : List Span) (p : Option Span) (ps : List (Option Span)) → sinf_closing place s (p ∷ ps) ≡ sinf_closing place (span_added s p) ps
sinf_adds place s None ps = refl
sinf_adds place s (Some x) ps = ap (entry_from place) (simp append_assoc)

pub sinf_gathers : (place : ℕ) → Gathers (sinf_reader place)
sinf_gathers place = record { knows = λ s p. refl; adds = sinf_adds place }

pub sinf_starts : (place : ℕ) (w : Walked) → left (sinf_reader place) [] w ≡ sinfs_at place w
unfolding left
sinf_starts place w = refl

pub sinf_ends : (place : ℕ) (s : List Span) (w : Walked) (total : Result SampleEntry FragFault) → w ≡ record { boxes = []; fault = None } → left (sinf_reader place) s w ≡ total → total ≡ entry_from place s
sinf_ends place s w total e so_far = ends (sinf_reader place) s w total e so_far ∙ ap (entry_from place) (append-nil s)

-- ---- the counted entries

-- what was read before, and what is still read
abbrev pub with_front : List SampleEntry → Result (List SampleEntry) FragFault → Result (List SampleEntry) FragFault
with_front front (Ok xs) = Ok (front ++ xs)
with_front front (Err e) = Err e

regroup : (front : List SampleEntry) (x : SampleEntry) (rest : Result (List SampleEntry) FragFault) → with_front front (rest >>= λ xs. Ok (x ∷ xs)) ≡ with_front (front ++ x ∷ []) rest
regroup front x (Ok xs) = simp append_assoc
regroup front x (Err e) = refl

first_at : (one : Result SampleEntry FragFault) (rest : Result (List SampleEntry) FragFault) (c : Result (Unit {0}) FragFault)
    → ((one >>= λ x. rest >>= λ xs. Ok (x ∷ xs)) >>= λ es. c >>= λ end. Ok es) ≡ (one >>= λ x. (rest >>= λ es. c >>= λ end. Ok es) >>= λ xs. Ok (x ∷ xs))
first_at (Err e) rest c = refl
first_at (Ok x) (Err e) c = refl
first_at (Ok x) (Ok xs) (Ok u) = refl
first_at (Ok x) (Ok xs) (Err e) = refl

suc_at : (a b : ℕ) (c : Bool) → ltb a b ≡ c → ltb (suc a) (suc b) ≡ c
suc_at a b true h = let l = ltb-true a b h in lt-ltb (suc a) (suc b) (omega (arith, l))
suc_at a b false h = let l = ltb-false a b h in le-ltb (suc a) (suc b) (omega (arith, l))

abbrev told : ℕ → Option BoxFault → Bool → Result (Unit {0}) FragFault
told place fault c = cond c (Err (too_few place fault)) (Ok tt)

enough_more : (place m : ℕ) (b : Found) (w : Walked) → enough place (suc m) (before b w) ≡ enough place m w
enough_more place m b w = ap (told place w.fault) (suc_at (length w.boxes) m _ refl)

enough_none : (place m : ℕ) (o : Option BoxFault) → enough place (suc m) (record { boxes = []; fault = o }) ≡ Err (too_few place o)
enough_none place m o = ap (told place o) (lt-ltb 0 (suc m) (omega arith))

enough_zero : (place : ℕ) (w : Walked) → enough place 0 w ≡ Ok tt
enough_zero place w = ap (told place w.fault) (le-ltb (length w.boxes) 0 (omega arith))

abbrev read_of : ℕ → List Found → Result (List SampleEntry) FragFault
read_of n bs = each_knowing (λ (none : Unit {0}) b. entry_at b) (λ none x. tt) tt (take n bs)

first_of : (place m : ℕ) (b : Found) (w : Walked) → entries_in place (suc m) (before b w) ≡ (entry_at b >>= λ x. entries_in place m w >>= λ xs. Ok (x ∷ xs))
unfolding entries_in each_knowing
first_of place m b w =
    let f : Result (Unit {0}) FragFault → Result (List SampleEntry) FragFault = λ c. entry_at b >>= λ x. (read_of m w.boxes >>= λ es. c >>= λ end. Ok es) >>= λ xs. Ok (x ∷ xs) in
    first_at (entry_at b) (read_of m w.boxes) (enough place (suc m) (before b w)) ∙ ap f (enough_more place m b w)

none_found : (place m : ℕ) (o : Option BoxFault) → entries_in place (suc m) (record { boxes = []; fault = o }) ≡ Err (too_few place o)
unfolding entries_in each_knowing
none_found place m o =
    let f : Result (Unit {0}) FragFault → Result (List SampleEntry) FragFault = λ c. c >>= λ end. Ok [] in
    ap f (enough_none place m o)

left_over : (count i : ℕ) → i < count → count - i ≡ suc (count - (i + 1))
left_over count i lt = omega arith

pub entry_more : (place : ℕ) (front : List SampleEntry) (count i : ℕ) (b : Found) (old new : Walked) (x : SampleEntry) (total : Result (List SampleEntry) FragFault) → i < count → old ≡ before b new → entry_at b ≡ Ok x
    → with_front front (entries_in place (count - i) old) ≡ total → with_front (front ++ x ∷ []) (entries_in place (count - (i + 1)) new) ≡ total
entry_more place front count i b old new x total lt e h so_far =
    let one : entries_in place (count - i) old ≡ (entries_in place (count - (i + 1)) new >>= λ xs. Ok (x ∷ xs)) = rw (e, left_over count i lt) (first_of place (count - (i + 1)) b new ∙ rw h refl) in
    sym (regroup front x (entries_in place (count - (i + 1)) new)) ∙ (rw one at so_far)

pub entry_stops : (place : ℕ) (memory : Type 0) (front : List SampleEntry) (count i : ℕ) (b : Found) (old new : Walked) (f : FragFault) (total : Result (List SampleEntry) FragFault) → i < count → old ≡ before b new
    → memory ⊎ (entry_at b ≡ Err f) → with_front front (entries_in place (count - i) old) ≡ total → memory ⊎ (total ≡ Err f)
entry_stops place memory front count i b old new f total lt e (inl m) so_far = inl m
entry_stops place memory front count i b old new f total lt e (inr h) so_far =
    let one : entries_in place (count - i) old ≡ Err f = rw (e, left_over count i lt) (first_of place (count - (i + 1)) b new ∙ rw h refl) in
    inr (sym so_far ∙ rw one refl)

pub entry_missing : (place : ℕ) (front : List SampleEntry) (count i : ℕ) (old : Walked) (total : Result (List SampleEntry) FragFault) → i < count → old ≡ record { boxes = []; fault = None }
    → with_front front (entries_in place (count - i) old) ≡ total → total ≡ Err (fault_at place Short)
entry_missing place front count i old total lt e so_far = sym so_far ∙ rw (e, left_over count i lt) (ap (with_front front) (none_found place (count - (i + 1)) None))

pub entry_broken : (place : ℕ) (front : List SampleEntry) (count i : ℕ) (old : Walked) (f : BoxFault) (total : Result (List SampleEntry) FragFault) → i < count → old ≡ record { boxes = []; fault = Some f }
    → with_front front (entries_in place (count - i) old) ≡ total → total ≡ Err (header_fault f)
entry_broken place front count i old f total lt e so_far = sym so_far ∙ rw (e, left_over count i lt) (ap (with_front front) (none_found place (count - (i + 1)) (Some f)))

none_left : (place : ℕ) (w : Walked) → entries_in place 0 w ≡ Ok []
unfolding entries_in each_knowing
none_left place w =
    let f : Result (Unit {0}) FragFault → Result (List SampleEntry) FragFault = λ c. c >>= λ end. Ok [] in
    ap f (enough_zero place w)

abbrev the_ok : List SampleEntry → Result (List SampleEntry) FragFault
the_ok xs = Ok xs

okay : {xs ys : List SampleEntry} → xs ≡ ys → the_ok xs ≡ the_ok ys
okay e = ap the_ok e

pub entries_end : (place : ℕ) (front : List SampleEntry) (count i : ℕ) (w : Walked) (total : Result (List SampleEntry) FragFault) → count ≤ i → with_front front (entries_in place (count - i) w) ≡ total → total ≡ Ok front
entries_end place front count i w total le so_far =
    let k : count - i ≡ 0 = omega arith in
    sym so_far ∙ rw k (ap (with_front front) (none_left place w) ∙ okay (append-nil front))

empty_front : (r : Result (List SampleEntry) FragFault) → with_front [] r ≡ r
empty_front (Ok xs) = refl
empty_front (Err e) = refl

abbrev entries_of_boxes : ℕ → ℕ → Result Walked FragFault → Result (List SampleEntry) FragFault
entries_of_boxes place count r = r >>= entries_in place count

pub entries_start : (count : ℕ) (b : Found) (w : Walked) → behind 8 b ≡ Ok w → with_front [] (entries_in b.place (count - 0) w) ≡ entries_at count b
unfolding entries_at
entries_start count b w e =
    let k : count - 0 ≡ count = omega arith in
    rw k (empty_front (entries_in b.place count w) ∙ sym (ap (entries_of_boxes b.place count) e))

pub entries_off : (count : ℕ) (b : Found) (f : FragFault) → behind 8 b ≡ Err f → entries_at count b ≡ Err f
unfolding entries_at
entries_off count b f e = ap (entries_of_boxes b.place count) e

abbrev sinfs_of_boxes : ℕ → Result Walked FragFault → Result SampleEntry FragFault
sinfs_of_boxes place r = r >>= sinfs_at place

pub protected_start : (n : ℕ) (b : Found) (w : Walked) → behind n b ≡ Ok w → left (sinf_reader b.place) [] w ≡ protected_at n b
unfolding protected_at
protected_start n b w e = sinf_starts b.place w ∙ sym (ap (sinfs_of_boxes b.place) e)

pub protected_off : (n : ℕ) (b : Found) (f : FragFault) → behind n b ≡ Err f → protected_at n b ≡ Err f
unfolding protected_at
protected_off n b f e = ap (sinfs_of_boxes b.place) e

pub gives_same : {X : Type 0} (r total : Result X FragFault) → total ≡ r → GivesBox r total
gives_same (Ok x) total e = e
gives_same (Err f) total e = inr e
