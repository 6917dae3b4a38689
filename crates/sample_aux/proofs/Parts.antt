-- Parts are joined one after the other.
use Rattle.std.proofs.Common.{◌≡◌, Bool, true, false, List, [], ◌∷◌, ◌++◌, Option, Some, None, Result, Ok, Err, refl, sym, ap, ◌∙◌, append_assoc, ℕ}
use Rattle.std.specs.Prelude.{◌==◌, if◌then◌else◌, cond, filter}
use Rattle.iso_boxes.specs.Children.{◌>>=◌}
use Rattle.eme_types.specs.declared.media.TrackPart.{TrackPart}
use Rattle.eme_types.specs.Fed.{has_samples}
use Rattle.frag_boxes.specs.declared.records.Traf.{Traf}
use Rattle.sample_aux.specs.declared.fault.AuxFault.{AuxFault}
use Rattle.sample_aux.specs.declared.protection.MovieProtection.{MovieProtection}
use Rattle.sample_aux.specs.declared.laying.DataCursor.{DataCursor}
use Rattle.sample_aux.specs.Resolve.{met, put_part, put_left, all_joined, traf_resolved, trafs_resolved}

abbrev met_as : Bool → TrackPart → TrackPart → TrackPart × Option TrackPart
met_as same q p = if same then (record q { samples = q.samples ++ p.samples }, None) else (q, Some p)

meets_as : (same : Bool) (q p : TrackPart) (qs : List TrackPart)
    → (if same then record q { samples = q.samples ++ p.samples } ∷ qs else q ∷ put_part qs p) ≡ (met_as same q p).0 ∷ put_left qs (met_as same q p).1
meets_as true q p qs = refl
meets_as false q p qs = refl

meets : (q : TrackPart) (qs : List TrackPart) (left : Option TrackPart) → put_left (q ∷ qs) left ≡ (met q left).0 ∷ put_left qs (met q left).1
meets q qs None = refl
meets q qs (Some p) = meets_as (q.track == p.track) q p qs

pub one_met : (front : List TrackPart) (q : TrackPart) (qs : List TrackPart) (left : Option TrackPart) (total : List TrackPart) (x : TrackPart) (rest : Option TrackPart) → (x, rest) ≡ met q left
    → front ++ put_left (q ∷ qs) left ≡ total → (front ++ x ∷ []) ++ put_left qs rest ≡ total
one_met front q qs left total x rest e so_far =
    let f : TrackPart × Option TrackPart → List TrackPart = λ m. front ++ m.0 ∷ put_left qs m.1 in
    simp append_assoc (ap f e ∙ ap (λ (xs : List TrackPart). front ++ xs) (sym (meets q qs left)) ∙ so_far)

-- ---- track fragments

go_on : (parts : List TrackPart) (p : TrackPart) (rest : Result (List TrackPart) AuxFault) → all_joined parts (rest >>= λ ps. Ok (p ∷ ps)) ≡ all_joined (put_part parts p) rest
go_on parts p (Ok ps) = refl
go_on parts p (Err e) = refl

pub one_more : (file : List ℕ) (known : MovieProtection) (start : ℕ) (l : DataCursor) (traf : Traf) (trafs : List Traf) (parts : List TrackPart) (p : TrackPart) (next : DataCursor) (total : Result (List TrackPart) AuxFault)
    → traf_resolved file known start l traf ≡ Ok (p, next) → all_joined parts (trafs_resolved file known start l (traf ∷ trafs)) ≡ total → all_joined (put_part parts p) (trafs_resolved file known start next trafs) ≡ total
unfolding trafs_resolved
one_more file known start l traf trafs parts p next total h so_far = sym (go_on parts p (trafs_resolved file known start next trafs)) ∙ (rw h at so_far)

pub broken_off : (file : List ℕ) (known : MovieProtection) (start : ℕ) (l : DataCursor) (traf : Traf) (trafs : List Traf) (parts : List TrackPart) (f : AuxFault) (total : Result (List TrackPart) AuxFault)
    → traf_resolved file known start l traf ≡ Err f → all_joined parts (trafs_resolved file known start l (traf ∷ trafs)) ≡ total → total ≡ Err f
unfolding trafs_resolved
broken_off file known start l traf trafs parts f total h so_far = sym (rw h at so_far)

pub finished : (file : List ℕ) (known : MovieProtection) (start : ℕ) (l : DataCursor) (parts : List TrackPart) (total : Result (List TrackPart) AuxFault) → all_joined parts (trafs_resolved file known start l []) ≡ total → total ≡ Ok parts
unfolding trafs_resolved
finished file known start l parts total so_far = sym so_far

-- ---- parts that have samples

kept_first : (keep : Bool) (p : TrackPart) (more : List TrackPart) → cond keep (p ∷ more) more ≡ cond keep (p ∷ []) [] ++ more
kept_first true p more = refl
kept_first false p more = refl

pub keeps : (front : List TrackPart) (p : TrackPart) (rest total : List TrackPart) → front ++ filter has_samples (p ∷ rest) ≡ total → (front ++ filter has_samples (p ∷ [])) ++ filter has_samples rest ≡ total
keeps front p rest total so_far =
    simp append_assoc (ap (λ (xs : List TrackPart). front ++ xs) (sym (kept_first (has_samples p) p (filter has_samples rest))) ∙ so_far)
