-- A sinf that was written is read again.
use Rattle.std.proofs.Common.{◌≡◌, ℕ, ◌+◌, ◌^◌, ◌<◌, false, List, [], ◌++◌, length, codes, Some, None, Result, Ok, Err, refl, ap, ◌∙◌, arith, append-nil}
use Rattle.std.proofs.lemmas.List.{length-append}
use Rattle.eme_types.specs.declared.sample.Scheme.{Scheme}
use Rattle.eme_types.specs.declared.sample.Scheme.TheVariants.{Cenc, Cbcs}
use Rattle.iso_boxes.specs.Walk.{Found, Walked, before, inside, boxes_left, walk, walk_of}
use Rattle.iso_boxes.specs.Writing.{boxed}
use Rattle.iso_boxes.specs.Children.{each_knowing, all_knowing, first_read}
use Rattle.iso_boxes.proofs.WrittenAgain.{written_again}
use Rattle.iso_boxes.specs.declared.writing.PutFault.{PutFault}
use Rattle.iso_boxes.specs.declared.writing.PutFault.TheVariants.{TooLong}
use Rattle.prot_boxes.specs.declared.schm.Schm.{Schm}
use Rattle.prot_boxes.specs.declared.sinf.Sinf.{Sinf}
use Rattle.prot_boxes.specs.declared.sinf.Schi.{Schi}
use Rattle.prot_boxes.specs.declared.tenc.Tenc.{Tenc}
use Rattle.prot_boxes.specs.Schm.{schm_fields, schm_at, schm_body, IsCanonical as SuitsSchm}
use Rattle.prot_boxes.specs.Tenc.{tenc_fields, tenc_body, IsCanonical as SuitsTenc}
use Rattle.prot_boxes.specs.Sinf.{sinf_box, schi_at, named, sinf_of, sinf_at, scheme_code, scheme_rules, sinf_body, IsCanonical}
use Rattle.prot_boxes.proofs.Again.{box_of, boxed_length}
use Rattle.prot_boxes.proofs.SchmAgain.{schm_again}
use Rattle.prot_boxes.proofs.TencAgain.{tenc_again}

abbrev pub schm_of : Scheme → Schm
schm_of scheme = record { kind = scheme_code scheme; version = 65536 }

schm_length : (scheme : Scheme) → length (schm_body (schm_of scheme)) ≡ 12
unfolding schm_body
schm_length Cenc = refl
schm_length Cbcs = refl

pub sinf_length : (s : Sinf) → length (sinf_body s) ≡ 48 + length (tenc_body s.tenc)
unfolding sinf_body
sinf_length s =
    let frma = boxed_length (codes "frma") (codes "avc1") refl in
    let schm = boxed_length (codes "schm") (schm_body (schm_of s.scheme)) refl in
    let tenc = boxed_length (codes "tenc") (tenc_body s.tenc) refl in
    let schi = boxed_length (codes "schi") (boxed (codes "tenc") (tenc_body s.tenc)) refl in
    omega (
      arith,
      frma,
      schm,
      tenc,
      schi,
      schm_length s.scheme,
      length-append (boxed (codes "frma") (codes "avc1")) (boxed (codes "schm") (schm_body (schm_of s.scheme)) ++ boxed (codes "schi") (boxed (codes "tenc") (tenc_body s.tenc))),
      length-append (boxed (codes "schm") (schm_body (schm_of s.scheme))) (boxed (codes "schi") (boxed (codes "tenc") (tenc_body s.tenc))),
    )

pub schm_short : (kind : List ℕ) (scheme : Scheme) → kind ≡ scheme_code scheme → length (schm_body (record { kind = kind; version = 65536 })) ≡ 12
schm_short kind scheme e = rw e (schm_length scheme)

abbrev end : Walked
end = record { boxes = []; fault = None }

walk_nil : (p : ℕ) → walk [] p false ≡ end
unfolding walk boxes_left walk_of
walk_nil p = refl

one_box : (kind body : List ℕ) (p : ℕ) → length kind ≡ 4 → 8 + length body < 2 ^ 32 → walk (boxed kind body) p false ≡ before (box_of kind body p) end
one_box kind body p k4 lt = (rw append-nil at (written_again kind body [] p false k4 lt)) ∙ ap (before (box_of kind body p)) (walk_nil (p + (8 + length body)))

three_boxes : (k1 b1 k2 b2 k3 b3 : List ℕ) (p : ℕ) → length k1 ≡ 4 → length k2 ≡ 4 → length k3 ≡ 4 → 8 + length b1 < 2 ^ 32 → 8 + length b2 < 2 ^ 32 → 8 + length b3 < 2 ^ 32
    → walk (boxed k1 b1 ++ (boxed k2 b2 ++ boxed k3 b3)) p false
    ≡ before (box_of k1 b1 p) (before (box_of k2 b2 (p + (8 + length b1))) (before (box_of k3 b3 (p + (8 + length b1) + (8 + length b2))) end))
three_boxes k1 b1 k2 b2 k3 b3 p l1 l2 l3 f1 f2 f3 =
    written_again k1 b1 (boxed k2 b2 ++ boxed k3 b3) p false l1 f1
    ∙ ap (before (box_of k1 b1 p)) (
    written_again k2 b2 (boxed k3 b3) (p + (8 + length b1)) false l2 f2
    ∙ ap (before (box_of k2 b2 (p + (8 + length b1)))) (one_box k3 b3 (p + (8 + length b1) + (8 + length b2)) l3 f3)
    )

abbrev held : ℕ → Tenc → Schi
held p t = record { tenc = Some (record { place = p; tenc = t }) }

schi_again : (t : Tenc) (place : ℕ) → SuitsTenc t → 8 + length (tenc_body t) < 2 ^ 32 → schi_at (box_of (codes "schi") (boxed (codes "tenc") (tenc_body t)) place) ≡ Ok (held (place + 8) t)
unfolding schi_at first_read
schi_again t place suits fits =
    let whole : tenc_fields (tenc_body t) ≡ Ok (t, []) = rw append-nil at (tenc_again t suits []) in
    rw (one_box (codes "tenc") (tenc_body t) (place + 8) refl fits, whole) refl

schm_suits : (scheme : Scheme) → SuitsSchm (schm_of scheme)
schm_suits Cenc = record { kind = refl; version = omega arith }
schm_suits Cbcs = record { kind = refl; version = omega arith }

rules_again : (place p : ℕ) (scheme : Scheme) (t : Tenc) → scheme_rules scheme t ≡ Ok t → sinf_of place (Some (schm_of scheme)) (Some (held p t)) ≡ Ok (record { scheme = scheme; tenc = t })
unfolding sinf_of named
rules_again place p Cenc t rules = refl
rules_again place p Cbcs t rules = rw rules refl

gathered_again : (s : Sinf) (place : ℕ) (f a b : Found) (p : ℕ) → f.kind ≡ codes "frma" → a.kind ≡ codes "schm" → b.kind ≡ codes "schi" → inside (box_of (codes "sinf") (sinf_body s) place) ≡ before f (before a (before b end))
    → schm_at a ≡ Ok (schm_of s.scheme) → schi_at b ≡ Ok (held p s.tenc) → scheme_rules s.scheme s.tenc ≡ Ok s.tenc → sinf_at (box_of (codes "sinf") (sinf_body s) place) ≡ Ok s
unfolding sinf_at sinf_box all_knowing each_knowing schi_at
gathered_again s place f a b p fk ak bk w sa sb rules = rw (w, fk, ak, sa, bk, sb) (rules_again place p s.scheme s.tenc rules)

inside_again : (s : Sinf) (place : ℕ) → 8 + length (sinf_body s) < 2 ^ 32
    → inside (box_of (codes "sinf") (sinf_body s) place)
    ≡ before (box_of (codes "frma") (codes "avc1") (place + 8)) (before (box_of (codes "schm") (schm_body (schm_of s.scheme)) (place + 8 + 12)) (before (box_of (codes "schi") (boxed (codes "tenc") (tenc_body s.tenc)) (place + 8 + 12 + (8 + length (schm_body (schm_of s.scheme))))) end))
unfolding sinf_body
inside_again s place fits =
    let n = sinf_length s in
    let tenc = boxed_length (codes "tenc") (tenc_body s.tenc) refl in
    let small_schm : 8 + length (schm_body (schm_of s.scheme)) < 2 ^ 32 = omega (arith, schm_length s.scheme) in
    let small_schi : 8 + length (boxed (codes "tenc") (tenc_body s.tenc)) < 2 ^ 32 = omega (arith, n, tenc, fits) in
    three_boxes (codes "frma") (codes "avc1") (codes "schm") (schm_body (schm_of s.scheme)) (codes "schi") (boxed (codes "tenc") (tenc_body s.tenc)) (place + 8) refl refl refl (omega arith) small_schm small_schi

pub sinf_again : (s : Sinf) → IsCanonical s → 8 + length (sinf_body s) < 2 ^ 32 → (place : ℕ) → sinf_at (box_of (codes "sinf") (sinf_body s) place) ≡ Ok s
sinf_again s canonical fits place =
    let schm : schm_fields (schm_body (schm_of s.scheme)) ≡ Ok (schm_of s.scheme, []) = rw append-nil at (schm_again (schm_of s.scheme) (schm_suits s.scheme) []) in
    let q = place + 8 + 12 + (8 + length (schm_body (schm_of s.scheme))) in
    let small_tenc : 8 + length (tenc_body s.tenc) < 2 ^ 32 = omega (arith, sinf_length s, fits) in
    gathered_again s place (box_of (codes "frma") (codes "avc1") (place + 8)) (box_of (codes "schm") (schm_body (schm_of s.scheme)) (place + 8 + 12)) (box_of (codes "schi") (boxed (codes "tenc") (tenc_body s.tenc)) (place + 8 + 12 + (8 + length (schm_body (schm_of s.scheme)))))
    (place + 8 + 12 + (8 + length (schm_body (schm_of s.scheme))) + 8) refl refl refl (inside_again s place fits) (rw schm refl) (schi_again s.tenc (place + 8 + 12 + (8 + length (schm_body (schm_of s.scheme)))) canonical.tenc small_tenc) canonical.rules

-- a fault that was handed on
pub same_fault : {A B : Type 0} (s : Result B PutFault) (r : Result A PutFault) (x f : PutFault) → r ≡ Err x → x ≡ f → r ≡ Err TooLong → s ≡ Err f → s ≡ Err TooLong
same_fault s r x f p q e d = cc
