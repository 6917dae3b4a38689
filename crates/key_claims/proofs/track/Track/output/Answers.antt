use Rattle.std.proofs.Common.{◌≡◌, ◌<◌, ◌∙◌, ℕ, List, Some, length, get_or, ap, sym, arith, rules}
use Rattle.std.specs.Prelude.{slice_get}
use Rattle.std.proofs.lemmas.Option.{slice_get-get_or}
use Rattle.eme_types.specs.declared.sample.EncSample.{EncSample}
use Rattle.key_claims.specs.declared.track.Output.{Output}
use Rattle.key_claims.specs.declared.track.Output.TheVariants.{Opened, Same}
use Rattle.key_claims.proofs.Shown.{shown_at, shown_past, get_some}
use Rattle.key_claims.proofs.track.Track.output.Goals as goal

pub returns-then-index-outputs : goal.returns-then-index-outputs
returns-then-index-outputs c =
    let t = c.self.inside in
    let l : length c.as_slice-outputs.result.now ≡ length t.outputs.0 = ap (λ (xs : List Output). length xs) c.as_slice-outputs.ensures in
    rw (← c.self.view_is) (shown_past t.fed.0 t.outputs.0 c.args.index (omega (arith, l, c.if-index-outputs.true)))

pub returns-in-Opened : goal.returns-in-Opened
returns-in-Opened c =
    let t = c.self.inside in
    let l : length c.as_slice-outputs.result.now ≡ length t.outputs.0 = ap (λ (xs : List Output). length xs) c.as_slice-outputs.ensures in
    let lt : c.args.index < length t.outputs.0 = omega (arith, l, c.if-index-outputs.false) in
    let le : c.args.index < length t.fed.0 = omega (arith, lt, c.self.invariant.within) in
    let x = get_some t.fed.0 c.args.index le in
    let at : c.index-outputs-index.result ≡ get_or t.outputs.0 c.args.index c.index-outputs-index.result = search rules in
    let is : c.index-outputs-index.result ≡ Opened c.in-Opened.bytes = search rules in
    let bytes : c.in-Opened.bytes ≡ c.as_slice.result.now = search rules in
    let o : slice_get t.outputs.0 c.args.index ≡ Some (Opened c.in-Opened.bytes) = slice_get-get_or t.outputs.0 c.args.index c.index-outputs-index.result lt ∙ ap (λ (y : Output). Some y) (sym at ∙ is) in
    rw (← c.self.view_is) (shown_at t.fed.0 t.outputs.0 c.args.index x.0 (Opened c.in-Opened.bytes) x.1 o ∙ ap (λ (y : List ℕ). Some y) bytes)

pub returns-in-Same : goal.returns-in-Same
returns-in-Same c =
    let t = c.self.inside in
    let l : length c.as_slice-outputs.result.now ≡ length t.outputs.0 = ap (λ (xs : List Output). length xs) c.as_slice-outputs.ensures in
    let lt : c.args.index < length t.outputs.0 = omega (arith, l, c.if-index-outputs.false) in
    let le : c.args.index < length t.fed.0 = omega (arith, lt, c.self.invariant.within) in
    let at : c.index-outputs-index.result ≡ get_or t.outputs.0 c.args.index c.index-outputs-index.result = search rules in
    let is : c.index-outputs-index.result ≡ Same = search rules in
    let y : c.index-fed-index.result ≡ get_or t.fed.0 c.args.index c.index-fed-index.result = search rules in
    let x : slice_get t.fed.0 c.args.index ≡ Some c.index-fed-index.result = slice_get-get_or t.fed.0 c.args.index c.index-fed-index.result le ∙ ap (λ (z : EncSample). Some z) (sym y) in
    let bytes : c.index-fed-index.result.bytes ≡ c.as_slice-in-Same.result.now = search rules in
    let o : slice_get t.outputs.0 c.args.index ≡ Some Same = slice_get-get_or t.outputs.0 c.args.index c.index-outputs-index.result lt ∙ ap (λ (z : Output). Some z) (sym at ∙ is) in
    rw (← c.self.view_is) (shown_at t.fed.0 t.outputs.0 c.args.index c.index-fed-index.result Same x o ∙ ap (λ (z : List ℕ). Some z) bytes)
