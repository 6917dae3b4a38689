use Rattle.std.proofs.Common.{◌≡◌, ◌∙◌, Bool, true, false, ◌&&◌, Option, Some, None, ap, sym, rules}
use Rattle.eme_types.specs.declared.sample.EncSample.{EncSample}
use Rattle.key_claims.specs.Changes.{find_fed, head_of}
use Rattle.cdm_state.specs.Later.{sample_later}
use Rattle.cdm_state.proofs.Exact.{later_is}
use Rattle.cdm_state.proofs.cdm.Cdm.waits_later.Goals as goal

pub returns-then-not-waiting : goal.returns-then-not-waiting
returns-then-not-waiting c =
    let s = c.self.inside in
    let m = s.parts.sessions.machine in
    let o = find_fed s.parts.tracks.tracks c.args.track in
    let is = later_is s.ids s.parts.chronicle.entries s.parts.chronicle.effects m s.parts.tracks.tracks s.parts.tracks.claims c.args.track c.self.invariant.2 in
    let off : c.waiting.result ≡ false = search rules in
    rw (← c.self.view_is) (sym (is ∙ ap (λ (b : Bool). b && sample_later m (head_of o)) (sym c.waiting.ensures ∙ off)))

pub returns-in-None : goal.returns-in-None
returns-in-None c =
    let s = c.self.inside in
    let m = s.parts.sessions.machine in
    let o = find_fed s.parts.tracks.tracks c.args.track in
    let is = later_is s.ids s.parts.chronicle.entries s.parts.chronicle.effects m s.parts.tracks.tracks s.parts.tracks.claims c.args.track c.self.invariant.2 in
    let on : c.waiting.result ≡ true = search rules in
    let none : head_of o ≡ None = c.in-None.ensures in
    rw (← c.self.view_is) (sym (is ∙ (ap (λ (b : Bool). b && sample_later m (head_of o)) (sym c.waiting.ensures ∙ on) ∙ ap (λ (x : Option EncSample). sample_later m x) none)))

pub returns-in-Some : goal.returns-in-Some
returns-in-Some c =
    let s = c.self.inside in
    let m = s.parts.sessions.machine in
    let o = find_fed s.parts.tracks.tracks c.args.track in
    let is = later_is s.ids s.parts.chronicle.entries s.parts.chronicle.effects m s.parts.tracks.tracks s.parts.tracks.claims c.args.track c.self.invariant.2 in
    let on : c.waiting.result ≡ true = search rules in
    let some : head_of o ≡ Some c.in-Some.sample.now = c.in-Some.ensures in
    rw (← c.self.view_is) (c.protect_later.ensures ∙ sym (is ∙ (ap (λ (b : Bool). b && sample_later m (head_of o)) (sym c.waiting.ensures ∙ on) ∙ ap (λ (x : Option EncSample). sample_later m x) some)))
