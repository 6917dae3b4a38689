use Rattle.std.proofs.Common.{◌≡◌, ◌∙◌, ◌+◌, ◌≤◌, ◌<◌, [], length, inl, inr, sym, ap, subst, arith}
use Rattle.std.specs.Prelude.{Ok, Err}
use Rattle.std.proofs.lemmas.Result.{err_from_is_err_and}
use Rattle.text_words.specs.Lines.{lines_of}
use Rattle.track_media.specs.declared.line.Known.{Known}
use Rattle.track_media.specs.ListLine.{line_in}
use Rattle.track_media.specs.SampleList.{placed}
use Rattle.track_media.specs.Gathering.{Gathering}
use Rattle.track_media.proofs.ReaderSteps.{line_broken, line_begins, line_added, no_line}
use Rattle.track_media.proofs.list_reader.read_section.Goals as goal

pub returns-in_err-line-clause-value : goal.returns-in_err-line-clause-value
returns-in_err-line-clause-value c =
    let p = err_from_is_err_and c.from_residual.result c.from_residual.ensures.1 in
    let g = c.lines.gathered in
    let text = c.in-Some.next.0.now in
    let f = c.in_err-line.field-0.0 in
    let reads = rw c.in-Some.ensures.lines at c.lines.invariant.reads in
    let known : c.gathered.inside.known ≡ g.known = ap (λ (h : Gathering). h.known) c.gathered.view_is in
    rw (p.1, p.2) (elim c.in_err-line.ensures [
      | inl memory ↦ inl memory
      | inr e ↦ inr (reads ∙ line_broken g c.lines.place text (lines_of c.in-Some.next.1.now) f (subst (λ (k : Known). placed c.lines.place (line_in k text) ≡ Err f) known e))
    ])

pub returns-then-begins_fragment-clause-value : goal.returns-then-begins_fragment-clause-value
returns-then-begins_fragment-clause-value c =
    let g = c.lines.gathered in
    let text = c.in-Some.next.0.now in
    let x = c.in_ok-line.line in
    let reads = rw c.in-Some.ensures.lines at c.lines.invariant.reads in
    let known : c.gathered.inside.known ≡ g.known = ap (λ (h : Gathering). h.known) c.gathered.view_is in
    let line = subst (λ (k : Known). placed c.lines.place (line_in k text) ≡ Ok x) known c.in_ok-line.ensures in
    reads ∙ line_begins g c.lines.place text (lines_of c.in-Some.next.1.now) x line (sym c.begins_fragment.ensures ∙ c.if-begins_fragment.true)

pub lines-preserved : goal.lines-preserved
lines-preserved c =
    let g = c.lines.gathered in
    let text = c.in-Some.next.0.now in
    let x = c.in_ok-line.line in
    let reads = rw c.in-Some.ensures.lines at c.lines.invariant.reads in
    let known : c.gathered.inside.known ≡ g.known = ap (λ (h : Gathering). h.known) c.gathered.view_is in
    let line = subst (λ (k : Known). placed c.lines.place (line_in k text) ≡ Ok x) known c.in_ok-line.ensures in
    let less : length c.in-Some.next.1.now < length c.lines.rest.now = c.in-Some.ensures.shorter.0 in
    let within : length text + length c.in-Some.next.1.now ≤ length c.lines.rest.now = c.in-Some.ensures.shorter.1 in
    let bound : c.lines.place + length c.lines.rest.now ≤ 9223372036854775815 = c.lines.invariant.placed.bound (omega (arith, less)) in
    rw c.in_ok-add.ensures (record {
      reads = reads ∙ line_added g c.lines.place text (lines_of c.in-Some.next.1.now) x line (sym c.begins_fragment.ensures ∙ c.if-begins_fragment.false);
      placed = record {
        small = omega (arith, within, bound);
        bound = λ some. let parted : length text + length c.in-Some.next.1.now + 1 ≡ length c.lines.rest.now = c.in-Some.ensures.parted some in omega (arith, parted, bound);
      };
    })

pub returns-clause-value : goal.returns-clause-value
returns-clause-value c =
    let none : lines_of c.lines.rest.now ≡ [] = c.in_default.ensures.lines in
    let reads = rw none at c.lines.invariant.reads in
    reads ∙ no_line c.lines.gathered c.lines.place
