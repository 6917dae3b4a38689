use Rattle.std.proofs.Common.{◌≡◌, ◌∙◌, true, false, ap, sym, codes}
use Rattle.std.specs.Prelude.{bytes_eq, not}
use Rattle.std.proofs.lemmas.Bool.{not-true, not-false}
use Rattle.text_words.specs.Lines.{lines_of}
use Rattle.license_desk.specs.Table.{with_lines}
use Rattle.license_desk.proofs.TableLemmas.{no_header, other_header, behind_header}
use Rattle.license_desk.proofs.read.read_desk.Goals as goal

pub returns-then-ne : goal.returns-then-ne
returns-then-ne c =
    let other : not (bytes_eq c.in-Some.header.now (codes "DESK 1")) ≡ true = sym (ap (λ s. not (bytes_eq c.in-Some.header.now s)) c.as_slice.ensures) ∙ sym c.ne.ensures ∙ c.if-ne.true in
    other_header c.args.bytes.now c.in-Some.header.now (lines_of c.in-Some.rows.now) c.in-Some.ensures.lines (not-true _ other)

pub returns-in_default : goal.returns-in_default
returns-in_default c = no_header c.args.bytes.now c.in_default.ensures.lines

pub loop-line-init : goal.loop-line-init
loop-line-init c =
    let same : not (bytes_eq c.in-Some.header.now (codes "DESK 1")) ≡ false = sym (ap (λ s. not (bytes_eq c.in-Some.header.now s)) c.as_slice.ensures) ∙ sym c.ne.ensures ∙ c.if-ne.false in
    behind_header c.args.bytes.now c.in-Some.header.now (lines_of c.in-Some.rows.now) c.in-Some.ensures.lines (not-false _ same)
    ∙ ap (λ rows. with_lines rows 2 (lines_of c.in-Some.rows.now)) (sym c.new-desk.ensures)
