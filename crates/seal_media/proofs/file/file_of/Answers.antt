use Rattle.std.proofs.Common.{◌≡◌, ◌∙◌, refl}
use Rattle.std.specs.Prelude.{codes}
use Rattle.iso_boxes.specs.Writing.{boxed}
use Rattle.seal_media.specs.Layout.{moov_body}
use Rattle.seal_media.proofs.file.file_of.Goals as goal

pub returns : goal.returns
returns c =
    let plan = c.args.plan.now in
    let media = c.args.media.now in
    let movie : c.append_moov.new.out ≡ boxed (codes "moov") (moov_body plan media.tracks) = rw (c.new-movie.ensures, c.as_slice.ensures) at c.in_ok-append_moov.ensures in
    let filled = rw (c.in_ok-file.ensures.items, c.as_slice-2.ensures, movie) at c.in_ok-extend_from_slice.ensures.items in
    let fragments = rw (filled, c.as_slice-3.ensures) at c.in_ok-append_fragments.ensures in
    record {
      sealed = record { tracks = media.tracks; fragments = fragments.sealed };
      media = record { tracks = refl; fragments = fragments.are };
      file = c.from_vec.ensures ∙ fragments.behind;
    }
