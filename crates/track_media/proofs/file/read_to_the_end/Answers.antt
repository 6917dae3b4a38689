use Rattle.std.proofs.Common.{◌≡◌}
use Rattle.std.proofs.lemmas.Result.{err_from_is_err_and}
use Rattle.track_media.specs.declared.kind.MediaFault.TheVariants.{OutOfMemory}
use Rattle.track_media.proofs.Ahead.{whole_start, whole_refused}
use Rattle.track_media.proofs.file.read_to_the_end.Goals as goal

pub returns-in_err-reader-clause-value : goal.returns-in_err-reader-clause-value
returns-in_err-reader-clause-value c =
    let p = err_from_is_err_and c.from_residual.result c.from_residual.ensures.1 in
    let f = c.in_err-reader.field-0.0 in
    rw (p.1, p.2) (whole_refused (f ≡ OutOfMemory) c.args.bytes.now f c.in_err-reader.ensures.value)

pub loop-reader-init : goal.loop-reader-init
loop-reader-init c = rw c.new-fragments.ensures (record { whole = whole_start c.args.bytes.now c.in_ok-reader.reader c.in_ok-reader.ensures.value; fed = c.in_ok-reader.ensures.fed })
