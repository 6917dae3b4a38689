use Rattle.std.proofs.Common.{◌≡◌, sym, subst, inr, ◌∙◌}
use Rattle.std.proofs.lemmas.Result.{err_from_is_err_and}
use Rattle.frag_boxes.specs.Tracks.{track_ids}
use Rattle.sample_aux.specs.declared.protection.MovieProtection.{MovieProtection}
use Rattle.sample_aux.specs.Checked.{movie_protection, protected_ids}
use Rattle.sample_aux.proofs.Known.{movie_same, ids_same}
use Rattle.sample_aux.proofs.Within.{same_ok}
use Rattle.sample_aux.proofs.protection.read_protection.Goals as goal

pub returns-in_err-check_tracks-clause-exact : goal.returns-in_err-check_tracks-clause-exact
returns-in_err-check_tracks-clause-exact c =
    let p = err_from_is_err_and c.from_residual-in_err-check_tracks.result c.from_residual-in_err-check_tracks.ensures.1 in
    let same : movie_protection c.args.file.now c.args.movie.now ≡ c.in_ok-known.known = same_ok _ _ c.in_ok-known.ensures in
    rw (p.1, p.2) (inr (sym (movie_same c.args.file.now c.args.movie.now) ∙ sym (rw (c.as_slice.ensures, sym same) at c.in_err-check_tracks.ensures)))

pub returns-clause-exact : goal.returns-clause-exact
returns-clause-exact c =
    let same : movie_protection c.args.file.now c.args.movie.now ≡ c.in_ok-known.known = same_ok _ _ c.in_ok-known.ensures in
    sym (movie_same c.args.file.now c.args.movie.now) ∙ sym (rw (c.as_slice.ensures, sym same) at c.in_ok-check_tracks.ensures)

pub returns-clause-ids : goal.returns-clause-ids
returns-clause-ids c =
    let same : movie_protection c.args.file.now c.args.movie.now ≡ c.in_ok-known.known = same_ok _ _ c.in_ok-known.ensures in
    subst (λ (k : MovieProtection). protected_ids k ≡ track_ids c.args.movie.now) same (ids_same c.args.file.now c.args.movie.now.tracks)
