use Rattle.std.proofs.Common.{◌≡◌, subst}
use Rattle.frag_boxes.specs.Tracks.{track_ids}
use Rattle.sample_aux.specs.declared.protection.MovieProtection.{MovieProtection}
use Rattle.sample_aux.specs.Checked.{movie_protection, protected_ids}
use Rattle.sample_aux.proofs.Known.{ids_same}
use Rattle.sample_aux.proofs.Within.{same_ok}
use Rattle.sample_aux.proofs.fragment.resolve.Goals as goal

pub returns-clause-known : goal.returns-clause-known
returns-clause-known c =
    let same : movie_protection c.args.file.now c.args.movie.now ≡ c.in_ok-known.known = same_ok _ _ c.in_ok-known.ensures in
    let ids : protected_ids c.in_ok-known.known ≡ track_ids c.args.movie.now = subst (λ (k : MovieProtection). protected_ids k ≡ track_ids c.args.movie.now) same (ids_same c.args.file.now c.args.movie.now.tracks) in
    rw ids at c.resolve_known.ensures.known
