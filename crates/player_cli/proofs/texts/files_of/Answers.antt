use Rattle.std.proofs.Common.{◌≡◌, ◌<◌, ◌^◌, List, ℕ, get_or, subst, sym, arith, rules}
use Rattle.player_cli.specs.FileText.{FileText}
use Rattle.player_cli.specs.Files.{log_file, track_file, HaveDistinctNames}
use Rattle.player_cli.proofs.DistinctNames.{distinct_names, files_more, files_all}
use Rattle.player_cli.proofs.texts.files_of.Goals as goal

pub loop-id-init : goal.loop-id-init
loop-id-init c = record {
  files = search rules;
  fits = λ k. omega (arith, c.type_inv.ids k);
}

pub loop-id-preserved : goal.loop-id-preserved
loop-id-preserved c =
    let prefix = c.args.prefix.now in
    let run = c.args.cdm.now in
    let one : c.new-in-loop-id.result ≡ track_file prefix run.tracks run.history (get_or c.as_slice-ids.result.now c.loop-id.id-index 0) = search rules in
    record {
      files = files_more (track_file prefix run.tracks run.history) (log_file prefix run.tracks run.history) _ _ c.as_slice-ids.result.now c.loop-id.id-index _ c.loop-id-test.true c.loop-id.invariant.files c.in_ok-push-2.ensures.items one;
      fits = c.loop-id.invariant.fits;
    }

pub returns-clause-files : goal.returns-clause-files
returns-clause-files c =
    let run = c.args.cdm.now in
    let same : c.as_slice-ids.result.now ≡ run.tracks = search rules in
    files_all (track_file c.args.prefix.now run.tracks run.history) _ _ c.as_slice-ids.result.now run.tracks c.loop-id.id-index c.loop-id.invariant.files c.loop-id-test.false same

pub returns-clause-names : goal.returns-clause-names
returns-clause-names c =
    let run = c.args.cdm.now in
    let same : c.as_slice-ids.result.now ≡ run.tracks = search rules in
    let all = files_all (track_file c.args.prefix.now run.tracks run.history) _ _ c.as_slice-ids.result.now run.tracks c.loop-id.id-index c.loop-id.invariant.files c.loop-id-test.false same in
    let P : List FileText → Type 0 = λ files. HaveDistinctNames files in
    let Q : List ℕ → Type 0 = λ ids. ((k : ℕ) → get_or ids k 0 < 2 ^ 64) in
    subst P (sym all) (distinct_names c.args.prefix.now run.tracks run.history c.requires (subst Q same c.loop-id.invariant.fits))
