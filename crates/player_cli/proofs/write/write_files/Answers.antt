use Rattle.std.proofs.Common.{◌≡◌, inl, inr, ap, ◌∙◌}
use Rattle.std.proofs.lemmas.List.{get_or_default}
use Rattle.std.proofs.lemmas.Result.{err_from_is_err_and}
use Rattle.player_cli.specs.FileText.{FileText}
use Rattle.player_cli.specs.Files.{file_at}
use Rattle.player_cli.proofs.FilesWritten.{files_on, stops_at_start, stops_in_text}
use Rattle.player_cli.proofs.write.write_files.Goals as goal

pub files-preserved : goal.files-preserved
files-preserved g c =
    let state = g.S.Shelf.state in
    let at : c.index-files-i.result ≡ file_at c.args.files.now c.files.i = c.index-files-i.is ∙ get_or_default c.args.files.now c.files.i _ _ c.files-test.true in
    let name : c.name.result.now ≡ (file_at c.args.files.now c.files.i).name = c.name.ensures ∙ ap (λ (f : FileText). f.name) at in
    let again : c.name-in-files.result.now ≡ (file_at c.args.files.now c.files.i).name = c.name-in-files.ensures ∙ ap (λ (f : FileText). f.name) at in
    let text : c.text.result.now ≡ (file_at c.args.files.now c.files.i).text = c.text.ensures ∙ ap (λ (f : FileText). f.text) at in
    files_on (state c.args.shelf.now) (state c.files.shelf) (state c.start.new.self) (state c.append_text.new.shelf) c.args.files.now c.files.i c.start.result c.append_text.result c.requires c.files-test.true c.files.invariant (rw name at c.start.ensures.others) c.start.ensures.said c.start.ensures.tells c.start.ensures.cause (rw (again, text) at c.in_ok-append_text.ensures.file) (rw again at c.append_text.ensures.others) c.append_text.ensures.said c.append_text.ensures.tells c.append_text.ensures.cause

pub returns-in_err-start-clause-err : goal.returns-in_err-start-clause-err
returns-in_err-start-clause-err g c =
    let state = g.S.Shelf.state in
    let at : c.index-files-i.result ≡ file_at c.args.files.now c.files.i = c.index-files-i.is ∙ get_or_default c.args.files.now c.files.i _ _ c.files-test.true in
    let name : c.name.result.now ≡ (file_at c.args.files.now c.files.i).name = c.name.ensures ∙ ap (λ (f : FileText). f.name) at in
    let p = err_from_is_err_and c.from_residual.result c.from_residual.ensures.1 in
    rw p.1 (inl (stops_at_start (state c.args.shelf.now) (state c.files.shelf) (state c.start.new.self) c.args.files.now c.files.i c.requires c.files-test.true c.files.invariant (rw name at c.start.ensures.others) c.start.ensures.said c.start.ensures.tells))

pub returns-in_err-append_text-clause-err : goal.returns-in_err-append_text-clause-err
returns-in_err-append_text-clause-err g c =
    let state = g.S.Shelf.state in
    let at : c.index-files-i.result ≡ file_at c.args.files.now c.files.i = c.index-files-i.is ∙ get_or_default c.args.files.now c.files.i _ _ c.files-test.true in
    let name : c.name.result.now ≡ (file_at c.args.files.now c.files.i).name = c.name.ensures ∙ ap (λ (f : FileText). f.name) at in
    let again : c.name-in-files.result.now ≡ (file_at c.args.files.now c.files.i).name = c.name-in-files.ensures ∙ ap (λ (f : FileText). f.name) at in
    let text : c.text.result.now ≡ (file_at c.args.files.now c.files.i).text = c.text.ensures ∙ ap (λ (f : FileText). f.text) at in
    let p = err_from_is_err_and c.from_residual-in_err-append_text.result c.from_residual-in_err-append_text.ensures.1 in
    rw p.1 (inr (stops_in_text (state c.args.shelf.now) (state c.files.shelf) (state c.start.new.self) (state c.append_text.new.shelf) c.args.files.now c.files.i c.requires c.files-test.true c.files.invariant (rw name at c.start.ensures.others) c.start.ensures.said c.start.ensures.tells (rw (again, text) at c.in_err-append_text.ensures.front) (rw again at c.append_text.ensures.others) c.append_text.ensures.said c.append_text.ensures.tells))
