use Rattle.std.proofs.Common.{◌≡◌, ℕ, List, ◌++◌, take, ap, sym, subst, ◌∙◌}
use Rattle.std.specs.Prelude.{All, length}
use Rattle.eme_types.specs.declared.entry.Entry.{Entry}
use Rattle.output_order.specs.Log.{log_of}
use Rattle.output_order.specs.TrackFile.{file_of}
use Rattle.output_order.specs.News.{IsMarkOf}
use Rattle.output_order.proofs.Beyond.{front_is, front_within}
use Rattle.output_order.proofs.since.news_since.Goals as goal

pub log_beyond-requires : goal.log_beyond-requires
log_beyond-requires c =
    let h : List Entry = c.args.cdm.now.history in
    let m = c.requires in record {
      within = front_within m.front h c.args.mark.now.entries m.goes_on m.of.entries;
      fed = c.fed_first-before.ensures;
    }

pub fed_first-before-requires : goal.fed_first-before-requires
fed_first-before-requires c =
    let m = c.requires in
    front_within m.front c.args.cdm.now.history c.args.mark.now.entries m.goes_on m.of.entries

pub files_beyond-requires : goal.files_beyond-requires
files_beyond-requires c =
    let m = c.requires in
    subst (λ (es : List Entry). IsMarkOf c.args.cdm.now.tracks es c.args.mark.now) (sym (front_is m.front c.args.cdm.now.history c.args.mark.now.entries m.goes_on m.of.entries)) m.of

pub returns : goal.returns
returns c = λ front p of.
    (let ids : List ℕ = c.args.cdm.now.tracks in
    let h : List Entry = c.args.cdm.now.history in
    let is : take c.args.mark.now.entries h ≡ front = front_is front h c.args.mark.now.entries p of.entries in
    record {
      log = c.in_ok-log.ensures ∙ ap (λ (es : List Entry). log_of ids es ++ c.in_ok-log.log) is;
      order = c.in_ok-files.ensures.order;
      files = subst (λ (es : List Entry). All (λ x. file_of ids h x.0 ≡ file_of ids es x.0 ++ x.1) c.in_ok-files.files.texts) is c.in_ok-files.ensures.texts;
      mark = record { entries = ap length c.history.ensures.items; published = c.in_ok-files.ensures.published };
    })
