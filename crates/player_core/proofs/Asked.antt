-- The entries of lines and what is implied: a script and a media settle them.
use Rattle.std.proofs.Common.{◌≡◌, List, sym, ◌∙◌}
use Rattle.eme_types.specs.declared.media.Media.{Media}
use Rattle.eme_types.specs.declared.entry.Entry.{Entry}
use Rattle.script_lang.specs.declared.script.Line.{Line}
use Rattle.output_order.specs.Lane.{asked_in}
use Rattle.serial_play.proofs.Plan.{asked_in_order}
use Rattle.player_core.specs.Alone.{IsAlone}

-- two histories of one script and one media ask the same
pub asked_alike : (script : List Line) (media : Media) (h g : List Entry) → IsAlone script media h → IsAlone script media g → asked_in h ≡ asked_in g
asked_alike script media h g a b = asked_in_order script media h a.complete a.order ∙ sym (asked_in_order script media g b.complete b.order)
