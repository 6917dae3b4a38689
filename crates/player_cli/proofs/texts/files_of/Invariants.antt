use Rattle.std.proofs.Common.{◌≡◌, ◌<◌, ◌^◌, ◌∷◌, ℕ, map, take, get_or}
use Rattle.player_cli.specs.Files.{log_file, track_file}
use Rattle.player_cli.proofs.texts.files_of.Given as goal

-- the log, and the files of the tracks so far
abbrev pub invariant-loop-id : goal.invariant-loop-id
invariant-loop-id l = record {
  files : l.files.items ≡ log_file l.prefix l.cdm.tracks l.cdm.history ∷ map (track_file l.prefix l.cdm.tracks l.cdm.history) (take l.id-index l.ids);
  fits : (k : ℕ) → get_or l.ids k 0 < 2 ^ 64;
}
