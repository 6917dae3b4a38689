use Rattle.std.proofs.Common.{◌≡◌, ◌≤◌, ◌+◌, ◌++◌, length, take, drop, vec_len, vec_capacity}
use Rattle.vault_disk.specs.Content.{wrote}
use Rattle.vault_disk.proofs.bytes.write_bytes.Given as goal

abbrev pub invariant-loop-i : goal.invariant-loop-i
invariant-loop-i l = record {
  bytes : l.content.items ≡ take l.place l.initial.content.items ++ take l.i l.bytes ++ drop (l.place + l.i) l.initial.content.items;
  steps : l.steps.items ≡ l.initial.steps.items ++ wrote l.place (take l.i l.bytes);
  longer : vec_len l.content ≤ vec_len l.initial.content + l.i;
  inside : l.place + l.i ≤ vec_len l.content;
  noted : vec_len l.steps ≡ vec_len l.initial.steps + l.i;
  room : vec_capacity l.content ≡ vec_capacity l.initial.content;
  note_room : vec_capacity l.steps ≡ vec_capacity l.initial.steps;
}
