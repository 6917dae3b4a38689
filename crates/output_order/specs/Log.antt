-- The log: a line for each entry of a history, and behind it a line for each effect of the entry.
use Rattle.std.specs.Prelude.{ℕ, ◌+◌, List, [], ◌∷◌, ◌++◌, Option, Some, None, codes}
use Rattle.std.specs.List.{flat_map}
use Rattle.std.specs.Fmt.{decimal}
use Rattle.hex.specs.Hex.{encode_lower}
use Rattle.eme_types.specs.declared.kid.Status.{Status}
use Rattle.eme_types.specs.declared.kid.Status.TheVariants.{Usable, Expired, Released, UsableInFuture}
use Rattle.eme_types.specs.declared.media.InitKind.{InitKind}
use Rattle.eme_types.specs.declared.media.InitKind.TheVariants.{Cenc, Keyids}
use Rattle.eme_types.specs.declared.media.Fragment.{Fragment}
use Rattle.eme_types.specs.declared.call.DomError.{DomError}
use Rattle.eme_types.specs.declared.call.DomError.TheVariants.{InvalidState, TypeFault, NotSupported, Quota, UnknownLabel}
use Rattle.eme_types.specs.declared.call.Reason.{Reason}
use Rattle.eme_types.specs.declared.call.Reason.TheVariants.{ClosedByApplication, ResourceEvicted}
use Rattle.eme_types.specs.declared.call.Settled.{Settled}
use Rattle.eme_types.specs.declared.call.Settled.TheVariants.{Resolved, ResolvedFalse, ResolvedConfig, Rejected}
use Rattle.eme_types.specs.declared.call.Event.{Event}
use Rattle.eme_types.specs.declared.call.Event.TheVariants.{Message, KeyStatuses, WaitingForKey, Encrypted}
use Rattle.eme_types.specs.declared.call.Effect.{Effect}
use Rattle.eme_types.specs.declared.call.Effect.TheVariants.{Statuses, Closed, Promise, Fired}
use Rattle.eme_types.specs.declared.entry.Verdict.{Verdict}
use Rattle.eme_types.specs.declared.entry.Verdict.TheVariants.{Taken, Stale}
use Rattle.eme_types.specs.declared.entry.Entry.{Entry}
use Rattle.eme_types.specs.declared.entry.Entry.TheVariants.{Call, Job, Task, Tick, Feed, Evict, Claim, Deliver, GiveUp, Publish, PassClear, WaitForKey, Settle}
use Rattle.key_sessions.specs.World.{World, empty_world}
use Rattle.cdm_state.specs.Feeds.{fragments_fed}
use Rattle.cdm_state.specs.After.{after_entry, effects_of}

-- bytes in lower-case hexadecimal; a dash for no bytes
abbrev pub hex_text : List ℕ → List ℕ
hex_text [] = codes "-"
hex_text (b ∷ more) = encode_lower (b ∷ more)

-- whether a delivery was taken, or came too late
abbrev pub verdict_name : Verdict → List ℕ
verdict_name Taken = codes "taken"
verdict_name Stale = codes "stale"

-- the number of the fragment, from 1, where n were fed before; a dash where none was left
abbrev pub fragment_name : ℕ → Option Fragment → List ℕ
fragment_name n None = codes "-"
fragment_name n (Some f) = decimal (n + 1)

-- what follows the place of an entry, where n fragments were fed before
abbrev pub entry_words : ℕ → Entry → List ℕ
entry_words n (Call lane line call) = codes " call " ++ (decimal lane ++ (codes " " ++ (decimal line ++ codes "\n")))
entry_words n Job = codes " job\n"
entry_words n Task = codes " task\n"
entry_words n (Tick line moment) = codes " tick " ++ (decimal line ++ (codes " " ++ (decimal moment ++ codes "\n")))
entry_words n (Feed line fragment) = codes " feed " ++ (decimal line ++ (codes " " ++ (fragment_name n fragment ++ codes "\n")))
entry_words n (Evict line label) = codes " evict " ++ (decimal line ++ codes "\n")
entry_words n (Claim worker track index session kid) = codes " claim " ++ (decimal worker ++ (codes " " ++ (decimal track ++ (codes " " ++ (decimal index ++ (codes " " ++ (decimal session ++ (codes " " ++ (hex_text kid ++ codes "\n")))))))))
entry_words n (Deliver place verdict) = codes " deliver " ++ (decimal place ++ (codes " " ++ (verdict_name verdict ++ codes "\n")))
entry_words n (GiveUp place) = codes " giveup " ++ (decimal place ++ codes "\n")
entry_words n (Publish track index place) = codes " publish " ++ (decimal track ++ (codes " " ++ (decimal index ++ (codes " " ++ (decimal place ++ codes "\n")))))
entry_words n (PassClear track index) = codes " clear " ++ (decimal track ++ (codes " " ++ (decimal index ++ codes "\n")))
entry_words n (WaitForKey track) = codes " wait " ++ (decimal track ++ codes "\n")
entry_words n (Settle line) = codes " settle " ++ (decimal line ++ codes "\n")

-- the line of an entry at its place, where n fragments were fed before
abbrev pub entry_line : ℕ → ℕ → Entry → List ℕ
entry_line place n e = decimal place ++ entry_words n e

-- Encrypted Media Extensions, MediaKeyStatus
abbrev pub status_name : Status → List ℕ
status_name Usable = codes "usable"
status_name Expired = codes "expired"
status_name Released = codes "released"
status_name UsableInFuture = codes "usable-in-future"

-- a key id and its status
abbrev pub status_words : List ℕ × Status → List ℕ
status_words s = codes " " ++ (hex_text s.0 ++ (codes "=" ++ status_name s.1))

-- why a session is closed (Encrypted Media Extensions, MediaKeySessionClosedReason)
abbrev pub reason_name : Reason → List ℕ
reason_name ClosedByApplication = codes "closed-by-application"
reason_name ResourceEvicted = codes "resource-evicted"

-- the names of Web IDL, and of a label that names no session
abbrev pub error_name : DomError → List ℕ
error_name InvalidState = codes "InvalidStateError"
error_name TypeFault = codes "TypeError"
error_name NotSupported = codes "NotSupportedError"
error_name Quota = codes "QuotaExceededError"
error_name UnknownLabel = codes "UnknownLabel"

-- how a promise was settled
abbrev pub settled_words : Settled → List ℕ
settled_words Resolved = codes " resolved\n"
settled_words ResolvedFalse = codes " resolved false\n"
settled_words (ResolvedConfig text) = codes " resolved " ++ (text ++ codes "\n")
settled_words (Rejected error) = codes " rejected " ++ (error_name error ++ codes "\n")

-- Encrypted Media Extensions, Initialization Data Format Registry
abbrev pub init_name : InitKind → List ℕ
init_name Cenc = codes "cenc"
init_name Keyids = codes "keyids"

-- the line of an event that was fired (Encrypted Media Extensions, Event Summary)
abbrev pub event_line : Event → List ℕ
event_line (Message session id text) = codes "  event message " ++ (decimal session ++ (codes " " ++ (decimal id ++ (codes " license-request " ++ (text ++ codes "\n")))))
event_line (KeyStatuses session) = codes "  event keystatuseschange " ++ (decimal session ++ codes "\n")
event_line (WaitingForKey track) = codes "  event waitingforkey " ++ (decimal track ++ codes "\n")
event_line (Encrypted init) = codes "  event encrypted " ++ (init_name init.kind ++ (codes " " ++ (hex_text init.bytes ++ codes "\n")))

-- the line of an effect
abbrev pub effect_line : Effect → List ℕ
effect_line (Statuses session list) = codes "  statuses " ++ (decimal session ++ (flat_map status_words list ++ codes "\n"))
effect_line (Closed session reason) = codes "  closed " ++ (decimal session ++ (codes " " ++ (reason_name reason ++ codes "\n")))
effect_line (Promise promise how) = codes "  promise " ++ (decimal promise ++ settled_words how)
effect_line (Fired event) = event_line event

-- in order of happening
abbrev pub effect_lines : List Effect → List ℕ
effect_lines effects = flat_map effect_line effects

-- the lines of these entries from a place and a world on, where n fragments were fed before
abbrev pub lines_from : World → ℕ → ℕ → List Entry → List ℕ
lines_from w place n [] = []
lines_from w place n (e ∷ es) = entry_line place n e ++ (effect_lines (effects_of w e) ++ lines_from (after_entry w e) (place + 1) (n + fragments_fed e) es)

-- the log of a history of a core with these tracks; places count from 1
unfoldable pub log_of : List ℕ → List Entry → List ℕ
log_of ids h = lines_from (empty_world ids) 1 0 h
