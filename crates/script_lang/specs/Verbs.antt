-- The verbs, and the words that each takes.
use Rattle.std.specs.Prelude.{ℕ, Bool, true, false, if◌then◌else◌, List, codes, Option, Some, None}
use Rattle.std.specs.Str.{bytes_eq}
use Rattle.script_lang.specs.declared.verb.Verb.{Verb}
use Rattle.script_lang.specs.declared.verb.Verb.TheVariants.{Access, Create, Request, Update, Close, Remove, Certificate, Feed, Clock, Evict, Settle}

-- the verb of this name
abbrev pub verb_of : List ℕ → Option Verb
verb_of word =
    if bytes_eq word (codes "access") then Some Access
    else if bytes_eq word (codes "create") then Some Create
    else if bytes_eq word (codes "request") then Some Request
    else if bytes_eq word (codes "update") then Some Update
    else if bytes_eq word (codes "close") then Some Close
    else if bytes_eq word (codes "remove") then Some Remove
    else if bytes_eq word (codes "certificate") then Some Certificate
    else if bytes_eq word (codes "feed") then Some Feed
    else if bytes_eq word (codes "clock") then Some Clock
    else if bytes_eq word (codes "evict") then Some Evict
    else if bytes_eq word (codes "settle") then Some Settle
    else None

-- how many words stand behind the verb, before data or a moment: a name, a label, a label and a type
abbrev pub plain_words : Verb → ℕ
plain_words Access = 1
plain_words Create = 2
plain_words Request = 2
plain_words Update = 1
plain_words Close = 1
plain_words Remove = 1
plain_words Certificate = 0
plain_words Feed = 0
plain_words Clock = 0
plain_words Evict = 1
plain_words Settle = 0

-- the first of these words is a label
abbrev pub takes_label : Verb → Bool
takes_label Access = false
takes_label Create = true
takes_label Request = true
takes_label Update = true
takes_label Close = true
takes_label Remove = true
takes_label Certificate = false
takes_label Feed = false
takes_label Clock = false
takes_label Evict = true
takes_label Settle = false

-- data is last
abbrev pub takes_data : Verb → Bool
takes_data Access = true
takes_data Create = false
takes_data Request = true
takes_data Update = true
takes_data Close = false
takes_data Remove = false
takes_data Certificate = true
takes_data Feed = false
takes_data Clock = false
takes_data Evict = false
takes_data Settle = false

-- the verb creates a session
abbrev pub is_create : Verb → Bool
is_create Access = false
is_create Create = true
is_create Request = false
is_create Update = false
is_create Close = false
is_create Remove = false
is_create Certificate = false
is_create Feed = false
is_create Clock = false
is_create Evict = false
is_create Settle = false

-- a moment is last
abbrev pub is_clock : Verb → Bool
is_clock Access = false
is_clock Create = false
is_clock Request = false
is_clock Update = false
is_clock Close = false
is_clock Remove = false
is_clock Certificate = false
is_clock Feed = false
is_clock Clock = true
is_clock Evict = false
is_clock Settle = false

-- the player's own verbs stand on lane 0 alone
abbrev pub is_of_lane_0 : Verb → Bool
is_of_lane_0 Access = false
is_of_lane_0 Create = false
is_of_lane_0 Request = false
is_of_lane_0 Update = false
is_of_lane_0 Close = false
is_of_lane_0 Remove = false
is_of_lane_0 Certificate = false
is_of_lane_0 Feed = true
is_of_lane_0 Clock = true
is_of_lane_0 Evict = true
is_of_lane_0 Settle = true
