-- The answer is the one that is due.
use Rattle.std.proofs.Common.{◌≡◌, ◌⊎◌, inl, inr, ℕ, ◌+◌, ◌≤◌, ◌<◌, List, [], ◌∷◌, ◌++◌, length, get_or, drop, Some, None, Option, refl, sym, ◌∙◌, ap, subst, arith, append_assoc, length-append}
use Rattle.std.specs.Prelude.{Result, Ok, Err, IsTrue, IsNone}
use Rattle.eme_types.specs.declared.limits.TheConstants.{MAX_KEY_SET_BYTES}
use Rattle.vault_disk.specs.Disk.{DiskState}
use Rattle.eme_edge.specs.Shelf.{ShelfState}
use Rattle.eme_edge.specs.declared.words.UsageFault.{UsageFault}
use Rattle.key_vault.specs.declared.stored.VaultRecord.{VaultRecord}
use Rattle.key_vault.specs.declared.command.Command.{Command}
use Rattle.key_vault.specs.declared.fault.VaultFault.{VaultFault}
use Rattle.key_vault.specs.Records.{after, replayed, vault}
use Rattle.key_vault.specs.Rules.{allowed}
use Rattle.key_vault.specs.File.{frame, file_of, AllAllowed, IsBroken}
use Rattle.key_vault.specs.Opening.{IsReplayed}
use Rattle.key_vault.proofs.Alike.{allowed_room, one_command}
use Rattle.key_vault.proofs.Once.{one_reading, never_broken}
use Rattle.vault_tool.specs.declared.outcome.VaultKind.TheVariants as kind
use Rattle.vault_tool.specs.declared.licence.LicenceEnd.{LicenceEnd}
use Rattle.vault_tool.specs.declared.licence.LicenceEnd.TheVariants as licence
use Rattle.vault_tool.specs.declared.outcome.VaultOutcome.{VaultOutcome}
use Rattle.vault_tool.specs.declared.outcome.VaultOutcome.TheVariants.{Done, Usage, Refused, NotVault, DiskFault, TooLarge, ReadFault, WriteFault, OutOfMemory}
use Rattle.vault_tool.specs.Words.{Asked}
use Rattle.vault_tool.specs.Words as asked
use Rattle.vault_tool.specs.Calls.{Call, judged}
use Rattle.vault_tool.specs.Calls as call
use Rattle.vault_tool.specs.Licence.{LicenceEnds, end_outcome}
use Rattle.vault_tool.specs.Accepted.{CreatesWith}
use Rattle.vault_tool.specs.Says.{CallSays, StoreSays, HasNoLicence, StoresLicence, AskedSays, SaysOf}
use Rattle.vault_tool.specs.Exact.{due_of, IsJudged, IsNoVault, IsDue, IsDueToCreate, IsDueToStore, IsDueTo, NoFault, IsExact}

-- a file tells one vault
records_once : (file : List ℕ) (r q : List VaultRecord) (g h : ℕ) → IsReplayed file r g → IsReplayed file q h → (r ≡ q) × (g ≡ h)
records_once file r q g h a b =
    let same = one_reading file a.commands b.commands a.file_is b.file_is in
    (a.records_are ∙ ap vault same ∙ sym b.records_are, a.at ∙ ap (λ (cs : List Command). length (file_of cs)) same ∙ sym b.at)

judged_once : (file : List ℕ) (made : Call) (r q : List VaultRecord) (g h : ℕ) → IsReplayed file r g → IsReplayed file q h → judged made r g ≡ judged made q h
judged_once file made r q g h a b =
    let same = records_once file r q g h a b in
    ap (λ (l : List VaultRecord). judged made l g) same.0 ∙ ap (λ (n : ℕ). judged made q n) same.1

-- ---- a file that is no vault is refused at one place

abbrev NoFrame : List VaultRecord → ℕ → List ℕ → Type 0
NoFrame records place tail = (tail ≡ []) ⊎ ((rest : List ℕ) × (tail ≡ 1 ∷ rest) × ((c : Command) (more : List ℕ) → allowed c records place ≡ Ok tt → tail ≡ frame c ++ more → ⊥))

no_frame_here : (records : List VaultRecord) (place gate : ℕ) (c : Command) (xs x tail : List ℕ) → place ≡ gate → NoFrame records place tail → allowed c records gate ≡ Ok tt → tail ≡ (frame c ++ xs) ++ x → ⊥
no_frame_here records place gate c xs x tail at (inl ended) ok is = absurd (omega (arith, ap length (sym ended ∙ is ∙ append_assoc (frame c) xs x)))
no_frame_here records place gate c xs x tail at (inr none) ok is = none.2 c (xs ++ x) (subst (λ (n : ℕ). allowed c records n ≡ Ok tt) (sym at) ok) (is ∙ append_assoc (frame c) xs x)

-- two accepted frames at one place are one
first_frame : (records : List VaultRecord) (gate : ℕ) (c d : Command) (x y : List ℕ) → allowed c records gate ≡ Ok tt → allowed d records gate ≡ Ok tt → frame c ++ x ≡ frame d ++ y → (c ≡ d) × (x ≡ y)
first_frame records gate c d x y ok_c ok_d is =
    let room_c = allowed_room c records gate ok_c in
    let room_d = allowed_room d records gate ok_d in
    one_command c d x y (omega arith) (omega arith) (ap (λ (l : List ℕ). drop 1 l) is)

places : (records : List VaultRecord) (gate p q : ℕ) (cs ds : List Command) (x y : List ℕ) → AllAllowed records gate cs → AllAllowed records gate ds → NoFrame (replayed records cs) p x → NoFrame (replayed records ds) q y
    → p ≡ gate + length (file_of cs) → q ≡ gate + length (file_of ds) → file_of cs ++ x ≡ file_of ds ++ y → p ≡ q
places records gate p q [] [] x y all_c all_d none_x none_y at_p at_q is = omega (arith, at_p, at_q)
places records gate p q [] (d ∷ ds) x y all_c all_d none_x none_y at_p at_q is = absurd (no_frame_here records p gate d (file_of ds) y x (omega (arith, at_p)) none_x all_d.0 is)
places records gate p q (c ∷ cs) [] x y all_c all_d none_x none_y at_p at_q is = absurd (no_frame_here records q gate c (file_of cs) x y (omega (arith, at_q)) none_y all_c.0 (sym is))
places records gate p q (c ∷ cs) (d ∷ ds) x y all_c all_d none_x none_y at_p at_q is =
    let grouped : frame c ++ (file_of cs ++ x) ≡ frame d ++ (file_of ds ++ y) = sym (append_assoc (frame c) (file_of cs) x) ∙ is ∙ append_assoc (frame d) (file_of ds) y in
    let first = first_frame records gate c d (file_of cs ++ x) (file_of ds ++ y) all_c.0 all_d.0 grouped in
    let all_e = subst (λ (k : Command). AllAllowed (after k records) (gate + length (frame k)) ds) (sym first.0) all_d.1 in
    let none_e = subst (λ (k : Command). NoFrame (replayed (after k records) ds) q y) (sym first.0) none_y in
    let at_c : p ≡ gate + length (frame c) + length (file_of cs) = omega (arith, at_p, length-append (frame c) (file_of cs)) in
    let at_d : q ≡ gate + length (frame c) + length (file_of ds) =
    subst (λ (k : Command). q ≡ gate + length (frame k) + length (file_of ds)) (sym first.0) (omega (arith, at_q, length-append (frame d) (file_of ds))) in
    places (after c records) (gate + length (frame c)) p q cs ds x y all_c.1 all_e none_x none_e at_c at_d first.1

one_place : (file : List ℕ) (p q : ℕ) → IsBroken file p → IsBroken file q → p ≡ q
one_place file p q a b = places [] 0 p q a.commands b.commands a.tail b.tail a.accepted b.accepted a.broken b.broken (omega (arith, a.at)) (omega (arith, b.at)) (sym a.bytes ∙ b.bytes)

-- ---- the answer to a call

module _ {D : Type 0} (state : D → DiskState) (may_leave : D → List ℕ → Type 0) (left_since : D → ℕ → List ℕ → Type 0) (old new : D) (s t : ShelfState) (told : IsTrue (state old).tells) (calm : NoFault state may_leave left_since old new s t) where
  abbrev IsAsDue : VaultOutcome → VaultOutcome → Type 0
  IsAsDue outcome due = (outcome ≡ due) ⊎ (outcome ≡ OutOfMemory)

  call_due : (made : Call) (outcome due : VaultOutcome) → CallSays state may_leave left_since old new s t made outcome → IsDue (state old).seen made due → IsAsDue outcome due
  call_due made Done due says (inl judges) =
      let a = says.accepted in
      inl (sym (judges.is ∙ ap due_of (judged_once (state old).seen made judges.records a.records judges.gate a.gate judges.found (a.found told) ∙ a.accepted)))
  call_due made Done due says (inr none) = let f = says.accepted.found told in absurd (never_broken (state old).seen f.commands none.place f.file_is none.broken)
  call_due made (Usage bad) due says is = absurd says
  call_due made (Refused kind) due says (inl judges) =
      let a = says.0 in
      inl (sym (judges.is ∙ ap due_of (judged_once (state old).seen made judges.records a.records judges.gate a.gate judges.found (a.found told) ∙ a.broken) ∙ a.named))
  call_due made (Refused kind) due says (inr none) = let f = says.0.found told in absurd (never_broken (state old).seen f.commands none.place f.file_is none.broken)
  call_due made (NotVault place) due says (inl judges) = absurd (never_broken (state old).seen judges.found.commands place judges.found.file_is (says.0.broken told))
  call_due made (NotVault place) due says (inr none) = inl (ap NotVault (one_place (state old).seen place none.place (says.0.broken told) none.broken) ∙ sym none.is)
  call_due made DiskFault due says is = absurd (calm.disk says.0.rose)
  call_due made TooLarge due says is = absurd says
  call_due made ReadFault due says is = absurd says
  call_due made WriteFault due says is = absurd (calm.writes says.0)
  call_due made OutOfMemory due says is = inr refl

  -- ---- the answer to a store

  missing : (file label : List ℕ) (found : Option (List ℕ)) (due : VaultOutcome) → IsNone found → IsDueToStore file label found due → due ≡ ReadFault
  missing file label None due none is = is
  missing file label (Some bytes) due none is = absurd (cc none)

  no_licence_due : (label name : List ℕ) (end : LicenceEnd) (due : VaultOutcome) → LicenceEnds end s t name → IsTrue s.tells_files → IsDueToStore (state old).seen label (s.file name) due → IsAsDue (end_outcome end) due
  no_licence_due label name licence.TooLarge due ends tells is =
      let more = ends tells in
      let known = subst (λ (f : Option (List ℕ)). IsDueToStore (state old).seen label f due) more.1 is in
      elim known [ inl large ↦ inl (sym large.1) | inr small ↦ absurd (omega (arith, more.2, small.0)) ]
  no_licence_due label name licence.Fault due (inl rose) tells is = absurd (calm.reads rose)
  no_licence_due label name licence.Fault due (inr gone) tells is = inl (sym (missing (state old).seen label (s.file name) due gone.1 is))
  no_licence_due label name licence.OutOfMemory due ends tells is = inr refl

  store_due : (label name : List ℕ) (outcome due : VaultOutcome) → StoreSays state may_leave left_since old new s t label name outcome → IsTrue s.tells_files → IsDueToStore (state old).seen label (s.file name) due → IsAsDue outcome due
  store_due label name outcome due (inl none) tells is =
      subst (λ (o : VaultOutcome). IsAsDue o due) (sym none.is) (no_licence_due label name none.end due none.ends tells is)
  store_due label name outcome due (inr stores) tells is =
      let known = subst (λ (f : Option (List ℕ)). IsDueToStore (state old).seen label f due) (stores.read.told tells) is in
      elim known [ inl large ↦ absurd (omega (arith, large.0, stores.read.small)) | inr small ↦ call_due (call.Store label stores.licence) outcome due stores.says small.1 ]

  -- ---- the answer where a vault is to be made

  create_due : (outcome due : VaultOutcome) → CreatesWith state may_leave left_since old new outcome → IsDueToCreate (state old).seen due → IsAsDue outcome due
  create_due Done due says (inl empty) = inl (sym empty.1)
  create_due Done due says (inr some) = absurd (omega (arith, ap length (says.empty told), some.0))
  create_due (Usage bad) due says is = absurd says
  create_due (Refused kind.NotEmpty) due says (inl empty) = absurd (omega (arith, ap length empty.0, says.0 told))
  create_due (Refused kind.NotEmpty) due says (inr some) = inl (sym some.1)
  create_due (Refused other) due says is = absurd says
  create_due (NotVault place) due says is = absurd says
  create_due DiskFault due says is = absurd (calm.disk says)
  create_due TooLarge due says is = absurd says
  create_due ReadFault due says is = absurd says
  create_due WriteFault due says is = absurd says
  create_due OutOfMemory due says is = inr refl

  asked_due : (what : Asked) (outcome due : VaultOutcome) → AskedSays state may_leave left_since old new s t what outcome → IsDueTo s (state old).seen what due → IsAsDue outcome due
  asked_due asked.Create outcome due says is = create_due outcome due says.0 is
  asked_due (asked.Store label name) outcome due says is = store_due label name outcome due says is.0 is.1
  asked_due (asked.Load label) outcome due says is = call_due (call.Load label) outcome due says.0 is
  asked_due (asked.Release label) outcome due says is = call_due (call.Release label) outcome due says.0 is
  asked_due (asked.Ack label) outcome due says is = call_due (call.Ack label) outcome due says.0 is

module _ {D : Type 0} (state : D → DiskState) (may_leave : D → List ℕ → Type 0) (left_since : D → ℕ → List ℕ → Type 0) (old new : D) (s t : ShelfState) where
  pub exact : (words : Result Asked UsageFault) (outcome : VaultOutcome) → SaysOf state may_leave left_since old new s t words outcome → IsExact state may_leave left_since old new s t words outcome
  exact (Err bad) outcome says = says.0
  exact (Ok what) outcome says = λ told calm due is. asked_due state may_leave left_since old new s t told calm what outcome due says is
