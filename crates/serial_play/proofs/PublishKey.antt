-- At a publication the sample's output is what it gives under the picks, where the sessions agree.
use Rattle.std.proofs.Common.{◌≡◌, ℕ, true, List, [], ◌∷◌, Option, Some, None, is_some, refl, ap, ◌∙◌}
use Rattle.eme_types.specs.declared.kid.KeyBytes.{KeyBytes}
use Rattle.eme_types.specs.declared.sample.EncSample.{EncSample}
use Rattle.eme_types.specs.declared.sample.Protect.{Protect}
use Rattle.eme_types.specs.declared.entry.Entry.{Entry}
use Rattle.sample_crypt.specs.Decryption.{decryption}
use Rattle.key_sessions.specs.Machine.{Machine}
use Rattle.key_sessions.specs.Keys.{held_key, pick}
use Rattle.key_sessions.specs.Agree.{Agree}
use Rattle.cdm_state.specs.Output.{fed_sample, claim_key, opened}
use Rattle.cdm_state.specs.History.{world}
use Rattle.cdm_state.specs.OfSamples.{IsOfItsSample}
use Rattle.cdm_state.proofs.Claiming.{pick_holds}
use Rattle.cdm_state.proofs.Usable.{held_picked}
use Rattle.serial_play.specs.Serial.{opened_by, passed_as, passed}

-- the session and the key of a pick that is there
picked_as : (o : Option (ℕ × KeyBytes)) → is_some o ≡ true → (s : ℕ) × (k : KeyBytes) × (o ≡ Some (s, k))
picked_as None there = absurd cc
picked_as (Some (s, k)) there = (s, k, refl)

-- a protected sample whose key some session holds gives its decryption under that key
pub held_passes : (n : Machine) (session : ℕ) (p : Protect) (sample : EncSample) (key : KeyBytes) → Agree n → held_key n session p.kid ≡ Some key → sample.protect ≡ Some p → passed (pick n) sample ≡ Some (decryption sample key)
held_passes n session p sample key agree held protected =
    let it = picked_as (pick n p.kid) (held_picked n session p.kid key held) in
    let same : it.1 ≡ key = agree it.0 session p.kid it.1 key (pick_holds n p.kid it.0 it.1 it.2) held in
    ap (passed_as (pick n) sample) protected ∙ (ap (opened_by sample) it.2 ∙ ap (λ (k : KeyBytes). Some (decryption sample k)) same)

-- a clear sample gives its bytes
pub clear_passes : (n : Machine) (sample : EncSample) → sample.protect ≡ None → passed (pick n) sample ≡ Some sample.bytes
clear_passes n sample clear = ap (passed_as (pick n) sample) clear

-- a protected sample without a pick gives nothing
pub unpicked_stops : (n : Machine) (p : Protect) (sample : EncSample) → pick n p.kid ≡ None → sample.protect ≡ Some p → passed (pick n) sample ≡ None
unpicked_stops n p sample none protected = ap (passed_as (pick n) sample) protected ∙ ap (opened_by sample) none

-- what a publication puts out
pub published_bytes : (ids : List ℕ) (h : List Entry) (place track index : ℕ) (o : IsOfItsSample ids h place track index) → opened (fed_sample (world ids h) track index) (claim_key ids h place) ≡ decryption o.sample o.key ∷ []
published_bytes ids h place track index o = ap (λ (s : Option EncSample). opened s (claim_key ids h place)) o.fed ∙ ap (opened (Some o.sample)) o.claimed
