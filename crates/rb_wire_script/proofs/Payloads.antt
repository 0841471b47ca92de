-- What an answer tells of a payload.
use Rattle.std.specs.Prelude.{IfOk}
use Rattle.std.proofs.Common.{◌≡◌, ◌-◌, ℕ, List, length, arith, Option, None, Some, Result, Ok, Err, refl, sym, subst}
use Rattle.rb_trees.specs.declared.values.Value.{Value}
use Rattle.rb_trees.specs.declared.scripts.Script as script
use Rattle.rb_trees.specs.declared.versions.Version.{Version}
use Rattle.rb_trees.specs.declared.validity.ScriptRefusal.{ScriptRefusal}
use Rattle.rb_trees.specs.Outcome as outcome
use Rattle.rb_trees.specs.Outcome.{Tells, Gives, Refuses, refused_as}
use Rattle.rb_trees.specs.mirror.Scripts.{mirror_script}
use Rattle.rb_trees.specs.Validity.{verdict}
use Rattle.rb_meaning_bytes.specs.formats.Fields.{IsBytes}
use Rattle.rb_meaning_bytes.specs.formats.Formats.{Spells}
use Rattle.rb_meaning_bytes.specs.formats.ScriptMessages.{script_message}
use Rattle.rb_meaning_bytes.specs.formats.FormedScripts.{FormedScript, AreInputs}
use Rattle.rb_meaning_bytes.specs.formats.Messages.{Sent, Refused}
use Rattle.rb_meaning_bytes.specs.formats.ScriptPayloads.{Suits, version_of, refused, Means, taken, violated, not_valid}
use Rattle.rb_meaning_bytes.specs.formats.Reading.{read_all}
use Rattle.rb_meaning_bytes.proofs.formats.Exact.{all_refused, left_within}
use Rattle.rb_meaning_bytes.proofs.formats.OnlyScripts.{script_only}
use Rattle.rb_meaning_bytes.proofs.formats.Payloads.{means_once}
use Rattle.rb_wire_script.specs.declared.decoding.ScriptStop.{ScriptStop}
use Rattle.rb_wire_script.specs.Stops.{refusal_of, seen}

-- A script that was read is valid, or is refused so.
pub accepted : (payload : List ℕ) (x : Sent) → Spells script_message payload x → refused_as (refused x.version) (verdict x.script) ≡ Ok tt → Means payload (Ok x)
accepted payload x s h = go (verdict x.script) refl h
  where
    go : (v : Result (Unit {0}) ScriptRefusal) → verdict x.script ≡ v → refused_as (refused x.version) v ≡ Ok tt → Means payload (Ok x)
    go (Ok u) i k = taken x s i
    go (Err r) i k = absurd cc

pub denied : (payload : List ℕ) (x : Sent) (told : Option Refused) → Spells script_message payload x → Refuses told (refused_as (refused x.version) (verdict x.script)) → outcome.Refused (Means payload) told
denied payload x None s h = tt
denied payload x (Some d) s h = go (verdict x.script) refl h
  where
    go : (v : Result (Unit {0}) ScriptRefusal) → verdict x.script ≡ v → refused_as (refused x.version) v ≡ Err d → Means payload (Err d)
    go (Ok u) i k = absurd cc
    go (Err r) i k = let e : refused x.version r ≡ d = cc in subst (λ z. Means payload (Err z)) e (not_valid x r s i)

abbrev pub place : Version → (number at : ℕ) → Refused
place version number at = record { version = version; number = number; at = at }

-- A payload that reading stops in is violated there.
pub violated_at : (payload : List ℕ) (version : Version) (number left : ℕ) → IsBytes payload → version ≡ version_of payload
    → read_all script_message payload ≡ Err (number, left) → Means payload (Err (place version number (length payload - left)))
violated_at payload version number left b named h =
    let l = left_within script_message payload number left b h in
    subst (λ v. Means payload (Err (place v number (length payload - left)))) (sym named)
    (violated number (length payload - left) (all_refused script_message payload number left (length payload - left) b h (omega arith)))

-- what is answered
abbrev pub Answer : Type 0
Answer = Result (Version × script.Script × List Value) ScriptStop

-- What an answer tells is all that the payload comes to.
pub told_alone : (payload : List ℕ) (result : Answer) → IsBytes payload → Tells seen refusal_of result (Means payload)
    → (meant : Result Sent Refused) → Means payload meant → Gives seen refusal_of result meant
told_alone payload (Ok x) b told meant m = means_once payload meant (Ok (seen x)) b m told
told_alone payload (Err e) b told meant m = go (refusal_of e) told
  where
    go : (r : Option Refused) → outcome.Refused (Means payload) r → Refuses r meant
    go None told = tt
    go (Some d) told = means_once payload meant (Err d) b m told

-- What is taken spells a valid script.
taken_of : (payload : List ℕ) (x : Sent) → Means payload (Ok x) → Spells script_message payload x × (verdict x.script ≡ Ok tt)
taken_of payload _ (taken x s e) = (s, e)

pub told_formed : (payload : List ℕ) (result : Answer) → Tells seen refusal_of result (Means payload) → IfOk result (λ x. FormedScript (mirror_script x.1))
told_formed payload (Ok x) told = (script_only.made payload (seen x) (taken_of payload (seen x) told).0).fits.formed
told_formed payload (Err e) told = tt

pub told_suits : (payload : List ℕ) (result : Answer) → Tells seen refusal_of result (Means payload) → IfOk result (λ x. Suits x.0 (mirror_script x.1))
told_suits payload (Ok x) told = (script_only.made payload (seen x) (taken_of payload (seen x) told).0).fits.suits
told_suits payload (Err e) told = tt

pub told_values : (payload : List ℕ) (result : Answer) → Tells seen refusal_of result (Means payload) → IfOk result (λ x. AreInputs (mirror_script x.1) x.2)
told_values payload (Ok x) told = (script_only.made payload (seen x) (taken_of payload (seen x) told).0).fits.values
told_values payload (Err e) told = tt

pub told_valid : (payload : List ℕ) (result : Answer) → Tells seen refusal_of result (Means payload) → IfOk result (λ x. verdict (mirror_script x.1) ≡ Ok tt)
told_valid payload (Ok x) told = (taken_of payload (seen x) told).1
told_valid payload (Err e) told = tt
