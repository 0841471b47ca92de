-- What reading a refusal is, and what a payload that spells one gives.
use Rattle.std.proofs.Common.{◌≡◌, ◌+◌, ℕ, Bool, true, false, cond, nat_eq, List, [], ◌∷◌, length, refl, ap, ◌∙◌, Option, Some, Ok, Err}
use Rattle.rb_trees.specs.declared.versions.Version.{Version}
use Rattle.rb_trees.specs.declared.versions.Version.TheVariants.{One, Two}
use Rattle.rb_meaning_bytes.specs.formats.Fields.{IsBytes, Byte, Tag, bad_tag}
use Rattle.rb_meaning_bytes.specs.formats.Formats.{Done, ◌>>=◌}
use Rattle.rb_meaning_bytes.specs.formats.Messages.{Refused}
use Rattle.rb_meaning_bytes.specs.formats.Payloads.{IsRefusal}
use Rattle.rb_meaning_bytes.specs.formats.Reading.{Fault, Read, read, look, on, read_all}
use Rattle.rb_meaning_bytes.specs.formats.Refusals.{is_refusal_number, refusal, refusal_message}
use Rattle.rb_meaning_bytes.specs.formats.Values.{natural}
use Rattle.rb_meaning_bytes.proofs.formats.Exact.{bound, all_spells, read_once, refused_not_read}
use Rattle.rb_meaning_bytes.proofs.formats.Steps.{by_tag, chosen}
use Rattle.rb_wire_forest.specs.Refused.{refused_with}
use Rattle.rb_wire_forest.specs.Versions.{version_at, version_by}

-- behind the number of a refusal: its place
abbrev pub placed : Version → ℕ → List ℕ → Read Refused
placed version number bytes = on (read (natural version) bytes) (λ at rest. Ok (refused_with version number at, rest))

-- behind its version
abbrev pub numbered : Version → List ℕ → Read Refused
numbered version bytes = on (look (Tag (λ n. is_refusal_number version n)) bytes) (λ number rest. placed version number rest)

numbered_read : (version : Version) (bytes : List ℕ) → read (refusal version) bytes ≡ numbered version bytes
unfolding read
numbered_read version bytes = go (look (Tag (λ n. is_refusal_number version n)) bytes)
  where
    go : (r : Read ℕ) → on r (λ number rest. read (natural version >>= λ at. Done (refused_with version number at)) rest) ≡ on r (λ number rest. placed version number rest)
    go (Ok x) = bound (natural version) (λ at. Done (refused_with version x.0 at)) x.1
    go (Err e) = refl

refusal_by : (b : ℕ) (rest : List ℕ) → by_tag ((0x01, refusal One) ∷ (0x02, refusal Two) ∷ []) b rest ≡ on (version_by b rest) (λ version after. numbered version after)
refusal_by b rest =
    ap (λ r. cond (nat_eq b 0x01) r (cond (nat_eq b 0x02) (read (refusal Two) rest) (Err (bad_tag, length rest + 1)))) (numbered_read One rest)
    ∙ ap (λ r. cond (nat_eq b 0x01) (numbered One rest) (cond (nat_eq b 0x02) r (Err (bad_tag, length rest + 1)))) (numbered_read Two rest)
    ∙ go (nat_eq b 0x01) (nat_eq b 0x02)
  where
    go : (v w : Bool) → cond v (numbered One rest) (cond w (numbered Two rest) (Err (bad_tag, length rest + 1)))
        ≡ on (cond v (Ok (One, rest)) (cond w (Ok (Two, rest)) (Err (bad_tag, length rest + 1)))) (λ version after. numbered version after)
    go true w = refl
    go false true = refl
    go false false = refl

-- a refusal: its version, its number and its place
pub refusal_read : (bytes : List ℕ) → read refusal_message bytes ≡ on (version_at bytes) (λ version rest. numbered version rest)
unfolding refusal_message version_at
refusal_read bytes = chosen ((0x01, refusal One) ∷ (0x02, refusal Two) ∷ []) bytes ∙ go (look Byte bytes)
  where
    go : (r : Read ℕ) → on r (λ b rest. by_tag ((0x01, refusal One) ∷ (0x02, refusal Two) ∷ []) b rest) ≡ on (on r (λ b rest. version_by b rest)) (λ version rest. numbered version rest)
    go (Ok x) = refusal_by x.0 x.1
    go (Err e) = refl

-- ---- a payload as a whole

pub is_refusal : (payload : List ℕ) (r : Refused) → IsBytes payload → read_all refusal_message payload ≡ Ok r → IsRefusal payload r.number r.at
is_refusal payload r b h = (r.version, all_spells refusal_message payload r b h)

abbrev told : Refused → Option (ℕ × ℕ)
told r = Some (r.number, r.at)

pub only_refusal : (payload : List ℕ) (r : Refused) (number at : ℕ) → read_all refusal_message payload ≡ Ok r → IsRefusal payload number at → told r ≡ Some (number, at)
only_refusal payload r number at h s = ap told (read_once refusal_message payload r (refused_with s.0 number at) h s.1)

pub no_refusal : (payload : List ℕ) (e : Fault) (number at : ℕ) → read_all refusal_message payload ≡ Err e → IsRefusal payload number at → ⊥
no_refusal payload e number at h s = refused_not_read refusal_message payload e (refused_with s.0 number at) h s.1
