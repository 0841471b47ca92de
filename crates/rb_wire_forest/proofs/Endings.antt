-- The step of the fault that a node ends with.
use Rattle.std.proofs.Common.{◌≡◌, ◌≢◌, ◌+◌, ℕ, List, length, refl, arith, ap, sym, ◌∙◌, Option, None, Some, Ok, Err, Bool, true, false, cond, nat_eq}
use Rattle.std.proofs.lemmas.Bool.Decides.{nat_tests}
use Rattle.rb_trees.specs.declared.versions.Version.{Version}
use Rattle.rb_trees.specs.declared.forests.NodeFault.{NodeFault}
use Rattle.rb_meaning_bytes.specs.formats.Fields.{Byte, Tag, bad_tag}
use Rattle.rb_meaning_bytes.specs.formats.Formats.{Done, ◌>>=◌, the}
use Rattle.rb_meaning_bytes.specs.formats.Reading.{Fault, Read, read, look, on}
use Rattle.rb_meaning_bytes.specs.formats.Forests as format
use Rattle.rb_meaning_bytes.specs.formats.Forests.{end}
use Rattle.rb_meaning_bytes.specs.formats.Values.{natural}
use Rattle.rb_meaning_bytes.specs.Fits.{step_of}
use Rattle.rb_meaning_bytes.proofs.formats.Exact.{bound}
use Rattle.rb_meaning_bytes.proofs.formats.Steps.{by_tag}
use Rattle.rb_wire_forest.specs.Fronts.{EndsAt}
use Rattle.rb_wire_forest.proofs.Equations.{end_read}

abbrev made : ℕ → ℕ → ℕ → List ℕ → Option NodeFault
made step at code words = Some (record { step = step; at = at; fault = record { code = code; text = words } })

abbrev and_rest : Option NodeFault → List ℕ → Option NodeFault × List ℕ
and_rest f rest = (f, rest)

abbrev got : Option NodeFault → List ℕ → Read (Option NodeFault)
got f rest = Ok (f, rest)

abbrev lost : Fault → Read (Option NodeFault)
lost e = Err e

-- what is read behind a fault's step and its position
abbrev behind_place : Version → ℕ → ℕ → List ℕ → Read (Option NodeFault)
behind_place version step at bytes = on (look (Tag format.is_fault_code) bytes) (λ code rest. read (format.fault_text version code >>= λ words. Done (made step at code words)) rest)

abbrev behind_step : Version → ℕ → List ℕ → Read (Option NodeFault)
behind_step version step bytes = on (read (natural version) bytes) (λ at rest. behind_place version step at rest)

fault_read : (version : Version) (bytes : List ℕ) → read (format.fault version) bytes ≡ on (read (natural version) bytes) (λ step rest. behind_step version step rest)
unfolding read
fault_read version bytes = bound (natural version) (λ step. natural version >>= λ at. the (Tag format.is_fault_code) >>= λ code. format.fault_text version code >>= λ words. Done (made step at code words)) bytes ∙ go (read (natural version) bytes)
  where
    go : (r : Read ℕ) → on r (λ step rest. read (natural version >>= λ at. the (Tag format.is_fault_code) >>= λ code. format.fault_text version code >>= λ words. Done (made step at code words)) rest)
        ≡ on r (λ step rest. behind_step version step rest)
    go (Ok x) = bound (natural version) (λ at. the (Tag format.is_fault_code) >>= λ code. format.fault_text version code >>= λ words. Done (made x.0 at code words)) x.1
    go (Err e) = refl

worded : (version : Version) (step at code : ℕ) (bytes : List ℕ) → read (format.fault_text version code >>= λ words. Done (made step at code words)) bytes
    ≡ on (read (format.fault_text version code) bytes) (λ words rest. got (made step at code words) rest)
unfolding read
worded version step at code bytes = bound (format.fault_text version code) (λ words. Done (made step at code words)) bytes

-- a fault's step comes first
fault_first : (version : Version) (bytes : List ℕ) (step : ℕ) (rest : List ℕ) (f : Option NodeFault) (after : List ℕ) → read (natural version) bytes ≡ Ok (step, rest) → read (format.fault version) bytes ≡ Ok (f, after)
    → step_of f ≡ Some step
fault_first version bytes step rest f after h i =
    by_place (read (natural version) rest) (sym (fault_read version bytes ∙ ap (λ r. on r (λ s q. behind_step version s q)) h) ∙ i)
  where
    by_text : (at code : ℕ) (r : Read (List ℕ)) → on r (λ words q. Ok (made step at code words, q)) ≡ Ok (f, after) → step_of f ≡ Some step
    by_text at code (Ok x) j =
        let e : and_rest (made step at code x.0) x.1 ≡ and_rest f after = cc in
        sym (ap (λ y. step_of y.0) e)
    by_text at code (Err e) j = absurd cc

    by_code : (at : ℕ) (r : Read ℕ) → on r (λ code q. read (format.fault_text version code >>= λ words. Done (made step at code words)) q) ≡ Ok (f, after) → step_of f ≡ Some step
    by_code at (Ok x) j = by_text at x.0 (read (format.fault_text version x.0) x.1) (sym (worded version step at x.0 x.1) ∙ j)
    by_code at (Err e) j = absurd cc

    by_place : (r : Read ℕ) → on r (λ at q. behind_place version step at q) ≡ Ok (f, after) → step_of f ≡ Some step
    by_place (Ok x) j = by_code x.0 (look (Tag format.is_fault_code) x.1) j
    by_place (Err e) j = absurd cc

-- An end without a tag isn't read.
pub no_end_tag : (version : Version) (bytes : List ℕ) (e : Fault) → look Byte bytes ≡ Err e → EndsAt version bytes None
no_end_tag version bytes e h f rest i =
    let j : lost e ≡ got f rest = sym (end_read version bytes ∙ ap (λ r. on r (λ b q. by_tag (format.ends version) b q)) h) ∙ i in
    absurd cc

-- what is read behind an end's tag
ends_by : (version : Version) (bytes : List ℕ) (tag : ℕ) (behind : List ℕ) → look Byte bytes ≡ Ok (tag, behind)
    → read (end version) bytes ≡ cond (nat_eq tag 0x00) (read (Done None) behind) (cond (nat_eq tag 0x01) (read (format.fault version) behind) (Err (bad_tag, length behind + 1)))
ends_by version bytes tag behind h = end_read version bytes ∙ ap (λ r. on r (λ b q. by_tag (format.ends version) b q)) h

-- An end with another tag than a fault's has none.
pub other_end : (version : Version) (bytes : List ℕ) (tag : ℕ) (behind : List ℕ) → look Byte bytes ≡ Ok (tag, behind) → tag ≢ 0x01 → EndsAt version bytes None
unfolding read
other_end version bytes tag behind h n f rest i = go (nat_eq tag 0x00) (sym (ap (λ b. cond (nat_eq tag 0x00) (got None behind) (cond b (read (format.fault version) behind) (lost (bad_tag, length behind + 1)))) no_fault) ∙ sym (ends_by version bytes tag behind h) ∙ i)
  where
    no_fault : nat_eq tag 0x01 ≡ false
    no_fault = grind (arith, nat_tests, n)

    go : (b : Bool) → cond b (got None behind) (lost (bad_tag, length behind + 1)) ≡ Ok (f, rest) → None ≡ step_of f
    go true j =
        let e : and_rest None behind ≡ and_rest f rest = cc in
        ap (λ y. step_of y.0) e
    go false j = absurd cc

fault_end : (version : Version) (bytes : List ℕ) (tag : ℕ) (behind : List ℕ) → look Byte bytes ≡ Ok (tag, behind) → tag ≡ 0x01 → read (end version) bytes ≡ read (format.fault version) behind
fault_end version bytes tag behind h n =
    ends_by version bytes tag behind h ∙ ap (λ t. cond (nat_eq t 0x00) (read (Done None) behind) (cond (nat_eq t 0x01) (read (format.fault version) behind) (Err (bad_tag, length behind + 1)))) n

-- A fault has a step.
pub no_step : (version : Version) (bytes : List ℕ) (tag : ℕ) (behind : List ℕ) (e : Fault) → look Byte bytes ≡ Ok (tag, behind) → tag ≡ 0x01 → read (natural version) behind ≡ Err e → EndsAt version bytes None
no_step version bytes tag behind e h n k f rest i =
    let j : lost e ≡ got f rest = sym (fault_read version behind ∙ ap (λ r. on r (λ s q. behind_step version s q)) k) ∙ sym (fault_end version bytes tag behind h n) ∙ i in
    absurd cc

pub end_at : (version : Version) (bytes : List ℕ) (tag : ℕ) (behind : List ℕ) (step : ℕ) (rest : List ℕ) → look Byte bytes ≡ Ok (tag, behind) → tag ≡ 0x01 → read (natural version) behind ≡ Ok (step, rest) → EndsAt version bytes (Some step)
end_at version bytes tag behind step rest h n k f after i = sym (fault_first version behind step rest f after k (sym (fault_end version bytes tag behind h n) ∙ i))
