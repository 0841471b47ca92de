-- A payload has one answer.
use Rattle.std.proofs.Common.{◌≡◌, refl, ap, sym, ◌∙◌, List}
use Rattle.std.specs.Prelude.{ℕ, Result, Ok, Err}
use Rattle.rb_trees.specs.declared.versions.Version.{Version}
use Rattle.rb_trees.specs.mirror.Forests.{Node}
use Rattle.rb_meaning_bytes.specs.formats.Fields.{IsBytes}
use Rattle.rb_meaning_bytes.specs.formats.Formats.{Format, Spells}
use Rattle.rb_meaning_bytes.specs.formats.Forests.{forest_of}
use Rattle.rb_meaning_bytes.specs.formats.Refusals.{refusal_message}
use Rattle.rb_meaning_bytes.specs.formats.Messages.{Sent, Refused}
use Rattle.rb_meaning_bytes.specs.formats.ScriptPayloads.{Means}
use Rattle.rb_meaning.specs.Answers.{performed, performs, refuses, HasOneAnswer}

-- A payload means one thing.
abbrev pub MeansOne : Type 0
MeansOne = (payload : List ℕ) (meant other : Result Sent Refused) → IsBytes payload → Means payload meant → Means payload other → meant ≡ other

-- A value has one spelling.
abbrev pub IsAlone : {A : Type 0} → Format A → (A → List ℕ) → Type 0
IsAlone {A} F bytes_of = (bytes : List ℕ) (x : A) → Spells F bytes x → bytes ≡ bytes_of x

pub answered_once : (forest : Version → Node → List ℕ) (refusal : Refused → List ℕ) → MeansOne → ((version : Version) → IsAlone (forest_of version) (forest version)) → IsAlone refusal_message refusal → HasOneAnswer
answered_once forest refusal once alone other service table payload _ _ _ _ _ _ bytes (performs x reply m s) (performs y reply' m' s') =
    let same : x ≡ y = cc (once payload (Ok x) (Ok y) bytes m m') in
    record {
      kinds = refl;
      replies = alone x.version reply (performed service table x).node s ∙ ap (λ z. forest z.version (performed service table z).node) same ∙ sym (alone y.version reply' (performed service table y).node s');
      tables = ap (λ z. (performed service table z).server.table) same;
    }
answered_once forest refusal once alone other service table payload _ _ _ _ _ _ bytes (performs x reply m s) (refuses wrong reply' m' s') =
    let same = once payload (Ok x) (Err wrong) bytes m m' in absurd (cc (same))
answered_once forest refusal once alone other service table payload _ _ _ _ _ _ bytes (refuses wrong reply m s) (performs y reply' m' s') =
    let same = once payload (Err wrong) (Ok y) bytes m m' in absurd (cc (same))
answered_once forest refusal once alone other service table payload _ _ _ _ _ _ bytes (refuses wrong reply m s) (refuses amiss reply' m' s') =
    let same : wrong ≡ amiss = cc (once payload (Err wrong) (Err amiss) bytes m m') in
    record {
      kinds = refl;
      replies = other reply wrong s ∙ ap refusal same ∙ sym (other reply' amiss s');
      tables = refl;
    }
