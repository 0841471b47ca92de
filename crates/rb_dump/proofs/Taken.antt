-- Which messages payloads spell, and as which they are shown.
use Rattle.std.proofs.Common.{List, ℕ, refl}
use Rattle.std.specs.Prelude.{Result, Ok, Err, IfOk}
use Rattle.rb_trees.specs.declared.want.Memory.{Memory}
use Rattle.rb_dump.specs.declared.fields.Message.{Message}
use Rattle.rb_dump.specs.declared.fields.Message.TheVariants.{Script, Forest, Refusal}
use Rattle.rb_dump.specs.Verdicts.{IsTaken, IsShownAs}

pub shown_script : (payload : List ℕ) → IsTaken Script payload → IsShownAs payload Script
shown_script payload spelled = record {
  script = λ _. refl;
  forest = λ none _. absurd (none spelled);
  refusal = λ none _ _. absurd (none spelled);
}

pub shown_forest : (payload : List ℕ) → ¬ IsTaken Script payload → IsTaken Forest payload → IsShownAs payload Forest
shown_forest payload none spelled = record {
  script = λ h. absurd (none h);
  forest = λ _ _. refl;
  refusal = λ _ other _. absurd (other spelled);
}

pub shown_refusal : (payload : List ℕ) → ¬ IsTaken Script payload → ¬ IsTaken Forest payload → IsShownAs payload Refusal
shown_refusal payload script forest = record {
  script = λ h. absurd (script h);
  forest = λ _ h. absurd (forest h);
  refusal = λ _ _ _. refl;
}

pub shown_any : (payload : List ℕ) (result : Result Message Memory) → ¬ IsTaken Script payload → ¬ IsTaken Forest payload → ¬ IsTaken Refusal payload
    → IfOk result (IsShownAs payload)
shown_any payload (Err e) script forest refusal = tt
shown_any payload (Ok message) script forest refusal = record {
  script = λ h. absurd (script h);
  forest = λ _ h. absurd (forest h);
  refusal = λ _ _ h. absurd (refusal h);
}

pub ruleset shown = (shown_script, shown_forest, shown_refusal, shown_any)
