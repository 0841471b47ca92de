-- Payloads that were answered in turn lead on.
use Rattle.std.proofs.Common.{◌≡◌, refl, ap, sym, ◌∙◌, subst, ℕ, List, [], ◌∷◌, ◌++◌}
use Rattle.std.proofs.lemmas.List.{map-append}
use Rattle.rb_meaning_frames.specs.Histories.{Asked, asked_by}
use Rattle.rb_session.specs.Answering.{InTurn}
use Rattle.rb_hub.specs.Hubs.{payloads_of}

-- one was answered
pub led_one : {A : Type 0} (Answered : A → List ℕ → A → Type 0) (before after : A) (payload : List ℕ) → Answered before payload after → InTurn Answered before (payload ∷ []) after
led_one Answered before after payload does = (after, does, refl)

-- some were answered, and more from where they led
pub led_append : {A : Type 0} (Answered : A → List ℕ → A → Type 0) (before between after : A) (ps qs : List (List ℕ)) → InTurn Answered before ps between → InTurn Answered between qs after
    → InTurn Answered before (ps ++ qs) after
led_append {A} Answered before between after [] qs led more = subst (λ (x : A). InTurn Answered x qs after) led more
led_append Answered before between after (p ∷ ps) qs led more = (led.0, led.1, led_append Answered led.0 between after ps qs led.2 more)

-- ---- what was asked, without by whom

pub payloads_by : (number : ℕ) (payloads : List (List ℕ)) → payloads_of (asked_by number payloads) ≡ payloads
payloads_by number [] = refl
payloads_by number (p ∷ ps) = ap (λ xs. p ∷ xs) (payloads_by number ps)

pub payloads_append : (asked more : List Asked) → payloads_of (asked ++ more) ≡ payloads_of asked ++ payloads_of more
payloads_append asked more = map-append (λ (x : Asked). x.payload) asked more

-- the parts of what one session asked
pub payloads_parts : (number : ℕ) (payloads : List (List ℕ)) (front rest : List Asked) → asked_by number payloads ≡ front ++ rest → payloads ≡ payloads_of front ++ payloads_of rest
payloads_parts number payloads front rest parts = sym (payloads_by number payloads) ∙ ap payloads_of parts ∙ payloads_append front rest
