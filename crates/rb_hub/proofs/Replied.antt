-- Requests are answered one after the other, and their replies come out.
use Rattle.std.proofs.Common.{◌≡◌, ◌<◌, ◌≤◌, ◌+◌, zero, suc, arith, refl, ap, sym, ◌∙◌, subst, ℕ, List, [], ◌∷◌, ◌++◌, length, get_or, take, drop, append_assoc, append-nil, add-one, ◌⊎◌, inr}
use Rattle.std.specs.Prelude.{map, Result, Err}
use Rattle.std.proofs.Math.Seq.{take-suc}
use Rattle.std.proofs.lemmas.List.{take_all}
use Rattle.rb_meaning_frames.specs.Frames.{frame_bytes}
use Rattle.rb_meaning_frames.specs.Histories.{Asked, asked_by, Replied, RepliesInOrder, none_asked, one_asked, RepliesGoOn}
use Rattle.rb_session.specs.Answering.{InTurn}
use Rattle.rb_session.specs.declared.answerers.Answers as answerers
use Rattle.rb_hub.specs.Serial.{reply_out}
use Rattle.rb_hub.specs.Hubs.{payloads_of, GivesReplies, GivesSome, FramesReply, RepliesOne, RepliesAll}
use Rattle.rb_hub.specs.declared.events.HubStop.{HubStop}
use Rattle.rb_hub.specs.declared.events.HubStop.TheVariants.{Refused, Memory, Answers}
use Rattle.rb_hub.specs.declared.events.Out.{Out}
use Rattle.rb_hub.specs.declared.events.Out.TheVariants.{Reply}
use Rattle.rb_hub.proofs.Led.{led_one, led_append, payloads_append}

replies-append : (xs ys : List Replied) → map reply_out (xs ++ ys) ≡ map reply_out xs ++ map reply_out ys
replies-append [] ys = refl
replies-append (x ∷ xs) ys = ap (λ outs. reply_out x ∷ outs) (replies-append xs ys)

pub asked-append : (number : ℕ) (ps qs : List (List ℕ)) → asked_by number (ps ++ qs) ≡ asked_by number ps ++ asked_by number qs
asked-append number [] qs = refl
asked-append number (p ∷ ps) qs = ap (λ x. record { session = number; payload = p } ∷ x) (asked-append number ps qs)

-- none was answered
pub gives_none : {A X : Type 0} (a : answerers.Ghosts A X) (answers : A) → GivesReplies a answers answers [] []
gives_none a answers = record { replies = []; answered = none_asked (a.table answers); led = refl; service = refl; is = refl }

-- one was answered
gives_one : {A X : Type 0} (a : answerers.Ghosts A X) (before after : A) (number : ℕ) (payload frame : List ℕ) → FramesReply a before after payload frame → a.service after ≡ a.service before
    → GivesReplies a before after (record { session = number; payload = payload } ∷ []) (Reply number frame ∷ [])
gives_one a before after number payload frame f service = record {
  replies = record { session = number; frame = frame_bytes f.kind f.reply } ∷ [];
  answered = one_asked (a.table before) (a.table after) (a.table after) record { session = number; payload = payload } f.reply f.kind [] [] f.answers (none_asked (a.table after));
  led = led_one a.does before after payload f.does;
  service = service;
  is = ap (λ x. Reply number x ∷ []) f.is;
}

-- more were answered
pub gives_more : {A X : Type 0} (a : answerers.Ghosts A X) (before between after : A) (asked more : List Asked) (given others : List Out) → RepliesGoOn
    → GivesReplies a before between asked given → GivesReplies a between after more others → GivesReplies a before after (asked ++ more) (given ++ others)
gives_more a before between after asked more given others law g h = record {
  replies = g.replies ++ h.replies;
  answered = law (a.service before) (a.table before) (a.table between) (a.table after) asked more g.replies h.replies g.answered
      (subst (λ s. RepliesInOrder s (a.table between) more h.replies (a.table after)) g.service h.answered);
  led = subst (λ ps. InTurn a.does before ps after) (sym (payloads_append asked more))
      (led_append a.does before between after (payloads_of asked) (payloads_of more) g.led h.led);
  service = h.service ∙ g.service;
  is = ap (λ x. x ++ others) g.is ∙ ap (λ x. map reply_out g.replies ++ x) h.is ∙ sym (replies-append g.replies h.replies);
}

-- ---- a loop over requests

-- So many requests were answered, and this came out.
pub record SoFar {A X : Type 0} (a : answerers.Ghosts A X) (before between : A) (number count : ℕ) (payloads : List (List ℕ)) (old new : List Out) : Type 0 where
  pub within : count ≤ length payloads
  pub given : List Out
  pub gains : new ≡ old ++ given
  pub gives : GivesReplies a before between (asked_by number (take count payloads)) given

pub none_so_far : {A X : Type 0} (a : answerers.Ghosts A X) (answers : A) (number : ℕ) (payloads : List (List ℕ)) (old : List Out) → SoFar a answers answers number 0 payloads old old
none_so_far a answers number payloads old = record {
  within = omega arith;
  given = [];
  gains = sym (append-nil old);
  gives = gives_none a answers;
}

-- the requests up to one more
front_more : (number count : ℕ) (payloads : List (List ℕ)) (d : List ℕ) → count < length payloads
    → asked_by number (take (count + 1) payloads) ≡ asked_by number (take count payloads) ++ record { session = number; payload = get_or payloads count d } ∷ []
front_more number count payloads d within =
    ap (asked_by number) (ap (λ n. take n payloads) (add-one count) ∙ take-suc payloads count d within)
    ∙ asked-append number (take count payloads) (get_or payloads count d ∷ [])

-- the requests from one on
parts_at : (number count : ℕ) (payloads : List (List ℕ)) (d : List ℕ) → count < length payloads
    → asked_by number payloads ≡ asked_by number (take count payloads) ++ record { session = number; payload = get_or payloads count d } ∷ asked_by number (drop (count + 1) payloads)
parts_at number zero [] d within = absurd (omega arith)
parts_at number zero (p ∷ ps) d within = refl
parts_at number (suc count) [] d within = absurd (omega arith)
parts_at number (suc count) (p ∷ ps) d within =
    let next : suc count + 1 ≡ suc (count + 1) = omega arith in
    ap (λ x. record { session = number; payload = p } ∷ x) (parts_at number count ps d (omega arith))
    ∙ ap (λ n. asked_by number (take (suc count) (p ∷ ps)) ++ record { session = number; payload = get_or ps count d } ∷ asked_by number (drop n (p ∷ ps))) (sym next)

pub one_more : {A X : Type 0} (a : answerers.Ghosts A X) (before between after : A) (number count : ℕ) (payloads : List (List ℕ)) (payload d frame : List ℕ) (old mid new : List Out) → RepliesGoOn
    → count < length payloads → payload ≡ get_or payloads count d → SoFar a before between number count payloads old mid → FramesReply a between after payload frame
    → a.service after ≡ a.service between → new ≡ mid ++ Reply number frame ∷ [] → SoFar a before after number (count + 1) payloads old new
one_more a before between after number count payloads payload d frame old mid new law within is so said service gains =
    let one = gives_one a between after number (get_or payloads count d) frame (subst (λ p. FramesReply a between after p frame) is said) service in
    record {
      within = omega arith;
      given = so.given ++ Reply number frame ∷ [];
      gains = gains ∙ ap (λ x. x ++ Reply number frame ∷ []) so.gains ∙ append_assoc old so.given (Reply number frame ∷ []);
      gives = subst (λ xs. GivesReplies a before after xs (so.given ++ Reply number frame ∷ [])) (sym (front_more number count payloads d within))
          (gives_more a before between after (asked_by number (take count payloads)) (record { session = number; payload = get_or payloads count d } ∷ []) so.given (Reply number frame ∷ []) law so.gives one);
    }

-- what came out where not all were answered
abbrev pub Left : {A X : Type 0} → answerers.Ghosts A X → List Asked → A → A → List Out → List Out → Result Unit (HubStop X) → Type 0
Left a asked before after old new answer = (given : List Out) × (new ≡ old ++ given) × RepliesAll a asked before after given answer

-- memory was wanting behind these: the next one wasn't answered, or its reply is lost
some_given : {A X : Type 0} (a : answerers.Ghosts A X) (before between after : A) (number count : ℕ) (payloads : List (List ℕ)) (payload d : List ℕ) (old new : List Out)
    → count < length payloads → payload ≡ get_or payloads count d → (so : SoFar a before between number count payloads old new) → (after ≡ between) ⊎ a.does between payload after
    → GivesSome a before after (asked_by number payloads) so.given
some_given a before between after number count payloads payload d old new within is so left = record {
  front = asked_by number (take count payloads);
  rest = record { session = number; payload = get_or payloads count d } ∷ asked_by number (drop (count + 1) payloads);
  parts = parts_at number count payloads d within;
  between = between;
  gives = so.gives;
  left = subst (λ p. (after ≡ between) ⊎ a.does between p after) is left;
}

pub left_by : {A X : Type 0} (a : answerers.Ghosts A X) (before between after : A) (number count : ℕ) (payloads : List (List ℕ)) (payload d : List ℕ) (old new : List Out) (stop : HubStop X)
    → count < length payloads → payload ≡ get_or payloads count d → SoFar a before between number count payloads old new
    → RepliesOne a payload between after (Err stop) → Left a (asked_by number payloads) before after old new (Err stop)
left_by a before between after number count payloads payload d old new Memory within is so said =
    (so.given, so.gains, some_given a before between after number count payloads payload d old new within is so said)
left_by a before between after number count payloads payload d old new (Answers stop) within is so said = (
  so.given,
  so.gains,
  record {
    front = asked_by number (take count payloads);
    next = record { session = number; payload = get_or payloads count d };
    rest = asked_by number (drop (count + 1) payloads);
    parts = parts_at number count payloads d within;
    between = between;
    gives = so.gives;
    stops = subst (λ p. a.stops between p stop after) is said;
  },
)
left_by a before between after number count payloads payload d old new (Refused refusal) within is so said = absurd said

-- memory was wanting for what comes out of one that was answered
pub left_memory : {A X : Type 0} (a : answerers.Ghosts A X) (before between after : A) (number count : ℕ) (payloads : List (List ℕ)) (payload d frame : List ℕ) (old mid new : List Out)
    → count < length payloads → payload ≡ get_or payloads count d → SoFar a before between number count payloads old mid → FramesReply a between after payload frame → new ≡ mid
    → Left {X = X} a (asked_by number payloads) before after old new (Err Memory)
left_memory a before between after number count payloads payload d frame old mid new within is so said same =
    (so.given, same ∙ so.gains, some_given a before between after number count payloads payload d old mid within is so (inr said.does))

-- all were answered
pub answered_all : {A X : Type 0} (a : answerers.Ghosts A X) (before after : A) (number count : ℕ) (payloads : List (List ℕ)) (old new : List Out)
    → length payloads ≤ count → SoFar a before after number count payloads old new
    → (given : List Out) × (new ≡ old ++ given) × GivesReplies a before after (asked_by number payloads) given
answered_all a before after number count payloads old new all so =
    (so.given, so.gains, subst (λ ps. GivesReplies a before after (asked_by number ps) so.given) (take_all count payloads all) so.gives)
