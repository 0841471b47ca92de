-- Texts of events' lines.
use Rattle.std.proofs.Common.{◌≡◌, ◌<◌, ◌+◌, ℕ, suc, true, List, [], ◌∷◌, ◌++◌, Option, None, Some, map, length, refl, sym, ap, ◌∙◌, subst, arith, append_assoc}
use Rattle.std.proofs.lemmas.List.{append-nil, length-append, length-map, map-append}
use Rattle.rb_meaning.specs.Shown.{line}
use Rattle.rb_meaning_frames.specs.Histories as histories
use Rattle.rb_meaning_frames.specs.Histories.{Event}
use Rattle.rb_hub.specs.declared.events.Event as come
use Rattle.rb_hub.specs.Serial.{as_event}
use Rattle.rb_hub_lines.specs.Cuts.{IsCutAt, lacks}
use Rattle.rb_hub_lines.specs.Lines.{AreWritable, BeginsNoEvent, BreaksAtLine, HaveOneReading, HoldsEvents, IsWritable, event_words, events_text}
use Rattle.rb_hub_lines.proofs.Cut.{cut_once, lacks_none_there}
use Rattle.rb_hub_lines.proofs.Written.{words_lack_feed}

-- a line and what stands behind it
behind_line : (words rest : List ℕ) → line words ++ rest ≡ words ++ 10 ∷ rest
behind_line words rest = append_assoc words (10 ∷ []) rest

-- what stands behind the first line is one
pub one_rest : (a b : Event) (s t : List ℕ) → IsWritable a → IsWritable b → line (event_words a) ++ s ≡ line (event_words b) ++ t → s ≡ t
one_rest a b s t wa wb e =
    (cut_once 10 (event_words a) (event_words b) s t (words_lack_feed a wa) (words_lack_feed b wb) (sym (behind_line (event_words a) s) ∙ e ∙ behind_line (event_words b) t)).1

-- where no words before the first line feed are an event's, no line is
pub begins_none : (text words rest : List ℕ) → IsCutAt 10 text words rest → ((event : Event) → IsWritable event → words ≡ event_words event → ⊥) → BeginsNoEvent text
begins_none text words rest at none event behind w e =
    none event w (cut_once 10 words (event_words event) rest behind at.first (words_lack_feed event w) (sym at.is ∙ e ∙ behind_line (event_words event) behind)).0

pub begins_no_line : (text : List ℕ) → lacks 10 text ≡ true → BeginsNoEvent text
begins_no_line text l event behind w e = lacks_none_there 10 (event_words event) behind (subst (λ t. lacks 10 t ≡ true) (e ∙ behind_line (event_words event) behind) l)

pub begins_so : (text words rest : List ℕ) (event : Event) → IsCutAt 10 text words rest → words ≡ event_words event → text ≡ line (event_words event) ++ rest
begins_so text words rest event at e = at.is ∙ ap (λ w. w ++ 10 ∷ rest) e ∙ sym (behind_line (event_words event) rest)

-- one event more
text_more : (events : List Event) (event : Event) → events_text (events ++ event ∷ []) ≡ events_text events ++ line (event_words event)
text_more [] event = grind (arith, append_assoc)
text_more (e ∷ events) event = ap (λ t. line (event_words e) ++ t) (text_more events event) ∙ sym (append_assoc (line (event_words e)) (events_text events) (line (event_words event)))

writable_more : (events : List Event) (event : Event) → AreWritable events → IsWritable event → AreWritable (events ++ event ∷ [])
writable_more [] event a w = (w, tt)
writable_more (e ∷ events) event a w = (a.0, writable_more events event a.1 w)

pub record SoFar (text rest : List ℕ) (events : List Event) : Type 0 where
  pub is : text ≡ events_text events ++ rest
  pub writable : AreWritable events

pub none_so_far : (text : List ℕ) → SoFar text text []
none_so_far text = record { is = refl; writable = tt }

pub one_more : (text rest behind : List ℕ) (events more : List Event) (event : Event) → SoFar text rest events → IsWritable event → rest ≡ line (event_words event) ++ behind → more ≡ events ++ event ∷ [] → SoFar text behind more
one_more text rest behind events more event s w e m = record {
  is =
      s.is ∙ ap (λ t. events_text events ++ t) e ∙ sym (append_assoc (events_text events) (line (event_words event)) behind)
      ∙ ap (λ t. t ++ behind) (sym (text_more events event)) ∙ ap (λ es. events_text es ++ behind) (sym m);
  writable = subst AreWritable (sym m) (writable_more events event s.writable w);
}

pub all_read : (text rest : List ℕ) (events : List Event) → SoFar text rest events → length rest ≡ 0 → HoldsEvents text events
all_read text [] events s none = record { is = s.is ∙ append-nil (events_text events); writable = s.writable }
all_read text (c ∷ rest) events s none = absurd (omega arith)

pub breaks_so : (text rest : List ℕ) (events : List Event) (number : ℕ) → SoFar text rest events → 0 < length rest → BeginsNoEvent rest → number ≡ suc (length events) → BreaksAtLine text number
breaks_so text rest events number s some none n = record { front = events; rest = rest; is = s.is; writable = s.writable; number_is = n; some = some; none = none }

-- ---- the law

-- what is left behind the same lines is the lines of events too, or empty
left_over : (front events : List Event) (rest : List ℕ) → AreWritable front → AreWritable events → events_text front ++ rest ≡ events_text events → 0 < length rest → BeginsNoEvent rest → ⊥
left_over [] [] rest wf we e some none = let wrong = ap length e in omega (arith, wrong)
left_over [] (event ∷ events) rest wf we e some none = none event (events_text events) we.0 e
left_over (f ∷ front) [] rest wf we e some none =
    let wrong = ap length e in omega (arith, wrong, length-append (events_text (f ∷ front)) rest)
left_over (f ∷ front) (event ∷ events) rest wf we e some none =
    left_over front events rest wf.1 we.1
    (one_rest f event (events_text front ++ rest) (events_text events) wf.0 we.0 (sym (append_assoc (line (event_words f)) (events_text front) rest) ∙ e)) some none

pub one_reading : HaveOneReading
one_reading = λ text events number h b. left_over b.front events b.rest b.writable h.writable (sym b.is ∙ h.is) b.some b.none

-- ---- as the history has them

pub event_more : (text rest behind : List ℕ) (events more : List come.Event) (event : come.Event) → SoFar text rest (map as_event events) → IsWritable (as_event event) → rest ≡ line (event_words (as_event event)) ++ behind
    → more ≡ events ++ event ∷ [] → SoFar text behind (map as_event more)
event_more text rest behind events more event s w e m = one_more text rest behind (map as_event events) (map as_event more) (as_event event) s w e (ap (map as_event) m ∙ map-append as_event events (event ∷ []))

-- what is left behind a line is shorter
pub shorter : (rest words behind : List ℕ) → rest ≡ line words ++ behind → length behind < length rest
shorter rest words behind e =
    let sizes = ap length e in
    omega (arith, sizes, length-append (line words) behind, length-append words (10 ∷ []))
