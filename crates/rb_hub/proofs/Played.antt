-- Events that were played, one after the other.
use Rattle.std.proofs.Common.{◌≡◌, refl, ap, sym, ◌∙◌, subst, arith, List, [], ◌∷◌, ◌++◌, length, append_assoc, append-nil, Option, Some, None, Ok, Err}
use Rattle.std.specs.Prelude.{map}
use Rattle.rb_meaning_frames.specs.Histories.{Event, Track, after_all, EventsLeadOn, RepliesGoOn}
use Rattle.rb_session.specs.declared.answerers.Answers as answerers
use Rattle.rb_hub.specs.Serial.{as_event, ComesOut, no_event}
use Rattle.rb_hub.specs.Hubs.{HubSeen, new_hub, Steps, refusal_of}
use Rattle.rb_hub.specs.Standing.{Stands, GoesOn, EachGoesOn, PlaysOne, GoesThrough, PlaysAll, PlaysSerially}
use Rattle.rb_hub.specs.declared.events.Event as hub_event
use Rattle.rb_hub.specs.declared.events.Out.{Out}
use Rattle.rb_hub.specs.declared.events.HubRefusal.{HubRefusal}
use Rattle.rb_hub.specs.declared.events.HubStop.{HubStop}
use Rattle.rb_hub.specs.declared.events.HubStop.TheVariants.{Refused}
use Rattle.rb_hub.proofs.Serially.{comes_more, history_replies}

-- ---- a step

-- it was done
pub step_played : {A X : Type 0} (a : answerers.Ghosts A X) (event : Event) (hub now : HubSeen A) (old new : List Out)
    → EachGoesOn a → (u : Unit) → None ≡ refusal_of hub event → Steps a event hub now old new (Ok u) → PlaysOne a event hub now old new (Ok None)
step_played a event hub now old new law u none s = record {
  given = s.1.0;
  gains = s.1.1;
  goes = λ past stands. (law.done past event hub now s.1.0 stands (sym none) s.0 s.1.2, none ∙ law.refuses past event hub stands);
}

-- it was refused
pub refusal_played : {A X : Type 0} (a : answerers.Ghosts A X) (event : Event) (hub now : HubSeen A) (old new : List Out) (refusal : HubRefusal)
    → EachGoesOn a → Some refusal ≡ refusal_of hub event → Steps a event hub now old new (Err (Refused refusal)) → PlaysOne a event hub now old new (Ok (Some refusal))
refusal_played {A} {X} a event hub now old new refusal law some s =
    subst (λ (h : HubSeen A). PlaysOne {A = A} {X = X} a event hub h old new (Ok (Some refusal))) (sym s.0)
    (record {
      given = [];
      gains = s.1 ∙ sym (append-nil old);
      goes = λ past stands. (law.refused past event hub refusal stands (sym some), some ∙ law.refuses past event hub stands);
    })

-- ---- many

-- Of these events the first were played, and the others are left.
pub record IsPlayed {A X : Type 0} (a : answerers.Ghosts A X) (events left : List Event) (first hub : HubSeen A) (old new : List Out) : Type 0 where
  pub front : List Event
  pub is : events ≡ front ++ left
  pub given : List Out
  pub gains : new ≡ old ++ given
  pub goes : (past : List Track) → Stands past first → GoesThrough a past front first hub given

pub none_played : {A X : Type 0} (a : answerers.Ghosts A X) (events : List Event) (hub : HubSeen A) (old : List Out) → IsPlayed a events events hub hub old old
none_played a events hub old = record {
  front = [];
  is = refl;
  given = [];
  gains = sym (append-nil old);
  goes = λ past stands. record { stands = stands; outs = no_event (a.table hub.answers) past; service = refl };
}

-- an event more, by whole streams
through_more : {A X : Type 0} (a : answerers.Ghosts A X) (past : List Track) (front : List Event) (event : Event) (first hub now : HubSeen A) (given more : List Out) → EventsLeadOn
    → GoesThrough a past front first hub given → GoesOn a (after_all past front) event hub now more → GoesThrough a past (front ++ event ∷ []) first now (given ++ more)
through_more a past front event first hub now given more law g h = record {
  stands = subst (λ ps. Stands ps now) (sym (law past front (event ∷ []))) h.stands;
  outs = comes_more (a.service first.answers) (a.table first.answers) (a.table hub.answers) (a.table now.answers) past front event given more g.outs
      (subst (λ s. ComesOut s (a.table hub.answers) (a.table now.answers) (after_all past front) event more) g.service h.outs);
  service = h.service ∙ g.service;
}

more_played : {A X : Type 0} (a : answerers.Ghosts A X) (events left : List Event) (event : Event) (first hub now : HubSeen A) (old mid new : List Out) (refusal : Option HubRefusal) → EventsLeadOn
    → IsPlayed a events (event ∷ left) first hub old mid → PlaysOne a event hub now mid new (Ok refusal) → IsPlayed a events left first now old new
more_played a events left event first hub now old mid new refusal law p o = record {
  front = p.front ++ event ∷ [];
  is = p.is ∙ sym (append_assoc p.front (event ∷ []) left);
  given = p.given ++ o.given;
  gains = o.gains ∙ ap (λ x. x ++ o.given) p.gains ∙ append_assoc old p.given o.given;
  goes = λ past stands.
      let g = p.goes past stands in through_more a past p.front event first hub now p.given o.given law g (o.goes (after_all past p.front) g.stands).0;
}

-- the first of those that are left was played
pub one_played : {A X : Type 0} (a : answerers.Ghosts A X) (events : List Event) (left rest : List hub_event.Event) (event : hub_event.Event) (first hub now : HubSeen A) (old mid new : List Out) (refusal : Option HubRefusal) → EventsLeadOn
    → left ≡ event ∷ rest → IsPlayed a events (map as_event left) first hub old mid → PlaysOne a (as_event event) hub now mid new (Ok refusal) → IsPlayed a events (map as_event rest) first now old new
one_played a events left rest event first hub now old mid new refusal law is p o =
    more_played a events (map as_event rest) (as_event event) first hub now old mid new refusal law (subst (λ es. IsPlayed a events (map as_event es) first hub old mid) is p) o

-- it wasn't done, or not whole
pub one_stopped : {A X : Type 0} (a : answerers.Ghosts A X) (events : List Event) (left rest : List hub_event.Event) (event : hub_event.Event) (first hub now : HubSeen A) (old mid new : List Out) (stop : HubStop X)
    → left ≡ event ∷ rest → IsPlayed a events (map as_event left) first hub old mid → PlaysOne a (as_event event) hub now mid new (Err stop) → PlaysAll a events first now old new (Err stop)
one_stopped a events left rest event first hub now old mid new stop is p o = record {
  given = p.given ++ o.given;
  gains = o.gains ∙ ap (λ x. x ++ o.given) p.gains ∙ append_assoc old p.given o.given;
  goes = λ past stands.
      let g = p.goes past stands in
      record {
        front = p.front;
        next = as_event event;
        rest = map as_event rest;
        parts = p.is ∙ ap (λ es. p.front ++ map as_event es) is;
        between = hub;
        first = p.given;
        last = o.given;
        through = g;
        stops = o.goes (after_all past p.front) g.stands;
        is = refl;
      };
}

none_left : (left : List hub_event.Event) → length left ≡ 0 → left ≡ []
none_left [] is = refl
none_left (e ∷ left) is = absurd (omega arith)

-- all were played
pub all_played : {A X : Type 0} (a : answerers.Ghosts A X) (events : List Event) (left : List hub_event.Event) (first hub : HubSeen A) (old new : List Out) (u : Unit) → length left ≡ 0
    → IsPlayed a events (map as_event left) first hub old new → PlaysAll a events first hub old new (Ok u)
all_played a events left first hub old new u none p =
    let same : events ≡ p.front = p.is ∙ ap (λ es. p.front ++ map as_event es) (none_left left none) ∙ append-nil p.front in
    record {
      given = p.given;
      gains = p.gains;
      goes = λ past stands. subst (λ es. GoesThrough a past es first hub p.given) (sym same) (p.goes past stands);
    }

-- ---- a new hub

new_stands : {A : Type 0} (hub : HubSeen A) → hub ≡ new_hub hub.answers → Stands [] hub
new_stands {A} hub is = record {
  opened = ap (λ (h : HubSeen A). h.opened) is;
  seated = ap (λ (h : HubSeen A). h.seats) is;
  going = ap (λ (h : HubSeen A). h.over) is;
}

pub serially : {A X : Type 0} (a : answerers.Ghosts A X) (events : List Event) (first hub : HubSeen A) (old new : List Out) (u : Unit) → RepliesGoOn → first ≡ new_hub first.answers
    → PlaysAll a events first hub old new (Ok u) → PlaysSerially a events first hub old new
serially a events first hub old new u law is p =
    let g = p.goes [] (new_stands first is) in
    record {
      given = p.given;
      gains = p.gains;
      serial = record {
        replies = history_replies (a.service first.answers) (a.table first.answers) (a.table hub.answers) [] events p.given law g.outs;
        all = g.outs;
      };
    }
