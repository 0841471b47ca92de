-- What came out at events, one after the other: its replies are those to the history.
use Rattle.std.proofs.Common.{◌≡◌, refl, ap, sym, ◌∙◌, subst, ℕ, Bool, true, false, List, [], ◌∷◌, ◌++◌, length, append_assoc, append-nil, Option, Some, None}
use Rattle.std.specs.Prelude.{if◌then◌else◌, map}
use Rattle.rb_trees.specs.declared.services.Object.{Object}
use Rattle.rb_trees.specs.mirror.Services.{Service}
use Rattle.rb_meaning_frames.specs.Reading.{standing, rest_of}
use Rattle.rb_meaning_frames.specs.Histories.{Event, Open, Piece, Close, Track, track_of, may_open, after, after_all, brought, history_from, Replied, RepliesInOrder, none_asked, RepliesGoOn}
use Rattle.rb_hub.specs.Serial.{reply_out, end_by, end_at, ended, ended_by_piece, ended_by_close, last_out, ComesOut, ComeOut, no_event, one_event, replies_in}
use Rattle.rb_hub.specs.declared.events.End.{End}
use Rattle.rb_hub.specs.declared.events.Out.{Out}
use Rattle.rb_hub.specs.declared.events.Out.TheVariants.{Opened, Reply, Ended}

-- ---- the replies among what came out

in-append : (xs ys : List Out) → replies_in (xs ++ ys) ≡ replies_in xs ++ replies_in ys
in-append [] ys = refl
in-append (Opened number ∷ xs) ys = in-append xs ys
in-append (Reply number frame ∷ xs) ys = ap (λ zs. record { session = number; frame = frame } ∷ zs) (in-append xs ys)
in-append (Ended number requests end ∷ xs) ys = in-append xs ys

in-replies : (replies : List Replied) → replies_in (map reply_out replies) ≡ replies
in-replies [] = refl
in-replies (r ∷ rs) = ap (λ zs. r ∷ zs) (in-replies rs)

in-ended : (number : ℕ) (stream : List ℕ) (end : Option End) → replies_in (ended number stream end) ≡ []
in-ended number stream None = refl
in-ended number stream (Some end) = refl

in-chosen : (b : Bool) (outs : List Out) → replies_in outs ≡ [] → replies_in (if b then outs else []) ≡ []
in-chosen true outs none = none
in-chosen false outs none = refl

in-piece : (number : ℕ) (piece : List ℕ) (o : Option Track) → replies_in (ended_by_piece number piece o) ≡ []
in-piece number piece None = refl
in-piece number piece (Some t) =
    let stream = t.stream ++ piece in
    in-chosen t.is_open (ended number stream (end_by (standing (rest_of stream)) stream)) (in-ended number stream (end_by (standing (rest_of stream)) stream))

in-close : (number : ℕ) (o : Option Track) → replies_in (ended_by_close number o) ≡ []
in-close number None = refl
in-close number (Some t) = in-chosen t.is_open (ended number t.stream (Some (end_at (rest_of t.stream) t.stream))) refl

in-last : (past : List Track) (event : Event) → replies_in (last_out past event) ≡ []
in-last past Open = in-chosen (may_open past) (Opened (length past) ∷ []) refl
in-last past (Piece number piece) = in-piece number piece (track_of number past)
in-last past (Close number) = in-close number (track_of number past)

event_replies : (service : Service) (table left : List Object) (past : List Track) (event : Event) (given : List Out) → ComesOut service table left past event given
    → RepliesInOrder service table (brought past event) (replies_in given) left
event_replies service table left past event given c =
    let same : replies_in given ≡ c.replies =
    ap replies_in c.is ∙ in-append (map reply_out c.replies) (last_out past event) ∙ ap (λ zs. replies_in (map reply_out c.replies) ++ zs) (in-last past event)
    ∙ append-nil (replies_in (map reply_out c.replies)) ∙ in-replies c.replies in
    subst (λ rs. RepliesInOrder service table (brought past event) rs left) (sym same) c.answered

pub history_replies : (service : Service) (table left : List Object) (past : List Track) (events : List Event) (outs : List Out) → RepliesGoOn → ComeOut service table past events outs left
    → RepliesInOrder service table (history_from past events) (replies_in outs) left
history_replies service _ _ _ _ _ law (no_event table past) = none_asked table
history_replies service _ _ _ _ _ law (one_event table between left past event events given more c rest) =
    subst (λ rs. RepliesInOrder service table (brought past event ++ history_from (after past event) events) rs left) (sym (in-append given more))
    (law service table between left (brought past event) (history_from (after past event) events) (replies_in given) (replies_in more)
    (event_replies service table between past event given c) (history_replies service between left (after past event) events more law rest))

-- ---- one event more

pub comes_more : (service : Service) (table between left : List Object) (past : List Track) (events : List Event) (event : Event) (outs given : List Out) → ComeOut service table past events outs between
    → ComesOut service between left (after_all past events) event given → ComeOut service table past (events ++ event ∷ []) (outs ++ given) left
comes_more service _ _ left _ _ event _ given (no_event table past) c =
    subst (λ outs. ComeOut service table past (event ∷ []) outs left) (append-nil given)
    (one_event table left left past event [] given [] c (no_event left (after past event)))
comes_more service _ _ left _ _ event _ given (one_event table next between past e events first more c rest) last =
    subst (λ outs. ComeOut service table past (e ∷ (events ++ event ∷ [])) outs left) (sym (append_assoc first more given))
    (one_event table next left past e (events ++ event ∷ []) first (more ++ given) c (comes_more service next between left (after past e) events event more given rest last))
