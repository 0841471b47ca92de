-- A session that was opened in a hub and served.
use Rattle.std.proofs.Common.{◌≡◌, refl, ap, sym, ◌∙◌, subst, ℕ, Bool, true, false, List, [], ◌∷◌, ◌++◌, length, None, Result}
use Rattle.std.specs.Prelude.{if◌then◌else◌}
use Rattle.rb_base.specs.Devices.{Device}
use Rattle.rb_base.specs.Sources.{told_before}
use Rattle.rb_meaning_frames.specs.Reading.{StreamsAreRead}
use Rattle.rb_meaning_frames.specs.Histories.{Open, Track, new_track, after_all, history_from, RepliesInOrder}
use Rattle.rb_session.specs.declared.answerers.Answers as answerers
use Rattle.rb_session.specs.declared.serving.Served.{Served}
use Rattle.rb_session.specs.Serving.{Ends, ends}
use Rattle.rb_hub.specs.Hubs.{HubSeen, refusal_of}
use Rattle.rb_hub.specs.Standing.{Stands, StandsSomewhere}
use Rattle.rb_hub.specs.Serving.{hub_ends, ServesUnlessStopped, IfStopped, StopsServing, AnswersStream, WhereDone, IfDone, is_done, LeavesBy, LeavesHub, joined, pieces_of, closing, HasHistory}
use Rattle.rb_hub.specs.Passing.{track, StandsWith, Opens, Leads, ServesNew}
use Rattle.rb_hub.specs.declared.serving.HubServeStop.{HubServeStop}
use Rattle.rb_hub.proofs.Last.{one_more_opened}
use Rattle.rb_hub.proofs.Onward.{not_over, opens}

-- from where the hub stood before the session was opened
pub from_before : {A X : Type 0} (a : answerers.Ghosts A X) (number : ℕ) (before mid now : HubSeen A) (source sink : Device (List ℕ)) (last : Ends) (answer : Result Served (HubServeStop X)) → number ≡ before.opened
    → ((past : List Track) → Stands past before → Opens past before mid)
    → ((past : List Track) → number ≡ length past → StandsWith past (track [] true) mid → ServesNew a past mid now (hub_ends a mid source sink) last answer)
    → (past : List Track) → Stands past before → ServesNew a past before now (hub_ends a before source sink) last answer
from_before {A} a number before mid now source sink last answer is opened served past s =
    let o = opened past s in
    let n = served past (is ∙ s.opened) o.stands in
    let same = ap (λ (x : A). ends (a.service x) (a.table x) source sink) o.same in
    record {
      serves = subst (λ first. ServesUnlessStopped first last answer) same n.serves;
      stops = subst (λ first. IfStopped answer (StopsServing a now.answers first last)) same n.stops;
      answers = subst (λ (x : A). AnswersStream a.does a.stops x now.answers (ends (a.service x) (a.table x) source sink) last answer) o.same n.answers;
      leads = subst (λ first. IfDone answer (Leads past now first last)) same n.leads;
      over = n.over;
    }

pub answers : {A X : Type 0} (a : answerers.Ghosts A X) (before now : HubSeen A) (first last : Ends) (answer : Result Served (HubServeStop X)) → StandsSomewhere before
    → ((past : List Track) → Stands past before → ServesNew a past before now first last answer) → AnswersStream a.does a.stops before.answers now.answers first last answer
answers a before now first last answer somewhere served = (served somewhere.0 somewhere.1).answers

-- ---- what is left of the hub

leaves_by : {A X : Type 0} (a : answerers.Ghosts A X) (past : List Track) (before now : HubSeen A) (first last : Ends) (b : Bool) → StreamsAreRead → Stands past before
    → WhereDone b (Leads past now first last) → (b ≡ false → now.over ≡ true) → LeavesBy b before now
leaves_by a past before now first last true law s leads over = one_more_opened past leads.stream before now law s leads.stands
leaves_by a past before now first last false law s leads over = over refl

pub leaves : {A X : Type 0} (a : answerers.Ghosts A X) (before now : HubSeen A) (first last : Ends) (answer : Result Served (HubServeStop X)) → StreamsAreRead → StandsSomewhere before
    → ((past : List Track) → Stands past before → ServesNew a past before now first last answer) → LeavesHub before now answer
leaves a before now first last answer law somewhere served =
    let s = served somewhere.0 somewhere.1 in
    leaves_by a somewhere.0 before now first last (is_done answer) law somewhere.1 s.leads s.over

-- ---- the history

has_history : {A X : Type 0} (a : answerers.Ghosts A X) (past : List Track) (before now : HubSeen A) (source sink : Device (List ℕ)) (source' sink' : Device (List ℕ)) → refusal_of before Open ≡ None → Stands past before
    → Leads past now (hub_ends a before source sink) (hub_ends a now source' sink') → HasHistory a past before now source.told source'.told
has_history a past before now source sink source' sink' none s l =
    let may = opens past before s (sym (not_over before Open s.going) ∙ none) in
    let number = length past in
    let start : (if _ then past ++ new_track ∷ [] else past) ≡ past ++ track [] true ∷ [] = ap (λ b. if b then past ++ new_track ∷ [] else past) may in
    let same : pieces_of before.opened l.pieces ++ closing before.opened (joined l.pieces) ≡ pieces_of number l.pieces ++ closing number l.stream =
    ap (λ n. pieces_of n l.pieces ++ closing n (joined l.pieces)) s.opened ∙ ap (λ x. pieces_of number l.pieces ++ closing number x) l.joined_is in
    record {
      pieces = l.pieces;
      reads = l.reads;
      gave = l.gave ∙ ap (λ x. told_before x source'.told) (sym l.joined_is);
      stands = subst (λ ps. Stands ps now) (sym (ap (λ ps. after_all ps (pieces_of before.opened l.pieces ++ closing before.opened (joined l.pieces))) start
          ∙ ap (after_all (past ++ track [] true ∷ [])) same ∙ l.leads)) l.stands;
      replies = l.replies;
      answered = subst (λ asked. RepliesInOrder (a.service before.answers) (a.table before.answers) asked l.replies (a.table now.answers))
          (sym (ap (λ ps. history_from ps (pieces_of before.opened l.pieces ++ closing before.opened (joined l.pieces))) start
          ∙ ap (history_from (past ++ track [] true ∷ [])) same ∙ l.asked)) l.answered;
    }

where_so : (b : Bool) (P Q : Type 0) → (P → Q) → WhereDone b P → WhereDone b Q
where_so true P Q go h = go h
where_so false P Q go h = tt

pub history : {A X : Type 0} (a : answerers.Ghosts A X) (before now : HubSeen A) (source sink source' sink' : Device (List ℕ)) (answer : Result Served (HubServeStop X)) → refusal_of before Open ≡ None
    → ((past : List Track) → Stands past before → ServesNew a past before now (hub_ends a before source sink) (hub_ends a now source' sink') answer)
    → (past : List Track) → Stands past before → IfDone answer (HasHistory a past before now source.told source'.told)
history a before now source sink source' sink' answer none served past s =
    where_so (is_done answer) (Leads past now (hub_ends a before source sink) (hub_ends a now source' sink')) (HasHistory a past before now source.told source'.told)
    (has_history a past before now source sink source' sink' none s) (served past s).leads
