-- What a server answers where its service and its sessions are told, and none of its calls of the listener fails.
use Rattle.std.proofs.Common.{◌≡◌, ◌<◌, ◌+◌, ◌⊎◌, ℕ, suc, true, false, List, length, Option, None, Some, Result, Ok, Err, ap, sym, ◌∙◌, refl, subst, inl, inr, arith}
use Rattle.std.specs.Prelude.{IfSome, cond, is_some, option_map, unwrap_or, ◌==◌}
use Rattle.std.specs.List.{list_any}
use Rattle.rb_base.specs.Counts.{risen}
use Rattle.rb_base.specs.Devices.{Device}
use Rattle.rb_base.specs.Listening.{Back, GivesWhereTold, Listening, after_start, call_fails, started, with_back}
use Rattle.rb_base.specs.declared.links.Link as links
use Rattle.rb_disk.specs.declared.disk.Disk as disks
use Rattle.rb_base.specs.declared.listens.ListenStop.TheVariants as stops
use Rattle.rb_exec.specs.Hosted.{Hosted}
use Rattle.rb_top.specs.Answers.{Says}
use Rattle.rb_top.specs.Completeness.{IsDone, ListensWhole, ServesTold, ToldService, after_calls}
use Rattle.rb_top.specs.Ends as ends
use Rattle.rb_top.specs.Ends.{Ends}
use Rattle.rb_top.specs.Runs.{Served}
use Rattle.rb_top.specs.Scene.{Scene, Outside}
use Rattle.rb_top.specs.Servers as servers
use Rattle.rb_top.specs.Manners.{host_manner}
use Rattle.rb_top.specs.Servers.{Listens, ServesAs, ServesHost, unheard}
use Rattle.rb_top.specs.Sessions as sessions
use Rattle.rb_top.specs.Sessions.{FailsToGive, Listener, Manner, ServedSome, ServesLast, ServesSessions, Starts}
use Rattle.rb_top.specs.declared.sessions.SessionsStop.{SessionsStop}
use Rattle.rb_top.specs.declared.sessions.SessionsStop.TheVariants.{Said, Answers}
use Rattle.rb_top.specs.Unusable.{NoService}
use Rattle.rb_top.specs.Words.{Serve, Child, Serving, Wanted, child_of}
use Rattle.rb_top.specs.declared.status.Status.{Status}
use Rattle.rb_top.specs.declared.status.Status.TheVariants.{Done}
use Rattle.rb_top.proofs.Complete.{only_starved}
use Rattle.rb_top.proofs.Usable.{OneService, service_is_usable}

-- What the listener tells after its start and so many sessions: the calls that it counts and lists are those of this run, and as many
-- sessions came as are told.
pub record Goes (first : Listening) (come served : ℕ) (told : Option Listening) : Type 0 where
  pub it : Listening
  pub tells : told ≡ Some it
  pub calls_so : it.calls ≡ (after_calls (suc served) first).calls
  pub failing_so : it.failing ≡ (after_calls (suc served) first).failing
  pub come_so : served + length it.coming ≡ come

pub ends_done : (text : List ℕ) (result : Status) (before after : Device (List ℕ)) → Ends Done text result before after → IsDone result
ends_done text result before after (ends.whole r w) = inl r
ends_done text result before after (ends.cut r w) = inr (inl r)
ends_done text result before after (ends.starved r w) = inr (inr r)

-- whether a call fails is told by the calls that are counted and listed
same_call : (l m : Listening) → l.calls ≡ m.calls → l.failing ≡ m.failing → call_fails l ≡ call_fails m
same_call l m c f = ap (λ n. list_any (λ k. k == risen n) l.failing) c ∙ ap (list_any (λ k. k == risen m.calls)) f

-- a session was given
one_given : (listening : Listening) (come k : ℕ) (first : Back) (before after : Option Listening) → Goes listening come k before → GivesWhereTold (Ok (Some first)) before after → Goes listening come (suc k) after
one_given listening come k first before after n g = by_told after (subst (λ t. GivesWhereTold (Ok (Some first)) t after) n.tells g)
  where
    by_told : (a : Option Listening) → GivesWhereTold (Ok (Some first)) (Some n.it) a → Goes listening come (suc k) a
    by_told None g = absurd g
    by_told (Some x) g = record {
      it = x;
      tells = refl;
      calls_so = ap (λ y. y.calls) g.1.is ∙ ap risen n.calls_so;
      failing_so = ap (λ y. y.failing) g.1.is ∙ n.failing_so;
      come_so = let c = n.come_so in let l = ap length g.1.was_first in omega (arith, l);
    }

module _ {A R X : Type 0} (m : Manner A R X) where
  -- and came back
  one_goes : (listening : Listening) (come k : ℕ) (answer : R) (server left : A) (before after : Listener) → Goes listening come k before.told → sessions.ServesSession m answer server left before after → Goes listening come (suc k) after.told
  one_goes listening come k answer server left before after n s =
      let given = one_given listening come k s.first before.told s.given.told n s.gives.gives in
      record {
        it = with_back s.served.last given.it;
        tells = ap (λ l. l.told) s.served.back ∙ ap (option_map (with_back s.served.last)) given.tells;
        calls_so = given.calls_so;
        failing_so = given.failing_so;
        come_so = given.come_so;
      }

  -- however many were served
  goes_on : (listening : Listening) (come : ℕ) (server : A) (listen : Listener) (out : Device (List ℕ)) (n : ℕ) (left : A) (last : Listener) (said : Device (List ℕ)) → Goes listening come 0 listen.told → ServedSome m server listen out n left last said → Goes listening come n last.told
  goes_on listening come server listen out n left last said w sessions.none = w
  goes_on listening come server listen out n left last said w (sessions.one_more k mid it before after so_far answer text s session shown) =
      one_goes listening come k answer mid it before after (goes_on listening come server listen out k mid before so_far w s) session

-- the next call doesn't fail
never_refused : (address : List ℕ) (count n : ℕ) (told : Option Listening) (w : ListensWhole address count told) (last after : Listener) → n < count → Goes w.listening (length w.sessions) n last.told → FailsToGive last after → ⊥
never_refused address count n told w last after few s f = by_told after.told (subst (λ t. GivesWhereTold (Err stops.Failed) t after.told) s.tells f.gives)
  where
    by_told : (a : Option Listening) → GivesWhereTold (Err stops.Failed) (Some s.it) a → ⊥
    by_told None g = g
    by_told (Some x) g =
        let c = s.come_so in
        let fine = w.none_fails (suc n) (omega arith) in
        absurd (cc (sym g.0 ∙ same_call s.it (after_calls (suc n) w.listening) s.calls_so s.failing_so ∙ fine))

-- where a server stops, what it says is one of these
abbrev pub StopsDone : {X : Type 0} → SessionsStop X → Type 0
StopsDone (Said status) = IsDone status
StopsDone (Answers stop) = Unit {0}

last_done : {X : Type 0} (shown : sessions.Shown X) (said after : Device (List ℕ)) (stop : SessionsStop X) → ServesLast shown said after stop → StopsDone stop
last_done shown said after stop (sessions.line_cut text e w) = inr (inl refl)
last_done shown said after stop (sessions.line_starved text e o) = inr (inr refl)
last_done shown said after stop (sessions.starved e o) = inr (inr refl)
last_done shown said after stop (sessions.stopped x e o) = tt

-- the answer is not another one
abbrev pub AnswersDone : {X : Type 0} → Result (Unit {0}) (SessionsStop X) → Type 0
AnswersDone (Ok u) = Unit {0}
AnswersDone (Err stop) = StopsDone stop

pub sessions_done : {A R X : Type 0} (m : Manner A R X) (address : List ℕ) (told : Option Listening) (server left : A) (count : ℕ) (w : ListensWhole address count told) (listen last : Listener) (before after : Device (List ℕ)) (answer : Result (Unit {0}) (SessionsStop X)) → Goes w.listening (length w.sessions) 0 listen.told
    → ServesSessions m server left count listen last before after answer → AnswersDone answer
sessions_done m address told server left count w listen last before after answer s (sessions.all some) = tt
sessions_done m address told server left count w listen last before after answer s (sessions.fewer n mid few some gives) = tt
sessions_done m address told server left count w listen last before after answer s (sessions.fault n mid said status few some fails e) =
    absurd (never_refused address count n told w mid last few (goes_on m w.listening (length w.sessions) server listen before n left mid said s some) fails)
sessions_done m address told server left count w listen last before after answer s (sessions.starved_to_give n mid few some gives) = inr (inr refl)
sessions_done m address told server left count w listen last before after answer s (sessions.one_last n mid between said a stop few some session ends_so) = last_done (m.shown (suc n) a) said after stop ends_so

host_done : (address : List ℕ) (told : Option Listening) (host : Hosted) (count : ℕ) (w : ListensWhole address count told) (result : Status) (listen last : Listener) (before after : Device (List ℕ)) → Goes w.listening (length w.sessions) 0 listen.told
    → ServesHost host count result listen last before after → IsDone result
host_done address told host count w result listen last before after s (servers.to_end left said some e) = ends_done _ result said after e
host_done address told host count w result listen last before after s (servers.to_stop left some) = sessions_done host_manner address told host left count w listen last before after (Err (Said result)) s some

-- the first call doesn't fail either, and the address is there
first_fine : (address : List ℕ) (count : ℕ) (told : Option Listening) (w : ListensWhole address count told) → started w.listening address ≡ Some w.sessions
first_fine address count told w =
    let fine = w.none_fails 0 (omega arith) in
    ap (λ b. cond b None (w.listening.addresses address)) fine ∙ w.is_there

pub begun_goes : (address : List ℕ) (count : ℕ) (listen begun : Listener) (w : ListensWhole address count listen.told) → Starts address true listen begun → Goes w.listening (length w.sessions) 0 begun.told
begun_goes address count listen begun w s = record {
  it = after_start address w.listening;
  tells = ap (λ l. l.told) s.after_is ∙ ap (option_map (after_start address)) w.tells;
  calls_so = refl;
  failing_so = refl;
  come_so =
      let e : length (after_start address w.listening).coming ≡ length w.sessions = ap (λ o. length (unwrap_or o w.listening.coming)) (first_fine address count listen.told w) in
      omega (arith, e);
}

pub never_unstarted : (address : List ℕ) (count : ℕ) (listen after : Listener) → ListensWhole address count listen.told → Starts address false listen after → ⊥
never_unstarted address count listen after w s =
    let told = subst (λ t. IfSome t (λ l. false ≡ is_some (started l address))) w.tells s.as_told in
    absurd (cc (told ∙ ap is_some (first_fine address count listen.told w)))

listens_done : (host : Hosted) (address : List ℕ) (count : ℕ) (result : Status) (listen last : Listener) (before after : Device (List ℕ)) → ListensWhole address count listen.told → Listens host address count result listen last before after → IsDone result
listens_done host address count result listen last before after w (servers.begins begun starts serves) =
    host_done address listen.told host count w result begun last before after (begun_goes address count listen begun w starts) serves
listens_done host address count result listen last before after w (servers.not_started starts e) = absurd (never_unstarted address count listen last w starts)
listens_done host address count result listen last before after w (servers.starved_at_start r l o) = inr (inr r)

serving_done : OneService → (v : Serving) (text : List ℕ) (served : Served) (result : Status) (listen last : Listener) (before after : Scene) → ToldService before.files.told v.service text served → ListensWhole v.address v.count listen.told → ServesAs v result listen last before after → IsDone result
serving_done one v text served result listen last before after t w (servers.no_service tells same) =
    inr (inr (only_starved (NoService before.files v.service) result before after (service_is_usable one before.files v.service text served t) tells).0)
serving_done one v text served result listen last before after t w (servers.listens found s table f is l files) = listens_done _ v.address v.count result listen last before.out after.out w l

module _ {L D : Type 0} (g : links.Ghosts L) (d : disks.Ghosts D) where
  by_serve : OneService → (v : Serving) (text : List ℕ) (served : Served) (wanted : Option Wanted) (result : Status) (before after : Outside L) → wanted ≡ Some (Serve v) → ToldService before.scene.files.told v.service text served → ListensWhole v.address v.count before.listen.told
      → Says g d wanted result before after → IsDone result
  by_serve one v text served wanted result before after w t l said =
      serving_done one v text served result before.listen after.listen before.scene after.scene t l (subst (λ x. Says g d x result before after) w said).0

  by_child : OneService → (s text : List ℕ) (served : Served) (wanted : Option Wanted) (result : Status) (before after : Outside L) → wanted ≡ Some (Child s) → ToldService before.scene.files.told s text served → ListensWhole (child_of s).address (child_of s).count before.listen.told
      → Says g d wanted result before after → IsDone result
  by_child one s text served wanted result before after w t l said =
      serving_done one (child_of s) text served result before.listen after.listen (unheard before.scene) (unheard after.scene) t l (subst (λ x. Says g d x result before after) w said).0.serves

  pub serves_told : OneService → (wanted : Option Wanted) (result : Status) (before after : Outside L) → Says g d wanted result before after → ServesTold wanted result before
  serves_told one wanted result before after said = λ v text served w t l. by_case v text served t l w
    where
      by_case : (v : Serving) (text : List ℕ) (served : Served) → ToldService before.scene.files.told v.service text served → ListensWhole v.address v.count before.listen.told
          → (wanted ≡ Some (Serve v)) ⊎ ((wanted ≡ Some (Child v.service)) × (v ≡ child_of v.service)) → IsDone result
      by_case v text served t l (inl w) = by_serve one v text served wanted result before after w t l said
      by_case v text served t l (inr w) = by_child one v.service text served wanted result before after w.0 t (subst (λ u. ListensWhole u.address u.count before.listen.told) w.1 l) said
