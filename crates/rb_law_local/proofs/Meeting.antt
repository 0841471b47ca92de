-- How runs that meet follow one another.
use Rattle.std.proofs.Common.{◌≡◌, inl, inr, refl, sym, ap, ◌∙◌, subst, ℕ, suc, List, [], ◌∷◌, ◌++◌, append-nil, arith, true, false, Result, Ok, Err}
use Rattle.std.specs.List.{Contains}
use Rattle.std.proofs.lemmas.List.Elements.{Contains-append_left, Contains-append_right}
use Rattle.rb_trees.specs.declared.values.Fault.{Fault}
use Rattle.rb_trees.specs.declared.outcomes.Raised.{Raised}
use Rattle.rb_trees.specs.mirror.Code.{Expr, expr_at}
use Rattle.rb_trees.specs.mirror.Declarations.{Program}
use Rattle.rb_trees.specs.mirror.Services.{Service}
use Rattle.rb_trees.specs.mirror.Scripts.{NoSteps}
use Rattle.rb_trees.specs.mirror.Forests as forest
use Rattle.rb_meaning_code.specs.State.{Local}
use Rattle.rb_meaning_code.specs.Faults.{raised, raises}
use Rattle.rb_meaning_code.specs.Dialogue.{Line, ListTurn, Outcome, Gave, Faulted, Dialogue, Done, Ask, AskBatch, Run, Handler, handle, seq, on, next, gives, end, told}
use Rattle.rb_meaning_code.specs.Remote.{Server, Reply, Got, Stopped, and_then}
use Rattle.rb_meaning_code.specs.ScriptRun.{Ground, Vars, Ran, on_reply, kept, with_entry, run_steps}
use Rattle.rb_meaning_code.specs.ScriptRun as scripts
use Rattle.rb_meaning_flow.specs.Programs.{is_carried_at}
use Rattle.rb_meaning.specs.State.{Event, Outside}
use Rattle.rb_meaning.specs.Unsplit.{list_turn, in_batch}
use Rattle.rb_meaning_split.specs.Refs.{Refs, sexpr}
use Rattle.rb_meaning_split.specs.Cuts.{counted}
use Rattle.rb_meaning_split.specs.Steps.{keeps}
use Rattle.rb_meaning_split.specs.Replay.{Seen, in_replay}
use Rattle.rb_law_types.specs.Around.{EndsHandled}
use Rattle.rb_law_local.specs.Meets.{Rest, FromOne, Stays, Met, Meets}

pub handle_seq : {S A B : Type 0} (h : Handler S) (run : Dialogue A) (k : A → Dialogue B) (s : S) → handle h (seq run k) s ≡ handle h (k (handle h run s).0) (handle h run s).1
handle_seq h (Done a) k s = refl
handle_seq h (Ask q go) k s = handle_seq h (go (h.answer s q).0) k (h.answer s q).1
handle_seq h (AskBatch at l go) k s = handle_seq h (go (h.batch s at l).0) k (h.batch s at l).1

on_same : {A : Type 0} (id : ℕ) (r : Reply A) (f g : A → Server → Ran) → ((a : A) (s : Server) → f a s ≡ g a s) → on_reply id r f ≡ on_reply id r g
on_same id (Got a s) f g e = e a s
on_same id (Stopped at fault s) f g e = refl

pub none_among : {A : Type 0} (x : A) → Contains [] x → ⊥
none_among x h = omega (arith, h.1)

none_left : {A : Type 0} (xs ys : List A) → xs ++ ys ≡ [] → (xs ≡ []) × (ys ≡ [])
none_left [] ys e = (refl, e)
none_left (x ∷ xs) ys e = absurd (cc (e))

module _ (p : Program) (service : Service) (g : Ground) (refs : Refs) (vars : Vars) (gas : ℕ) (Holds : Outside → Type 0) (Here : ℕ → Type 0) where
  abbrev M : {A : Type 0} → (A → Local → Local → Type 0) → (Local → Local → Type 0) → List Expr → ℕ → Run A → Run A → Type 0
  M Q F es n whole client = Meets p service g refs vars gas Holds Here Q F es n whole client

  abbrev N : {A : Type 0} → (A → Local → Local → Type 0) → (Local → Local → Type 0) → List Expr → Outcome A × Outside → Outcome A × Seen → Ran → Rest → Type 0
  N Q F es whole client ran go = Met p service g refs vars gas Holds Here Q F es whole client ran go

  -- how the run ends where it stands
  pub record Ended {A : Type 0} (P : Outcome A → Type 0) (run : Run A) : Type 0 where
    pub handled : EndsHandled Holds (in_batch p service) (Outcome A) P run

  -- what follows the first of the steps
  abbrev rest_of : ℕ → List Expr → Rest → Rest
  rest_of n es go vs s = run_steps g (keeps p refs n es NoSteps) vs s go

  keeping_more : (es fs : List Expr) (n : ℕ) (vs : Vars) (s : Server) (go : Rest) → rest_of n (es ++ fs) go vs s ≡ rest_of n es (rest_of (counted es n) fs go) vs s
  keeping_more [] fs n vs s go = refl
  keeping_more (e ∷ es) fs n vs s go =
      on_same n (and_then (scripts.value_of g (expr_at e) vs (sexpr p refs e) s) (kept true (expr_at e))) _ _ (λ v s1. ap (with_entry (forest.Value v)) (keeping_more es fs (suc n) vs s1 go))

  widened : {A : Type 0} (Q : A → Local → Local → Type 0) (F : Local → Local → Type 0) (es fs : List Expr) (w : Outcome A × Outside) (c : Outcome A × Seen) (ran inner : Ran) (go : Rest)
      → ran.fault ≡ inner.fault → ran.server ≡ inner.server → N Q F fs w c inner go → N Q F (es ++ fs) w c ran go
  widened Q F es fs (Gave a l, s) c ran inner go f e m = record { local = m.local; relates = m.relates; ends = m.ends; fault = f ∙ m.fault; server = e ∙ m.server }
  widened Q F es fs (Faulted r l, s) c ran inner go f e (inl m) = inl (record {
    local = m.local;
    relates = m.relates;
    from = record { expr = m.from.expr; one = Contains-append_right es fs m.from.expr m.from.one; local = m.from.local; around = m.from.around; place = m.from.place; kind = m.from.kind; typed = m.from.typed; noted = m.from.noted; fits = m.from.fits; holds = m.from.holds; ended = m.from.ended };
    ends = m.ends;
    events = m.events;
    fault = f ∙ m.fault;
    server = e ∙ m.server;
  })
  widened Q F es fs (Faulted r l, s) c ran inner go f e (inr m) = inr (record {
    local = m.local;
    relates = m.relates;
    near = m.near;
    here = m.here;
    ends = m.ends;
    events = m.events;
    stays = λ none. let t = m.stays (none_left es fs none).1 in record { same = t.same; fault = f ∙ t.fault; server = e ∙ t.server };
  })

  module _ {A B : Type 0} {Q : A → Local → Local → Type 0} {F : Local → Local → Type 0} {R : B → Local → Local → Type 0} {G : Local → Local → Type 0} {P : Outcome A → Type 0} {d c : Run A} where
    -- a run and what follows it
    pub then_meets : {es fs : List Expr} {n : ℕ} (k k' : A → Local → Run B) → M Q F es n d c → Ended P d
        → ((a : A) (l cl : Local) → P (Gave a l) → Q a l cl → M R G fs (counted es n) (k a l) (k' a cl))
        → ((r : Raised) (l cl : Local) → P (Faulted r l) → F l cl → G l cl)
        → M R G (es ++ fs) n (next d k) (next c k')
    then_meets {es = es} {fs = fs} {n = n} k k' first ends more falls = record { met = met }
      where
        by : (w : Outcome A × Outside) (o : Outcome A × Seen) (ran : Ran) (go : Rest) → P w.0 → Holds w.1 → N Q F es w o ran (rest_of (counted es n) fs go)
            → N R G (es ++ fs) (handle (in_batch p service) (on k w.0) w.1) (handle in_replay (on k' o.0) o.1) ran go
        by (Gave a l, s) o ran go e holds m =
            subst (λ q. N R G (es ++ fs) (handle (in_batch p service) (k a l) s) (handle in_replay (on k' q.0) q.1) ran go) (sym m.ends)
            (widened R G es fs (handle (in_batch p service) (k a l) s) (handle in_replay (k' a m.local) (record { events = s.events; node = (rest_of (counted es n) fs go vars s.server).node })) ran
            (rest_of (counted es n) fs go vars s.server) go m.fault m.server ((more a l m.local e m.relates).met s.events s.server go holds))
        by (Faulted r l, s) o ran go e holds (inl m) =
            subst (λ q. N R G (es ++ fs) (Faulted r l, s) (handle in_replay (on k' q) o.1) ran go) (sym m.ends) (inl (record {
              local = m.local;
              relates = falls r l m.local e m.relates;
              from = record { expr = m.from.expr; one = Contains-append_left es fs m.from.expr m.from.one; local = m.from.local; around = m.from.around; place = m.from.place; kind = m.from.kind; typed = m.from.typed; noted = m.from.noted; fits = m.from.fits; holds = m.from.holds; ended = m.from.ended };
              ends = refl;
              events = m.events;
              fault = m.fault;
              server = m.server;
            }))
        by (Faulted r l, s) o ran go e holds (inr m) =
            subst (λ q. N R G (es ++ fs) (Faulted r l, s) (handle in_replay (on k' q) o.1) ran go) (sym m.ends) (inr (record {
              local = m.local;
              relates = falls r l m.local e m.relates;
              near = m.near;
              here = m.here;
              ends = refl;
              events = m.events;
              stays = λ none. let both = none_left es fs none in let t = m.stays both.0 in
                  subst (λ q. Stays p service g refs vars gas Holds Here s o.1 ran (rest_of (counted es n) q go vars s.server) → Stays p service g refs vars gas Holds Here s o.1 ran (go vars s.server)) (sym both.1) (λ u. u) t;
            }))

        met : (events : List Event) (server : Server) (go : Rest) → Holds (record { events = events; server = server })
            → N R G (es ++ fs) (handle (in_batch p service) (next d k) (record { events = events; server = server }))
            (handle in_replay (next c k') (record { events = events; node = (rest_of n (es ++ fs) go vars server).node })) (rest_of n (es ++ fs) go vars server) go
        met events server go holds =
            let s : Outside = record { events = events; server = server } in
            let after = rest_of (counted es n) fs go in
            let ran = rest_of n es after vars server in
            let ended = ends.handled s holds in
            subst (λ q. N R G (es ++ fs) (handle (in_batch p service) (next d k) s) (handle in_replay (next c k') (record { events = events; node = q.node })) q go) (sym (keeping_more es fs n vars server go))
            (subst (λ q. N R G (es ++ fs) q (handle in_replay (next c k') (record { events = events; node = ran.node })) ran go) (sym (handle_seq (in_batch p service) d (on k) s))
            (subst (λ q. N R G (es ++ fs) (handle (in_batch p service) (on k (handle (in_batch p service) d s).0) (handle (in_batch p service) d s).1) q ran go) (sym (handle_seq in_replay c (on k') (record { events = events; node = ran.node })))
            (by (handle (in_batch p service) d s) (handle in_replay c (record { events = events; node = ran.node })) ran go ended.0 ended.1 (first.met events server after holds))))

    -- the same, where nothing more is taken
    pub then_last : {es : List Expr} {n : ℕ} (k k' : A → Local → Run B) → M Q F es n d c → Ended P d
        → ((a : A) (l cl : Local) → P (Gave a l) → Q a l cl → M R G [] (counted es n) (k a l) (k' a cl))
        → ((r : Raised) (l cl : Local) → P (Faulted r l) → F l cl → G l cl)
        → M R G es n (next d k) (next c k')
    then_last {es = es} {n = n} k k' first ends more falls = subst (λ q. M R G q n (next d k) (next c k')) (append-nil es) (then_meets k k' first ends more falls)

    -- what follows sees how a run ended that takes nothing
    pub seq_meets : {n : ℕ} (k k' : Outcome A → Run B) → M Q F [] n d c → Ended P d
        → ((a : A) (l cl : Local) → P (Gave a l) → Q a l cl → M R G [] n (k (Gave a l)) (k' (Gave a cl)))
        → ((r : Raised) (l cl : Local) → P (Faulted r l) → r.remote ≡ false → Here r.at → F l cl → M R G [] n (k (Faulted r l)) (k' (Faulted r cl)))
        → M R G [] n (seq d k) (seq c k')
    seq_meets {n = n} k k' first ends more falls = record { met = met }
      where
        by : (w : Outcome A × Outside) (o : Outcome A × Seen) (ran : Ran) (go : Rest) → P w.0 → Holds w.1 → N Q F [] w o ran go
            → N R G [] (handle (in_batch p service) (k w.0) w.1) (handle in_replay (k' o.0) o.1) ran go
        by (Gave a l, s) o ran go e holds m =
            subst (λ q. N R G [] (handle (in_batch p service) (k (Gave a l)) s) (handle in_replay (k' q.0) q.1) ran go) (sym m.ends)
            (widened R G [] [] (handle (in_batch p service) (k (Gave a l)) s) (handle in_replay (k' (Gave a m.local)) (record { events = s.events; node = (go vars s.server).node })) ran (go vars s.server) go
            m.fault m.server ((more a l m.local e m.relates).met s.events s.server go holds))
        by (Faulted r l, s) o ran go e holds (inl m) = absurd (none_among m.from.expr m.from.one)
        by (Faulted r l, s) o ran go e holds (inr m) =
            let t = m.stays refl in
            subst (λ q. N R G [] (handle (in_batch p service) (k (Faulted r l)) s) (handle in_replay (k' q) o.1) ran go) (sym m.ends)
            (subst (λ q. N R G [] (handle (in_batch p service) (k (Faulted r l)) s) (handle in_replay (k' (Faulted r m.local)) q) ran go) (sym t.same)
            (widened R G [] [] (handle (in_batch p service) (k (Faulted r l)) s) (handle in_replay (k' (Faulted r m.local)) (record { events = s.events; node = (go vars s.server).node })) ran (go vars s.server) go
            t.fault t.server ((falls r l m.local e m.near m.here m.relates).met s.events s.server go holds)))

        met : (events : List Event) (server : Server) (go : Rest) → Holds (record { events = events; server = server })
            → N R G [] (handle (in_batch p service) (seq d k) (record { events = events; server = server }))
            (handle in_replay (seq c k') (record { events = events; node = (go vars server).node })) (go vars server) go
        met events server go holds =
            let s : Outside = record { events = events; server = server } in
            let seen : Seen = record { events = events; node = (go vars server).node } in
            let ended = ends.handled s holds in
            subst (λ q. N R G [] q (handle in_replay (seq c k') seen) (go vars server) go) (sym (handle_seq (in_batch p service) d k s))
            (subst (λ q. N R G [] (handle (in_batch p service) (k (handle (in_batch p service) d s).0) (handle (in_batch p service) d s).1) q (go vars server) go) (sym (handle_seq in_replay c k' seen))
            (by (handle (in_batch p service) d s) (handle in_replay c seen) (go vars server) go ended.0 ended.1 (first.met events server go holds)))

  -- a run that ends where it stands
  pub gives_meet : {A : Type 0} {Q : A → Local → Local → Type 0} {F : Local → Local → Type 0} {n : ℕ} (l cl : Local) (a : A) → Q a l cl → M Q F [] n (gives a l) (gives a cl)
  gives_meet l cl a q = record { met = λ events server go holds. record { local = cl; relates = q; ends = refl; fault = refl; server = refl } }

  abbrev Still : ℕ → List Event → Server → Rest → List Expr → Type 0
  Still n events server go es =
      Stays p service g refs vars gas Holds Here (record { events = events; server = server }) (record { events = events; node = (rest_of n es go vars server).node }) (rest_of n es go vars server) (go vars server)

  pub falls_meet : {A : Type 0} {Q : A → Local → Local → Type 0} {F : Local → Local → Type 0} {n : ℕ} (l cl : Local) (es : List Expr) (r : Raised) → r.remote ≡ false → Here r.at → F l cl
      → M Q F es n (Done (Faulted r l)) (Done (Faulted r cl))
  falls_meet {n = n} l cl es r near here h = record {
    met = λ events server go holds. inr (record {
      local = cl;
      relates = h;
      near = near;
      here = here;
      ends = refl;
      events = refl;
      stays = λ none. subst (Still n events server go) (sym none) (record { same = refl; fault = refl; server = refl });
    });
  }

  -- a line is shown on both sides
  pub line_meets : {Q : Unit {0} → Local → Local → Type 0} {F : Local → Local → Type 0} {n : ℕ} (l cl : Local) (at : ℕ) (bytes : List ℕ) → Q tt l cl → M Q F [] n (Ask (Line at bytes) (told l)) (Ask (Line at bytes) (told cl))
  line_meets l cl at bytes q = record { met = λ events server go holds. record { local = cl; relates = q; ends = refl; fault = refl; server = refl } }

  -- a turn over a list goes on, where no carried loop stands
  pub turn_meets : {B : Type 0} {R : B → Local → Local → Type 0} {F : Local → Local → Type 0} {n : ℕ} (l cl : Local) (at : ℕ) (k k' : Unit {0} → Local → Run B) → is_carried_at p at ≡ false → M R F [] n (k tt l) (k' tt cl)
      → M R F [] n (next (Ask (ListTurn at) (told l)) k) (next (Ask (ListTurn at) (told cl)) k')
  turn_meets {R = R} {F = F} {n = n} l cl at k k' plain m = record {
    met = λ events server go holds.
        let s : Outside = record { events = events; server = server } in
        let ran = rest_of n [] go vars server in
        subst (λ t. N R F [] (handle (in_batch p service) (seq (told l (list_turn t at s).0) (on k)) (list_turn t at s).1) (handle in_replay (next (Ask (ListTurn at) (told cl)) k') (record { events = events; node = ran.node })) ran go)
        (sym plain) (m.met events server go holds);
  }

  -- what is said of the ends, in other words
  pub told_otherwise : {A : Type 0} {Q R : A → Local → Local → Type 0} {F G : Local → Local → Type 0} {P : Outcome A → Type 0} {es : List Expr} {n : ℕ} {d c : Run A} → M Q F es n d c → Ended P d
      → ((a : A) (l cl : Local) → P (Gave a l) → Q a l cl → R a l cl) → ((r : Raised) (l cl : Local) → P (Faulted r l) → F l cl → G l cl) → M R G es n d c
  told_otherwise {A = A} {Q = Q} {R = R} {F = F} {G = G} {P = P} {es = es} {n = n} {d = d} {c = c} m ended gave fell = record {
    met = λ events server go holds.
        let s : Outside = record { events = events; server = server } in
        let ran = rest_of n es go vars server in
        by (handle (in_batch p service) d s) (handle in_replay c (record { events = events; node = ran.node })) ran go (ended.handled s holds).0 (m.met events server go holds);
  }
    where
      by : (w : Outcome A × Outside) (o : Outcome A × Seen) (ran : Ran) (go : Rest) → P w.0 → N Q F es w o ran go → N R G es w o ran go
      by (Gave a l, s) o ran go h t = record { local = t.local; relates = gave a l t.local h t.relates; ends = t.ends; fault = t.fault; server = t.server }
      by (Faulted r l, s) o ran go h (inl t) = inl (record { local = t.local; relates = fell r l t.local h t.relates; from = t.from; ends = t.ends; events = t.events; fault = t.fault; server = t.server })
      by (Faulted r l, s) o ran go h (inr t) = inr (record { local = t.local; relates = fell r l t.local h t.relates; near = t.near; here = t.here; ends = t.ends; events = t.events; stays = t.stays })

  pub end_meets : {A : Type 0} {Q : A → Local → Local → Type 0} {F : Local → Local → Type 0} {n : ℕ} (l cl : Local) (at : ℕ) (r : Result A Fault) → Here at → ((a : A) → r ≡ Ok a → Q a l cl) → F l cl
      → M Q F [] n (end l (raises at r)) (end cl (raises at r))
  end_meets l cl at (Ok a) here q h = gives_meet l cl a (q a refl)
  end_meets l cl at (Err f) here q h = falls_meet l cl [] (raised f at) refl here h

  -- a check of a rule and what follows it, in the same state
  pub after_check : {A B : Type 0} {R : B → Local → Local → Type 0} {F : Local → Local → Type 0} {n : ℕ} (l cl : Local) (es : List Expr) (at : ℕ) (r : Result A Fault) (k k' : A → Local → Run B) → Here at → F l cl
      → ((a : A) → r ≡ Ok a → M R F es n (k a l) (k' a cl)) → M R F es n (next (end l (raises at r)) k) (next (end cl (raises at r)) k')
  after_check l cl es at (Ok a) k k' here h more = more a refl
  after_check l cl es at (Err f) k k' here h more = falls_meet l cl es (raised f at) refl here h

-- runs that meet with faults at some positions meet with faults at more
pub meets_more : {p : Program} {service : Service} {g : Ground} {refs : Refs} {vars : Vars} {gas : ℕ} {Holds : Outside → Type 0} {Here There : ℕ → Type 0} {A : Type 0} {Q : A → Local → Local → Type 0} {F : Local → Local → Type 0} {es : List Expr} {n : ℕ}
    {d c : Run A} → ((at : ℕ) → Here at → There at) → Meets p service g refs vars gas Holds Here Q F es n d c → Meets p service g refs vars gas Holds There Q F es n d c
meets_more {p = p} {service = service} {g = g} {refs = refs} {vars = vars} {gas = gas} {Holds = Holds} {Here = Here} {There = There} {A = A} {Q = Q} {F = F} {es = es} {n = n} {d = d} {c = c} more m = record {
  met = λ events server go holds.
      let ran = run_steps g (keeps p refs n es NoSteps) vars server go in
      by (handle (in_batch p service) d (record { events = events; server = server })) (handle in_replay c (record { events = events; node = ran.node })) ran go (m.met events server go holds);
}
  where
    same_origin : (r : Raised) → FromOne p service g refs vars gas Holds Here es r → FromOne p service g refs vars gas Holds There es r
    same_origin r o = record { expr = o.expr; one = o.one; local = o.local; around = o.around; place = o.place; kind = o.kind; typed = o.typed; noted = o.noted; fits = o.fits; holds = o.holds; ended = o.ended }

    by : (w : Outcome A × Outside) (o : Outcome A × Seen) (ran : Ran) (go : Rest) → Met p service g refs vars gas Holds Here Q F es w o ran go → Met p service g refs vars gas Holds There Q F es w o ran go
    by (Gave a l, s) o ran go t = record { local = t.local; relates = t.relates; ends = t.ends; fault = t.fault; server = t.server }
    by (Faulted r l, s) o ran go (inl t) = inl (record { local = t.local; relates = t.relates; from = same_origin r t.from; ends = t.ends; events = t.events; fault = t.fault; server = t.server })
    by (Faulted r l, s) o ran go (inr t) =
        inr (record { local = t.local; relates = t.relates; near = t.near; here = more r.at t.here; ends = t.ends; events = t.events; stays = λ none. let q = t.stays none in record { same = q.same; fault = q.fault; server = q.server } })
