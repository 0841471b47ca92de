-- Expressions of local code meet.
use Rattle.std.proofs.Common.{◌≡◌, inl, inr, refl, sym, ap, ◌∙◌, subst, ℕ, List, [], ◌∷◌, ◌++◌, append-nil, arith, Bool as Truth, true, false, cond, Option, Some, None, is_some, Result, Ok}
use Rattle.std.proofs.lemmas.Bool.{and_parts, eq-eqb}
use Rattle.rb_trees.specs.Outcome.{known, must, ◌>>◌}
use Rattle.rb_trees.specs.declared.code.BinOp.{BinOp}
use Rattle.rb_trees.specs.declared.code.BinOp.TheVariants as binary
use Rattle.rb_trees.specs.declared.values.Value.{Value}
use Rattle.rb_trees.specs.declared.values.Value.TheOpen.{Value-F}
use Rattle.rb_trees.specs.declared.values.Value.TheViews.{out-Value}
use Rattle.rb_trees.specs.declared.values.Fault.{Fault}
use Rattle.rb_trees.specs.declared.forests.NodeFault.{NodeFault}
use Rattle.rb_trees.specs.mirror.Code.{Expr, Exprs, Lit, Name, This, Unary, Binary, Field, Call, Index, New, Items, Taken, NoExprs, MoreExprs, expr_at}
use Rattle.rb_trees.specs.mirror.Declarations.{Program, Interface}
use Rattle.rb_trees.specs.mirror.Services.{Service}
use Rattle.rb_trees.specs.mirror.Forests as forest
use Rattle.rb_trees.specs.mirror.Forests.{Node, Holds as Has}
use Rattle.rb_meaning_types.specs.Kinds as kind
use Rattle.rb_meaning_types.specs.Kinds.{Kind, is_primitive}
use Rattle.rb_meaning_types.specs.Violations.{Placed, UnknownName}
use Rattle.rb_meaning_types.specs.Declared.{Declarations, Context, of_program}
use Rattle.rb_meaning_types.specs.Scopes as typed
use Rattle.rb_meaning_types.specs.Expressions.{this_kind}
use Rattle.rb_meaning_types.specs.Notes.{type_at}
use Rattle.rb_meaning_types.specs.Fits.{classes_of, IsIntValue, IsBoolValue, IsTextValue, IsObjectOf, Fits, this_name, frame_scope}
use Rattle.rb_meaning_code.specs.State.{Names, Local}
use Rattle.rb_meaning_code.specs.Faults as faults
use Rattle.rb_meaning_code.specs.Faults.{raises}
use Rattle.rb_meaning_code.specs.Operators.{on_one, on_two, by_left}
use Rattle.rb_meaning_code.specs.Dialogue.{Outcome, Gave, Faulted, Run, handle, next, gives, end}
use Rattle.rb_meaning_code.specs.Objects.{constructed, field_of}
use Rattle.rb_meaning_code.specs.Calls.{Bodies, call, called}
use Rattle.rb_meaning_code.specs.Expressions.{value_of, indexed, list_of, decided_or, evaluates, evaluates_all}
use Rattle.rb_meaning_code.specs.Bodies.{bodies_of, body_within}
use Rattle.rb_meaning_code.specs.Remote.{Server, Reply, Got, and_then, replies}
use Rattle.rb_meaning_code.specs.ScriptRun as scripts
use Rattle.rb_meaning_code.specs.ScriptRun.{Ground, Vars, Ran, on_reply, kept, with_entry, in_front}
use Rattle.rb_meaning_flow.specs.Facts.{Facts, facts_of, is_remote, is_object}
use Rattle.rb_meaning_flow.specs.Scopes.{Scope}
use Rattle.rb_meaning_flow.specs.Portable.{portable, holds_call}
use Rattle.rb_meaning_flow.specs.Marks.{is_portable_call}
use Rattle.rb_meaning_flow.specs.Refusals.{is_and_or}
use Rattle.rb_meaning.specs.State.{Event, Outside}
use Rattle.rb_meaning.specs.Unsplit.{in_batch}
use Rattle.rb_meaning.specs.RemotePart.{with_names, reply_of}
use Rattle.rb_meaning.specs.RemoteExprs.{whole_or, remote_in, all_remote_in}
use Rattle.rb_meaning_split.specs.Refs.{Refs}
use Rattle.rb_meaning_split.specs.Cuts.{counted, taken_or, cut, cut_all}
use Rattle.rb_meaning_split.specs.Replay.{Seen, taken, with_taken, missed, in_replay}
use Rattle.rb_law_types.specs.Ends.{Place, FitsPlace, GaveFit, Ends, OfKinds}
use Rattle.rb_law_types.specs.Around.{EndsHandled}
use Rattle.rb_law_types.specs.Asked.{Own}
use Rattle.rb_law_types.specs.Admitted.{HasMethod, CallsNoRemote}
use Rattle.rb_law_types.specs.Code.{AreTyped, OfBatchCode, EndsIn}
use Rattle.rb_law_types.proofs.Checks.{bind_ok, known_ok}
use Rattle.rb_law_types.proofs.Values.{of_class, fits_more}
use Rattle.rb_law_types.proofs.Known.{Known, typed_known, class_apart}
use Rattle.rb_law_types.proofs.OwnKinds.{IsCall, IsFarCall, call_how}
use Rattle.rb_law_types.proofs.Objects.{arguments_do}
use Rattle.rb_law_types.proofs.Exprs.{call_runs}
use Rattle.rb_law_types.proofs.Bodies.{AskKnown, bodies_keep}
use Rattle.rb_law_types.proofs.TypeFacts.{kind_here, object_fact}
use Rattle.rb_law_local.specs.Shown.{is_far, seen, at_client, SameNames, FellSame}
use Rattle.rb_law_local.specs.Wanted.{Wanted, AllWanted}
use Rattle.rb_law_local.specs.Parted.{Parted, AllParted}
use Rattle.rb_law_local.specs.Placed.{PlacedExpr, PlacedExprs}
use Rattle.rb_law_local.proofs.Near.{StandPlain}
use Rattle.rb_law_local.specs.Meets.{Rest, Met, Meets}
use Rattle.rb_law_local.proofs.Names.{begins_fit, seen_value, seen_this}
use Rattle.rb_law_local.proofs.Meeting.{Ended, then_meets, gives_meet, end_meets, after_check}
use Rattle.rb_law_local.proofs.Alike.{call_meets}
use Rattle.rb_law_local.proofs.Coded.{Code, Codes, unary_code, binary_code, field_code, call_code, index_code, new_code, items_code, taken_code, first_code}
use Rattle.rb_law_local.proofs.Portable.{put_at, local_of, value_twins, value_ended, values_ended}
use Rattle.rb_law_local.proofs.Uncut.{nothing_taken}

-- a value of a primitive type may be kept

int_kept : (w : Value-F Value) → IsIntValue w → scripts.is_primitive w ≡ true
int_kept (Value-F.Int n) h = refl
int_kept Value-F.Unit h = absurd h
int_kept _ h = absurd h

bool_kept : (w : Value-F Value) → IsBoolValue w → scripts.is_primitive w ≡ true
bool_kept (Value-F.Bool b) h = refl
bool_kept Value-F.Unit h = absurd h
bool_kept _ h = absurd h

text_kept : (w : Value-F Value) → IsTextValue w → scripts.is_primitive w ≡ true
text_kept (Value-F.Text t) h = refl
text_kept Value-F.Unit h = absurd h
text_kept _ h = absurd h

kept_fits : (is : List Interface) (cs : List (List ℕ)) (k : Kind) (v : Value) → is_primitive k ≡ true → Fits is cs k v → scripts.is_primitive (out-Value v) ≡ true
kept_fits is cs kind.Int v t h = int_kept (out-Value v) h
kept_fits is cs kind.Bool v t h = bool_kept (out-Value v) h
kept_fits is cs kind.Text v t h = text_kept (out-Value v) h
kept_fits is cs kind.Unit v t h = absurd (cc (t))
kept_fits is cs _ v t h = absurd (cc (t))

-- only `&&` and `||` decide by the left operand
decides : (op : BinOp) (w : Value-F Value) (v : Value) → by_left op w ≡ Ok (Some v) → is_and_or op ≡ true
decides binary.And w v e = refl
decides binary.Or w v e = refl
decides binary.Add w v e = absurd (cc (e))
decides _ w v e = absurd (cc (e))

-- a call on an own object
own_called : (bodies : Bodies) (cs : List (List ℕ)) (class : List ℕ) (at : ℕ) (v : Value) (w : Value-F Value) (name : List ℕ) (args : List Value) (l : Local) → IsObjectOf cs class w → call bodies at v name args l ≡ called bodies at v w name args l
own_called bodies cs class at v (Value-F.Ref object) name args l h = refl
own_called bodies cs class at v Value-F.Unit name args l h = absurd h
own_called bodies cs class at v _ name args l h = absurd h

no_batches : (d : Declarations) → AskKnown d [] false
no_batches d class name m has may holds = let wrong = may holds.remote in absurd (cc (wrong))

module _ (p : Program) (service : Service) (g : Ground) (refs : Refs) (vars : Vars) (gas : ℕ) (Holds : Outside → Type 0) (Here : ℕ → Type 0) (this : Option (List ℕ)) (remote : Truth)
    (keeps : OfBatchCode (of_program p) (type_at p) (λ A P run. EndsHandled Holds (in_batch p service) A P run)) (declared : AreTyped (of_program p))
    (near_this : (class : List ℕ) → this ≡ Some class → is_far (of_program p) (kind.Named class) ≡ false) (vs : Scope) (placed : StandPlain p Here) (ws : typed.Scope) where
  abbrev d : Declarations
  d = of_program p

  abbrev x : Context
  x = record { declared = d; this = this; remote = remote }

  abbrev place : Place
  place = record { this = this; remote = remote; scope = ws }

  abbrev f : Facts
  f = facts_of p

  abbrev code : Bodies
  code = bodies_of p.classes gas

  -- local code stands at these positions
  abbrev Stood : Expr → Type 0
  Stood e = PlacedExpr Here (is_portable_call f vs) e

  abbrev AllPlaced : Exprs → Type 0
  AllPlaced es = PlacedExprs Here (is_portable_call f vs) es

  abbrev seen_at : Local → Local
  seen_at l = at_client x ws l

  abbrev M : {A : Type 0} → (A → Local → Local → Type 0) → (Local → Local → Type 0) → List Expr → ℕ → Run A → Run A → Type 0
  M Q F es n whole client = Meets p service g refs vars gas Holds Here Q F es n whole client

  -- expressions, which leave the names as they are
  abbrev E : {A : Type 0} → Names → List Expr → ℕ → Run A → Run A → Type 0
  E ns es n whole client = M (SameNames x ws ns) (FellSame x ws ns) es n whole client

  abbrev W : Names → List Expr → Type 0
  W ns es = AllWanted p service g refs vars Holds x ws ns es

  pub wanted_left : (ns : Names) (es fs : List Expr) → W ns (es ++ fs) → W ns es
  wanted_left ns [] fs h = tt
  wanted_left ns (e ∷ es) fs h = (h.0, wanted_left ns es fs h.1)

  pub wanted_right : (ns : Names) (es fs : List Expr) → W ns (es ++ fs) → W ns fs
  wanted_right ns [] fs h = h
  wanted_right ns (e ∷ es) fs h = wanted_right ns es fs h.1

  -- an expression and what follows it
  pub then_here : {A B : Type 0} {T : List (List ℕ) → A → Type 0} {cs : List (List ℕ)} {R : B → Local → Local → Type 0} {G : Local → Local → Type 0} {ns : Names} {es fs : List Expr} {n : ℕ} {whole client : Run A} (k k' : A → Local → Run B)
      → E ns es n whole client → Ended p service g refs vars gas Holds Here (Ends x ws ws T cs) whole
      → ((a : A) (l1 : Local) → GaveFit x ws T cs a l1 → l1.names ≡ ns → M R G fs (counted es n) (k a l1) (k' a (seen_at l1)))
      → ((l1 : Local) → l1.names ≡ ns → G l1 (seen_at l1))
      → M R G (es ++ fs) n (next whole k) (next client k')
  then_here {R = R} {G = G} {es = es} {fs = fs} {n = n} k k' first ended more falls =
      then_meets p service g refs vars gas Holds Here k k' first ended
      (λ a l1 cl fit q. subst (λ c. M R G fs (counted es n) (k a l1) (k' a c)) (sym q.1) (more a l1 fit q.0))
      (λ r l1 cl fit q. subst (G l1) (sym q.1) (falls l1 q.0))

  pub last_here : {A B : Type 0} {T : List (List ℕ) → A → Type 0} {cs : List (List ℕ)} {R : B → Local → Local → Type 0} {G : Local → Local → Type 0} {ns : Names} {es : List Expr} {n : ℕ} {whole client : Run A} (k k' : A → Local → Run B)
      → E ns es n whole client → Ended p service g refs vars gas Holds Here (Ends x ws ws T cs) whole
      → ((a : A) (l1 : Local) → GaveFit x ws T cs a l1 → l1.names ≡ ns → M R G [] (counted es n) (k a l1) (k' a (seen_at l1)))
      → ((l1 : Local) → l1.names ≡ ns → G l1 (seen_at l1))
      → M R G es n (next whole k) (next client k')
  last_here {R = R} {G = G} {es = es} {n = n} {whole = whole} {client = client} k k' first ended more falls =
      subst (λ q. M R G q n (next whole k) (next client k')) (append-nil es) (then_here k k' first ended more falls)

  -- a value, and a fault, in the same names
  here_gives : {A : Type 0} {ns : Names} {n : ℕ} (a : A) (l : Local) → l.names ≡ ns → E ns [] n (gives a l) (gives a (seen_at l))
  here_gives a l same = gives_meet p service g refs vars gas Holds Here l (seen_at l) a (same, refl)

  here_ends : {A : Type 0} {ns : Names} {n : ℕ} (l : Local) (at : ℕ) (r : Result A Fault) → Here at → l.names ≡ ns → E ns [] n (end l (raises at r)) (end (seen_at l) (raises at r))
  here_ends l at r here same = end_meets p service g refs vars gas Holds Here l (seen_at l) at r here (λ a e. (same, refl)) (same, refl)

  here_reads : {A : Type 0} {ns : Names} {n : ℕ} (l : Local) (at : ℕ) (r r' : Result A Fault) → Here at → r' ≡ r → l.names ≡ ns → E ns [] n (end l (raises at r)) (end (seen_at l) (raises at r'))
  here_reads {ns = ns} {n = n} l at r r' here e same = subst (λ q. E ns [] n (end l (raises at r)) (end (seen_at l) (raises at q))) (sym e) (here_ends l at r here same)

  -- what a step kept

  taken_front : (n : ℕ) (v : Value) (nd : Node) → taken n (in_front (forest.Value v) nd) ≡ (Ok v, nd)
  taken_front n v (Has es fault) = refl

  may_be_kept : (at : ℕ) (v : Value) (s : Server) → scripts.is_primitive (out-Value v) ≡ true → kept true at v s ≡ Got v s
  may_be_kept at v s e = ap (λ t. replies at (must t faults.kind >> Ok v) s) e

  abbrev ran_of : ℕ → Expr → Rest → Reply Value → Ran
  ran_of n e go r = on_reply n (and_then r (kept true (expr_at e))) (λ v s1. with_entry (forest.Value v) (go vars s1))

  abbrev takes : ℕ → Expr → Local → List Event → Node → Outcome Value × Seen
  takes n e l events nd = handle in_replay (evaluates code (Taken (expr_at e) n) (seen_at l)) (record { events = events; node = nd })

  taken_meets : (e : Expr) (k : Kind) (n : ℕ) (l : Local) → is_portable_call f vs e ≡ true → Code (type_at p) x ws e k → FitsPlace d place l → Wanted p service g refs vars Holds x ws l.names e
      → E l.names (e ∷ []) n (evaluates code e l) (evaluates code (Taken (expr_at e) n) (seen_at l))
  taken_meets e k n l whole c fits wanted = record {
    met = λ events server go holds.
        let s : Outside = record { events = events; server = server } in
        let w = handle (in_batch p service) (evaluates code e l) s in
        let t = (value_twins p service g refs vars gas Holds Here this remote keeps ws vs e k l (and_parts (portable f vs e) (holds_call f e) whole).0 c fits).twins s holds in
        let ended = (value_ended p service g refs vars gas Holds Here this remote keeps ws e k l c fits).handled s holds in
        subst (λ q. Met p service g refs vars gas Holds Here (SameNames x ws l.names) (FellSame x ws l.names) (e ∷ []) w (takes n e l events (ran_of n e go q).node) (ran_of n e go q) go)
        (sym (wanted.reads (expr_at e) s holds ∙ ap reply_of t.ends))
        (by events s go holds w refl ended.0 t.local t.still);
  }
    where
      by : (events : List Event) (s : Outside) (go : Rest) → Holds s → (w : Outcome Value × Outside) → (handle (in_batch p service) (evaluates code e l) s).0 ≡ w.0 → EndsIn d place l k w.0 → w.0 ≡ put_at l w.0 → w.1.events ≡ events
          → Met p service g refs vars gas Holds Here (SameNames x ws l.names) (FellSame x ws l.names) (e ∷ []) w (takes n e l events (ran_of n e go (reply_of (put_at (with_names l.names) w.0, w.1.server))).node)
          (ran_of n e go (reply_of (put_at (with_names l.names) w.0, w.1.server))) go
      by events s go holds (Gave v l1, s1) is fit at_l still =
          let same : l1 ≡ l = ap local_of at_l in
          let nd = (go vars s1.server).node in
          subst (λ q. Met p service g refs vars gas Holds Here (SameNames x ws l.names) (FellSame x ws l.names) (e ∷ []) (Gave v l1, s1)
          (takes n e l events (on_reply n q (λ u s2. with_entry (forest.Value u) (go vars s2))).node) (on_reply n q (λ u s2. with_entry (forest.Value u) (go vars s2))) go)
          (sym (may_be_kept (expr_at e) v s1.server (kept_fits p.interfaces (classes_of l1.heap) k v (wanted.primitive k c.typed) fit.gives)))
          (record {
            local = seen_at l;
            relates = (ap (λ q. q.names) same, ap seen_at (sym same));
            ends = ap (λ q. handle in_replay (end (seen_at l) (with_taken (record { events = events; node = in_front (forest.Value v) nd }) q).0) (with_taken (record { events = events; node = in_front (forest.Value v) nd }) q).1) (taken_front n v nd)
                ∙ ap (λ q. (Gave v (seen_at l), record { events = q; node = nd })) (sym still);
            fault = refl;
            server = refl;
          })
      by events s go holds (Faulted r l1, s1) is fit at_l still =
          let same : l1 ≡ l = ap local_of at_l in
          let stop : NodeFault = record { step = n; at = r.at; fault = r.fault } in
          inl (record {
            local = seen_at l;
            relates = (ap (λ q. q.names) same, ap seen_at (sym same));
            from = record {
              expr = e;
              one = (0, omega arith, refl);
              local = l;
              around = s;
              place = place;
              kind = k;
              typed = (c.typed, c.formed);
              noted = (c.noted, c.admitted);
              fits = fits;
              holds = holds;
              ended = is ∙ ap (Faulted r) same;
            };
            ends = ap (λ t. Faulted (missed (cond t (Some stop) None)) (seen_at l)) (eq-eqb n n refl);
            events = sym still;
            fault = refl;
            server = refl;
          })

  -- what was kept, where the expression is taken as a whole
  whole_meets : (e : Expr) (k : Kind) (n : ℕ) (l : Local) (ns : Names) (es : List Expr) (parts : Expr) → Code (type_at p) x ws e k → FitsPlace d place l → l.names ≡ ns → W ns (whole_or f vs e es)
      → (is_portable_call f vs e ≡ false → W ns es → E ns es n (evaluates code e l) (evaluates code parts (seen_at l)))
      → E ns (whole_or f vs e es) n (evaluates code e l) (evaluates code (taken_or f vs n e parts) (seen_at l))
  whole_meets e k n l ns es parts c fits same wanted inside = by (is_portable_call f vs e) refl wanted
    where
      by : (t : Truth) → is_portable_call f vs e ≡ t → W ns (cond t (e ∷ []) es) → E ns (cond t (e ∷ []) es) n (evaluates code e l) (evaluates code (cond t (Taken (expr_at e) n) parts) (seen_at l))
      by true is w =
          subst (λ q. E q (e ∷ []) n (evaluates code e l) (evaluates code (Taken (expr_at e) n) (seen_at l))) same
          (taken_meets e k n l is c fits (subst (λ q. Wanted p service g refs vars Holds x ws q e) (sym same) w.0))
      by false is w = inside is w

  -- what the left operand decides
  decided_meets : (ns : Names) (l : Local) (es : List Expr) (n : ℕ) (decided : Option Value) (go go' : Local → Run Value) → l.names ≡ ns → ((v : Value) → decided ≡ Some v → es ≡ []) → E ns es n (go l) (go' (seen_at l))
      → E ns es n (decided_or decided go l) (decided_or decided go' (seen_at l))
  decided_meets ns l es n (Some v) go go' same none h = subst (λ q. E ns q n (gives v l) (gives v (seen_at l))) (sym (none v refl)) (here_gives v l same)
  decided_meets ns l es n None go go' same none h = h

  -- a call of an own method
  own_meets : (ns : Names) (n at : ℕ) (a : Expr) (method : List ℕ) (q : Placed) (ts : List Placed) (k : Kind) (v : Value) (us : List Value) (l : Local) → IsCall d remote at method q ts k → CallsNoRemote d method q.kind → Here at → l.names ≡ ns
      → FitsPlace d place l → Fits p.interfaces (classes_of l.heap) q.kind v → OfKinds x ts (classes_of l.heap) us
      → E ns [] n (called code at v (out-Value v) method us l) (called code at v (out-Value v) method us (seen_at l))
  own_meets ns n at a method q ts k v us l c calls here same fits fv fus =
      let apart = class_apart d known' c.class c.of_class c.found in
      let on_it : Fits p.interfaces (classes_of l.heap) (kind.Named c.class) v = subst (λ m. Fits p.interfaces (classes_of l.heap) m v) c.receiver fv in
      let stands = of_class p.interfaces (classes_of l.heap) c.class v apart on_it in
      let has : HasMethod d c.class method c.method = record { of_class = c.of_class; found = c.found; method = c.there } in
      let not_remote : c.method.remote ≡ false = calls c.class c.method c.receiver (ap is_some apart) has in
      let runs = call_runs (Own []) x known' false (body_within p.classes gas) (bodies_keep d known' [] false (no_batches d) gas) ws l at c.class method c.of_class c.method v us c.found c.there
      (λ is_remote'. absurd (cc (not_remote, is_remote'))) fits on_it (arguments_do x (classes_of l.heap) at c.method.signature.params ts us c.args_fit fus) in
      subst (λ m. E m [] n (called code at v (out-Value v) method us l) (called code at v (out-Value v) method us (seen_at l))) same
      (subst (λ m. E l.names [] n m (called code at v (out-Value v) method us (seen_at l))) (own_called code (classes_of l.heap) c.class at v (out-Value v) method us l stands)
      (subst (λ m. E l.names [] n (call code at v method us l) m) (own_called code (classes_of l.heap) c.class at v (out-Value v) method us (seen_at l) stands)
      (call_meets p service g refs vars gas Holds Here x ws d _ at v method us l n placed here runs.keeps)))
    where
      known' : Known d
      known' = typed_known d declared

  -- a call that isn't remote is of an own method
  not_remote_call : (a : Expr) (q : Kind) → (is_remote f a ≡ false) → Code (type_at p) x ws a q → IsFarCall d q → ⊥
  not_remote_call a q near c far =
      let object : is_remote f a ≡ is_object d q = object_fact p (expr_at a) q (kind_here (type_at p) x ws a q c.noted c.typed) in
      let there : is_object d q ≡ true = ap (is_object d) far.receiver ∙ ap is_some far.found in
      absurd (cc (near, object, there))

  this_meets : (ns : Names) (n at : ℕ) (l : Local) (k : Kind) (t : Option (List ℕ)) → this ≡ t → this_kind t at ≡ Ok k → Here at → FitsPlace d place l → l.names ≡ ns → E ns [] n (evaluates code (This at) l) (evaluates code (This at) (seen_at l))
  this_meets ns n at l k (Some class) is e here fits same =
      here_reads l at (value_of l.names this_name) (value_of (seen x ws l.names) this_name) here
      (ap (known faults.kind) (seen_this x class ws l.names is (begins_fit p.interfaces (classes_of l.heap) (frame_scope this ws) l.names fits.holds.names_fit) (near_this class is))) same
  this_meets ns n at l k None is e here fits same = absurd (cc (e))

  mutual
    pub value_meets : (e : Expr) (k : Kind) (n : ℕ) (l : Local) (ns : Names) → Code (type_at p) x ws e k → Parted f vs x ws e → Stood e → FitsPlace d place l → l.names ≡ ns → W ns (remote_in f vs e)
        → E ns (remote_in f vs e) n (evaluates code e l) (evaluates code (cut f vs n e) (seen_at l))
    value_meets (Lit at v) k n l ns c h u fits same w = here_gives v l same
    value_meets (Name at name) k n l ns c h u fits same w =
        let s = bind_ok (known (UnknownName at) (typed.variable_named ws name)) _ k c.typed in
        let is : (s.0).kind ≡ k = cc (s.2) in
        here_reads l at (value_of l.names name) (value_of (seen x ws l.names) name) u
        (ap (known faults.kind) (seen_value x ws l.names name s.0 c.formed (begins_fit p.interfaces (classes_of l.heap) (frame_scope this ws) l.names fits.holds.names_fit)
        (known_ok (UnknownName at) (typed.variable_named ws name) s.0 s.1) (ap (is_far d) is ∙ h k c.typed))) same
    value_meets (This at) k n l ns c h u fits same w = this_meets ns n at l k this refl c.typed u fits same
    value_meets (Unary at op a) k n l ns c h u fits same wanted =
        let s = unary_code (type_at p) x ws at op a k c in
        whole_meets (Unary at op a) k n l ns (remote_in f vs a) (Unary at op (cut f vs n a)) c fits same wanted (λ not w.
        last_here _ _ (value_meets a s.kind n l ns s.code (h not) (u not).1 fits same w) (value_ended p service g refs vars gas Holds Here this remote keeps ws a s.kind l s.code fits)
        (λ v l1 fit same1. here_ends l1 at (on_one op (out-Value v)) (u not).0 same1) (λ l1 same1. (same1, refl)))
    value_meets (Binary at op a b) k n l ns c h u fits same wanted =
        let s = binary_code (type_at p) x ws at op a b k c in
        let m = counted (remote_in f vs a) n in
        whole_meets (Binary at op a b) k n l ns (remote_in f vs a ++ remote_in f vs b) (Binary at op (cut f vs n a) (cut f vs m b)) c fits same wanted (λ not w.
        then_here _ _ (value_meets a s.left n l ns s.first (h not).0 (u not).1 fits same (wanted_left ns (remote_in f vs a) (remote_in f vs b) w)) (value_ended p service g refs vars gas Holds Here this remote keeps ws a s.left l s.first fits)
        (λ v l1 fit same1.
        after_check p service g refs vars gas Holds Here l1 (seen_at l1) (remote_in f vs b) at (by_left op (out-Value v)) _ _ (u not).0 (same1, refl) (λ decided is.
        decided_meets ns l1 (remote_in f vs b) m decided _ _ same1
        (λ r some. nothing_taken f vs b ((h not).2 (decides op (out-Value v) r (is ∙ ap Ok some))))
        (last_here _ _ (value_meets b s.right m l1 ns s.second (h not).1 (u not).2 fit.state same1 (wanted_right ns (remote_in f vs a) (remote_in f vs b) w))
        (value_ended p service g refs vars gas Holds Here this remote keeps ws b s.right l1 s.second fit.state)
        (λ r l2 fit2 same2. here_ends l2 at (on_two op (out-Value v) (out-Value r)) (u not).0 same2) (λ l2 same2. (same2, refl)))))
        (λ l1 same1. (same1, refl)))
    value_meets (Field at a name) k n l ns c h u fits same w =
        let s = field_code (type_at p) x ws at a name k c in
        last_here _ _ (value_meets a s.kind n l ns s.code h u.1 fits same w) (value_ended p service g refs vars gas Holds Here this remote keeps ws a s.kind l s.code fits)
        (λ v l1 fit same1. here_ends l1 at (field_of l1.heap (out-Value v) name) u.0 same1) (λ l1 same1. (same1, refl))
    value_meets (Call at a method args) k n l ns c h u fits same wanted =
        let s = call_code (type_at p) x ws at a method args k c in
        let m = counted (remote_in f vs a) n in
        let q : Placed = record { at = expr_at a; kind = s.kind } in
        whole_meets (Call at a method args) k n l ns (remote_in f vs a ++ all_remote_in f vs args) (Call at (cut f vs n a) method (cut_all f vs m args)) c fits same wanted (λ not w.
        then_here _ _ (value_meets a s.kind n l ns s.receiver (h not).1 (u not).1 fits same (wanted_left ns (remote_in f vs a) (all_remote_in f vs args) w)) (value_ended p service g refs vars gas Holds Here this remote keeps ws a s.kind l s.receiver fits)
        (λ v l1 fit same1.
        last_here _ _ (values_meet args s.kinds m l1 ns s.rest (h not).2 (u not).2 fit.state same1 (wanted_right ns (remote_in f vs a) (all_remote_in f vs args) w))
        (values_ended p service g refs vars gas Holds Here this remote keeps ws args s.kinds l1 s.rest fit.state)
        (λ us l2 fit2 same2.
        elim (call_how x (typed_known d declared) at method q s.kinds k s.judged) [
          | inl own ↦ own_meets ns _ at a method q s.kinds k v us l2 own s.calls (u not).0 same2 fit2.state (fits_more p.interfaces (classes_of l1.heap) (classes_of l2.heap) fit2.grown s.kind v fit.gives) fit2.gives
          | inr far ↦ absurd (not_remote_call a s.kind (h not).0 s.receiver far.0)
        ]) (λ l2 same2. (same2, refl)))
        (λ l1 same1. (same1, refl)))
    value_meets (Index at a b) k n l ns c h u fits same w =
        let s = index_code (type_at p) x ws at a b k c in
        then_here _ _ (value_meets a s.left n l ns s.first h.0 u.1 fits same (wanted_left ns (remote_in f vs a) (remote_in f vs b) w)) (value_ended p service g refs vars gas Holds Here this remote keeps ws a s.left l s.first fits)
        (λ v l1 fit same1.
        last_here _ _ (value_meets b s.right (counted (remote_in f vs a) n) l1 ns s.second h.1 u.2 fit.state same1 (wanted_right ns (remote_in f vs a) (remote_in f vs b) w))
        (value_ended p service g refs vars gas Holds Here this remote keeps ws b s.right l1 s.second fit.state)
        (λ r l2 fit2 same2. here_ends l2 at (indexed (out-Value v) (out-Value r)) u.0 same2) (λ l2 same2. (same2, refl)))
        (λ l1 same1. (same1, refl))
    value_meets (New at class args) k n l ns c h u fits same w =
        let s = new_code (type_at p) x ws at class args k c in
        last_here _ _ (values_meet args s.kinds n l ns s.codes h u.1 fits same w) (values_ended p service g refs vars gas Holds Here this remote keeps ws args s.kinds l s.codes fits)
        (λ us l1 fit same1.
        after_check p service g refs vars gas Holds Here l1 (seen_at l1) [] at (constructed p.classes l1.heap class us) _ _ u.0 (same1, refl) (λ made is. here_gives made.0 (record l1 { heap = made.1 }) same1))
        (λ l1 same1. (same1, refl))
    value_meets (Items at item items) k n l ns c h u fits same w =
        let s = items_code (type_at p) x ws at item items k c in
        last_here _ _ (values_meet items s.kinds n l ns s.codes h u.1 fits same w) (values_ended p service g refs vars gas Holds Here this remote keeps ws items s.kinds l s.codes fits)
        (λ us l1 fit same1. here_ends l1 at (list_of us) u.0 same1) (λ l1 same1. (same1, refl))
    value_meets (Taken at step) k n l ns c h u fits same w = absurd (taken_code (type_at p) x ws at step k c)

    pub values_meet : (es : Exprs) (ks : List Placed) (n : ℕ) (l : Local) (ns : Names) → Codes (type_at p) x ws es ks → AllParted f vs x ws es → AllPlaced es → FitsPlace d place l → l.names ≡ ns → W ns (all_remote_in f vs es)
        → E ns (all_remote_in f vs es) n (evaluates_all code es l) (evaluates_all code (cut_all f vs n es) (seen_at l))
    values_meet NoExprs ks n l ns c h u fits same w = here_gives [] l same
    values_meet (MoreExprs e es) ks n l ns c h u fits same w =
        let s = first_code (type_at p) x ws e es ks c in
        then_here _ _ (value_meets e s.0.kind n l ns s.0.code h.0 u.0 fits same (wanted_left ns (remote_in f vs e) (all_remote_in f vs es) w)) (value_ended p service g refs vars gas Holds Here this remote keeps ws e s.0.kind l s.0.code fits)
        (λ v l1 fit same1.
        last_here _ _ (values_meet es s.1.kinds (counted (remote_in f vs e) n) l1 ns s.1.codes h.1 u.1 fit.state same1 (wanted_right ns (remote_in f vs e) (all_remote_in f vs es) w))
        (values_ended p service g refs vars gas Holds Here this remote keeps ws es s.1.kinds l1 s.1.codes fit.state)
        (λ us l2 fit2 same2. here_gives (v ∷ us) l2 same2) (λ l2 same2. (same2, refl)))
        (λ l1 same1. (same1, refl))
