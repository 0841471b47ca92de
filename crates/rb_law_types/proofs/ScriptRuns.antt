-- Scripts keep the table fitting, and give nodes of their steps.
use Rattle.std.proofs.Common.{◌≡◌, refl, sym, subst, ℕ, zero, suc, ◌≤◌, List, [], ◌∷◌, length, arith, Bool as Truth, true, false, cond, nat_eq, All, Option, Some, None, slice_get, Result, Ok, Err}
use Rattle.std.proofs.lemmas.List.Elements.{All-nil, All-cons, All-head, All-tail, All-weaker}
use Rattle.rb_trees.specs.Limits.{longest_list}
use Rattle.rb_trees.specs.Validity.{has}
use Rattle.rb_trees.specs.Outcome.{known, must, ◌>>=◌, ◌>>◌}
use Rattle.rb_trees.specs.declared.values.Value.{Value}
use Rattle.rb_trees.specs.declared.values.Value.TheOpen.{Value-F}
use Rattle.rb_trees.specs.declared.values.Value.TheVariants as value
use Rattle.rb_trees.specs.declared.values.Value.TheViews.{out-Value}
use Rattle.rb_trees.specs.declared.values.Fault.{Fault}
use Rattle.rb_trees.specs.declared.services.Object.{Object}
use Rattle.rb_trees.specs.mirror.Scripts as script
use Rattle.rb_trees.specs.mirror.Scripts.{SExpr, SExprs, Step, Steps}
use Rattle.rb_trees.specs.mirror.Forests as forest
use Rattle.rb_trees.specs.mirror.Forests.{Node, Entry, Entries, Holds, NoEntries}
use Rattle.rb_trees.specs.mirror.Declarations.{Class}
use Rattle.rb_meaning_types.specs.Values.{IsList}
use Rattle.rb_meaning_types.specs.Programs.{check_service}
use Rattle.rb_meaning_types.specs.Fits.{classes_of, TableFits}
use Rattle.rb_meaning_code.specs.Faults.{kind}
use Rattle.rb_meaning_code.specs.Operators.{on_one, on_two, by_left}
use Rattle.rb_meaning_code.specs.Statements.{truth_of}
use Rattle.rb_meaning_code.specs.Remote.{Server, Reply, Got, Stopped, and_then, replies, rows_in, invoke, batch_fuel}
use Rattle.rb_meaning_code.specs.ScriptRun.{Ground, Vars, latest, PlacedFault, Ran, ended, in_front, with_entry, on_reply, decided_or, value_of, values_of, is_primitive, kept, with_kept, condition, rows_of, items_in, items_of, goes_on, chosen, branched, Why, AllDone, InTurn, NoUnit, Turned, with_unit, turned_on, turns, turn_over, after_turns, walked, run_step, run_steps}
use Rattle.rb_law_types.specs.Kept.{IsPrimitiveForm, IsPrimitive, IsBounded}
use Rattle.rb_law_types.specs.Formed.{AreFormed}
use Rattle.rb_law_types.specs.Ends.{Grown}
use Rattle.rb_law_types.specs.Operators.{IfDecided}
use Rattle.rb_law_types.specs.Remote.{IsOfKind, IsFault, IsCallFault, TableKeeps, ReplyKeeps}
use Rattle.rb_law_types.specs.Scripts.{IsPlace, IsInputForm, AreInputs, IsBoundedSExpr, AreBoundedSExprs, IsBoundedStep, AreBoundedSteps, IsKept, IsNode, IsBranch, count_nodes, AreNodes, AreTurns, Then, AreNone, KeptFirst, StepGives, StepsGive, RanKeeps, ScriptsKeep}
use Rattle.rb_law_types.proofs.Values.{grown_on}
use Rattle.rb_law_types.proofs.Served.{remote_out, still_within, table_same, invoke_keeps}
use Rattle.rb_law_types.proofs.Far.{IsSingle, IsFar, IsFarForm, single_more, far_more, primitive_far, primitive_single, single_far, far_bounded, kind_far, kind_is, plain_is, Given, far_one, far_two, far_left}

-- tables that grow

grown_count : (before after : List Object) → Grown (classes_of before) (classes_of after) → length before ≤ length after
grown_count [] after g = omega arith
grown_count (o ∷ before) after g = omega (arith, still_within (o ∷ before) after (length before) g (omega arith))

keeps_on : (classes : List Class) (root : ℕ) (a b c : List Object) → TableKeeps classes root a b → TableKeeps classes root b c → TableKeeps classes root a c
keeps_on classes root a b c first second = record { fits = second.fits; grown = grown_on (classes_of a) (classes_of b) (classes_of c) first.grown second.grown }

-- a fault at a position
abbrev FallsAt : ℕ → Fault → Type 0
FallsAt at f = IsPlace at × IsFault f

module _ (classes : List Class) (root : ℕ) where
  abbrev Far : ℕ → Value → Type 0
  Far objects v = IsFar objects v

  abbrev Keeps : {A : Type 0} → List Object → (ℕ → A → Type 0) → Reply A → Type 0
  Keeps before P r = ReplyKeeps classes root before P FallsAt r

  -- what the server does, step by step

  reply_on : {A : Type 0} (a b : List Object) (P : ℕ → A → Type 0) (r : Reply A) → TableKeeps classes root a b → Keeps b P r → Keeps a P r
  reply_on a b P (Got v s) t h = (h.0, keeps_on classes root a b s.table t h.1)
  reply_on a b P (Stopped at f s) t h = (h.0, keeps_on classes root a b s.table t h.1)

  then_keeps : {A B : Type 0} (before : List Object) (P : ℕ → A → Type 0) (Q : ℕ → B → Type 0) (r : Reply A) (k : A → Server → Reply B) → Keeps before P r
      → ((a : A) (s1 : Server) → P (length s1.table) a → TableKeeps classes root before s1.table → Keeps s1.table Q (k a s1)) → Keeps before Q (and_then r k)
  then_keeps before P Q (Got a s) k h more = reply_on before s.table Q (k a s) h.1 (more a s h.0 h.1)
  then_keeps before P Q (Stopped at f s) k h more = h

  rule_keeps : {A : Type 0} (P : ℕ → A → Type 0) (at : ℕ) (r : Result A Fault) (s : Server) → IsPlace at → TableFits classes root s.table → Given (P (length s.table)) r → Keeps s.table P (replies at r s)
  rule_keeps P at (Ok a) s place fits h = (h, table_same classes root s.table fits)
  rule_keeps P at (Err f) s place fits h = ((place, h), table_same classes root s.table fits)

  got_keeps : {A : Type 0} (P : ℕ → A → Type 0) (a : A) (s : Server) → TableFits classes root s.table → P (length s.table) a → Keeps s.table P (Got a s)
  got_keeps P a s fits h = (h, table_same classes root s.table fits)

  -- the variables of a script

  abbrev VarsFar : ℕ → Vars → Type 0
  VarsFar objects [] = Unit {0}
  VarsFar objects (b ∷ bs) = Far objects b.1 × VarsFar objects bs

  vars_more : (n m : ℕ) → n ≤ m → (vars : Vars) → VarsFar n vars → VarsFar m vars
  vars_more n m le [] h = tt
  vars_more n m le (b ∷ bs) h = (far_more n m le (out-Value b.1) h.0, vars_more n m le bs h.1)

  var_given : (n : ℕ) (vars : Vars) (number : ℕ) → VarsFar n vars → Given (Far n) (known kind (latest vars number))
  var_given n [] number h = kind_is
  var_given n (b ∷ bs) number h = by (nat_eq b.0 number) (var_given n bs number h.1)
    where
      by : (t : Truth) → Given (Far n) (known kind (latest bs number)) → Given (Far n) (known kind (cond t (Some b.1) (latest bs number)))
      by true rest = h.0
      by false rest = rest

  input_given : (n : ℕ) (lists : List ℕ) (inputs : List Value) (number : ℕ) → AreInputs lists inputs → has number lists ≡ false → Given (Far n) (known kind (slice_get inputs number))
  input_given n lists inputs number h plain = by (slice_get inputs number) refl
    where
      by : (o : Option Value) → slice_get inputs number ≡ o → Given (Far n) (known kind o)
      by (Some v) e = primitive_far n (out-Value v) (subst (λ t. IsInputForm t (out-Value v)) plain (h number v e))
      by None e = kind_is

  -- rows of a value
  abbrev RowsFar : ℕ → List Value → Type 0
  RowsFar n rows = IsList rows × All (IsSingle n) rows

  rows_given : (n : ℕ) (w : Value-F Value) → IsFarForm n w → Given (RowsFar n) (rows_in w)
  rows_given n (Value-F.Rows rows) h = h
  rows_given n Value-F.Unit h = kind_is
  rows_given n _ h = kind_is

  -- the items of an input
  items_given : (n : ℕ) (lists : List ℕ) (inputs : List Value) (number : ℕ) → AreInputs lists inputs → Given (RowsFar n) (known kind (slice_get inputs number) >>= λ v. items_in (out-Value v))
  items_given n lists inputs number h = by (slice_get inputs number) refl
    where
      of : (is_list : Truth) (w : Value-F Value) → IsInputForm is_list w → Given (RowsFar n) (items_in w)
      of true (Value-F.List items) is = (is.0, All-weaker IsPrimitive (IsSingle n) (λ v. primitive_single n (out-Value v)) items is.1)
      of true Value-F.Unit is = absurd is
      of true _ is = absurd is
      of false (Value-F.List items) is = absurd is
      of false Value-F.Unit is = kind_is
      of false _ is = kind_is

      by : (o : Option Value) → slice_get inputs number ≡ o → Given (RowsFar n) (known kind o >>= λ v. items_in (out-Value v))
      by (Some v) e = of (has number lists) (out-Value v) (h number v e)
      by None e = kind_is

  given_far : (n : ℕ) (r : Result Value Fault) → Given IsPrimitive r → Given (Far n) r
  given_far n (Ok v) h = primitive_far n (out-Value v) h
  given_far n (Err f) h = h

  decided_far : (n : ℕ) (r : Result (Option Value) Fault) → Given (IfDecided IsPrimitive) r → Given (IfDecided (Far n)) r
  decided_far n (Ok (Some v)) h = primitive_far n (out-Value v) h
  decided_far n (Ok None) h = tt
  decided_far n (Err f) h = h

  decided_keeps : (o : Option Value) (go : Server → Reply Value) (s : Server) → IfDecided (Far (length s.table)) o → TableFits classes root s.table → Keeps s.table Far (go s) → Keeps s.table Far (decided_or o go s)
  decided_keeps (Some v) go s h fits r = got_keeps Far v s fits h
  decided_keeps None go s h fits r = r

  abbrev AllFar : ℕ → List Value → Type 0
  AllFar n vs = All (Far n) vs

  module _ (typed : check_service classes ≡ Ok tt) (formed : AreFormed classes) (lists : List ℕ) (inputs : List Value) (inputs_are : AreInputs lists inputs) where
    abbrev ground : Ground
    ground = record { classes = classes; root = root; inputs = inputs }

    -- a remote call
    call_keeps : (at kind' : ℕ) (place : IsPlace at) (target : Value) (method : List ℕ) (args : List Value) (s : Server) → TableFits classes root s.table → All IsBounded args
        → Keeps s.table Far (invoke classes at kind' (out-Value target) method args s)
    call_keeps at kind' place target method args s fits bounded = by (invoke classes at kind' (out-Value target) method args s) (invoke_keeps classes typed formed root at kind' (out-Value target) method args s fits bounded)
      where
        by : (r : Reply Value) → ReplyKeeps classes root s.table (IsOfKind kind') (IsCallFault at (out-Value target)) r → Keeps s.table Far r
        by (Got v s1) h = (kind_far (length s1.table) h.0.0 (out-Value v) h.0.2, h.1)
        by (Stopped stands f s1) h = ((subst IsPlace (sym h.0.here) place, h.0.fault), h.1)

    mutual
      value_keeps : (e : SExpr) (at : ℕ) (vars : Vars) (s : Server) → IsPlace at → IsBoundedSExpr lists e → TableFits classes root s.table → VarsFar (length s.table) vars → Keeps s.table Far (value_of ground at vars e s)
      value_keeps (script.Lit v) at vars s place b fits far = got_keeps Far v s fits (primitive_far (length s.table) (out-Value v) b)
      value_keeps (script.Input number) at vars s place b fits far = rule_keeps Far at (known kind (slice_get inputs number)) s place fits (input_given (length s.table) lists inputs number inputs_are b)
      value_keeps (script.Var number) at vars s place b fits far = rule_keeps Far at (known kind (latest vars number)) s place fits (var_given (length s.table) vars number far)
      value_keeps script.Root at vars s place b fits far = got_keeps Far (value.Remote root) s fits (subst (IsFarForm (length s.table)) (sym (remote_out root)) fits.root_is)
      value_keeps (script.Unary o here a) at vars s place b fits far =
          then_keeps s.table Far Far _ _ (value_keeps a at vars s place b.1 fits far) (λ v s1 fv t1.
          rule_keeps Far here (on_one o (out-Value v)) s1 b.0 t1.fits (given_far (length s1.table) (on_one o (out-Value v)) (far_one (length s1.table) o (out-Value v) fv)))
      value_keeps (script.Binary o here a c) at vars s place b fits far =
          then_keeps s.table Far Far _ _ (value_keeps a at vars s place b.1 fits far) (λ v s1 fv t1.
          then_keeps s1.table (λ n d. IfDecided (Far n) d) Far _ _ (rule_keeps (λ n d. IfDecided (Far n) d) here (by_left o (out-Value v)) s1 b.0 t1.fits (decided_far (length s1.table) (by_left o (out-Value v)) (far_left (length s1.table) o (out-Value v)))) (λ decided s2 fd t2.
          decided_keeps decided _ s2 fd t2.fits
          (then_keeps s2.table Far Far _ _
          (value_keeps c at vars s2 place b.2 t2.fits (vars_more (length s.table) (length s2.table) (grown_count s.table s2.table (keeps_on classes root s.table s1.table s2.table t1 t2).grown) vars far)) (λ w s3 fw t3.
          rule_keeps Far here (on_two o (out-Value v) (out-Value w)) s3 b.0 t3.fits
          (given_far (length s3.table) (on_two o (out-Value v) (out-Value w)) (far_two (length s3.table) o (out-Value v) (out-Value w)
          (far_more (length s1.table) (length s3.table) (grown_count s1.table s3.table (keeps_on classes root s1.table s2.table s3.table t2 t3).grown) (out-Value v) fv) fw))))))
      value_keeps (script.Call here kind' method target args) at vars s place b fits far =
          then_keeps s.table Far Far _ _ (value_keeps target at vars s place b.1 fits far) (λ v s1 fv t1.
          then_keeps s1.table AllFar Far _ _ (values_keep args at vars s1 place b.2 t1.fits (vars_more (length s.table) (length s1.table) (grown_count s.table s1.table t1.grown) vars far)) (λ vs s2 fvs t2.
          call_keeps here kind' b.0 v method vs s2 t2.fits (All-weaker (Far (length s2.table)) IsBounded (λ w. far_bounded (length s2.table) (out-Value w)) vs fvs)))

      values_keep : (es : SExprs) (at : ℕ) (vars : Vars) (s : Server) → IsPlace at → AreBoundedSExprs lists es → TableFits classes root s.table → VarsFar (length s.table) vars → Keeps s.table AllFar (values_of ground at vars es s)
      values_keep script.NoSExprs at vars s place b fits far = got_keeps AllFar [] s fits (All-nil (Far (length s.table)))
      values_keep (script.MoreSExprs e es) at vars s place b fits far =
          then_keeps s.table Far AllFar _ _ (value_keeps e at vars s place b.0 fits far) (λ v s1 fv t1.
          then_keeps s1.table AllFar AllFar _ _ (values_keep es at vars s1 place b.1 t1.fits (vars_more (length s.table) (length s1.table) (grown_count s.table s1.table t1.grown) vars far)) (λ vs s2 fvs t2.
          got_keeps AllFar (v ∷ vs) s2 t2.fits (All-cons (Far (length s2.table)) v vs (far_more (length s1.table) (length s2.table) (grown_count s1.table s2.table t2.grown) (out-Value v) fv) fvs)))

    -- nodes

    abbrev Runs : List Object → (Entries → Type 0) → Ran → Type 0
    Runs before P r = RanKeeps classes root before P r

    ran_on : (a b : List Object) (P : Entries → Type 0) (r : Ran) → TableKeeps classes root a b → Runs b P r → Runs a P r
    ran_on a b P r t h = record { node = h.node; table = keeps_on classes root a b r.server.table t h.table }

    front : (Q : Entry → Type 0) (P : Entries → Type 0) (e : Entry) (n : Node) → Q e → IsNode P n → IsNode (Then Q P) (in_front e n)
    front Q P e (Holds es f) q h = ((q, h.0), h.1)

    entry_runs : (before : List Object) (Q : Entry → Type 0) (P : Entries → Type 0) (e : Entry) (r : Ran) → Q e → Runs before P r → Runs before (Then Q P) (with_entry e r)
    entry_runs before Q P e r q h = record { node = front Q P e r.node q h.node; table = h.table }

    -- a reply, and then what follows in the step
    reply_runs : {A : Type 0} (before : List Object) (P : ℕ → A → Type 0) (Q : Entries → Type 0) (id : ℕ) (r : Reply A) (go : A → Server → Ran) → IsPlace id → Q NoEntries → Keeps before P r
        → ((a : A) (s1 : Server) → P (length s1.table) a → TableKeeps classes root before s1.table → Runs s1.table Q (go a s1)) → Runs before Q (on_reply id r go)
    reply_runs before P Q id (Got a s) go place ready h more = ran_on before s.table Q (go a s) h.1 (more a s h.0 h.1)
    reply_runs before P Q id (Stopped at f s) go place ready h more = record { node = (ready, (place, h.0.0, h.0.1)); table = h.1 }

    -- kept values

    far_primitive : (n : ℕ) (w : Value-F Value) → IsFarForm n w → is_primitive w ≡ true → IsPrimitiveForm w
    far_primitive n (Value-F.Int z) h e = h
    far_primitive n (Value-F.Bool b) h e = tt
    far_primitive n (Value-F.Text t) h e = h
    far_primitive n Value-F.Unit h e = absurd (cc (e))
    far_primitive n _ h e = absurd (cc (e))

    -- a far value, and a primitive one where it is kept
    abbrev Keepable : Truth → ℕ → Value → Type 0
    Keepable true n v = IsPrimitive v
    Keepable false n v = Far n v

    keepable_far : (keep : Truth) (n : ℕ) (v : Value) → Keepable keep n v → Far n v
    keepable_far true n v h = primitive_far n (out-Value v) h
    keepable_far false n v h = h

    kept_keeps : (keep : Truth) (at : ℕ) (v : Value) (s : Server) → IsPlace at → TableFits classes root s.table → Far (length s.table) v → Keeps s.table (Keepable keep) (kept keep at v s)
    kept_keeps true at v s place fits far = by (is_primitive (out-Value v)) refl
      where
        by : (t : Truth) → is_primitive (out-Value v) ≡ t → Keeps s.table (Keepable true) (replies at (must t kind >> Ok v) s)
        by true e = (far_primitive (length s.table) (out-Value v) far e, table_same classes root s.table fits)
        by false e = ((place, kind_is), table_same classes root s.table fits)
    kept_keeps false at v s place fits far = (far, table_same classes root s.table fits)

    with_kept_runs : (keep : Truth) (n : ℕ) (v : Value) (before : List Object) (P : Entries → Type 0) (r : Ran) → Keepable keep n v → Runs before P r → Runs before (λ es. KeptFirst keep P es) (with_kept keep v r)
    with_kept_runs true n v before P r h runs = entry_runs before IsKept P (forest.Value v) r h runs
    with_kept_runs false n v before P r h runs = runs

    kept_open : (keep : Truth) (P : Entries → Type 0) → P NoEntries → KeptFirst keep P NoEntries
    kept_open true P ready = tt
    kept_open false P ready = ready

    mutual
      step_open : (s : Step) (P : Entries → Type 0) → P NoEntries → StepGives s P NoEntries
      step_open (script.Do id at e) P ready = ready
      step_open (script.Keep id at e) P ready = tt
      step_open (script.Let id at var keep e) P ready = kept_open keep P ready
      step_open (script.If id at e a b) P ready = tt
      step_open (script.Each id at var keep e a) P ready = tt
      step_open (script.Over id at var input a) P ready = tt

      steps_open : (ss : Steps) (P : Entries → Type 0) → P NoEntries → StepsGive ss P NoEntries
      steps_open script.NoSteps P ready = ready
      steps_open (script.MoreSteps s ss) P ready = step_open s (λ xs. StepsGive ss P xs) (steps_open ss P ready)

    -- conditions and branches

    abbrev AnyTruth : ℕ → Truth → Type 0
    AnyTruth n t = Unit {0}

    truth_given : (n : ℕ) (w : Value-F Value) → Given (AnyTruth n) (truth_of w)
    truth_given n (Value-F.Bool b) = tt
    truth_given n Value-F.Unit = kind_is
    truth_given n _ = kind_is

    goes_on_runs : (before : List Object) (P : Entries → Type 0) (fault : Option PlacedFault) (s : Server) (go : Server → Ran) → P NoEntries → TableKeeps classes root before s.table → (TableFits classes root s.table → Runs s.table P (go s)) → Runs before P (goes_on fault s go)
    goes_on_runs before P None s go ready t h = ran_on before s.table P (go s) t (h t.fits)
    goes_on_runs before P (Some f) s go ready t h = record { node = (ready, tt); table = t }

    branched_runs : (before : List Object) (A B P : Entries → Type 0) (holds : Truth) (yes' no' : Ran) (go : Server → Ran) → P NoEntries → Runs before A yes' → Runs before B no'
        → ((s1 : Server) → TableKeeps classes root before s1.table → Runs s1.table P (go s1)) → Runs before (Then (IsBranch A B) P) (branched holds (chosen holds yes' no') go)
    branched_runs before A B P true yes' no' go ready ra rb h =
        entry_runs before (IsBranch A B) P (forest.Branch true yes'.node) (goes_on yes'.fault yes'.server go) ra.node (goes_on_runs before P yes'.fault yes'.server go ready ra.table (λ fits. h yes'.server ra.table))
    branched_runs before A B P false yes' no' go ready ra rb h =
        entry_runs before (IsBranch A B) P (forest.Branch false no'.node) (goes_on no'.fault no'.server go) rb.node (goes_on_runs before P no'.fault no'.server go ready rb.table (λ fits. h no'.server rb.table))

    -- turns

    pub record Turns (before : List Object) (P : Entries → Type 0) (count : ℕ) (t : Turned) : Type 0 where
      pub nodes : AreNodes P t.nodes
      pub most : count_nodes t.nodes ≤ count
      pub table : TableKeeps classes root before t.server.table

    turned_runs : (before : List Object) (P : Entries → Type 0) (count : ℕ) (node : Node) (fault : Option PlacedFault) (s : Server) (go : Server → Turned) → IsNode P node → TableKeeps classes root before s.table
        → Turns s.table P count (go s) → Turns before P (suc count) (turned_on node fault s go)
    turned_runs before P count node None s go h t more = record { nodes = (h, more.nodes); most = omega (arith, more.most); table = keeps_on classes root before s.table (go s).server.table t more.table }
    turned_runs before P count node (Some f) s go h t more = record { nodes = (h, tt); most = omega arith; table = t }

    unit_turns : (P : Entries → Type 0) (count fuel : ℕ) (s : Server) (go : Server → Turned) → TableFits classes root s.table → ((n : ℕ) → Turns s.table P count (go (record s { fuel = n }))) → Turns s.table P count (with_unit fuel s go)
    unit_turns P count zero s go fits h = record { nodes = tt; most = omega arith; table = table_same classes root s.table fits }
    unit_turns P count (suc n) s go fits h = h n

    -- what each turn does, from a table of at least so many objects on
    abbrev EachTurn : ℕ → (Entries → Type 0) → (Value → Server → Ran) → Type 0
    EachTurn start P turn = (row : Value) (s : Server) → start ≤ length s.table → IsSingle (length s.table) row → TableFits classes root s.table → Runs s.table P (turn row s)

    rows_run : (P : Entries → Type 0) (turn : Value → Server → Ran) (start : ℕ) → EachTurn start P turn
        → (rows : List Value) (s : Server) → start ≤ length s.table → All (IsSingle (length s.table)) rows → TableFits classes root s.table → Turns s.table P (length rows) (turns turn rows s)
    rows_run P turn start h [] s le single fits = record { nodes = tt; most = omega arith; table = table_same classes root s.table fits }
    rows_run P turn start h (row ∷ rows) s le single fits =
        unit_turns P (suc (length rows)) s.fuel s (λ s1. let r = turn row s1 in turned_on r.node r.fault r.server (turns turn rows)) fits (λ n.
        let s1 : Server = record s { fuel = n } in
        let r = turn row s1 in
        let ran = h row s1 le (All-head (IsSingle (length s.table)) row rows single) fits in
        let more = grown_count s.table r.server.table ran.table.grown in
        turned_runs s.table P (length rows) r.node r.fault r.server (turns turn rows) ran.node ran.table
        (rows_run P turn start h rows r.server (omega (arith, le, more))
        (All-weaker (IsSingle (length s.table)) (IsSingle (length r.server.table)) (λ v. single_more (length s.table) (length r.server.table) more (out-Value v)) rows (All-tail (IsSingle (length s.table)) row rows single)) ran.table.fits))

    after_runs : (before : List Object) (P : Entries → Type 0) (id at : ℕ) (why : Why) (s : Server) (go : Server → Ran) → IsPlace id → IsPlace at → P NoEntries → TableKeeps classes root before s.table
        → (TableFits classes root s.table → Runs s.table P (go s)) → Runs before P (after_turns id at why s go)
    after_runs before P id at AllDone s go place here ready t h = ran_on before s.table P (go s) t (h t.fits)
    after_runs before P id at (InTurn f) s go place here ready t h = record { node = (ready, tt); table = t }
    after_runs before P id at NoUnit s go place here ready t h = record { node = (ready, (place, here, plain_is 7 (omega arith) (omega arith))); table = t }

    walked_runs : (before : List Object) (A P : Entries → Type 0) (id at count : ℕ) (t : Turned) (go : Server → Ran) → IsPlace id → IsPlace at → P NoEntries → count ≤ longest_list → Turns before A count t
        → (TableKeeps classes root before t.server.table → Runs t.server.table P (go t.server)) → Runs before (Then (AreTurns A) P) (walked id at t go)
    walked_runs before A P id at count t go place here ready short h more =
        entry_runs before (AreTurns A) P (forest.Rows t.nodes) (after_turns id at t.why t.server go) (omega (arith, short, h.most), h.nodes)
        (after_runs before P id at t.why t.server go place here ready h.table (λ fits. more h.table))

    -- steps

    -- what follows, from a table of at least so many objects on
    abbrev Follows : ℕ → (Entries → Type 0) → (Vars → Server → Ran) → Type 0
    Follows start P go = (vars : Vars) (s : Server) → start ≤ length s.table → VarsFar (length s.table) vars → TableFits classes root s.table → Runs s.table P (go vars s)

    none_runs : (start : ℕ) → Follows start AreNone ended
    none_runs start vars s le far fits = record { node = (tt, tt); table = table_same classes root s.table fits }

    turn_runs : (id at : ℕ) (keep : Truth) (P : Entries → Type 0) (block : Server → Ran) (row : Value) (s : Server) → IsPlace id → IsPlace at → P NoEntries → IsSingle (length s.table) row → TableFits classes root s.table
        → ((s1 : Server) → TableKeeps classes root s.table s1.table → Runs s1.table P (block s1)) → Runs s.table (λ es. KeptFirst keep P es) (turn_over id at keep block row s)
    turn_runs id at keep P block row s place here ready single fits h =
        reply_runs s.table (Keepable keep) (λ es. KeptFirst keep P es) id (kept keep at row s) _ place (kept_open keep P ready) (kept_keeps keep at row s here fits (single_far (length s.table) (out-Value row) single)) (λ v s1 fv t1.
        with_kept_runs keep (length s1.table) v s1.table P (block s1) fv (h s1 t1))

    -- the turns of a block over rows or items, and what follows them
    walk_runs : (id at var : ℕ) (keep : Truth) (B P : Entries → Type 0) (block : Vars → Server → Ran) (vars : Vars) (rows : List Value) (s : Server) (go : Vars → Server → Ran)
        → IsPlace id → IsPlace at → B NoEntries → P NoEntries → VarsFar (length s.table) vars → TableFits classes root s.table → RowsFar (length s.table) rows
        → ((vars1 : Vars) (s1 : Server) → VarsFar (length s1.table) vars1 → TableFits classes root s1.table → Runs s1.table B (block vars1 s1)) → Follows (length s.table) P go
        → Runs s.table (Then (AreTurns (λ es. KeptFirst keep B es)) P) (walked id at (turns (λ row s2. turn_over id at keep (λ s3. block ((var, row) ∷ vars) s3) row s2) rows s) (λ s2. go vars s2))
    walk_runs id at var keep B P block vars rows s go place here empty ready far fits are b h =
        let turn = λ (row : Value) (s2 : Server). turn_over id at keep (λ s3. block ((var, row) ∷ vars) s3) row s2 in
        let each : EachTurn (length s.table) (λ es. KeptFirst keep B es) turn = λ row s2 more single fits2.
        turn_runs id at keep B (λ s3. block ((var, row) ∷ vars) s3) row s2 place here empty single fits2 (λ s3 t3.
        let most = grown_count s2.table s3.table t3.grown in
        b ((var, row) ∷ vars) s3
        (far_more (length s2.table) (length s3.table) most (out-Value row) (single_far (length s2.table) (out-Value row) single), vars_more (length s.table) (length s3.table) (omega (arith, more, most)) vars far)
        t3.fits) in
        walked_runs s.table (λ es. KeptFirst keep B es) P id at (length rows) (turns turn rows s) (λ s2. go vars s2) place here ready are.0
        (rows_run (λ es. KeptFirst keep B es) turn (length s.table) each rows s (omega arith) are.1 fits) (λ t2.
        let most = grown_count s.table (turns turn rows s).server.table t2.grown in
        h vars (turns turn rows s).server most (vars_more (length s.table) (length (turns turn rows s).server.table) most vars far) t2.fits)

    mutual
      step_runs : (step : Step) (P : Entries → Type 0) (vars : Vars) (s : Server) (go : Vars → Server → Ran) → IsBoundedStep lists step → P NoEntries → VarsFar (length s.table) vars → TableFits classes root s.table
          → Follows (length s.table) P go → Runs s.table (λ es. StepGives step P es) (run_step ground step vars s go)
      step_runs (script.Do id at e) P vars s go b ready far fits h =
          reply_runs s.table Far P id (value_of ground at vars e s) _ b.0 ready (value_keeps e at vars s b.1 b.2 fits far) (λ v s1 fv t1.
          let le = grown_count s.table s1.table t1.grown in
          h vars s1 le (vars_more (length s.table) (length s1.table) le vars far) t1.fits)
      step_runs (script.Keep id at e) P vars s go b ready far fits h =
          reply_runs s.table (Keepable true) (Then IsKept P) id _ _ b.0 tt
          (then_keeps s.table Far (Keepable true) (value_of ground at vars e s) (kept true at) (value_keeps e at vars s b.1 b.2 fits far) (λ v s1 fv t1. kept_keeps true at v s1 b.1 t1.fits fv)) (λ v s1 fv t1.
          let le = grown_count s.table s1.table t1.grown in
          entry_runs s1.table IsKept P (forest.Value v) (go vars s1) fv (h vars s1 le (vars_more (length s.table) (length s1.table) le vars far) t1.fits))
      step_runs (script.Let id at var keep e) P vars s go b ready far fits h =
          reply_runs s.table (Keepable keep) (λ es. KeptFirst keep P es) id _ _ b.0 (kept_open keep P ready)
          (then_keeps s.table Far (Keepable keep) (value_of ground at vars e s) (kept keep at) (value_keeps e at vars s b.1 b.2 fits far) (λ v s1 fv t1. kept_keeps keep at v s1 b.1 t1.fits fv)) (λ v s1 fv t1.
          let le = grown_count s.table s1.table t1.grown in
          with_kept_runs keep (length s1.table) v s1.table P (go ((var, v) ∷ vars) s1) fv
          (h ((var, v) ∷ vars) s1 le (keepable_far keep (length s1.table) v fv, vars_more (length s.table) (length s1.table) le vars far) t1.fits))
      step_runs (script.If id at e x y) P vars s go b ready far fits h =
          reply_runs s.table AnyTruth (Then (IsBranch (λ es. StepsGive x AreNone es) (λ es. StepsGive y AreNone es)) P) id _ _ b.0 tt
          (then_keeps s.table Far AnyTruth (value_of ground at vars e s) (condition at) (value_keeps e at vars s b.1 b.2 fits far) (λ v s1 fv t1. rule_keeps AnyTruth at (truth_of (out-Value v)) s1 b.1 t1.fits (truth_given (length s1.table) (out-Value v)))) (λ holds s1 u t1.
          let le = grown_count s.table s1.table t1.grown in
          let far1 = vars_more (length s.table) (length s1.table) le vars far in
          branched_runs s1.table (λ es. StepsGive x AreNone es) (λ es. StepsGive y AreNone es) P holds (run_steps ground x vars s1 ended) (run_steps ground y vars s1 ended) (λ s2. go vars s2) ready
          (steps_run x AreNone vars s1 ended b.3 tt far1 t1.fits (none_runs (length s1.table)))
          (steps_run y AreNone vars s1 ended b.4 tt far1 t1.fits (none_runs (length s1.table))) (λ s2 t2.
          let more = grown_count s1.table s2.table t2.grown in
          h vars s2 (omega (arith, le, more)) (vars_more (length s1.table) (length s2.table) more vars far1) t2.fits))
      step_runs (script.Each id at var keep e x) P vars s go b ready far fits h =
          reply_runs s.table RowsFar (Then (AreTurns (λ es. KeptFirst keep (λ xs. StepsGive x AreNone xs) es)) P) id _ _ b.0 tt
          (then_keeps s.table Far RowsFar (value_of ground at vars e s) (rows_of at) (value_keeps e at vars s b.1 b.2 fits far) (λ v s1 fv t1. rule_keeps RowsFar at (rows_in (out-Value v)) s1 b.1 t1.fits (rows_given (length s1.table) (out-Value v) fv))) (λ rows s1 fr t1.
          let le = grown_count s.table s1.table t1.grown in
          walk_runs id at var keep (λ es. StepsGive x AreNone es) P (λ vars2 s2. run_steps ground x vars2 s2 ended) vars rows s1 go b.0 b.1 (steps_open x AreNone tt) ready
          (vars_more (length s.table) (length s1.table) le vars far) t1.fits fr
          (λ vars2 s2 far2 fits2. steps_run x AreNone vars2 s2 ended b.3 tt far2 fits2 (none_runs (length s2.table))) (λ vars2 s2 more far2 fits2.
          h vars2 s2 (omega (arith, le, more)) far2 fits2))
      step_runs (script.Over id at var input x) P vars s go b ready far fits h =
          reply_runs s.table RowsFar (Then (AreTurns (λ es. StepsGive x AreNone es)) P) id (items_of ground at input s) _ b.0 tt
          (rule_keeps RowsFar at (known kind (slice_get inputs input) >>= λ v. items_in (out-Value v)) s b.1 fits (items_given (length s.table) lists inputs input inputs_are)) (λ items s1 fr t1.
          let le = grown_count s.table s1.table t1.grown in
          walk_runs id at var false (λ es. StepsGive x AreNone es) P (λ vars2 s2. run_steps ground x vars2 s2 ended) vars items s1 go b.0 b.1 (steps_open x AreNone tt) ready
          (vars_more (length s.table) (length s1.table) le vars far) t1.fits fr
          (λ vars2 s2 far2 fits2. steps_run x AreNone vars2 s2 ended b.2 tt far2 fits2 (none_runs (length s2.table))) (λ vars2 s2 more far2 fits2.
          h vars2 s2 (omega (arith, le, more)) far2 fits2))

      steps_run : (steps : Steps) (P : Entries → Type 0) (vars : Vars) (s : Server) (go : Vars → Server → Ran) → AreBoundedSteps lists steps → P NoEntries → VarsFar (length s.table) vars → TableFits classes root s.table
          → Follows (length s.table) P go → Runs s.table (λ es. StepsGive steps P es) (run_steps ground steps vars s go)
      steps_run script.NoSteps P vars s go b ready far fits h = h vars s (omega arith) far fits
      steps_run (script.MoreSteps step steps) P vars s go b ready far fits h =
          step_runs step (λ es. StepsGive steps P es) vars s (λ vars1 s1. run_steps ground steps vars1 s1 go) b.0 (steps_open steps P ready) far fits (λ vars1 s1 le far1 fits1.
          steps_run steps P vars1 s1 go b.1 ready far1 fits1 (λ vars2 s2 le2 far2 fits2. h vars2 s2 (omega (arith, le, le2)) far2 fits2))

pub scripts_keep : ScriptsKeep
scripts_keep classes typed formed root table fits s inputs bounded given =
    steps_run classes root typed formed s.lists inputs given s.body AreNone [] (record { table = table; fuel = batch_fuel }) ended bounded tt tt fits (none_runs classes root typed formed s.lists inputs given (length table))
