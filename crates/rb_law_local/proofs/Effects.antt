-- Statements of local code meet.
use Rattle.std.proofs.Common.{◌≡◌, refl, sym, ap, subst, ℕ, zero, suc, List, [], ◌∷◌, ◌++◌, Bool as Truth, true, false, cond, All, Option, Some, None, Result, Ok, Err}
use Rattle.std.proofs.lemmas.List.Elements.{All-head, All-tail}
use Rattle.std.specs.Str.{bytes_eq}
use Rattle.rb_trees.specs.Named.{lookup, replaced}
use Rattle.rb_trees.specs.Outcome.{◌>>=◌, known}
use Rattle.rb_trees.specs.declared.values.Value.{Value}
use Rattle.rb_trees.specs.declared.values.Value.TheOpen.{Value-F}
use Rattle.rb_trees.specs.declared.values.Value.TheVariants as value
use Rattle.rb_trees.specs.declared.values.Value.TheViews.{out-Value}
use Rattle.rb_trees.specs.declared.values.Fault.{Fault}
use Rattle.rb_trees.specs.declared.outcomes.Raised.{Raised}
use Rattle.rb_trees.specs.mirror.Code.{Expr}
use Rattle.rb_trees.specs.mirror.Declarations.{Program}
use Rattle.rb_trees.specs.mirror.Services.{Service}
use Rattle.rb_meaning_types.specs.Kinds as kind
use Rattle.rb_meaning_types.specs.Kinds.{Kind}
use Rattle.rb_meaning_types.specs.Declared.{Declarations, Context, of_program}
use Rattle.rb_meaning_types.specs.Scopes as typed
use Rattle.rb_meaning_types.specs.Scopes.{with_variable, variable_named}
use Rattle.rb_meaning_types.specs.Notes.{type_at}
use Rattle.rb_meaning_types.specs.Fits.{classes_of, AreItems, Fits, this_name, frame_scope}
use Rattle.rb_meaning_code.specs.State.{Names, Local, bound, spent}
use Rattle.rb_meaning_code.specs.Faults as faults
use Rattle.rb_meaning_code.specs.Faults.{fuel_used, raised, raises, caught_text, is_caught}
use Rattle.rb_meaning_code.specs.Dialogue as dialogue
use Rattle.rb_meaning_code.specs.Dialogue.{ListTurn, Outcome, Gave, Faulted, Done, Ask, handle, seq, next, gives, end, told}
use Rattle.rb_meaning_code.specs.Objects.{with_field_of}
use Rattle.rb_meaning_code.specs.Calls.{Bodies, unit_due}
use Rattle.rb_meaning_code.specs.Expressions.{evaluates}
use Rattle.rb_meaning_code.specs.Statements.{Effect, nothing, block, truth_of, either, by_truth, after_unit, while_turns, turns_over, list_turn, turns, prints, handles, assigns, writes}
use Rattle.rb_meaning_code.specs.Bodies.{bodies_of}
use Rattle.rb_meaning_code.specs.ScriptRun.{Ground, Vars}
use Rattle.rb_meaning_flow.specs.Facts.{Facts, facts_of}
use Rattle.rb_meaning_flow.specs.Scopes.{Scope}
use Rattle.rb_meaning_flow.specs.Portable.{holds_call}
use Rattle.rb_meaning_flow.specs.Marks.{is_portable_call}
use Rattle.rb_meaning.specs.State.{Outside}
use Rattle.rb_meaning.specs.Unsplit.{in_batch}
use Rattle.rb_meaning.specs.RemoteExprs.{remote_in}
use Rattle.rb_meaning_split.specs.Refs.{Refs}
use Rattle.rb_meaning_split.specs.Cuts.{counted, cut}
use Rattle.rb_law_types.specs.Ends.{Place, LocalFits, FitsPlace, GaveFit, Ends, Nothing, Grown}
use Rattle.rb_law_types.specs.Around.{EndsHandled}
use Rattle.rb_law_types.specs.Code.{AreTyped, OfBatchCode}
use Rattle.rb_law_types.proofs.Values.{all_more, text_fits}
use Rattle.rb_law_types.proofs.Faults.{caught_is_text}
use Rattle.rb_law_types.proofs.Steps.{Closes}
use Rattle.rb_law_types.proofs.Stmts.{binds}
use Rattle.rb_law_local.specs.Shown.{is_far, seen, named, at_client, Fronts, LeftSeen}
use Rattle.rb_law_local.specs.Wanted.{AllWanted}
use Rattle.rb_law_local.specs.Parted.{Parted}
use Rattle.rb_law_local.specs.Placed.{PlacedExpr}
use Rattle.rb_law_local.proofs.Near.{StandPlain}
use Rattle.rb_law_local.specs.Meets.{Meets}
use Rattle.rb_law_local.proofs.Names.{Begins, begins_fit, Extends, extends_same, seen_value, seen_put, seen_bound, fronts_same}
use Rattle.rb_law_local.proofs.Meeting.{Ended, then_meets, gives_meet, falls_meet, line_meets, turn_meets, told_otherwise, after_check}
use Rattle.rb_law_local.proofs.Coded.{Code}
use Rattle.rb_law_local.proofs.Portable.{value_ended}
use Rattle.rb_law_local.proofs.Uncut.{nothing_taken, not_cut}
use Rattle.rb_law_local.proofs.Values.{then_here, value_meets}
use Rattle.rb_law_local.proofs.Closing.{FellSeen, extends_with, close_ended, close_meets}

module _ (p : Program) (service : Service) (g : Ground) (refs : Refs) (vars : Vars) (gas : ℕ) (Holds : Outside → Type 0) (Here : ℕ → Type 0) (this : Option (List ℕ)) (remote : Truth)
    (keeps : OfBatchCode (of_program p) (type_at p) (λ A P run. EndsHandled Holds (in_batch p service) A P run)) (declared : AreTyped (of_program p))
    (near_this : (class : List ℕ) → this ≡ Some class → is_far (of_program p) (kind.Named class) ≡ false) (vs : Scope) (bodies_placed : StandPlain p Here) where
  abbrev d : Declarations
  d = of_program p

  abbrev x : Context
  x = record { declared = d; this = this; remote = remote }

  abbrev place : typed.Scope → Place
  place ws = record { this = this; remote = remote; scope = ws }

  abbrev f : Facts
  f = facts_of p

  abbrev code : Bodies
  code = bodies_of p.classes gas

  abbrev M : {A : Type 0} → (A → Local → Local → Type 0) → (Local → Local → Type 0) → List Expr → ℕ → dialogue.Run A → dialogue.Run A → Type 0
  M Q F es n whole client = Meets p service g refs vars gas Holds Here Q F es n whole client

  -- statements that begin in one scope and lead to another
  abbrev S : typed.Scope → typed.Scope → List Expr → ℕ → dialogue.Run (Unit {0}) → dialogue.Run (Unit {0}) → Type 0
  S ws after es n whole client = M (LeftSeen x after) (Fronts x ws) es n whole client

  -- blocks
  abbrev B : typed.Scope → ℕ → dialogue.Run (Unit {0}) → dialogue.Run (Unit {0}) → Type 0
  B ws n whole client = M (LeftSeen x ws) (FellSeen x ws) [] n whole client

  abbrev W : typed.Scope → Names → List Expr → Type 0
  W ws ns es = AllWanted p service g refs vars Holds x ws ns es

  abbrev Is : {A : Type 0} → (Outcome A → Type 0) → dialogue.Run A → Type 0
  Is P run = Ended p service g refs vars gas Holds Here P run

  fronts : (ws : typed.Scope) (ns : Names) (l1 : Local) → l1.names ≡ ns → Fronts x ws l1 (at_client x ws l1)
  fronts ws ns l1 e = fronts_same x ws l1

  -- a value and what follows it
  pub then_value : (ws after : typed.Scope) (e : Expr) (k : Kind) (n : ℕ) (l : Local) (fs : List Expr) (go go' : Value → Local → dialogue.Run (Unit {0})) → Code (type_at p) x ws e k → Parted f vs x ws e → PlacedExpr Here (is_portable_call f vs) e → FitsPlace d (place ws) l → W ws l.names (remote_in f vs e)
      → ((v : Value) (l1 : Local) → GaveFit x ws (λ cs u. Fits p.interfaces cs k u) (classes_of l.heap) v l1 → l1.names ≡ l.names → S ws after fs (counted (remote_in f vs e) n) (go v l1) (go' v (at_client x ws l1)))
      → S ws after (remote_in f vs e ++ fs) n (next (evaluates code e l) go) (next (evaluates code (cut f vs n e) (at_client x ws l)) go')
  then_value ws after e k n l fs go go' c h u fits w more =
      then_here p service g refs vars gas Holds Here this remote keeps declared near_this vs bodies_placed ws go go' (value_meets p service g refs vars gas Holds Here this remote keeps declared near_this vs bodies_placed ws e k n l l.names c h u fits refl w)
      (value_ended p service g refs vars gas Holds Here this remote keeps ws e k l c fits) more (fronts ws l.names)

  -- one in which nothing is taken
  then_near : (ws after : typed.Scope) (e : Expr) (k : Kind) (n : ℕ) (l : Local) (go go' : Value → Local → dialogue.Run (Unit {0})) → Code (type_at p) x ws e k → Parted f vs x ws e → PlacedExpr Here (is_portable_call f vs) e → FitsPlace d (place ws) l → holds_call f e ≡ false
      → ((v : Value) (l1 : Local) → GaveFit x ws (λ cs u. Fits p.interfaces cs k u) (classes_of l.heap) v l1 → l1.names ≡ l.names → S ws after [] n (go v l1) (go' v (at_client x ws l1)))
      → S ws after [] n (next (evaluates code e l) go) (next (evaluates code e (at_client x ws l)) go')
  then_near ws after e k n l go go' c h u fits near more =
      let none = nothing_taken f vs e near in
      subst (λ q. S ws after q n (next (evaluates code e l) go) (next (evaluates code e (at_client x ws l)) go')) (ap (λ q. q ++ []) none)
      (subst (λ q. S ws after (remote_in f vs e ++ []) n (next (evaluates code e l) go) (next (evaluates code q (at_client x ws l)) go')) (not_cut f vs n e near)
      (then_value ws after e k n l [] go go' c h u fits (subst (W ws l.names) (sym none) tt) (λ v l1 fit same. subst (λ q. S ws after [] (counted q n) (go v l1) (go' v (at_client x ws l1))) (sym none) (more v l1 fit same))))

  -- conditions and units of fuel

  pub truth_meets : (ws after : typed.Scope) (n at : ℕ) (v : Value) (a b a' b' : Effect) (l : Local) → Here at → S ws after [] n (a l) (a' (at_client x ws l)) → S ws after [] n (b l) (b' (at_client x ws l))
      → S ws after [] n (by_truth at v a b l) (by_truth at v a' b' (at_client x ws l))
  truth_meets ws after n at v a b a' b' l here ma mb =
      after_check p service g refs vars gas Holds Here l (at_client x ws l) [] at (truth_of (out-Value v)) _ _ here (fronts_same x ws l) (λ holds is. by holds)
    where
      by : (t : Truth) → S ws after [] n (either t a b l) (either t a' b' (at_client x ws l))
      by true = ma
      by false = mb

  unit_meets : (ws after : typed.Scope) (n at : ℕ) (go go' : Effect) (l : Local) → Here at → S ws after [] n (go (spent l)) (go' (at_client x ws (spent l))) → S ws after [] n (after_unit at go l) (after_unit at go' (at_client x ws l))
  unit_meets ws after n at go go' l here m = after_check p service g refs vars gas Holds Here l (at_client x ws l) [] at (unit_due l.fuel) _ _ here (fronts_same x ws l) (λ u is. m)

  -- a block in which nothing is taken, as it ends

  pub block_left : (ws : typed.Scope) (n : ℕ) (cs : List (List ℕ)) {whole client : dialogue.Run (Unit {0})} → Is (Closes x ws cs) whole → B ws n whole client → S ws ws [] n whole client
  block_left ws n cs ended m = told_otherwise p service g refs vars gas Holds Here m ended (λ u l cl e q. q) (λ r l cl e q. subst (Fronts x ws l) (sym q) (fronts_same x ws l))

  -- a block and what follows it
  pub then_block : (ws after : typed.Scope) (n : ℕ) (cs : List (List ℕ)) {whole client : dialogue.Run (Unit {0})} (go go' : Unit {0} → Local → dialogue.Run (Unit {0})) → Is (Closes x ws cs) whole → B ws n whole client
      → ((l1 : Local) → LocalFits x ws l1 → Grown cs (classes_of l1.heap) → S ws after [] n (go tt l1) (go' tt (at_client x ws l1))) → S ws after [] n (next whole go) (next client go')
  then_block ws after n cs go go' ended m more =
      then_meets p service g refs vars gas Holds Here go go' m ended (λ u l1 cl e q. subst (λ c. S ws after [] n (go u l1) (go' u c)) (sym q) (more l1 e.state e.grown))
      (λ r l1 cl e q. subst (Fronts x ws l1) (sym q) (fronts_same x ws l1))

  -- code of a block, wherever it begins in a scope
  pub record Inner (n : ℕ) (inner : typed.Scope) (run : Effect) : Type 0 where
    pub last : typed.Scope
    pub extends : Extends inner last
    pub ended : (l : Local) → LocalFits x inner l → Is (Ends x inner last Nothing (classes_of l.heap)) (run l)
    pub meets : (l : Local) → LocalFits x inner l → S inner last [] n (run l) (run (at_client x inner l))

  pub block_ended : (ws : typed.Scope) (n : ℕ) (run : Effect) (i : Inner n ws run) (l : Local) → LocalFits x ws l → Is (Closes x ws (classes_of l.heap)) (block run l)
  block_ended ws n run i l state = close_ended p service g refs vars gas Holds Here x ws ws i.last (extends_same ws ws refl) i.extends l state (i.ended l state)

  pub block_meets : (ws : typed.Scope) (n : ℕ) (run : Effect) (i : Inner n ws run) (l : Local) → LocalFits x ws l → B ws n (block run l) (block run (at_client x ws l))
  block_meets ws n run i l state = close_meets p service g refs vars gas Holds Here x ws ws i.last (extends_same ws ws refl) i.extends l state (i.ended l state) (i.meets l state)

  module _ (ws : typed.Scope) (n : ℕ) (name : List ℕ) (k : Kind) (run : Effect) (i : Inner n (with_variable ws name k true) run) (near : is_far d k ≡ false) (l : Local) (v : Value) (state : LocalFits x ws l) (fits : Fits p.interfaces (classes_of l.heap) k v) where
    bound_ended : Is (Closes x ws (classes_of l.heap)) (block (λ l2. run (bound name v l2)) l)
    bound_ended =
        close_ended p service g refs vars gas Holds Here x ws (with_variable ws name k true) i.last (extends_with ws name k true) i.extends l state (i.ended (bound name v l) (binds x ws l name k true v state fits))

    bound_meets : B ws n (block (λ l2. run (bound name v l2)) l) (block (λ l2. run (bound name v l2)) (at_client x ws l))
    bound_meets =
        close_meets p service g refs vars gas Holds Here x ws (with_variable ws name k true) i.last (extends_with ws name k true) i.extends l state (i.ended (bound name v l) (binds x ws l name k true v state fits))
        (subst (λ c. S (with_variable ws name k true) i.last [] n (run (bound name v l)) (run c)) (seen_bound x ws l name k true v state.count near) (i.meets (bound name v l) (binds x ws l name k true v state fits)))

  -- loops

  pub while_meets : (ws : typed.Scope) (n more at : ℕ) (c : Expr) (body : Effect) → Here at → Code (type_at p) x ws c kind.Bool → Parted f vs x ws c → PlacedExpr Here (is_portable_call f vs) c → holds_call f c ≡ false → Inner n ws body
      → (l : Local) → LocalFits x ws l → S ws ws [] n (while_turns more at (evaluates code c) (block body) l) (while_turns more at (evaluates code c) (block body) (at_client x ws l))
  while_meets ws n zero at c body here t h u near i l state = falls_meet p service g refs vars gas Holds Here l (at_client x ws l) [] (raised fuel_used at) refl here (fronts_same x ws l)
  while_meets ws n (suc more) at c body here t h u near i l state =
      let go : Unit {0} → Local → dialogue.Run (Unit {0}) = λ r l3. while_turns more at (evaluates code c) (block body) l3 in
      let again : Effect = λ l2. next (block body l2) go in
      then_near ws ws c kind.Bool n l _ _ t h u state near (λ v l1 fit same.
      truth_meets ws ws n at v (after_unit at again) nothing (after_unit at again) nothing l1 here
      (unit_meets ws ws n at again again l1 here
      (then_block ws ws n (classes_of l1.heap) go go (block_ended ws n body i (spent l1) fit.state) (block_meets ws n body i (spent l1) fit.state) (λ l3 state3 g3.
      while_meets ws n more at c body here t h u near i l3 state3)))
      (gives_meet p service g refs vars gas Holds Here l1 (at_client x ws l1) tt refl))

  list_turn_meets : (ws after : typed.Scope) (n at : ℕ) (go go' : Unit {0} → Local → dialogue.Run (Unit {0})) (l : Local) → Here at → S ws after [] n (go tt (spent l)) (go' tt (at_client x ws (spent l)))
      → S ws after [] n (next (list_turn at l) go) (next (list_turn at (at_client x ws l)) go')
  list_turn_meets ws after n at go go' l here m = by (unit_due l.fuel)
    where
      by : (r : Result (Unit {0}) Fault) → S ws after [] n (next (next (end l (raises at r)) (λ u l1. Ask (ListTurn at) (told (spent l1)))) go) (next (next (end (at_client x ws l) (raises at r)) (λ u l1. Ask (ListTurn at) (told (spent l1)))) go')
      by (Ok u) = turn_meets p service g refs vars gas Holds Here (spent l) (at_client x ws (spent l)) at go go' (bodies_placed.uncarried at here) m
      by (Err fault) = falls_meet p service g refs vars gas Holds Here l (at_client x ws l) [] (raised fault at) refl here (fronts_same x ws l)

  over_meets : (ws : typed.Scope) (n at : ℕ) (name : List ℕ) (k : Kind) (run : Effect) → Here at → Inner n (with_variable ws name k true) run → is_far d k ≡ false
      → (us : List Value) (l : Local) → All (Fits p.interfaces (classes_of l.heap) k) us → LocalFits x ws l → S ws ws [] n (turns_over (list_turn at) name us run l) (turns_over (list_turn at) name us run (at_client x ws l))
  over_meets ws n at name k run here i near [] l each state = gives_meet p service g refs vars gas Holds Here l (at_client x ws l) tt refl
  over_meets ws n at name k run here i near (v ∷ us) l each state =
      let fit = All-head (Fits p.interfaces (classes_of l.heap) k) v us each in
      list_turn_meets ws ws n at _ _ l here
      (then_block ws ws n (classes_of l.heap) _ _ (bound_ended ws n name k run i near (spent l) v state fit) (bound_meets ws n name k run i near (spent l) v state fit) (λ l3 state3 g3.
      over_meets ws n at name k run here i near us l3 (all_more p.interfaces (classes_of l.heap) (classes_of l3.heap) g3 k us (All-tail (Fits p.interfaces (classes_of l.heap) k) v us each)) state3))

  pub turns_meet : (ws : typed.Scope) (n at : ℕ) (name : List ℕ) (k : Kind) (run : Effect) → Here at → Inner n (with_variable ws name k true) run → is_far d k ≡ false
      → (w : Value-F Value) (l : Local) → AreItems (Fits p.interfaces (classes_of l.heap) k) w → LocalFits x ws l → S ws ws [] n (turns at name w run l) (turns at name w run (at_client x ws l))
  turns_meet ws n at name k run here i near (Value-F.List items) l each state = over_meets ws n at name k run here i near items l each.1 state
  turns_meet ws n at name k run here i near Value-F.Unit l each state = absurd each
  turns_meet ws n at name k run here i near _ l each state = absurd each

  -- what a handler does

  pub handles_meet : (ws : typed.Scope) (n : ℕ) (cs : List (List ℕ)) (name : List ℕ) (run : Effect) → Inner n (with_variable ws name kind.Text true) run → (r : Raised) (l cl : Local) → Closes x ws cs (Faulted r l) → r.remote ≡ false → Here r.at → cl ≡ at_client x ws l
      → S ws ws [] n (handles name run (Faulted r l)) (handles name run (Faulted r cl))
  handles_meet ws n cs name run i r l cl e near here same = subst (λ c. S ws ws [] n (handles name run (Faulted r l)) (handles name run (Faulted r c))) (sym same) (by (is_caught r))
    where
      text : Value
      text = value.Text (caught_text r.fault)

      fits : Fits p.interfaces (classes_of l.heap) kind.Text text
      fits = text_fits p.interfaces (classes_of l.heap) (caught_text r.fault) (caught_is_text r.fault e.0.text)

      by : (t : Truth) → S ws ws [] n (cond t (block (λ l1. run (bound name text l1)) l) (Done (Faulted r l))) (cond t (block (λ l1. run (bound name text l1)) (at_client x ws l)) (Done (Faulted r (at_client x ws l))))
      by true = block_left ws n (classes_of l.heap) (bound_ended ws n name kind.Text run i refl l text e.1.state fits) (bound_meets ws n name kind.Text run i refl l text e.1.state fits)
      by false = falls_meet p service g refs vars gas Holds Here l (at_client x ws l) [] r near here (fronts_same x ws l)

  -- lines and assignments

  pub prints_meet : (ws : typed.Scope) (n at : ℕ) (o : Option (List ℕ)) (l : Local) → Here at → S ws ws [] n (prints at o l) (prints at o (at_client x ws l))
  prints_meet ws n at (Some bytes) l here = line_meets p service g refs vars gas Holds Here l (at_client x ws l) at bytes refl
  prints_meet ws n at None l here = falls_meet p service g refs vars gas Holds Here l (at_client x ws l) [] (raised faults.kind at) refl here (fronts_same x ws l)

  pub assigns_meet : (ws : typed.Scope) (n at : ℕ) (name : List ℕ) (u : typed.Variable) (v : Value) (l : Local) → Here at → bytes_eq this_name name ≡ false → variable_named ws name ≡ Some u → is_far d u.kind ≡ false → LocalFits x ws l
      → S ws ws [] n (assigns at name v l) (assigns at name v (at_client x ws l))
  assigns_meet ws n at name u v l here plain found near state = by (lookup l.names name) (lookup (seen x ws l.names) name) (seen_value x ws l.names name u plain framed found near)
    where
      framed : Begins (frame_scope this ws) l.names
      framed = begins_fit p.interfaces (classes_of l.heap) (frame_scope this ws) l.names state.holds.names_fit

      by : (o o' : Option Value) → o' ≡ o
          → S ws ws [] n (next (end l (raises at (known faults.kind o >>= λ old. Ok (replaced l.names name v)))) (λ names l1. nothing (record l1 { names = names })))
          (next (end (at_client x ws l) (raises at (known faults.kind o' >>= λ old. Ok (replaced (seen x ws l.names) name v)))) (λ names l1. nothing (record l1 { names = names })))
      by (Some w) (Some w') e =
          gives_meet p service g refs vars gas Holds Here (named (replaced l.names name v) l) (named (replaced (seen x ws l.names) name v) l) tt (ap (λ q. named q l) (sym (seen_put x ws l.names name u v plain framed found near)))
      by None None e = falls_meet p service g refs vars gas Holds Here l (at_client x ws l) [] (raised faults.kind at) refl here (fronts_same x ws l)
      by (Some w) None e = absurd (cc (e))
      by None (Some w) e = absurd (cc (e))

  pub writes_meet : (ws : typed.Scope) (n at : ℕ) (object : Value) (name : List ℕ) (v : Value) (l : Local) → Here at → S ws ws [] n (writes at object name v l) (writes at object name v (at_client x ws l))
  writes_meet ws n at object name v l here =
      after_check p service g refs vars gas Holds Here l (at_client x ws l) [] at (with_field_of l.heap (out-Value object) name v) _ _ here (fronts_same x ws l) (λ heap is.
      gives_meet p service g refs vars gas Holds Here (record l { heap = heap }) (at_client x ws (record l { heap = heap })) tt refl)
