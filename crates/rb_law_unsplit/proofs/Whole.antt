-- A batch of an admitted program ends as a statement does, and the whole program as its types say.
use Rattle.std.proofs.Common.{◌≡◌, inr, refl, sym, ap, ◌∙◌, subst, arith, ℕ, List, [], length, Bool as Truth, true, false, not, ◌&&◌, cond, Option, Some, None, Ok}
use Rattle.std.specs.List.{Contains, flat_map}
use Rattle.std.specs.Option.{is_some}
use Rattle.std.proofs.lemmas.Bool.{and_parts}
use Rattle.std.proofs.lemmas.List.Elements.{All-nil}
use Rattle.rb_trees.specs.Outcome.{must}
use Rattle.rb_trees.specs.declared.values.Value.{Value}
use Rattle.rb_trees.specs.declared.values.Value.TheOpen.{Value-F}
use Rattle.rb_trees.specs.declared.values.Value.TheVariants as value
use Rattle.rb_trees.specs.declared.values.Value.TheViews.{out-Value}
use Rattle.rb_trees.specs.declared.services.Object.{Object}
use Rattle.rb_trees.specs.declared.refusals.Refusal.{Refusal}
use Rattle.rb_trees.specs.mirror.Types as tree
use Rattle.rb_trees.specs.mirror.Types.{TypeTree, type_at as place_of}
use Rattle.rb_trees.specs.mirror.Code.{Expr, Stmts, expr_at}
use Rattle.rb_trees.specs.mirror.Declarations.{Program, Interface}
use Rattle.rb_trees.specs.mirror.Services.{Service}
use Rattle.rb_meaning_types.specs.Kinds as kind
use Rattle.rb_meaning_types.specs.Kinds.{Kind, kind_of, is_unit, is_primitive, same_kind}
use Rattle.rb_meaning_types.specs.Names.{interface_named}
use Rattle.rb_meaning_types.specs.Violations.{MissingReturn, TypeNotHere}
use Rattle.rb_meaning_types.specs.Declared.{Declarations, Context, of_program, main_context}
use Rattle.rb_meaning_types.specs.Scopes.{Scope, with_variable}
use Rattle.rb_meaning_types.specs.Expressions.{type_of}
use Rattle.rb_meaning_types.specs.Statements.{check_stmts}
use Rattle.rb_meaning_types.specs.Bodies.{check_return}
use Rattle.rb_meaning_types.specs.Places.{declared_type, is_main_result}
use Rattle.rb_meaning_types.specs.Notes.{scope_or, type_at}
use Rattle.rb_meaning_types.specs.Lawful.{IsLawful, IsLawfulReturn}
use Rattle.rb_meaning_types.specs.Fits.{classes_of, IsRemoteValue, FitsNamed, Fits, TableFits}
use Rattle.rb_meaning_code.specs.Faults.{input_too_large}
use Rattle.rb_meaning_code.specs.State.{Local, bound}
use Rattle.rb_meaning_code.specs.Dialogue.{Question, Line, Taken, Invoke, Turn, ListTurn, Outcome, Gave, Faulted, handle, on}
use Rattle.rb_meaning_code.specs.Statements.{performs_all}
use Rattle.rb_meaning_code.specs.Expressions.{evaluates}
use Rattle.rb_meaning_code.specs.Bodies.{bodies_of}
use Rattle.rb_meaning_flow.specs.Facts.{facts_of}
use Rattle.rb_meaning_flow.specs.Scopes.{opened}
use Rattle.rb_meaning_flow.specs.Refusals.{IsRefusal}
use Rattle.rb_meaning_flow.specs.Outermost.{Outermost, batch_sites, program_batches}
use Rattle.rb_meaning.specs.State.{Outside}
use Rattle.rb_meaning.specs.RemotePart.{remote_only}
use Rattle.rb_meaning.specs.ConstantLists.{takes_too_many}
use Rattle.rb_meaning.specs.Unsplit.{batch_at, in_batch, with_side, begun, settles, whole_table, performs_batch}
use Rattle.rb_meaning.specs.Meaning.{Around, local_answer, answers_around, at_batch, begins_or_faults, performs_found, in_main, gives_some, main_result, runs_main, ending_of, at_start, around_of, meaning_with}
use Rattle.rb_meaning.specs.Others.{Others}
use Rattle.rb_meaning.specs.Links.{IsTyped}
use Rattle.rb_flow.specs.Program.{HasNoRefusal}
use Rattle.rb_flow.proofs.Among.{mapped_to}
use Rattle.rb_law_types.specs.Kept.{IsOwnFault, FaultFits}
use Rattle.rb_law_types.specs.Own.{IsOwnPlace}
use Rattle.rb_law_types.specs.Formed.{IsFormedReturn, AreFormed, LawfulExprsAreFormed, LawfulStmtsAreFormed, LawfulClassesAreFormed}
use Rattle.rb_law_types.specs.Ends.{Place, context, LocalFits, FitsPlace, Ends, Nothing, EndsThere}
use Rattle.rb_law_types.specs.Asked.{Site, Side, Own, InBatch, IsNear, IsAsked, IsAnswer, IsAskedBatch, Keeps}
use Rattle.rb_law_types.specs.Noted.{AreNotedStmts}
use Rattle.rb_law_types.specs.Batches.{sites_in}
use Rattle.rb_law_types.specs.Code.{AreTyped, Stands, EndsIn, bodies, TypesKeep}
use Rattle.rb_law_types.specs.Around.{HandlerFits}
use Rattle.rb_law_types.specs.Remote.{CallsKeep}
use Rattle.rb_law_types.proofs.Checks.{bind_ok, then_ok, must_ok, placed_ok, same_sound}
use Rattle.rb_law_types.proofs.Faults.{empty_text}
use Rattle.rb_law_types.proofs.Served.{remote_out}
use Rattle.rb_law_types.proofs.Steps.{keeps_seq, Within, left_taken, holds_less}
use Rattle.rb_law_types.proofs.Stmts.{binds, within_added}
use Rattle.rb_law_types.proofs.Bodies.{own_stmts, far_stmts}
use Rattle.rb_law_types.proofs.InSurroundings.{handled}
use Rattle.rb_law_types.proofs.Parts.{batch_parts}
use Rattle.std.proofs.lemmas.List.Elements.{Contains-append_right}
use Rattle.rb_law_unsplit.specs.Noted.{IsNotedProgram}
use Rattle.rb_law_unsplit.specs.Batches.{class_sites, program_sites}
use Rattle.rb_law_unsplit.specs.Kept.{IsResult, EndsWell, AllKeepFitting, HasFittingTable, StandsAround, MeansWell}
use Rattle.rb_law_unsplit.proofs.Found.{batch_found}
use Rattle.rb_law_unsplit.proofs.Agreed.{Agree}
use Rattle.rb_law_unsplit.proofs.Standing.{block_lawful, IsBatchOf}
use Rattle.rb_law_unsplit.proofs.Programs.{methods_ask, IsTypedProgram, batches_in}
use Rattle.rb_law_unsplit.proofs.Admission.{block_admitted}
use Rattle.rb_law_unsplit.proofs.Handling.{Fine, batch_handler_fits}
use Rattle.rb_law_unsplit.proofs.Others.{stands_at_batch, stands_behind}

-- a remote object fits an interface's name
pub remote_named : (o : Option Interface) (cs : List (List ℕ)) (name : List ℕ) (w : Value-F Value) → is_some o ≡ true → IsRemoteValue w → FitsNamed o cs name w
remote_named (Some i) cs name w e h = h
remote_named None cs name w e h = absurd (cc (e))

-- a program, and what is known of it
module _ (calls : CallsKeep) (exprs_formed : LawfulExprsAreFormed) (stmts_formed : LawfulStmtsAreFormed) (classes_formed : LawfulClassesAreFormed) (types_keep : TypesKeep)
    (p : Program) (lawful : IsLawful p) (t : IsTypedProgram p) (none : HasNoRefusal p) (service : Service) (first : List Object) (served : IsTyped service first) where
  abbrev d : Declarations
  d = of_program p

  abbrev is : List Interface
  is = p.interfaces

  pub declared : AreTyped d
  declared = record { declared = t.declared; bodies = t.bodies; formed = classes_formed p.classes lawful.classes; alone = λ e. absurd (cc (e)) }

  pub service_formed : AreFormed service.classes
  service_formed = classes_formed service.classes served.lawful.each

  abbrev Holds : Outside → Type 0
  Holds = HasFittingTable service

  abbrev HoldsAround : Around → Type 0
  HoldsAround = StandsAround service

  abbrev batches : List Site
  batches = program_sites p

  abbrev side : Side
  side = Own batches

  -- the fault of lists that are too large, of code that is no service's
  too_large : IsOwnFault input_too_large
  too_large = record { least = omega arith; most = omega arith; not_kind = λ e. absurd (omega (arith, e)); text = empty_text; plain = inr refl }

  -- a batch of admission, as a site
  abbrev site_of : Outermost → List ℕ → Place → Site
  site_of o interface place = record { at = o.at; interface = interface; root = o.root; block = o.block; place = place }

  abbrev within : Outermost → List ℕ → Place → Place
  within o interface place = record { this = place.this; remote = place.remote; scope = with_variable place.scope o.root (kind.Named interface) true }

  -- the root of a batch is of its interface, its body is typed where it stands, and its types are noted
  pub record Begins (o : Outermost) (interface : List ℕ) (place : Place) : Type 0 where
    pub last : Scope
    pub typed : check_stmts (context d place) (with_variable place.scope o.root (kind.Named interface) true) o.block ≡ Ok last
    pub noted : AreNotedStmts (type_at p) (context d place) (with_variable place.scope o.root (kind.Named interface) true) o.block
    pub declared_as : is_some (interface_named is interface) ≡ true

  -- of a batch from where its root is bound
  abbrev FromStart : (Local → Outside → Type 0) → Outermost → List ℕ → Place → Type 0
  FromStart P o interface place = (start : Local) (s : Outside) → Holds s → FitsPlace d (within o interface place) start → Begins o interface place → P start s

  -- the whole remote part leaves a table that fits
  abbrev WholeFits : Outermost → List ℕ → Place → Type 0
  WholeFits o interface place = FromStart (λ start s. TableFits service.classes service.root (whole_table p service o start s.server)) o interface place

  -- in a batch each answer fits what is asked
  pub batch_fits : HandlerFits d (InBatch (type_at p)) Holds (in_batch p service)
  batch_fits = batch_handler_fits calls p service served.typed service_formed

  module _ (o : Outermost) (interface : List ℕ) (place : Place) (known : IsBatchOf p (program_batches (facts_of p) p) (site_of o interface place)) (among : Contains (program_batches (facts_of p) p) o) where
    no_refusal : (r : Refusal) → IsRefusal (facts_of p) (batch_sites (facts_of p) o) r → ⊥
    no_refusal r h = none r (batch_sites (facts_of p) o, mapped_to (batch_sites (facts_of p)) (program_batches (facts_of p) p) o among, h)

    -- The body of a batch begins in a local state that fits, and keeps types in the surroundings of a batch.
    pub record BodyKeeps (l : Local) : Type 0 where
      pub begins : Begins o interface place
      pub start_fits : FitsPlace d (within o interface place) (bound o.root (value.Remote service.root) l)
      pub sub : Within (context d place) (with_variable place.scope o.root (kind.Named interface) true) begins.last
      pub keeps : Keeps d (InBatch (type_at p)) (Ends (context d place) (with_variable place.scope o.root (kind.Named interface) true) begins.last Nothing (classes_of l.heap))
          (performs_all (bodies d l.fuel) l.fuel o.block (bound o.root (value.Remote service.root) l))

    pub body_begins : (at : ℕ) (l : Local) → IsAskedBatch d side at l (site_of o interface place) → BodyKeeps l
    body_begins at l asked =
        let x = context d place in
        let inner = within o interface place in
        let parts = batch_parts x place.scope o.at interface o.root o.block place.scope asked.typed in
        let start = bound o.root (value.Remote service.root) l in
        let root_fits : Fits is (classes_of l.heap) (kind.Named interface) (value.Remote service.root) =
        remote_named (interface_named is interface) (classes_of l.heap) interface (out-Value (value.Remote service.root)) parts.declared_as (subst IsRemoteValue (sym (remote_out service.root)) tt) in
        let start_fits : LocalFits x inner.scope start = binds x place.scope l o.root (kind.Named interface) true (value.Remote service.root) asked.fits root_fits in
        let noted : AreNotedStmts (type_at p) x inner.scope o.block = subst (λ i. AreNotedStmts (type_at p) x i o.block) (ap (scope_or place.scope) parts.judged) known.noted in
        let admitted = block_admitted p x refl (batch_sites (facts_of p) o) no_refusal [] (opened o.outer o.at o.root o.block) inner.scope parts.last o.block parts.block_typed noted (λ y c. c) in
        let code = far_stmts d declared (type_at p) inner l.fuel o.block parts.last (parts.block_typed, stmts_formed o.block (block_lawful o.block known.lawful.2)) (noted, admitted) in
        record {
          begins = record { last = parts.last; typed = parts.block_typed; noted = noted; declared_as = parts.declared_as };
          start_fits = start_fits;
          sub = code.sub;
          keeps = (code.runs start start_fits).keeps;
        }

  module _ (o : Outermost) (interface : List ℕ) (place : Place) (known : IsBatchOf p (program_batches (facts_of p) p) (site_of o interface place)) (among : Contains (program_batches (facts_of p) p) o) (whole : WholeFits o interface place) where
    abbrev x : Context
    x = context d place

    abbrev inner : Place
    inner = within o interface place

    -- back outside of the batch
    settles_well : (l : Local) (last : Scope) (table : List Object) → LocalFits x place.scope l → Within x inner.scope last → TableFits service.classes service.root table
        → (r : Outcome (Unit {0}) × Outside) → Ends x inner.scope last Nothing (classes_of l.heap) r.0 → Holds r.1
        → EndsThere d place l (settles p (length l.names) table r).0 × Holds (settles p (length l.names) table r).1
    settles_well l last table state sub fits (Gave u l1, s1) e holds =
        let outer = holds_less x place.scope inner.scope l1 (within_added x place.scope o.root (kind.Named interface) true) (holds_less x inner.scope last l1 sub e.state.holds) in
        let left = left_taken x place.scope (classes_of l.heap) (length l.names) l1 state.count outer e.grown in
        (record { gives = tt; state = left.state; grown = left.grown }, holds)
    settles_well l last table state sub fits (Faulted r l1, s1) e holds =
        let outer = holds_less x place.scope inner.scope l1 (within_added x place.scope o.root (kind.Named interface) true) e.state in
        let left = left_taken x place.scope (classes_of l.heap) (length l.names) l1 state.count outer e.grown in
        (record { fault = e.fault; state = left.state.holds; grown = left.grown }, by (with_side p r).remote)
      where
        by : (t : Truth) → TableFits service.classes service.root (cond t s1.server.table table)
        by true = holds
        by false = fits

    batch_ends : (at : ℕ) (l : Local) (s : Outside) → Holds s → IsAskedBatch d side at l (site_of o interface place)
        → EndsThere d place l (performs_batch p service o l s).0 × Holds (performs_batch p service o l s).1
    batch_ends at l s h asked =
        let start = bound o.root (value.Remote service.root) l in
        let body = body_begins o interface place known among at l asked in
        let run = handled d (InBatch (type_at p)) Holds (in_batch p service) batch_fits
        (Ends x inner.scope body.begins.last Nothing (classes_of l.heap)) (performs_all (bodies d l.fuel) l.fuel o.block start) body.keeps (begun s) h in
        settles_well l body.begins.last (whole_table p service o start (begun s).server) asked.fits body.sub (whole start (begun s) h body.start_fits body.begins)
        (handle (in_batch p service) (performs_all (bodies_of p.classes l.fuel) l.fuel o.block start) (begun s)) run.0 run.1

  -- of each batch from where its root is bound
  abbrev OfEachStart : (Outermost → Local → Outside → Type 0) → Type 0
  OfEachStart P = (o : Outermost) (interface : List ℕ) (place : Place) → IsBatchOf p (program_batches (facts_of p) p) (site_of o interface place) → Agree is o.outer place.scope → Contains (program_batches (facts_of p) p) o
      → FromStart (P o) o interface place

  -- the whole remote part of each batch leaves a table that fits
  abbrev pub AllWhole : Type 0
  AllWhole = OfEachStart (λ o start s. TableFits service.classes service.root (whole_table p service o start s.server))

  -- so does the walk over it, which no fault Kind ends
  abbrev pub AllWalksFine : Type 0
  AllWalksFine = OfEachStart (λ o start s. Fine service (λ (u : Unit {0}). Unit {0}) (remote_only p service (opened o.outer o.at o.root o.block) o.block start.names s.server))

  -- the site of a batch that admission knows is the one as typing knows it
  pub same_site : (b : Site) (known : IsBatchOf p (program_batches (facts_of p) p) b) → site_of known.begun b.interface b.place ≡ b
  same_site b known =
      ap (λ q. site_with q known.begun.root known.begun.block) known.at ∙ ap (λ q. site_with b.at q known.begun.block) known.root ∙ ap (λ q. site_with b.at b.root q) known.block
    where
      site_with : ℕ → List ℕ → Stmts → Site
      site_with at' root' block' = record { at = at'; interface = b.interface; root = root'; block = block'; place = b.place }

  module _ (whole : AllWhole) (noted : IsNotedProgram p) where
    -- a batch begins, or its lists are too large
    begun_ends : (o : Outermost) (place : Place) (l : Local) (a : Around) → HoldsAround a → FitsPlace d place l
        → EndsThere d place l (begins_or_faults false p service o l a).0 × HoldsAround (begins_or_faults false p service o l a).1
        → EndsThere d place l (begins_or_faults (takes_too_many p o l.names) p service o l a).0 × HoldsAround (begins_or_faults (takes_too_many p o l.names) p service o l a).1
    begun_ends o place l a h fits ends = by (takes_too_many p o l.names)
      where
        by : (t : Truth) → EndsThere d place l (begins_or_faults t p service o l a).0 × HoldsAround (begins_or_faults t p service o l a).1
        by true = (record { fault = too_large; state = fits.holds; grown = λ object class e. e }, h)
        by false = ends

    -- a batch that is asked is the one that is found
    found_ends : (at : ℕ) (l : Local) (a : Around) (b : Site) → HoldsAround a → IsAskedBatch d side at l b
        → EndsThere d b.place l (performs_found p service (batch_at p at) at l a).0 × HoldsAround (performs_found p service (batch_at p at) at l a).1
    found_ends at l a b h asked =
        let known = batches_in p lawful t noted b asked.may in
        let o = known.begun in
        let same = same_site b known in
        let found : batch_at p at ≡ Some o = ap (batch_at p) (sym (known.at ∙ asked.here)) ∙ batch_found p lawful o known.among in
        let site = subst (IsAskedBatch d side at l) (sym same) asked in
        let ends = batch_ends o b.interface b.place (subst (IsBatchOf p (program_batches (facts_of p) p)) (sym same) known) known.among
        (whole o b.interface b.place (subst (IsBatchOf p (program_batches (facts_of p) p)) (sym same) known) known.agree known.among) at l (at_batch a) (stands_at_batch service a h)
        site in
        subst (λ f. EndsThere d b.place l (performs_found p service f at l a).0 × HoldsAround (performs_found p service f at l a).1) (sym found)
        (begun_ends o b.place l a h asked.fits (ends.0, stands_behind service a (performs_batch p service o l (at_batch a)) h ends.1))

    answers : (a : Around) (q : Question) → HoldsAround a → IsAsked d side q → IsAnswer d side q (local_answer q)
    answers a (Line at bytes) h asked = tt
    answers a (ListTurn at) h asked = tt
    answers a (Taken step) h asked = absurd asked
    answers a (Invoke at target method args) h asked = absurd asked
    answers a (Turn at) h asked = absurd asked

    answered : (a : Around) (q : Question) → HoldsAround a → HoldsAround (answers_around a q).1
    answered a (Line at bytes) h = record { table = h.table; others = h.others }
    answered a (ListTurn at) h = record { table = h.table; others = h.others }
    answered a (Taken step) h = record { table = h.table; others = h.others }
    answered a (Invoke at target method args) h = record { table = h.table; others = h.others }
    answered a (Turn at) h = record { table = h.table; others = h.others }

    pub main_handler_fits : HandlerFits d side HoldsAround (in_main p service)
    main_handler_fits = record {
      answers = answers;
      answered = λ a q h asked. answered a q h;
      batches = λ a at l b h asked. (found_ends at l a b h asked).0;
      performed = λ a at l b h asked. (found_ends at l a b h asked).1;
    }

    abbrev place : Place
    place = record { this = None; remote = true; scope = [] }

    abbrev result : Kind
    result = kind_of p.result

    -- how `main` ends
    abbrev pub MainEnds : Outcome (Option Value) → Type 0
    MainEnds (Gave v l) = IsResult result v
    MainEnds (Faulted r l) = FaultFits d r

    -- the value of a primitive type holds no object
    primitive_fits : (k : Kind) (cs : List (List ℕ)) (v : Value) → is_primitive k ≡ true → Fits is cs k v → Fits [] [] k v
    primitive_fits kind.Int cs v e h = h
    primitive_fits kind.Bool cs v e h = h
    primitive_fits kind.Text cs v e h = h
    primitive_fits kind.Unit cs v e h = absurd (cc (e))
    primitive_fits _ cs v e h = absurd (cc (e))

    main_primitive : (at : ℕ) (r : TypeTree) → is_main_result at r ≡ true → not (is_unit (kind_of r)) ≡ true → is_primitive (kind_of r) ≡ true
    main_primitive at (tree.Int a) m e = refl
    main_primitive at (tree.Bool a) m e = refl
    main_primitive at (tree.Text a) m e = refl
    main_primitive at (tree.Unit a) m e = absurd (cc (e))
    main_primitive at (tree.Named a name) m e = absurd (cc (m))
    main_primitive at (tree.ListOf a item) m e = absurd (cc (m))
    main_primitive at (tree.RowsOf a row) m e = absurd (cc (m))

    is_the_unit : (k : Kind) → is_unit k ≡ true → k ≡ kind.Unit
    is_the_unit kind.Unit h = refl
    is_the_unit kind.Int h = absurd (cc (h))
    is_the_unit _ h = absurd (cc (h))

    some_result : (k : Kind) (o : Outcome Value) (l : Local) (scope : Scope) → result ≡ k → is_primitive k ≡ true → EndsIn d (record { this = None; remote = true; scope = scope }) l k o → Keeps d side MainEnds (on gives_some o)
    some_result k (Gave v l1) l scope same primitive e =
        subst (λ m. Fits [] [] m v) (sym same) (primitive_fits k (classes_of l1.heap) v primitive e.gives)
    some_result k (Faulted r l1) l scope same primitive e = e.fault

    result_keeps : (r : Option Expr) (scope : Scope) (gas : ℕ) (l : Local) → check_return (main_context d) scope p.at result r ≡ Ok tt → IsFormedReturn r
        → Stands d (record { this = None; remote = true; scope = scope }) l → Keeps d side MainEnds (main_result (bodies d gas) r l)
    result_keeps None scope gas l h f stands = is_the_unit result (must_ok (is_unit result) (MissingReturn p.at) h)
    result_keeps (Some e) scope gas l h f stands =
        let s = placed_ok (expr_at e) (type_of (main_context d) scope e) _ tt h in
        let both = and_parts (not (is_unit result)) (same_kind result s.0) (must_ok (not (is_unit result) && same_kind result s.0) _ s.2) in
        let same : result ≡ s.0 = same_sound result s.0 both.1 in
        let there : Place = record { this = None; remote = true; scope = scope } in
        let allowed = then_ok (declared_type d p.result) (must (is_main_result p.at p.result) (TypeNotHere (place_of p.result))) tt t.result in
        let primitive = main_primitive p.at p.result (must_ok (is_main_result p.at p.result) (TypeNotHere (place_of p.result)) allowed.1) both.0 in
        keeps_seq d side (EndsIn d there l s.0) MainEnds (evaluates (bodies d gas) e l) (on gives_some)
        ((types_keep d declared batches (methods_ask p)).values there e s.0 gas l (s.1, f) stands)
        (λ o ends. some_result s.0 o l scope same (subst (λ m. is_primitive m ≡ true) same primitive) ends)

    pub main_keeps : (fuel : ℕ) → Keeps d side MainEnds (runs_main p.classes fuel p.body (at_start fuel))
    main_keeps fuel =
        let s = bind_ok (check_stmts (main_context d) [] p.body.statements) _ tt t.body in
        let code = own_stmts d declared batches (methods_ask p) place fuel tt p.body.statements s.0
        (s.1, stmts_formed p.body.statements (block_lawful p.body.statements lawful.body.0)) (λ holds b is. Contains-append_right (flat_map (class_sites d) p.classes) (sites_in (main_context d) [] p.body.statements) b is) in
        keeps_seq d side (Ends (main_context d) [] s.0 Nothing []) MainEnds (performs_all (bodies d fuel) fuel p.body.statements (at_start fuel)) (on (λ u l1. main_result (bodies d fuel) p.body.result l1))
        ((code.runs (at_start fuel) starts).keeps) (rest s.0 s.2 code.own)
      where
        starts : LocalFits (main_context d) [] (at_start fuel)
        starts = record { holds = record { names_fit = tt; heap_fits = All-nil _ }; count = refl }

        return_formed : (r : Option Expr) → IsLawfulReturn r → IsFormedReturn r
        return_formed None h = tt
        return_formed (Some e) h = exprs_formed e h

        rest : (scope : Scope) → check_return (main_context d) scope p.at result p.body.result ≡ Ok tt → (IsNear side → IsOwnPlace (main_context d) scope)
            → (o : Outcome (Unit {0})) → Ends (main_context d) [] scope Nothing [] o → Keeps d side MainEnds (on (λ u l1. main_result (bodies d fuel) p.body.result l1) o)
        rest scope h own (Gave u l1) e = result_keeps p.body.result scope fuel l1 h (return_formed p.body.result lawful.body.1) (record { own = own tt; fits = e.state })
        rest scope h own (Faulted r l1) e = e.fault

    ends_well : (o : Outcome (Option Value)) → MainEnds o → EndsWell result (ending_of o)
    ends_well (Gave v l) h = h
    ends_well (Faulted r l) h = h

    pub means_well : (others : List Others) → AllKeepFitting service others → (fuel : ℕ) → MeansWell p service (meaning_with p service first others fuel)
    means_well others kept fuel =
        let start = around_of first others in
        let run = handled d side HoldsAround (in_main p service) main_handler_fits MainEnds (runs_main p.classes fuel p.body (at_start fuel)) (main_keeps fuel) start (record { table = served.fits; others = kept }) in
        record { ending = ends_well (handle (in_main p service) (runs_main p.classes fuel p.body (at_start fuel)) start).0 run.0; table = run.1.table }
