-- Where the code of a batch stands, and what is known there.
use Rattle.std.proofs.Common.{◌≡◌, refl, sym, ap, subst, ℕ, List, [], Bool as Truth, true, false, cond, Option, Ok}
use Rattle.std.specs.List.{Contains}
use Rattle.rb_trees.specs.declared.values.Value.{Value}
use Rattle.rb_trees.specs.declared.refusals.Refusal.{Refusal}
use Rattle.rb_trees.specs.mirror.Code.{Expr, Stmt, Stmts, Val, Var, Assign, Run, Print, Throw, If, While, For, Try, Batch}
use Rattle.rb_trees.specs.mirror.Declarations.{Program, Interface}
use Rattle.rb_trees.specs.mirror.Services.{Service}
use Rattle.rb_meaning_types.specs.Declared.{Declarations, Context, of_program}
use Rattle.rb_meaning_types.specs.Scopes as typed
use Rattle.rb_meaning_types.specs.Statements.{check_stmt, check_stmts}
use Rattle.rb_meaning_types.specs.Notes.{type_at}
use Rattle.rb_meaning_types.specs.Programs.{check_service}
use Rattle.rb_meaning_types.specs.Fits.{classes_of}
use Rattle.rb_meaning_code.specs.State.{Local}
use Rattle.rb_meaning_code.specs.Dialogue.{Handler, handle}
use Rattle.rb_meaning_code.specs.Calls.{Bodies}
use Rattle.rb_meaning_code.specs.Statements.{performs}
use Rattle.rb_meaning_code.specs.Bodies.{bodies_of}
use Rattle.rb_meaning_code.specs.ScriptRun.{Ground, Vars}
use Rattle.rb_meaning_flow.specs.declared.scopes.Role.{Role}
use Rattle.rb_meaning_flow.specs.Facts.{Facts, facts_of}
use Rattle.rb_meaning_flow.specs.Scopes.{Scope, with_variable, assigned_by, assigned_in}
use Rattle.rb_meaning_flow.specs.Portable.{portable}
use Rattle.rb_meaning_flow.specs.Sites.{Around, is_script_place, StmtSite, ExprSite, scope_after, sites, block_sites}
use Rattle.rb_meaning_flow.specs.Outermost.{Outermost, batch_sites, program_batches}
use Rattle.rb_meaning_flow.specs.Refusals.{IsRefusal}
use Rattle.rb_meaning.specs.State.{Outside}
use Rattle.rb_meaning.specs.Unsplit.{in_batch}
use Rattle.rb_meaning_split.specs.Refs.{Refs}
use Rattle.rb_meaning_split.specs.Inputs.{used, used_in}
use Rattle.rb_flow.specs.Laws.{SendsPortable}
use Rattle.rb_law_types.specs.Formed.{IsFormedStmt, AreFormedStmts, AreFormed}
use Rattle.rb_law_types.specs.Noted.{IsNotedStmt, AreNotedStmts}
use Rattle.rb_law_types.specs.Admitted.{IsAdmittedStmt, AreAdmittedStmts}
use Rattle.rb_law_types.specs.Ends.{Place, LocalFits, Ends, Nothing, FitsPlace}
use Rattle.rb_law_types.specs.Around.{EndsHandled}
use Rattle.rb_law_types.specs.Code.{OfBatchCode}
use Rattle.rb_law_types.proofs.InSurroundings.{batches_keep_handled}
use Rattle.rb_law_types.proofs.Parts.{val_parts, var_parts, run_parts, throw_parts, print_parts, assign_parts, if_parts, while_parts, for_parts, try_parts, batch_parts}
use Rattle.rb_law_types.proofs.SitesWithin.{Within}
use Rattle.rb_law_unsplit.proofs.Walked.{script_scope}
use Rattle.rb_law_unsplit.proofs.Walking.{Laws}
use Rattle.rb_law_script.proofs.Linked.{IsFound, Linked}
use Rattle.rb_law_script.proofs.Joined.{Joined, joined_plain}
use Rattle.rb_law_local.specs.Local.{HoldsTable, FitsService, IsNearThis, LocalCodeDoesTheSame}
use Rattle.rb_law_local.specs.Admitted.{IsAdmittedBatch, CallsArePortable, StaysWhole, AreKnownScopes, AdmittedAreParted, TurnsBeginKnown, TypesAreKnown}
use Rattle.rb_law_local.specs.Marked.{HasMarks, AdmittedArePlaced}
use Rattle.rb_law_local.proofs.Portable.{local_of}
use Rattle.rb_law_division.specs.Faults.{EachFault, IsRemote, IsSent, SentIsRemote}
use Rattle.rb_meaning_code.specs.Expressions.{evaluates}
use Rattle.rb_law_client.proofs.Overs.{Onto, over_look, stmt_from}
use Rattle.rb_law_client.proofs.Written.{Written, Held, held_after, stmt_free, InScript}

-- A batch of an admitted program on a service, with the laws of its code, and what its script runs on.
pub record Scene : Type 0 where
  pub laws : Laws
  pub p : Program
  pub service : Service
  pub service_typed : check_service service.classes ≡ Ok tt
  pub service_formed : AreFormed service.classes
  pub fits : FitsService p service
  pub this : Option (List ℕ)
  pub remote : Truth
  pub near : IsNearThis p this
  pub batch : Outermost
  pub among : Contains (program_batches (facts_of p) p) batch
  pub none : (r : Refusal) → IsRefusal (facts_of p) (batch_sites (facts_of p) batch) r → ⊥
  pub sends : SendsPortable (facts_of p) (batch_sites (facts_of p) batch)
  pub calls : CallsArePortable (facts_of p) (batch_sites (facts_of p) batch)
  pub marks : HasMarks p (batch_sites (facts_of p) batch)
  pub ground : Ground
  pub classes : ground.classes ≡ service.classes
  pub inputs : List (List ℕ)
  pub gas : ℕ
  pub parted : AdmittedAreParted
  pub placed : AdmittedArePlaced
  pub local : LocalCodeDoesTheSame
  pub turns : TurnsBeginKnown
  pub types : TypesAreKnown
  pub sent : SentIsRemote
  pub faults : (s : ExprSite) (place : Place) → IsSent p s place → (l : Local) → FitsPlace (of_program p) place l → (outside : Outside) → HoldsTable service outside
      → EachFault (IsRemote p) (handle (in_batch p service) (evaluates (bodies_of p.classes gas) s.expr l) outside).0

module _ (c : Scene) where
  abbrev pub d : Declarations
  d = of_program c.p

  abbrev pub is : List Interface
  is = c.p.interfaces

  abbrev pub f : Facts
  f = facts_of c.p

  abbrev pub ss : List StmtSite
  ss = batch_sites f c.batch

  abbrev pub x : Context
  x = record { declared = d; this = c.this; remote = c.remote }

  abbrev pub place : typed.Scope → Place
  place ws = record { this = c.this; remote = c.remote; scope = ws }

  abbrev pub h : Handler Outside
  h = in_batch c.p c.service

  abbrev pub code : Bodies
  code = bodies_of c.p.classes c.gas

  abbrev pub Holds : Outside → Type 0
  Holds s = HoldsTable c.service s

  abbrev pub written : List (List ℕ)
  written = assigned_in c.batch.block

  pub admitted : IsAdmittedBatch f ss
  admitted = record { none = c.none; calls = c.calls }

  pub keeps : OfBatchCode d (type_at c.p) (λ A P run. EndsHandled Holds h A P run)
  keeps = batches_keep_handled (HoldsTable c.service) d c.fits.declared (type_at c.p) h c.fits.handler

  -- what is known at a place: of a walk over the source, of the names where code stands, and of what is assigned
  pub record At (refs : Refs) (m : ℕ) (vs : Scope) (ws : typed.Scope) (vars : Vars) (l : Local) : Type 0 where
    pub walked : List (List ℕ × Value)
    pub joined : Joined is c.ground c.inputs refs m vs ws walked vars
    pub linked : Linked c.ground refs vars l.names
    pub fits : LocalFits x ws l
    pub held : Held written (InScript refs) ws
    pub known : AreKnownScopes d vs ws

  -- a statement at a script place
  pub record Stands (around : List Around) (vs : Scope) (ws after : typed.Scope) (s : Stmt) : Type 0 where
    pub script : is_script_place f around ≡ true
    pub typed : check_stmt x ws s ≡ Ok after
    pub formed : IsFormedStmt s
    pub noted : IsNotedStmt (type_at c.p) x ws s
    pub admitted : IsAdmittedStmt x ws s
    pub within : Within (sites f around vs s) ss
    pub used : Within (used f vs s) c.inputs
    pub writes : Written written (assigned_by s)

  pub record AllStand (around : List Around) (vs : Scope) (ws after : typed.Scope) (block : Stmts) : Type 0 where
    pub script : is_script_place f around ≡ true
    pub typed : check_stmts x ws block ≡ Ok after
    pub formed : AreFormedStmts block
    pub noted : AreNotedStmts (type_at c.p) x ws block
    pub admitted : AreAdmittedStmts x ws block
    pub within : Within (block_sites f around vs block) ss
    pub used : Within (used_in f vs block) c.inputs
    pub writes : Written written (assigned_in block)

  linked_on : (refs : Refs) (vars : Vars) (l l1 : Local) → Linked c.ground refs vars l.names → Onto (InScript refs) l l1 → Linked c.ground refs vars l1.names
  linked_on refs vars l l1 linked over y plain r e =
      let old = linked y plain r e in
      record { value = old.value; reads = old.reads; holds = over_look (InScript refs) l.names l1.names y old.value over (subst IsFound (sym e) tt) old.holds }

  -- another local state there
  pub at_moved : (refs : Refs) (m : ℕ) (vs : Scope) (ws : typed.Scope) (vars : Vars) (l l1 : Local) → At refs m vs ws vars l → LocalFits x ws l1 → Onto (InScript refs) l l1 → At refs m vs ws vars l1
  at_moved refs m vs ws vars l l1 at fits over = record { walked = at.walked; joined = at.joined; linked = linked_on refs vars l l1 at.linked over; fits = fits; held = at.held; known = at.known }

  module _ (around : List Around) (vs : Scope) (ws after : typed.Scope) (s : Stmt) (stands : Stands around vs ws after s) (refs : Refs) (m : ℕ) (vars : Vars) (l : Local) (at : At refs m vs ws vars l) where
    -- how a statement ends
    pub stmt_ends : (o : Outside) → Holds o → Ends x ws after Nothing (classes_of l.heap) (handle h (performs code c.gas s l) o).0 × Holds (handle h (performs code c.gas s l) o).1
    stmt_ends o holds = keeps.statements (place ws) s after c.gas l (stands.typed, stands.formed) (stands.noted, stands.admitted) at.fits o holds

    pub stmt_leaves : (o : Outside) → Onto (InScript refs) l (local_of (handle h (performs code c.gas s l) o).0)
    stmt_leaves o = (stmt_from c.p c.service code (InScript refs) s c.gas (stmt_free written (InScript refs) x s ws after stands.typed at.held stands.writes) l).left o

    pub known_after : AreKnownScopes d (scope_after f [] vs s) after
    known_after =
        let known = c.parted c.p c.fits.declared ss admitted (place ws) c.near around vs s after
        (record { script = stands.script; typed = stands.typed; noted = stands.noted; within = stands.within; kinds = at.known.kinds; carries = at.known.carries }) in
        subst (λ i. AreKnownScopes d i after) (script_scope f around vs s stands.script) (record { kinds = known.kinds; carries = known.carries })

    plain_role : (e : Expr) → portable f vs e ≡ false → (name : List ℕ) (place : ℕ) → with_variable vs name Role.Plain place ≡ with_variable vs name (cond (portable f vs e) Role.Carried Role.Plain) place
    plain_role e none name place = ap (λ t. with_variable vs name (cond t Role.Carried Role.Plain) place) (sym none)

    joined_after : StaysWhole f vs s → Joined is c.ground c.inputs refs m (scope_after f [] vs s) after at.walked vars
    joined_after = by s refl stands.typed
      where
        Done : Stmt → Type 0
        Done t = Joined is c.ground c.inputs refs m (scope_after f [] vs t) after at.walked vars

        by : (t : Stmt) → s ≡ t → check_stmt x ws t ≡ Ok after → StaysWhole f vs t → Done t
        by (Val place name e) same typed' whole =
            let q = val_parts x ws place name e after typed' in
            subst (λ i. Joined is c.ground c.inputs refs m (with_variable vs name (cond (portable f vs e) Role.Carried Role.Plain) place) i at.walked vars) q.same
            (subst (λ i. Joined is c.ground c.inputs refs m i (typed.with_variable ws name q.kind true) at.walked vars) (plain_role e whole name place)
            (joined_plain is c.ground c.inputs refs m vs ws at.walked vars name place q.kind true at.joined q.no_unit))
        by (Var place name e) same typed' whole =
            let q = var_parts x ws place name e after typed' in
            subst (λ i. Joined is c.ground c.inputs refs m (with_variable vs name Role.Plain place) i at.walked vars) q.same
            (joined_plain is c.ground c.inputs refs m vs ws at.walked vars name place q.kind false at.joined q.no_unit)
        by (Assign place a b) same typed' whole = subst (λ i. Joined is c.ground c.inputs refs m vs i at.walked vars) (assign_parts x ws place a b after typed').same at.joined
        by (Run place e) same typed' whole = subst (λ i. Joined is c.ground c.inputs refs m vs i at.walked vars) (run_parts x ws place e after typed').same at.joined
        by (Print place e) same typed' whole = subst (λ i. Joined is c.ground c.inputs refs m vs i at.walked vars) (print_parts x ws place e after typed').same at.joined
        by (Throw place e) same typed' whole = subst (λ i. Joined is c.ground c.inputs refs m vs i at.walked vars) (throw_parts x ws place e after typed').same at.joined
        by (If place e a b) same typed' whole = subst (λ i. Joined is c.ground c.inputs refs m vs i at.walked vars) (if_parts x ws place e a b after typed').same at.joined
        by (While place e a) same typed' whole = subst (λ i. Joined is c.ground c.inputs refs m vs i at.walked vars) (while_parts x ws place e a after typed').same at.joined
        by (For place name e a) same typed' whole = subst (λ i. Joined is c.ground c.inputs refs m vs i at.walked vars) (for_parts x ws place name e a after typed').same at.joined
        by (Try place a name b) same typed' whole = subst (λ i. Joined is c.ground c.inputs refs m vs i at.walked vars) (try_parts x ws place a name b after typed').same at.joined
        by (Batch place interface root a) same typed' whole = subst (λ i. Joined is c.ground c.inputs refs m vs i at.walked vars) (batch_parts x ws place interface root a after typed').same at.joined

    -- what is known behind a statement that stays with the client
    pub at_after : StaysWhole f vs s → (l1 : Local) → LocalFits x after l1 → Onto (InScript refs) l l1 → At refs m (scope_after f [] vs s) after vars l1
    at_after whole l1 fits over = record {
      walked = at.walked;
      joined = joined_after whole;
      linked = linked_on refs vars l l1 at.linked over;
      fits = fits;
      held = held_after written (InScript refs) x s ws after stands.typed at.held;
      known = known_after;
    }
