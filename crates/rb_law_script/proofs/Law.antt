-- The script of a batch performs just the batch's whole remote part.
use Rattle.std.proofs.Common.{◌≡◌, refl, sym, ap, ◌∙◌, subst, ℕ, List, [], Bool as Truth, true, false, Some, Ok}
use Rattle.std.specs.Str.{bytes_eq}
use Rattle.std.specs.List.{Contains}
use Rattle.rb_trees.specs.Named.{lookup}
use Rattle.rb_trees.specs.declared.values.Value.{Value}
use Rattle.rb_trees.specs.declared.values.Value.TheVariants as value
use Rattle.rb_trees.specs.declared.values.Value.TheViews.{out-Value}
use Rattle.rb_trees.specs.declared.services.Object.{Object}
use Rattle.rb_trees.specs.mirror.Code.{Batch}
use Rattle.rb_trees.specs.mirror.Declarations.{Program, Interface}
use Rattle.rb_trees.specs.mirror.Services.{Service}
use Rattle.rb_meaning_types.specs.Kinds as kind
use Rattle.rb_meaning_types.specs.Names.{interface_named}
use Rattle.rb_meaning_types.specs.Declared.{Declarations, Context, of_program}
use Rattle.rb_meaning_types.specs.Scopes as typed
use Rattle.rb_meaning_types.specs.Statements.{check_stmt}
use Rattle.rb_meaning_types.specs.Notes.{scope_or, type_at}
use Rattle.rb_meaning_types.specs.Lawful.{IsLawful}
use Rattle.rb_meaning_types.specs.Fits.{classes_of, IsRemoteValue}
use Rattle.rb_meaning_code.specs.State.{Local, this_name, bound}
use Rattle.rb_meaning_code.specs.Remote.{Server, batch_fuel}
use Rattle.rb_meaning_code.specs.ScriptRun as run
use Rattle.rb_meaning_code.specs.ScriptRun.{Ground}
use Rattle.rb_meaning_flow.specs.declared.scopes.Role.{Role}
use Rattle.rb_meaning_flow.specs.Facts.{Facts, facts_of}
use Rattle.rb_meaning_flow.specs.Scopes as flow
use Rattle.rb_meaning_flow.specs.Scopes.{Scope, assigned_in, opened}
use Rattle.rb_meaning_flow.specs.Outermost.{Outermost, batch_sites, program_batches}
use Rattle.rb_meaning.specs.RemotePart as part
use Rattle.rb_meaning.specs.Unsplit.{batch_at}
use Rattle.rb_meaning.specs.Links.{IsTyped}
use Rattle.rb_meaning_split.specs.Inputs.{used_in, first_uses}
use Rattle.rb_meaning_split.specs.Division.{first_refs, division}
use Rattle.rb_meaning_split.specs.Client.{input_values}
use Rattle.rb_flow.specs.Program.{HasNoRefusal}
use Rattle.rb_flow.specs.Laws.{AdmittedSendPortable}
use Rattle.rb_flow.proofs.Among.{mapped_to}
use Rattle.rb_law_types.specs.Formed.{AreFormedStmts, AreFormed, LawfulStmtsAreFormed, LawfulClassesAreFormed}
use Rattle.rb_law_types.specs.Noted.{IsNotedStmt, AreNotedStmts}
use Rattle.rb_law_types.specs.Ends.{Place, context, LocalFits, FitsPlace}
use Rattle.rb_law_types.specs.Asked.{Site}
use Rattle.rb_law_types.specs.Code.{AreTyped}
use Rattle.rb_law_types.proofs.Served.{remote_out}
use Rattle.rb_law_types.proofs.Stmts.{binds}
use Rattle.rb_law_types.proofs.Parts.{batch_parts}
use Rattle.rb_law_unsplit.specs.Noted.{LawfulAreNoted}
use Rattle.rb_law_unsplit.specs.Batches.{program_sites}
use Rattle.rb_law_unsplit.proofs.Agreed.{is_read_role, Agree, agree_added, agree_with}
use Rattle.rb_law_unsplit.proofs.Found.{batch_found}
use Rattle.rb_law_unsplit.proofs.Standing.{block_lawful}
use Rattle.rb_law_unsplit.proofs.Programs.{IsTypedProgram, program_typed, batches_in}
use Rattle.rb_law_unsplit.proofs.Carried.{Carry, carry_begins}
use Rattle.rb_law_unsplit.proofs.Walking.{Laws}
use Rattle.rb_law_unsplit.proofs.Whole.{remote_named}
use Rattle.rb_law_script.specs.Remote.{PerformsRemotePart, ScriptsPerformRemoteParts}
use Rattle.rb_law_script.proofs.Lookups.{same_bytes}
use Rattle.rb_law_script.proofs.Covered.{is_taken_role, IsTakenIn, block_taken}
use Rattle.rb_law_script.proofs.Inputs.{input_used, fresh_first, linked_first}
use Rattle.rb_law_script.proofs.Outer.{program_begins, covered_first, taken_outside, lists_first}
use Rattle.rb_law_script.proofs.Kept.{OpenScope, open_fixed}
use Rattle.rb_law_script.proofs.Sited.{program_sited}
use Rattle.rb_law_script.proofs.Carrying.{carry_free, carry_has}
use Rattle.rb_law_script.proofs.Joined.{Joined}
use Rattle.rb_law_script.proofs.Walk.{block_alike}

-- what a batch takes along is read by the walk
taken_read : (r : Role) → is_taken_role r ≡ true → is_read_role r ≡ true
taken_read Role.Constant h = refl
taken_read Role.ConstantList h = refl
taken_read Role.Root h = refl
taken_read Role.Row h = refl
taken_read Role.Carried h = refl
taken_read Role.Plain h = absurd (cc (h))

module _ (laws : Laws) (stmts_formed : LawfulStmtsAreFormed) (classes_formed : LawfulClassesAreFormed) (sends : AdmittedSendPortable) (notes : LawfulAreNoted)
    (p : Program) (lawful : IsLawful p) (t : IsTypedProgram p) (none : HasNoRefusal p) (service : Service) (table : List Object) (served : IsTyped service table) where
  abbrev d : Declarations
  d = of_program p

  abbrev f : Facts
  f = facts_of p

  abbrev is : List Interface
  is = p.interfaces

  pub declared : AreTyped d
  declared = record { declared = t.declared; bodies = t.bodies; formed = classes_formed p.classes lawful.classes; alone = λ e. absurd (cc (e)) }

  pub service_formed : AreFormed service.classes
  service_formed = classes_formed service.classes served.lawful.each

  -- a batch, with the place where it stands
  module _ (o : Outermost) (among : Contains (program_batches f p) o) (at : ℕ) (interface : List ℕ) (place : Place) (agree : Agree is o.outer place.scope) (opens : OpenScope place.scope) (after : typed.Scope)
      (typed_here : check_stmt (context d place) place.scope (Batch at interface o.root o.block) ≡ Ok after) (noted : IsNotedStmt (type_at p) (context d place) place.scope (Batch at interface o.root o.block)) (formed : AreFormedStmts o.block)
      (l : Local) (fits : FitsPlace d place l) where
    abbrev x : Context
    x = context d place

    -- the batch's scopes at its start
    abbrev pub begun : Scope
    begun = opened o.outer o.at o.root o.block

    abbrev pub scope : typed.Scope
    scope = typed.with_variable place.scope o.root (kind.Named interface) true

    -- the names that it uses, and those of its inputs
    abbrev pub names : List (List ℕ)
    names = used_in f begun o.block

    abbrev pub inputs : List (List ℕ)
    inputs = first_uses [] names

    abbrev pub ground_of : Ground
    ground_of = record { classes = service.classes; root = service.root; inputs = input_values inputs l.names }

    abbrev pub start : Local
    start = bound o.root (value.Remote service.root) l

    pub start_fits : LocalFits x scope start
    start_fits =
        let parts = batch_parts x place.scope at interface o.root o.block after typed_here in
        binds x place.scope l o.root (kind.Named interface) true (value.Remote service.root) fits
        (remote_named (interface_named is interface) (classes_of l.heap) interface (out-Value (value.Remote service.root)) parts.declared_as (subst IsRemoteValue (sym (remote_out service.root)) tt))

    pub agreed : Agree is begun scope
    agreed =
        let parts = batch_parts x place.scope at interface o.root o.block after typed_here in
        agree_with is (assigned_in o.block) (flow.with_variable o.outer o.root Role.Root o.at) scope
        (agree_added is o.outer place.scope o.root Role.Root o.at (kind.Named interface) true agree (λ r. parts.declared_as, λ r. absurd (cc (r))))

    pub carry : Carry is begun scope start.names
    carry = carry_begins is (classes_of start.heap) place.this begun scope start.names agreed start_fits.holds.names_fit start_fits.count

    -- what the batch takes along has a value outside of it, and isn't the root
    outside : Carry is o.outer place.scope l.names
    outside = carry_begins is (classes_of l.heap) place.this o.outer place.scope l.names agree fits.holds.names_fit fits.count

    has : (y : List ℕ) → bytes_eq this_name y ≡ false → IsTakenIn o.outer y → (v : Value) × (lookup l.names y ≡ Some v)
    has y plain taken = carry_has is o.outer place.scope l.names y outside plain (taken_read (flow.role_of o.outer y) taken)

    apart : (y : List ℕ) → bytes_eq this_name y ≡ false → IsTakenIn o.outer y → bytes_eq o.root y ≡ false
    apart y plain taken = by (bytes_eq o.root y) refl
      where
        by : (t : Truth) → bytes_eq o.root y ≡ t → t ≡ false
        by false e = refl
        by true e =
            let parts = batch_parts x place.scope at interface o.root o.block after typed_here in
            let found = has y plain taken in
            absurd (cc (found.1, carry_free is o.outer place.scope l.names y outside plain (subst (λ z. typed.is_free place.scope z ≡ true) (same_bytes o.root y e) parts.free)))

    -- where the walk and the script begin
    pub joined_first : Joined is ground_of names (first_refs o.root inputs) 0 begun scope start.names []
    joined_first =
        let parts = batch_parts x place.scope at interface o.root o.block after typed_here in
        record {
          agree = agreed;
          opens = open_fixed place.scope o.root (kind.Named interface) opens;
          carry = carry;
          linked = linked_first ground_of o.root inputs l.names refl (λ plain. carry_free is o.outer place.scope l.names o.root outside plain parts.free)
              (λ y plain i. has y plain (taken_outside (assigned_in o.block) o.outer o.root y o.at (block_taken f begun o.block y (input_used [] names y i))));
          fresh = fresh_first o.root inputs;
          covered = covered_first (assigned_in o.block) names o.outer o.root o.at (program_begins f p o among);
          lists = lists_first (assigned_in o.block) names o.outer o.root o.at apart;
        }

    pub performs : PerformsRemotePart p service o l table
    unfolding division
    performs =
        let parts = batch_parts x place.scope at interface o.root o.block after typed_here in
        let ss = batch_sites f o in
        let is_one = mapped_to (batch_sites f) (program_batches f p) o among in
        let server : Server = record { table = table; fuel = batch_fuel } in
        let block_noted : AreNotedStmts (type_at p) x scope o.block = subst (λ i. AreNotedStmts (type_at p) x i o.block) (ap (scope_or place.scope) parts.judged) noted in
        let alike = block_alike laws p service served.typed service_formed declared place.this place.remote ss (λ r e. none r (ss, is_one, e)) (sends p lawful none ss is_one) ground_of refl names
        [] refl begun scope parts.last o.block start.names server part.ended (first_refs o.root inputs) 0 0 [] run.ended parts.block_typed block_noted formed (λ y c. c) (λ y c. c) joined_first served.fits
        (λ ns1 s1 vars1 t1. record { fault = refl; server = refl; table = t1 }) in
        record { fault = alike.fault; server = alike.server }

  -- each batch that is found by its position
  pub each_performs : (b : Site) → Contains (program_sites p) b → (o : Outermost) → batch_at p b.at ≡ Some o → (l : Local) → FitsPlace d b.place l → PerformsRemotePart p service o l table
  each_performs b among o found l fits =
      let known = batches_in p lawful t (notes p lawful) b among in
      let sited = program_sited p t b among in
      let q = known.begun in
      let same : q ≡ o = one_only q o (sym (batch_found p lawful q known.among) ∙ ap (batch_at p) known.at ∙ found) in
      let here : check_stmt (context d b.place) b.place.scope (Batch b.at b.interface q.root q.block) ≡ Ok sited.after =
      subst (λ r. check_stmt (context d b.place) b.place.scope (Batch b.at b.interface r q.block) ≡ Ok sited.after) (sym known.root)
      (subst (λ k. check_stmt (context d b.place) b.place.scope (Batch b.at b.interface b.root k) ≡ Ok sited.after) (sym known.block) sited.typed_here) in
      let noted : IsNotedStmt (type_at p) (context d b.place) b.place.scope (Batch b.at b.interface q.root q.block) =
      subst (λ r. IsNotedStmt (type_at p) (context d b.place) b.place.scope (Batch b.at b.interface r q.block)) (sym known.root)
      (subst (λ k. IsNotedStmt (type_at p) (context d b.place) b.place.scope (Batch b.at b.interface b.root k)) (sym known.block) known.noted) in
      let formed : AreFormedStmts q.block = subst AreFormedStmts (sym known.block) (stmts_formed b.block (block_lawful b.block known.lawful.2)) in
      subst (λ r. PerformsRemotePart p service r l table) same (performs q known.among b.at b.interface b.place known.agree sited.opens sited.after here noted formed l fits)
    where
      one_only : (a c : Outermost) → Some a ≡ Some c → a ≡ c
      one_only a c e = cc (e)

pub scripts_perform : Laws → LawfulStmtsAreFormed → LawfulClassesAreFormed → AdmittedSendPortable → LawfulAreNoted → ScriptsPerformRemoteParts
scripts_perform laws stmts_formed classes_formed sends notes p lawful typed_program none service table served b among o found l fits =
    each_performs laws stmts_formed classes_formed sends notes p lawful (program_typed p typed_program) none service table served b among o found l fits
