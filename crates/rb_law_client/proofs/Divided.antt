-- A batch that is divided means what it means where it stands.
use Rattle.std.proofs.Common.{◌≡◌, ◌⊎◌, inl, inr, refl, sym, ap, ◌∙◌, subst, ℕ, suc, List, [], ◌∷◌, length, Bool as Truth, true, false, not, cond, ◌&&◌, ◌||◌, Option, Some, None, is_none, Ok}
use Rattle.std.specs.List.{Contains}
use Rattle.std.specs.Str.{bytes_eq}
use Rattle.rb_trees.specs.Named.{lookup}
use Rattle.rb_trees.specs.declared.values.Value.TheVariants as value
use Rattle.rb_trees.specs.declared.services.Object.{Object}
use Rattle.rb_trees.specs.declared.refusals.Refusal.{Refusal}
use Rattle.rb_trees.specs.mirror.Code.{Batch}
use Rattle.rb_trees.specs.mirror.Declarations.{Program, Interface}
use Rattle.rb_trees.specs.mirror.Services.{Service}
use Rattle.rb_meaning_types.specs.Kinds as kind
use Rattle.rb_meaning_types.specs.Names.{is_new}
use Rattle.rb_meaning_types.specs.Declared.{Declarations, Context, of_program}
use Rattle.rb_meaning_types.specs.Scopes as typed
use Rattle.rb_meaning_types.specs.Statements.{check_stmt}
use Rattle.rb_meaning_types.specs.Notes.{scope_or, type_at}
use Rattle.rb_meaning_types.specs.Lawful.{IsLawful}
use Rattle.rb_meaning_types.specs.Programs.{check_program}
use Rattle.rb_meaning_types.specs.Fits.{frame_scope}
use Rattle.rb_meaning_code.specs.State.{Names, Local, bound, closed}
use Rattle.rb_meaning_code.specs.Dialogue.{Outcome, Gave, Faulted, handle}
use Rattle.rb_meaning_code.specs.Statements.{performs_all}
use Rattle.rb_meaning_code.specs.Bodies.{bodies_of}
use Rattle.rb_meaning_code.specs.ScriptRun as run
use Rattle.rb_meaning_code.specs.ScriptRun.{Ground, Ran, run_steps}
use Rattle.rb_meaning_flow.specs.Facts.{Facts, facts_of}
use Rattle.rb_meaning_flow.specs.declared.scopes.Role.{Role}
use Rattle.rb_meaning_flow.specs.Scopes as flow
use Rattle.rb_meaning_flow.specs.Scopes.{Scope, variable_named, role_in, role_of, assigned_in, variable_with, scope_with, opened}
use Rattle.rb_meaning_flow.specs.Refusals.{IsRefusal}
use Rattle.rb_meaning_flow.specs.Outermost.{Outermost, batch_sites, program_batches}
use Rattle.rb_meaning.specs.State.{Outside}
use Rattle.rb_meaning.specs.Unsplit.{in_batch, with_side, begun, batch_at, settles, whole_table}
use Rattle.rb_meaning.specs.Links.{IsTyped}
use Rattle.rb_meaning_split.specs.Refs.{Root, Input}
use Rattle.rb_meaning_split.specs.Inputs.{used_in, first_uses}
use Rattle.rb_meaning_split.specs.Division.{numbered, first_refs, division}
use Rattle.rb_meaning_split.specs.Steps.{block_steps}
use Rattle.rb_meaning_split.specs.Parts as parts
use Rattle.rb_meaning_split.specs.Replay as replay
use Rattle.rb_meaning_split.specs.Replay.{Replayed}
use Rattle.rb_meaning_split.specs.Client.{input_values, left}
use Rattle.rb_flow.specs.Program.{HasNoRefusal}
use Rattle.rb_flow.specs.Laws.{SendsPortable}
use Rattle.rb_flow.proofs.Among.{mapped_to}
use Rattle.rb_flow.proofs.Members.{first_contained, more_contained}
use Rattle.rb_law_types.specs.Own.{IsOwnScope}
use Rattle.rb_law_types.specs.Formed.{AreFormedStmts}
use Rattle.rb_law_types.specs.Noted.{IsNotedStmt, AreNotedStmts}
use Rattle.rb_law_types.specs.Ends.{Place, context, LocalFits, FitsPlace}
use Rattle.rb_law_types.proofs.Parts.{Begins, batch_parts}
use Rattle.rb_law_unsplit.proofs.Admission.{block_admitted}
use Rattle.rb_law_unsplit.proofs.Agreed.{Agree}
use Rattle.rb_law_unsplit.proofs.Found.{batch_found}
use Rattle.rb_law_unsplit.proofs.Handling.{batch_handler_fits}
use Rattle.rb_law_unsplit.proofs.Programs.{IsTypedProgram, program_typed, batches_in}
use Rattle.rb_law_unsplit.proofs.Standing.{block_lawful}
use Rattle.rb_law_unsplit.proofs.Walking.{Laws}
use Rattle.rb_law_script.specs.Remote.{PerformsRemotePart}
use Rattle.rb_law_script.proofs.Covered.{is_taken_role, block_taken}
use Rattle.rb_law_script.proofs.Inputs.{input_used}
use Rattle.rb_law_script.proofs.Kept.{OpenScope}
use Rattle.rb_law_script.proofs.Law.{declared, joined_first, start_fits}
use Rattle.rb_law_script.proofs.Linked.{IsFound}
use Rattle.rb_law_script.proofs.Lookups.{same_bytes, bytes_same, first_or, lookup_more, first_new}
use Rattle.rb_law_script.proofs.Sited.{program_sited}
use Rattle.rb_law_local.specs.Shown.{is_far, shown, at_client, named}
use Rattle.rb_law_local.specs.Admitted.{AreNamed}
use Rattle.rb_law_local.proofs.Names.{Extends}
use Rattle.rb_law_local.proofs.Closing.{extends_with}
use Rattle.rb_law_local.proofs.Origins.{own_near}
use Rattle.rb_law_local.proofs.Statements.{stmts_extends}
use Rattle.rb_law_client.specs.Below.{LawsBelow}
use Rattle.rb_law_client.specs.Dividing.{KeepsMeaning, DividingKeepsMeaning}
use Rattle.rb_law_client.proofs.Written.{Fixed, Held, InScript, all_written}
use Rattle.rb_law_client.proofs.Scene.{Scene, At, AllStand}
use Rattle.rb_law_client.proofs.Goes.{at_node}
use Rattle.rb_law_client.proofs.Worth.{seen_far}
use Rattle.rb_law_client.proofs.Blocks.{BlockGoes, close_fits, close_client, close_done}
use Rattle.rb_law_client.proofs.Joining.{block_goes}
use Rattle.rb_law_client.proofs.Owned.{program_owned}
use Rattle.rb_law_client.proofs.Standing.{placed_classes, batch_marks, calls_portable}

-- ---- where all names are of the own side, a client has them all

shown_all : (d : Declarations) (vs : typed.Scope) (ns : Names) → IsOwnScope d.interfaces vs → length vs ≡ length ns → shown d vs ns ≡ ns
shown_all d [] [] own same = refl
shown_all d [] (n ∷ ns) own same = absurd (cc (same))
shown_all d (v ∷ vs) [] own same = absurd (cc (same))
shown_all d (v ∷ vs) (n ∷ ns) own same = ap (λ t. cond t (shown d vs ns) (n ∷ shown d vs ns)) (own_near d v.kind own.0) ∙ ap (λ q. n ∷ q) (shown_all d vs ns own.1 (cc (same)))

own_client : (x : Context) (ws : typed.Scope) (l : Local) → IsOwnScope x.declared.interfaces (frame_scope x.this ws) → length (frame_scope x.this ws) ≡ length l.names → at_client x ws l ≡ l
own_client x ws l own same = ap (λ q. named q l) (shown_all x.declared (frame_scope x.this ws) l.names own same)

own_scope : (interfaces : List Interface) (this : Option (List ℕ)) (ws : typed.Scope) → IsOwnScope interfaces (frame_scope this ws) → IsOwnScope interfaces ws
own_scope interfaces None ws h = h
own_scope interfaces (Some class) ws h = h.1

own_this : (d : Declarations) (this : Option (List ℕ)) (ws : typed.Scope) → IsOwnScope d.interfaces (frame_scope this ws) → (class : List ℕ) → this ≡ Some class → is_far d (kind.Named class) ≡ false
own_this d None ws h class e = absurd (cc (e))
own_this d (Some other) ws h class e = let same : other ≡ class = cc (e) in subst (λ q. is_far d (kind.Named q) ≡ false) same (own_near d (kind.Named other) h.0)

agree_named : (interfaces : List Interface) (vs : Scope) (ws : typed.Scope) → Agree interfaces vs ws → AreNamed vs ws
agree_named interfaces [] [] h = tt
agree_named interfaces [] (w ∷ ws) h = absurd h
agree_named interfaces (v ∷ vs) [] h = absurd h
agree_named interfaces (v ∷ vs) (w ∷ ws) h = (h.0, agree_named interfaces vs ws h.2)

-- ---- the names with which a script begins

numbered_among : (n : ℕ) (xs : List (List ℕ)) (y : List ℕ) → IsFound (lookup (numbered n xs) y) → Contains xs y
numbered_among n [] y h = absurd h
numbered_among n (x ∷ xs) y h = by (bytes_eq x y) refl (subst IsFound (lookup_more x (Input n) (numbered (suc n) xs) y) h) (λ k. numbered_among (suc n) xs y k)
  where
    by : (t : Truth) → bytes_eq x y ≡ t → IsFound (first_or t (Input n) (lookup (numbered (suc n) xs) y)) → (IsFound (lookup (numbered (suc n) xs) y) → Contains xs y) → Contains (x ∷ xs) y
    by true e k more = subst (Contains (x ∷ xs)) (same_bytes x y e) (first_contained x xs)
    by false e k more = more_contained x xs y (more k)

-- a constant variable or list isn't written
taken_unwritten : (written : List (List ℕ)) (vs : Scope) (y : List ℕ) → is_taken_role (role_of (scope_with written vs) y) ≡ true → is_new y written ≡ true
taken_unwritten written [] y h = absurd (cc (h))
taken_unwritten written (v ∷ vs) y h = by (bytes_eq v.name y) refl h (taken_unwritten written vs y)
  where
    unwritten : (t u : Truth) → is_new v.name written ≡ u → is_taken_role v.role ≡ t → is_taken_role (cond (t && not u) Role.Plain v.role) ≡ true → u ≡ true
    unwritten true true e e1 k = refl
    unwritten true false e e1 k = absurd (cc (k))
    unwritten false true e e1 k = refl
    unwritten false false e e1 k = absurd (cc (e1, k))

    by : (t : Truth) → bytes_eq v.name y ≡ t → is_taken_role (role_in (cond t (Some (variable_with written v)) (variable_named (scope_with written vs) y))) ≡ true
        → (is_taken_role (role_of (scope_with written vs) y) ≡ true → is_new y written ≡ true) → is_new y written ≡ true
    by true e k more = subst (λ q. is_new q written ≡ true) (same_bytes v.name y e) (unwritten (is_taken_role v.role) (is_new v.name written) refl refl k)
    by false e k more = more k

free_none : (o : Option typed.Variable) → is_none o ≡ true → o ≡ None
free_none None h = refl
free_none (Some v) h = absurd (cc (h))

held_first : (f : Facts) (o : Outermost) (ws : typed.Scope) (k : kind.Kind) → typed.is_free ws o.root ≡ true
    → Held (assigned_in o.block) (InScript (first_refs o.root (first_uses [] (used_in f (opened o.outer o.at o.root o.block) o.block)))) (typed.with_variable ws o.root k true)
held_first f o ws k free y found = by (bytes_eq o.root y) refl (subst IsFound (lookup_more o.root Root (numbered 0 inputs) y) found)
  where
    names : List (List ℕ)
    names = used_in f (opened o.outer o.at o.root o.block) o.block

    inputs : List (List ℕ)
    inputs = first_uses [] names

    v : typed.Variable
    v = record { name = o.root; kind = k; fixed = true }

    here : typed.variable_named (typed.with_variable ws o.root k true) o.root ≡ Some v
    here = first_new (λ u. u.name) ws v o.root (free_none (typed.variable_named ws o.root) free) ∙ ap (λ t. cond t (Some v) None) (bytes_same o.root o.root refl)

    by : (t : Truth) → bytes_eq o.root y ≡ t → IsFound (first_or t Root (lookup (numbered 0 inputs) y)) → Fixed (typed.with_variable ws o.root k true) y ⊎ (is_new y (assigned_in o.block) ≡ true)
    by true e h = inl (record { variable = v; found = subst (λ q. typed.variable_named (typed.with_variable ws o.root k true) q ≡ Some v) (same_bytes o.root y e) here; fixed = refl })
    by false e h = inr (taken_unwritten (assigned_in o.block) (flow.with_variable o.outer o.root Role.Root o.at) y (block_taken f (opened o.outer o.at o.root o.block) o.block y (input_used [] names y (numbered_among 0 inputs y h))))

-- those of the laws that a walk through code stands on
abbrev pub walking : LawsBelow → Laws
walking below = record {
  one = below.one;
  two = below.two;
  left = below.left;
  calls = below.calls;
  sent = below.bounded;
  given = below.given;
}

module _ (below : LawsBelow) (p : Program) (lawful : IsLawful p) (checked : check_program p ≡ Ok tt) (none : HasNoRefusal p) (service : Service) (s : Outside) (served : IsTyped service s.server.table) where
  abbrev d : Declarations
  d = of_program p

  abbrev f : Facts
  f = facts_of p

  abbrev is : List Interface
  is = p.interfaces

  abbrev table : List Object
  table = s.server.table

  t : IsTypedProgram p
  t = program_typed p checked

  -- a batch, with the place where it stands
  module _ (o : Outermost) (among : Contains (program_batches f p) o) (interface : List ℕ) (place : Place) (agree : Agree is o.outer place.scope) (opens : OpenScope place.scope)
      (typed_here : check_stmt (context d place) place.scope (Batch o.at interface o.root o.block) ≡ Ok place.scope) (noted : IsNotedStmt (type_at p) (context d place) place.scope (Batch o.at interface o.root o.block)) (formed : AreFormedStmts o.block)
      (own : IsOwnScope is (frame_scope place.this place.scope)) (l : Local) (fits : FitsPlace d place l) (remote_part : PerformsRemotePart p service o l table) where
    abbrev x : Context
    x = context d place

    abbrev first : Scope
    first = opened o.outer o.at o.root o.block

    abbrev scope : typed.Scope
    scope = typed.with_variable place.scope o.root (kind.Named interface) true

    abbrev names : List (List ℕ)
    names = used_in f first o.block

    abbrev inputs : List (List ℕ)
    inputs = first_uses [] names

    abbrev start : Local
    start = bound o.root (value.Remote service.root) l

    no_refusal : (r : Refusal) → IsRefusal f (batch_sites f o) r → ⊥
    no_refusal r h = none r (batch_sites f o, mapped_to (batch_sites f) (program_batches f p) o among, h)

    sends : SendsPortable f (batch_sites f o)
    sends = below.sends p lawful none (batch_sites f o) (mapped_to (batch_sites f) (program_batches f p) o among)

    abbrev scene : Scene
    scene = record {
      laws = walking below;
      p = p;
      service = service;
      service_typed = served.typed;
      service_formed = below.classes_formed service.classes served.lawful.each;
      fits = record {
        declared = declared (walking below) below.stmts_formed below.classes_formed below.sends below.notes p lawful t none service table served;
        placed = placed_classes p below.elsewhere below.loops lawful;
        handler = batch_handler_fits below.calls p service served.typed (below.classes_formed service.classes served.lawful.each);
      };
      this = place.this;
      remote = place.remote;
      near = own_this d place.this place.scope own;
      batch = o;
      among = among;
      none = no_refusal;
      sends = sends;
      calls = calls_portable p (batch_sites f o) sends;
      marks = batch_marks p below.marks below.elsewhere below.loops lawful o among;
      ground = record { classes = service.classes; root = service.root; inputs = input_values inputs l.names };
      classes = refl;
      inputs = names;
      gas = l.fuel;
      parted = below.parted;
      placed = below.placed;
      local = below.local;
      turns = below.turns;
      types = below.types;
      sent = below.sent;
      faults = λ site at sent l1 fits1 outside holds. below.faults p lawful checked service served.typed (below.classes_formed service.classes served.lawful.each) site at sent l1 fits1 outside holds l.fuel;
    }

    abbrev begins : Begins x place.scope o.at interface o.root o.block place.scope
    begins = batch_parts x place.scope o.at interface o.root o.block place.scope typed_here

    block_noted : AreNotedStmts (type_at p) x scope o.block
    block_noted = subst (λ i. AreNotedStmts (type_at p) x i o.block) (ap (scope_or place.scope) begins.judged) noted

    at_first : At scene (first_refs o.root inputs) 0 first scope [] start
    at_first =
        let joined = joined_first (walking below) below.stmts_formed below.classes_formed below.sends below.notes p lawful t none service table served o among o.at interface place agree opens place.scope typed_here noted formed l fits in
        record {
          walked = start.names;
          joined = joined;
          linked = joined.linked;
          fits = start_fits (walking below) below.stmts_formed below.classes_formed below.sends below.notes p lawful t none service table served o among o.at interface place agree opens place.scope typed_here noted formed l fits;
          held = held_first f o place.scope (kind.Named interface) begins.free;
          known = below.batches d o.outer place.scope (agree_named is o.outer place.scope agree) (own_scope is place.this place.scope own) o.at o.root interface o.block begins.declared_as;
        }

    all_stand : AllStand scene [] first scope begins.last o.block
    all_stand = record {
      script = refl;
      typed = begins.block_typed;
      formed = formed;
      noted = block_noted;
      admitted = block_admitted p x refl (batch_sites f o) no_refusal [] first scope begins.last o.block begins.block_typed block_noted (λ y c. c);
      within = λ y c. c;
      used = λ y c. c;
      writes = all_written (assigned_in o.block);
    }

    -- the client begins without the root
    client_first : at_client x scope start ≡ l
    client_first = seen_far x place.scope l o.root (kind.Named interface) true (value.Remote service.root) fits.count (ap (λ q. q || false) begins.declared_as) ∙ own_client x place.scope l own fits.count

    abbrev whole : List Object
    whole = whole_table p service o start (begun s).server

    abbrev ran : Ran
    ran = run_steps scene.ground (block_steps p (first_refs o.root inputs) first 0 0 o.block) [] (begun s).server run.ended

    abbrev replayed : Local → Replayed
    replayed at_start = replay.replay_all p.classes l.fuel (parts.block_parts p (first_refs o.root inputs) first 0 0 o.block) at_start (at_node scene (begun s) ran) replay.ended

    into : Extends place.scope scope
    into = extends_with place.scope o.root (kind.Named interface) true

    -- back outside, a client has all names again
    back : (l1 client : Local) → LocalFits x place.scope (closed (length l.names) l1) → closed (length (at_client x place.scope l).names) client ≡ at_client x place.scope (closed (length l.names) l1) → closed (length l.names) client ≡ closed (length l.names) l1
    back l1 client fits1 e =
        ap (λ q. closed (length q.names) client) (sym (own_client x place.scope l own fits.count)) ∙ e ∙ own_client x place.scope (closed (length l.names) l1) own fits1.count

    record Same (w : Outcome (Unit {0}) × Outside) (rep : Replayed) : Type 0 where
      outcome : left (length l.names) rep.outcome ≡ (settles p (length l.names) whole w).0
      events : rep.events ≡ (settles p (length l.names) whole w).1.events
      table : ran.server.table ≡ (settles p (length l.names) whole w).1.server.table

    same_table : ran.server.table ≡ whole
    unfolding division
    same_table = ap (λ q. q.table) remote_part.server

    settled : (w : Outcome (Unit {0}) × Outside) (rep : Replayed) → BlockGoes scene scope begins.last w ran rep → Same w rep
    settled (Gave u l1, s1) rep g =
        let done = close_done scene place.scope scope into l fits begins.last (stmts_extends x o.block scope begins.last begins.block_typed) l1 g.fits in
        record {
          outcome = ap (left (length l.names)) g.outcome ∙ ap (Gave tt) (back l1 (at_client x begins.last l1) (close_fits scene place.scope scope into l fits l1 done.0) done.1);
          events = g.events;
          table = ap (λ q. q.table) g.server;
        }
    settled (Faulted r l1, s1) rep g = record {
      outcome = ap (left (length l.names)) g.ends ∙ ap (Faulted (with_side p r)) (back l1 g.local (close_fits scene place.scope scope into l fits l1 g.state) (close_client scene place.scope scope into l fits l1 g.local g.state g.fronts));
      events = g.events;
      table = by (with_side p r).remote refl;
    }
      where
        by : (far : Truth) → (with_side p r).remote ≡ far → ran.server.table ≡ cond (with_side p r).remote s1.server.table whole
        by true e = ap (λ q. q.table) (g.far e).1 ∙ sym (ap (λ q. cond q s1.server.table whole) e)
        by false e = same_table ∙ sym (ap (λ q. cond q s1.server.table whole) e)

    pub keeps_meaning : KeepsMeaning p service o l s
    unfolding division
    keeps_meaning =
        let goes = block_goes scene o.block [] first scope begins.last all_stand (first_refs o.root inputs) 0 0 [] start (begun s) at_first served.fits in
        let same = settled (handle (in_batch p service) (performs_all (bodies_of p.classes l.fuel) l.fuel o.block start) (begun s)) (replayed (at_client x scope start)) goes in
        let at_l = subst (λ q. Same (handle (in_batch p service) (performs_all (bodies_of p.classes l.fuel) l.fuel o.block start) (begun s)) (replayed q)) client_first same in
        record { outcome = at_l.outcome; events = at_l.events; table = at_l.table }

-- each batch that code asks for
pub dividing_keeps : LawsBelow → DividingKeepsMeaning
dividing_keeps below p lawful checked none service s served at l site asked o found =
    let t = program_typed p checked in
    let d = of_program p in
    let known = batches_in p lawful t (below.notes p lawful) site asked.may in
    let q = known.begun in
    let same : q ≡ o = one_only q o (sym (batch_found p lawful q known.among) ∙ ap (batch_at p) (known.at ∙ asked.here) ∙ found) in
    let here : check_stmt (context d site.place) site.place.scope (Batch q.at site.interface q.root q.block) ≡ Ok site.place.scope =
    subst (λ i. check_stmt (context d site.place) site.place.scope (Batch i site.interface q.root q.block) ≡ Ok site.place.scope) (sym known.at)
    (subst (λ r. check_stmt (context d site.place) site.place.scope (Batch site.at site.interface r q.block) ≡ Ok site.place.scope) (sym known.root)
    (subst (λ k. check_stmt (context d site.place) site.place.scope (Batch site.at site.interface site.root k) ≡ Ok site.place.scope) (sym known.block) asked.typed)) in
    let noted : IsNotedStmt (type_at p) (context d site.place) site.place.scope (Batch q.at site.interface q.root q.block) =
    subst (λ i. IsNotedStmt (type_at p) (context d site.place) site.place.scope (Batch i site.interface q.root q.block)) (sym known.at)
    (subst (λ r. IsNotedStmt (type_at p) (context d site.place) site.place.scope (Batch site.at site.interface r q.block)) (sym known.root)
    (subst (λ k. IsNotedStmt (type_at p) (context d site.place) site.place.scope (Batch site.at site.interface site.root k)) (sym known.block) known.noted)) in
    let formed : AreFormedStmts q.block = subst AreFormedStmts (sym known.block) (below.stmts_formed site.block (block_lawful site.block known.lawful.2)) in
    let declared' = declared (walking below) below.stmts_formed below.classes_formed below.sends below.notes p lawful t none service s.server.table served in
    let remote : PerformsRemotePart p service q l s.server.table =
    below.scripts p lawful checked none service s.server.table served site asked.may q (ap (batch_at p) (sym known.at) ∙ batch_found p lawful q known.among) l asked.fits in
    subst (λ r. KeepsMeaning p service r l s) same
    (keeps_meaning below p lawful checked none service s served q known.among site.interface site.place known.agree (program_sited p t site asked.may).opens here noted formed (program_owned p declared' t site asked.may) l asked.fits remote)
  where
    one_only : (a c : Outermost) → Some a ≡ Some c → a ≡ c
    one_only a c e = cc (e)
