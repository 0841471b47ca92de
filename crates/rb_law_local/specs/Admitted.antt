-- A law of admitted batches: how remote expressions stand in the statements that stay with the client as a whole.
use Rattle.std.specs.Prelude.{◌≡◌, ◌⊎◌, ℕ, List, [], ◌∷◌, true, false, Ok}
use Rattle.std.specs.List.{Contains}
use Rattle.rb_trees.specs.declared.refusals.Refusal.{Refusal}
use Rattle.rb_trees.specs.mirror.Code.{Expr, Stmts, Stmt, Val, Run, If, For}
use Rattle.rb_trees.specs.mirror.Declarations.{Program, Interface}
use Rattle.rb_meaning_types.specs.Kinds.{Kind, Named, ListOf, RowsOf}
use Rattle.rb_meaning_types.specs.Declared.{Declarations, of_program, is_interface}
use Rattle.rb_meaning_types.specs.Scopes as typed
use Rattle.rb_meaning_types.specs.Expressions.{type_of}
use Rattle.rb_meaning_types.specs.Statements.{check_stmt}
use Rattle.rb_meaning_types.specs.Notes.{type_at}
use Rattle.rb_meaning_flow.specs.declared.scopes.Role.{Role}
use Rattle.rb_meaning_flow.specs.Facts.{Facts, facts_of}
use Rattle.rb_meaning_flow.specs.Scopes.{Scope, is_portable_role, with_variable, opened}
use Rattle.rb_meaning_flow.specs.Portable.{portable, branches_hold, has_far_turns}
use Rattle.rb_meaning_flow.specs.Marks.{is_portable_call}
use Rattle.rb_meaning_flow.specs.Sites.{Around, is_script_place, StmtSite, ExprSite, scope_after, sites, exprs_of}
use Rattle.rb_meaning_flow.specs.Flow.{is_call}
use Rattle.rb_meaning_flow.specs.Refusals.{IsRefusal}
use Rattle.rb_law_types.specs.Own.{IsOwnKind, IsFarKind, IsOwnScope}
use Rattle.rb_law_types.specs.Ends.{Place, context}
use Rattle.rb_law_types.specs.Noted.{IsNotedStmt}
use Rattle.rb_law_types.specs.Code.{AreTyped}
use Rattle.rb_law_local.specs.Shown.{is_far}
use Rattle.rb_law_local.specs.Parted.{PartedStmt}
use Rattle.rb_law_local.specs.Local.{IsNearThis}

-- a type of the own side, or of what comes from a remote object
abbrev pub IsKnownKind : List Interface → Kind → Type 0
IsKnownKind interfaces kind = IsOwnKind interfaces kind ⊎ IsFarKind interfaces kind

abbrev pub AreKnownKinds : List Interface → typed.Scope → Type 0
AreKnownKinds interfaces [] = Unit {0}
AreKnownKinds interfaces (v ∷ vs) = IsKnownKind interfaces v.kind × AreKnownKinds interfaces vs

-- Both scopes have the same names in order, and a variable of an object of the service or of rows is portable.
abbrev pub Carries : Declarations → Scope → typed.Scope → Type 0
Carries d [] [] = Unit {0}
Carries d [] (w ∷ ws) = ⊥
Carries d (v ∷ vs) [] = ⊥
Carries d (v ∷ vs) (w ∷ ws) = (v.name ≡ w.name) × (is_far d w.kind ≡ true → is_portable_role v.role ≡ true) × Carries d vs ws

-- each remote call of a batch is portable where it stands
abbrev pub CallsArePortable : Facts → List StmtSite → Type 0
CallsArePortable f ss = (s : ExprSite) → Contains (exprs_of ss) s → is_call f s.expr ≡ true → portable f s.stands.scope s.expr ≡ true

-- A batch without refusals, whose statements these are.
pub record IsAdmittedBatch (f : Facts) (ss : List StmtSite) : Type 0 where
  pub none : (r : Refusal) → IsRefusal f ss r → ⊥
  pub calls : CallsArePortable f ss

-- a statement that stays with the client as a whole: its parts aren't the script's
abbrev pub StaysWhole : Facts → Scope → Stmt → Type 0
StaysWhole f vs (Val at name e) = portable f vs e ≡ false
StaysWhole f vs (Run at e) = is_portable_call f vs e ≡ false
StaysWhole f vs (If at c a b) = branches_hold f a b ≡ false
StaysWhole f vs (For at name e a) = has_far_turns f vs e a ≡ false
StaysWhole f vs _ = Unit {0}

-- A statement at a script place of a batch, with what is known of the scopes there.
pub record StandsAt (p : Program) (ss : List StmtSite) (place : Place) (around : List Around) (vs : Scope) (s : Stmt) (after : typed.Scope) : Type 0 where
  pub script : is_script_place (facts_of p) around ≡ true
  pub typed : check_stmt (context (of_program p) place) place.scope s ≡ Ok after
  pub noted : IsNotedStmt (type_at p) (context (of_program p) place) place.scope s
  pub within : (t : StmtSite) → Contains (sites (facts_of p) around vs s) t → Contains ss t
  pub kinds : AreKnownKinds p.interfaces place.scope
  pub carries : Carries (of_program p) vs place.scope

-- Where it stays with the client, its remote expressions stand as they should; and the scopes after it are known as well.
pub record IsKnownStmt (p : Program) (place : Place) (around : List Around) (vs : Scope) (s : Stmt) (after : typed.Scope) : Type 0 where
  pub parted : StaysWhole (facts_of p) vs s → PartedStmt (facts_of p) vs (context (of_program p) place) place.scope s
  pub kinds : AreKnownKinds p.interfaces after
  pub carries : Carries (of_program p) (scope_after (facts_of p) around vs s) after

abbrev pub AdmittedAreParted : Type 0
AdmittedAreParted = (p : Program) → AreTyped (of_program p) → (ss : List StmtSite) → IsAdmittedBatch (facts_of p) ss → (place : Place) → IsNearThis p place.this
    → (around : List Around) (vs : Scope) (s : Stmt) (after : typed.Scope) → StandsAt p ss place around vs s after → IsKnownStmt p place around vs s after

-- the same names in order
abbrev pub AreNamed : Scope → typed.Scope → Type 0
AreNamed [] [] = Unit {0}
AreNamed [] (w ∷ ws) = ⊥
AreNamed (v ∷ vs) [] = ⊥
AreNamed (v ∷ vs) (w ∷ ws) = (v.name ≡ w.name) × AreNamed vs ws

-- what is known of scopes at a place
pub record AreKnownScopes (d : Declarations) (vs : Scope) (ws : typed.Scope) : Type 0 where
  pub kinds : AreKnownKinds d.interfaces ws
  pub carries : Carries d vs ws

-- It is known where a batch begins: outside of it all names are of the own side.
abbrev pub BatchesBeginKnown : Type 0
BatchesBeginKnown = (d : Declarations) (outer : Scope) (ws : typed.Scope) → AreNamed outer ws → IsOwnScope d.interfaces ws
    → (at : ℕ) (root interface : List ℕ) (block : Stmts) → is_interface d interface ≡ true
    → AreKnownScopes d (opened outer at root block) (typed.with_variable ws root (Named interface) true)

-- And it is known where a turn over rows begins, or over the items of a constant list.
abbrev pub TurnsBeginKnown : Type 0
TurnsBeginKnown = (d : Declarations) (vs : Scope) (ws : typed.Scope) → AreKnownScopes d vs ws → (at : ℕ) (name : List ℕ) (list item : Kind)
    → (list ≡ ListOf item) ⊎ (list ≡ RowsOf item) → IsKnownKind d.interfaces list
    → AreKnownScopes d (with_variable vs name Role.Row at) (typed.with_variable ws name item true)

-- What loops go over is of a known type.
abbrev pub TypesAreKnown : Type 0
TypesAreKnown = (p : Program) → AreTyped (of_program p) → (place : Place) → IsNearThis p place.this → AreKnownKinds p.interfaces place.scope
    → (e : Expr) (k : Kind) → type_of (context (of_program p) place) place.scope e ≡ Ok k → IsKnownKind p.interfaces k
