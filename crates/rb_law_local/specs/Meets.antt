-- When local code of a batch does the same where it stands and where it is replayed on the node of the script.
use Rattle.std.specs.Prelude.{◌≡◌, ◌⊎◌, ℕ, List, [], true, false, Some}
use Rattle.std.specs.List.{Contains}
use Rattle.rb_trees.specs.declared.outcomes.Raised.{Raised}
use Rattle.rb_trees.specs.mirror.Code.{Expr}
use Rattle.rb_trees.specs.mirror.Declarations.{Program}
use Rattle.rb_trees.specs.mirror.Services.{Service}
use Rattle.rb_trees.specs.mirror.Scripts.{NoSteps}
use Rattle.rb_meaning_types.specs.Kinds.{Kind}
use Rattle.rb_meaning_types.specs.Declared.{of_program}
use Rattle.rb_meaning_types.specs.Notes.{type_at}
use Rattle.rb_meaning_code.specs.State.{Local}
use Rattle.rb_meaning_code.specs.Dialogue.{Outcome, Gave, Faulted, Run, handle}
use Rattle.rb_meaning_code.specs.Expressions.{evaluates}
use Rattle.rb_meaning_code.specs.Bodies.{bodies_of}
use Rattle.rb_meaning_code.specs.Remote.{Server}
use Rattle.rb_meaning_code.specs.ScriptRun.{Ground, Vars, PlacedFault, Ran, run_steps}
use Rattle.rb_meaning.specs.State.{Event, Outside}
use Rattle.rb_meaning.specs.Unsplit.{in_batch}
use Rattle.rb_meaning_split.specs.Refs.{Refs}
use Rattle.rb_meaning_split.specs.Steps.{keeps}
use Rattle.rb_meaning_split.specs.Replay.{Seen, in_replay}
use Rattle.rb_law_types.specs.Ends.{Place, context, FitsPlace}
use Rattle.rb_law_types.specs.Code.{HasKind, IsBatchExpr}

-- the same fault, as one that is remote
abbrev pub far_side : Raised → Raised
far_side r = record r { remote = true }

-- a fault that code ended by, as it stops a script: at the same position
abbrev pub placed : Raised → PlacedFault
placed r = record { at = r.at; fault = r.fault }

-- what follows the steps of the script
abbrev pub Rest : Type 0
Rest = Vars → Server → Ran

-- of a program on a service, whose script runs with these variables; code has so much gas. A fact holds of what surrounds it,
-- and local code stands at these positions.
module _ (p : Program) (service : Service) (g : Ground) (refs : Refs) (vars : Vars) (gas : ℕ) (Holds : Outside → Type 0) (Here : ℕ → Type 0) where
  -- the script's run from a step on that keeps the first of what is wanted, and what follows
  abbrev pub keeping : ℕ → List Expr → Server → Rest → Ran
  keeping n es s go = run_steps g (keeps p refs n es NoSteps) vars s go

  -- A fault by which one of these expressions ended where it stands, as typed code of a batch from a local state that fits.
  pub record FromOne (es : List Expr) (r : Raised) : Type 0 where
    pub expr : Expr
    pub one : Contains es expr
    pub local : Local
    pub around : Outside
    pub place : Place
    pub kind : Kind
    pub typed : HasKind (of_program p) place expr kind
    pub noted : IsBatchExpr (type_at p) (context (of_program p) place) place.scope expr
    pub fits : FitsPlace (of_program p) place local
    pub holds : Holds around
    pub ended : (handle (in_batch p service) (evaluates (bodies_of p.classes gas) expr local) around).0 ≡ Faulted r local

  -- The client gave the same: its local state is related, and what follows sees the node and the server of what follows in
  -- the script.
  pub record GaveSame {A : Type 0} (related : Local → Type 0) (a : A) (s : Outside) (c : Outcome A × Seen) (ran rest : Ran) : Type 0 where
    pub local : Local
    pub relates : related local
    pub ends : c ≡ (Gave a local, record { events = s.events; node = rest.node })
    pub fault : ran.fault ≡ rest.fault
    pub server : ran.server ≡ rest.server

  -- The client ended by the same fault, as a remote one: it is one that a wanted expression raised, and it stopped the
  -- script at the same position.
  pub record FellFar {A : Type 0} (related : Local → Type 0) (es : List Expr) (r : Raised) (s : Outside) (c : Outcome A × Seen) (ran : Ran) : Type 0 where
    pub local : Local
    pub relates : related local
    pub from : FromOne es r
    pub ends : c.0 ≡ Faulted (far_side r) local
    pub events : c.1.events ≡ s.events
    pub fault : ran.fault ≡ Some (placed r)
    pub server : ran.server ≡ s.server

  -- Nothing was taken: what follows sees the node and the server as what follows in the script does.
  pub record Stays (s : Outside) (seen : Seen) (ran rest : Ran) : Type 0 where
    pub same : seen ≡ record { events = s.events; node = rest.node }
    pub fault : ran.fault ≡ rest.fault
    pub server : ran.server ≡ rest.server

  -- The client ended by the same local fault. The script may have gone on.
  pub record FellNear {A : Type 0} (related : Local → Type 0) (es : List Expr) (r : Raised) (s : Outside) (c : Outcome A × Seen) (ran rest : Ran) : Type 0 where
    pub local : Local
    pub relates : related local
    pub near : r.remote ≡ false
    pub here : Here r.at
    pub ends : c.0 ≡ Faulted r local
    pub events : c.1.events ≡ s.events
    pub stays : es ≡ [] → Stays s c.1 ran rest

  abbrev pub Met : {A : Type 0} → (A → Local → Local → Type 0) → (Local → Local → Type 0) → List Expr → Outcome A × Outside → Outcome A × Seen → Ran → Rest → Type 0
  Met Q F es (Gave a l, s) c ran go = GaveSame (Q a l) a s c ran (go vars s.server)
  Met Q F es (Faulted r l, s) c ran go = FellFar (F l) es r s c ran ⊎ FellNear (F l) es r s c ran (go vars s.server)

  -- A run as it stands and one of the client, which takes what the script's steps from a number on keep of these
  -- expressions: from the same events, and wherever a fact of the surroundings holds, they end alike.
  pub record Meets {A : Type 0} (Q : A → Local → Local → Type 0) (F : Local → Local → Type 0) (es : List Expr) (n : ℕ) (whole client : Run A) : Type 0 where
    pub met : (events : List Event) (server : Server) (go : Rest) → Holds (record { events = events; server = server })
        → Met Q F es (handle (in_batch p service) whole (record { events = events; server = server }))
        (handle in_replay client (record { events = events; node = (keeping n es server go).node })) (keeping n es server go) go
