-- Laws of faults: where they stand, and on which side.
use Rattle.std.specs.Prelude.{◌≡◌, ℕ, List, [], ◌++◌, cond, true, false, Ok}
use Rattle.std.specs.List.{Contains}
use Rattle.rb_trees.specs.declared.outcomes.Raised.{Raised}
use Rattle.rb_trees.specs.mirror.Declarations.{Program}
use Rattle.rb_trees.specs.mirror.Services.{Service}
use Rattle.rb_meaning_types.specs.Kinds.{Kind}
use Rattle.rb_meaning_types.specs.Declared.{of_program}
use Rattle.rb_meaning_types.specs.Expressions.{type_of}
use Rattle.rb_meaning_types.specs.Lawful.{IsLawful}
use Rattle.rb_meaning_types.specs.Notes.{type_at}
use Rattle.rb_meaning_types.specs.Programs.{check_program, check_service}
use Rattle.rb_meaning_types.specs.Fits.{TableFits}
use Rattle.rb_meaning_code.specs.State.{Local}
use Rattle.rb_meaning_code.specs.Dialogue.{Outcome, Gave, Faulted, handle}
use Rattle.rb_meaning_code.specs.Expressions.{evaluates}
use Rattle.rb_meaning_code.specs.Statements.{performs}
use Rattle.rb_meaning_code.specs.Bodies.{bodies_of}
use Rattle.rb_meaning_flow.specs.Facts.{Facts, facts_of}
use Rattle.rb_meaning_flow.specs.Portable.{portable}
use Rattle.rb_meaning_flow.specs.Marks.{is_remote_whole, is_remote_at}
use Rattle.rb_meaning_flow.specs.Programs.{is_carried_loop}
use Rattle.rb_meaning_flow.specs.Sites.{StmtSite, Over, ExprSite, site, own}
use Rattle.rb_meaning.specs.RemoteExprs.{remote_of}
use Rattle.rb_trees.specs.mirror.Code.{Expr}
use Rattle.rb_meaning_flow.specs.Outermost.{Outermost, batch_sites, program_batches}
use Rattle.rb_meaning.specs.State.{Outside}
use Rattle.rb_meaning.specs.Unsplit.{stands_remote, in_batch, with_side}
use Rattle.rb_meaning_split.specs.Cuts.{cut_stmt}
use Rattle.rb_meaning_split.specs.Replay.{Seen, in_replay}
use Rattle.rb_flow.specs.Program.{HasNoRefusal}
use Rattle.rb_marks.specs.Laws.{InBatches}
use Rattle.rb_law_types.specs.Formed.{IsFormedExpr, AreFormed}
use Rattle.rb_law_types.specs.Noted.{IsNotedExpr}
use Rattle.rb_law_types.specs.Ends.{Place, context, FitsPlace}

-- An expression of a batch that the service evaluates: it is Remote where it stands, it is portable, and it has a type there.
pub record IsSent (p : Program) (s : ExprSite) (place : Place) : Type 0 where
  pub stands : InBatches p s
  pub remote : is_remote_at (facts_of p) s ≡ true
  pub portable : portable (facts_of p) s.stands.scope s.expr ≡ true
  pub kind : Kind
  pub typed : type_of (context (of_program p) place) place.scope s.expr ≡ Ok kind
  pub noted : IsNotedExpr (type_at p) (context (of_program p) place) place.scope s.expr
  pub formed : IsFormedExpr s.expr

-- What the service evaluates of a statement of a batch: its remote expressions; and a carried condition, or what a loop over
-- rows goes over, as a whole.
abbrev pub sent_of : Facts → StmtSite → List Expr
sent_of f s = remote_of f s.scope s.stmt ++ cond (is_remote_whole f s.around s.stmt) (own s.stmt) []

-- An expression of a statement that is Remote where it stands.
pub record StandsRemote (p : Program) (s : StmtSite) (e : Expr) : Type 0 where
  pub above : List Over
  pub stands : InBatches p (site s above e)
  pub remote : is_remote_at (facts_of p) (site s above e) ≡ true

-- What the service evaluates of each statement of a batch is Remote there.
abbrev pub SentIsRemote : Type 0
SentIsRemote = (p : Program) (b : Outermost) → Contains (program_batches (facts_of p) p) b → (s : StmtSite) → Contains (batch_sites (facts_of p) b) s
    → (e : Expr) → Contains (sent_of (facts_of p) s) e → StandsRemote p s e

-- each fault by which a run may have ended is so
abbrev pub EachFault : {A : Type 0} → (Raised → Type 0) → Outcome A → Type 0
EachFault P (Gave a l) = Unit {0}
EachFault P (Faulted r l) = P r

-- A fault is remote, by the position where it stands or because the server answered it.
abbrev pub IsRemote : Program → Raised → Type 0
IsRemote p r = (with_side p r).remote ≡ true

-- In a lawful, typed program and on a typed service, what is sent in a batch faults remotely, for each local state that fits
-- where it stands.
abbrev pub SentFaultsAreRemote : Type 0
SentFaultsAreRemote = (p : Program) → IsLawful p → check_program p ≡ Ok tt
    → (service : Service) → check_service service.classes ≡ Ok tt → AreFormed service.classes
    → (s : ExprSite) (place : Place) → IsSent p s place → (l : Local) → FitsPlace (of_program p) place l
    → (outside : Outside) → TableFits service.classes service.root outside.server.table
    → (gas : ℕ) → EachFault (IsRemote p) (handle (in_batch p service) (evaluates (bodies_of p.classes gas) s.expr l) outside).0

-- A fault of the own side stands at no position that is marked Remote. At position 0 there is one more, of what a node lacks.
abbrev pub StandsElsewhere : Program → Raised → Type 0
StandsElsewhere p r = r.remote ≡ false → (r.at ≡ 0 → ⊥) → stands_remote p r.at ≡ false

-- In a lawful program without refusals what is left of a statement of a batch, without its remote expressions, has such faults
-- alone on replay. The statement is one that isn't divided: no `if` that holds a remote operation, no loop over rows, and no
-- carried loop.
abbrev pub OwnFaultsStandElsewhere : Type 0
OwnFaultsStandElsewhere = (p : Program) → IsLawful p → HasNoRefusal p
    → (b : Outermost) → Contains (program_batches (facts_of p) p) b
    → (t : StmtSite) → Contains (batch_sites (facts_of p) b) t → is_remote_whole (facts_of p) t.around t.stmt ≡ false → is_carried_loop (facts_of p) t ≡ false
    → (n gas : ℕ) (l : Local) (seen : Seen)
    → EachFault (StandsElsewhere p) (handle in_replay (performs (bodies_of p.classes gas) gas (cut_stmt (facts_of p) t.scope n t.stmt) l) seen).0
