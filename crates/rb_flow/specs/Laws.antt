-- Laws of admission, in lawful programs: each bad part is refused, and what an admitted program sends is portable.
use Rattle.std.specs.Prelude.{◌≡◌, List, [], ◌∷◌, cond, IsTrue}
use Rattle.std.specs.List.{Contains}
use Rattle.rb_trees.specs.declared.flows.BadPart.{BadPart}
use Rattle.rb_trees.specs.declared.refusals.Refusal.{Refusal}
use Rattle.rb_trees.specs.mirror.Code.{Expr, Exprs, Call, NoExprs, MoreExprs, Stmt, For}
use Rattle.rb_trees.specs.mirror.Declarations.{Program}
use Rattle.rb_meaning_types.specs.Lawful.{IsLawful}
use Rattle.rb_meaning_flow.specs.Facts.{Facts, facts_of, is_remote, over_rows}
use Rattle.rb_meaning_flow.specs.Portable.{portable}
use Rattle.rb_meaning_flow.specs.Sites.{StmtSite, ExprSite, exprs_of}
use Rattle.rb_meaning_flow.specs.Flow.{writers, bad_parts}
use Rattle.rb_meaning_flow.specs.Refusals.{place}
use Rattle.rb_meaning_flow.specs.Programs.{sites_of, IsRefusalOf}
use Rattle.rb_flow.specs.Answers.{IsFlowRefusal}
use Rattle.rb_flow.specs.Program.{HasNoRefusal}

-- each bad part of a batch is the place of a refusal: of a flow by the least chain to it, or, where no chain leads to
-- it, of what isn't constant
abbrev pub EachBadPartHasARefusal : Type 0
EachBadPartHasARefusal = (p : Program) → IsLawful p → (ss : List StmtSite) → Contains (sites_of p) ss → (u : BadPart) → Contains (bad_parts (facts_of p) ss) u
    → (r : Refusal) × IsRefusalOf p r × (place r ≡ u.at) × IsFlowRefusal (writers (facts_of p) ss) u r

abbrev pub items_of : Exprs → List Expr
items_of NoExprs = []
items_of (MoreExprs e es) = e ∷ items_of es

-- what a remote call sends: its receiver and its arguments
abbrev pub sent_by_call : Facts → Expr → List Expr
sent_by_call x (Call at a method args) = cond (is_remote x a) (a ∷ items_of args) []
sent_by_call x _ = []

-- what a loop over rows sends: what it goes over
abbrev pub sent_by_loop : Facts → Stmt → List Expr
sent_by_loop x (For at name e a) = cond (over_rows x e) (e ∷ []) []
sent_by_loop x _ = []

-- what the remote operations of a batch send is portable where it stands
pub record SendsPortable (x : Facts) (ss : List StmtSite) : Type 0 where
  pub calls : (s : ExprSite) → Contains (exprs_of ss) s → (e : Expr) → Contains (sent_by_call x s.expr) e → IsTrue (portable x s.stands.scope e)
  pub loops : (s : StmtSite) → Contains ss s → (e : Expr) → Contains (sent_by_loop x s.stmt) e → IsTrue (portable x s.scope e)

-- the batches of a program without a refusal send only such
abbrev pub AdmittedSendPortable : Type 0
AdmittedSendPortable = (p : Program) → IsLawful p → HasNoRefusal p → (ss : List StmtSite) → Contains (sites_of p) ss → SendsPortable (facts_of p) ss
