-- Each batch of a typed program is typed where it stands, in a scope whose variables that can be assigned aren't of type Unit.
use Rattle.std.proofs.Common.{◌≡◌, List, [], ◌∷◌, Ok}
use Rattle.std.specs.List.{Contains}
use Rattle.rb_trees.specs.mirror.Code.{Batch}
use Rattle.rb_trees.specs.mirror.Declarations.{Param, Program}
use Rattle.rb_meaning_types.specs.Kinds as kind
use Rattle.rb_meaning_types.specs.Declared.{Declarations, of_program}
use Rattle.rb_meaning_types.specs.Scopes as typed
use Rattle.rb_meaning_types.specs.Scopes.{parameters}
use Rattle.rb_meaning_types.specs.Statements.{check_stmt}
use Rattle.rb_law_types.specs.Ends.{context}
use Rattle.rb_law_types.specs.Asked.{Site}
use Rattle.rb_law_unsplit.proofs.Programs.{IsTypedProgram}
use Rattle.rb_law_unsplit.proofs.EachSite.{Spreads, each_site}
use Rattle.rb_law_unsplit.specs.Batches.{program_sites}
use Rattle.rb_law_script.proofs.Kept.{OpenScope, open_more, open_fixed}

-- a batch that is typed where it stands
pub record IsTypedSite (d : Declarations) (b : Site) : Type 0 where
  pub opens : OpenScope b.place.scope
  pub after : typed.Scope
  pub typed_here : check_stmt (context d b.place) b.place.scope (Batch b.at b.interface b.root b.block) ≡ Ok after

open_parameters : (ps : List Param) → OpenScope (parameters ps)
open_parameters [] = tt
open_parameters (p ∷ ps) = (λ e. absurd (cc (e)), open_parameters ps)

open_spreads : (d : Declarations) → Spreads d (λ q. OpenScope q.scope) (IsTypedSite d)
open_spreads d = record {
  to_name = λ q name fixed e k typed_here no_unit h. open_more q.scope name k fixed h (λ unfixed. no_unit);
  to_turn = λ q name e k item typed_here over h. open_fixed q.scope name item h;
  to_catch = λ q name h. open_fixed q.scope name kind.Text h;
  to_batch = λ b after t h. record { opens = h; after = after; typed_here = t };
}

pub program_sited : (p : Program) → IsTypedProgram p → (b : Site) → Contains (program_sites p) b → IsTypedSite (of_program p) b
program_sited p t = each_site p (λ q. OpenScope q.scope) (IsTypedSite (of_program p)) (open_spreads (of_program p)) t (λ i k within. λ j m inside. open_parameters _) tt
