-- The law of admitted programs.
use Rattle.std.proofs.Common.{refl, List, [], true}
use Rattle.rb_trees.specs.declared.services.Object.{Object}
use Rattle.rb_trees.specs.mirror.Declarations.{Program}
use Rattle.rb_trees.specs.mirror.Services.{Service}
use Rattle.rb_meaning_types.specs.Kinds as kind
use Rattle.rb_meaning_types.specs.Scopes as typed
use Rattle.rb_meaning_types.specs.Lawful.{IsLawful}
use Rattle.rb_meaning_types.specs.Fits.{classes_of, TableFits}
use Rattle.rb_meaning_flow.specs.declared.scopes.Role.{Role}
use Rattle.rb_meaning_flow.specs.Facts.{facts_of}
use Rattle.rb_meaning_flow.specs.Scopes as flow
use Rattle.rb_meaning_flow.specs.Scopes.{assigned_in, opened}
use Rattle.rb_meaning_flow.specs.Outermost.{batch_sites, program_batches}
use Rattle.rb_meaning.specs.RemotePart.{Walked, ended, remote_only}
use Rattle.rb_meaning.specs.Unsplit.{server_after}
use Rattle.rb_meaning.specs.Links.{IsTyped}
use Rattle.rb_meaning_code.specs.Remote.{Got, Stopped}
use Rattle.rb_flow.specs.Program.{HasNoRefusal}
use Rattle.rb_flow.specs.Laws.{AdmittedSendPortable}
use Rattle.rb_flow.proofs.Among.{mapped_to}
use Rattle.rb_law_types.specs.Formed.{LawfulExprsAreFormed, LawfulStmtsAreFormed, LawfulClassesAreFormed}
use Rattle.rb_law_types.specs.Operators.{ConditionsHold}
use Rattle.rb_law_types.specs.Code.{TypesKeep}
use Rattle.rb_law_unsplit.specs.Noted.{LawfulAreNoted}
use Rattle.rb_law_unsplit.specs.Kept.{AdmittedMeanWell}
use Rattle.rb_law_unsplit.proofs.Agreed.{Agree, agree_added, agree_with}
use Rattle.rb_law_unsplit.proofs.Standing.{block_lawful}
use Rattle.rb_law_unsplit.proofs.Programs.{IsTypedProgram, program_typed}
use Rattle.rb_law_unsplit.proofs.Carried.{Carry, carry_begins}
use Rattle.rb_law_unsplit.proofs.Handling.{Fine}
use Rattle.rb_law_unsplit.proofs.Walking.{Laws}
use Rattle.rb_law_unsplit.proofs.Walked.{block_good}
use Rattle.rb_law_unsplit.proofs.Whole.{declared, service_formed, AllWhole, AllWalksFine, means_well}

-- the table after a walk
table_fine : (service : Service) (r : Walked) → Fine service (λ (u : Unit {0}). Unit {0}) r → TableFits service.classes service.root (server_after r).table
table_fine service (Got u s) h = h.1
table_fine service (Stopped at f s) h = h.1

module _ (laws : Laws) (conditions : ConditionsHold) (exprs_formed : LawfulExprsAreFormed) (stmts_formed : LawfulStmtsAreFormed) (classes_formed : LawfulClassesAreFormed) (types_keep : TypesKeep) (sends : AdmittedSendPortable)
    (p : Program) (lawful : IsLawful p) (t : IsTypedProgram p) (none : HasNoRefusal p) (service : Service) (first : List Object) (served : IsTyped service first) where
  -- the walk over the whole remote part of each batch ends without Kind, and leaves a table that fits
  pub walks_fine : AllWalksFine laws.calls exprs_formed stmts_formed classes_formed types_keep p lawful t none service first served
  walks_fine o interface place known agree among start s h fits begins =
      let f = facts_of p in
      let ss = batch_sites f o in
      let is_one = mapped_to (batch_sites f) (program_batches f p) o among in
      let scope = typed.with_variable place.scope o.root (kind.Named interface) true in
      let begun = opened o.outer o.at o.root o.block in
      let agreed : Agree p.interfaces begun scope =
      agree_with p.interfaces (assigned_in o.block) (flow.with_variable o.outer o.root Role.Root o.at) scope (agree_added p.interfaces o.outer place.scope o.root Role.Root o.at (kind.Named interface) true agree (λ r. begins.declared_as, λ r. absurd (cc (r)))) in
      let carry : Carry p.interfaces begun scope start.names = carry_begins p.interfaces (classes_of start.heap) place.this begun scope start.names agreed fits.holds.names_fit fits.count in
      block_good laws conditions p service served.typed (service_formed laws.calls exprs_formed stmts_formed classes_formed types_keep p lawful t none service first served)
      (declared laws.calls exprs_formed stmts_formed classes_formed types_keep p lawful t none service first served) place.this place.remote ss (λ r e. none r (ss, is_one, e)) (sends p lawful none ss is_one)
      [] refl begun scope begins.last o.block start.names s.server ended begins.typed begins.noted (stmts_formed o.block (block_lawful o.block known.lawful.2)) (λ y c. c) carry h (λ ns1 s1 t1. (tt, t1))

  pub whole_fits : AllWhole laws.calls exprs_formed stmts_formed classes_formed types_keep p lawful t none service first served
  whole_fits o interface place known agree among start s h fits begins =
      table_fine service (remote_only p service (opened o.outer o.at o.root o.block) o.block start.names s.server) (walks_fine o interface place known agree among start s h fits begins)

pub admitted_mean_well : Laws → ConditionsHold → LawfulExprsAreFormed → LawfulStmtsAreFormed → LawfulClassesAreFormed → TypesKeep → AdmittedSendPortable → LawfulAreNoted → AdmittedMeanWell
admitted_mean_well laws conditions exprs_formed stmts_formed classes_formed types_keep sends notes p lawful typed none service table served others kept fuel =
    let t = program_typed p typed in
    means_well laws.calls exprs_formed stmts_formed classes_formed types_keep p lawful t none service table served
    (whole_fits laws conditions exprs_formed stmts_formed classes_formed types_keep sends p lawful t none service table served) (notes p lawful) others kept fuel
