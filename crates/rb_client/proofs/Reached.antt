-- A program that is under way asks for a batch only where one stands, and its script performs the batch's remote part on each table that
-- fits.
use Rattle.std.proofs.Common.{ap, ◌∙◌}
use Rattle.rb_meaning_types.specs.Declared.{Declarations, of_program}
use Rattle.rb_meaning_code.specs.Dialogue.{Dialogue, AskBatch, Handler}
use Rattle.rb_meaning_code.specs.Led.{Passes, here, answered, performed}
use Rattle.rb_meaning.specs.Links.{IsTyped}
use Rattle.rb_meaning.specs.Meaning.{around_of, in_main}
use Rattle.rb_meaning.specs.Unsplit.{batch_at}
use Rattle.rb_flow.specs.Laws.{AdmittedSendPortable}
use Rattle.rb_law_types.specs.Around.{HandlerFits}
use Rattle.rb_law_types.specs.Asked.{Keeps, Own, Side}
use Rattle.rb_law_types.specs.Code.{TypesKeep}
use Rattle.rb_law_types.specs.Formed.{LawfulClassesAreFormed, LawfulExprsAreFormed, LawfulStmtsAreFormed}
use Rattle.rb_law_types.specs.Operators.{ConditionsHold}
use Rattle.rb_law_unsplit.specs.Batches.{program_sites}
use Rattle.rb_law_unsplit.specs.Kept.{StandsAround}
use Rattle.rb_law_unsplit.specs.Noted.{LawfulAreNoted}
use Rattle.rb_law_unsplit.proofs.Admitted.{whole_fits}
use Rattle.rb_law_unsplit.proofs.Programs.{program_typed}
use Rattle.rb_law_unsplit.proofs.Walking.{Laws}
use Rattle.rb_law_unsplit.proofs.Whole.{MainEnds, main_handler_fits, main_keeps}
use Rattle.rb_law_script.specs.Remote.{ScriptsPerformRemoteParts}
use Rattle.rb_law_client.specs.Reached.{main_run}
use Rattle.rb_client.specs.Remote.{ReachedPerformRemoteParts}

-- what is left of a run that keeps types keeps them, and what holds of the handler's state still does
passed : {S A : Type 0} (d : Declarations) (side : Side) (Holds : S → Type 0) (h : Handler S) → HandlerFits d side Holds h → (P : A → Type 0) (run rest : Dialogue A) (s s' : S)
    → Keeps d side P run → Holds s → Passes h run s rest s' → Keeps d side P rest × Holds s'
passed d side Holds h fits P _ _ _ _ k holds (here run s) = (k, holds)
passed d side Holds h fits P _ _ _ _ k holds (answered q go s s' rest p) =
    passed d side Holds h fits P (go (h.answer s q).0) rest (h.answer s q).1 s' (k.1 (h.answer s q).0 (fits.answers s q holds k.0)) (fits.answered s q holds k.0) p
passed d side Holds h fits P _ _ _ _ k holds (performed at l go s s' rest p) =
    passed d side Holds h fits P (go (h.batch s at l).0) rest (h.batch s at l).1 s' (k.2 (h.batch s at l).0 (fits.batches s at l k.0 holds k.1)) (fits.performed s at l k.0 holds k.1) p

module _ (laws : Laws) (conditions : ConditionsHold) (exprs : LawfulExprsAreFormed) (stmts : LawfulStmtsAreFormed) (classes : LawfulClassesAreFormed) (keep : TypesKeep) (sends : AdmittedSendPortable) (notes : LawfulAreNoted) (scripts : ScriptsPerformRemoteParts) where
  pub reached_perform : ReachedPerformRemoteParts
  reached_perform p lawful checked none service table served others kept fuel at l go a comes b stands found fits_so =
      let t = program_typed p checked in
      let whole = whole_fits laws conditions exprs stmts classes keep sends p lawful t none service table served in
      let noted = notes p lawful in
      let fits = main_handler_fits laws.calls exprs stmts classes keep p lawful t none service table served whole noted in
      let keeps = main_keeps laws.calls exprs stmts classes keep p lawful t none service table served whole noted fuel in
      let ends = MainEnds laws.calls exprs stmts classes keep p lawful t none service table served whole noted in
      let start = around_of table others in
      let reached = passed (of_program p) (Own (program_sites p)) (StandsAround service) (in_main p service) fits ends (main_run p fuel) (AskBatch at l go) start a keeps (record { table = served.fits; others = kept }) comes in
      let typed : IsTyped service found = record { lawful = served.lawful; typed = served.typed; fits = fits_so } in
      scripts p lawful checked none service found typed reached.0.0 reached.0.1.may b (ap (batch_at p) reached.0.1.here ∙ stands) l reached.0.1.fits
