-- `main` in its surroundings, on a typed service: what it asks is answered fittingly, and it asks only what it may.
use Rattle.std.proofs.Common.{◌≡◌, ℕ, List, Option, Ok}
use Rattle.rb_trees.specs.declared.values.Value.{Value}
use Rattle.rb_trees.specs.declared.services.Object.{Object}
use Rattle.rb_trees.specs.mirror.Declarations.{Program}
use Rattle.rb_trees.specs.mirror.Services.{Service}
use Rattle.rb_meaning_types.specs.Declared.{Declarations, of_program}
use Rattle.rb_meaning_types.specs.Lawful.{IsLawful}
use Rattle.rb_meaning_types.specs.Programs.{check_program}
use Rattle.rb_meaning_code.specs.Dialogue.{Outcome, Dialogue, Handler}
use Rattle.rb_meaning_code.specs.Led.{Passes, here, answered, performed}
use Rattle.rb_meaning.specs.Links.{IsTyped}
use Rattle.rb_meaning.specs.Meaning.{in_main}
use Rattle.rb_flow.specs.Program.{HasNoRefusal}
use Rattle.rb_law_types.specs.Asked.{Side, Own, Keeps}
use Rattle.rb_law_types.specs.Around.{HandlerFits}
use Rattle.rb_law_unsplit.specs.Batches.{program_sites}
use Rattle.rb_law_unsplit.specs.Kept.{StandsAround}
use Rattle.rb_law_unsplit.proofs.Admitted.{whole_fits}
use Rattle.rb_law_unsplit.proofs.Programs.{IsTypedProgram, program_typed}
use Rattle.rb_law_unsplit.proofs.Whole.{AllWhole, MainEnds, main_handler_fits, main_keeps}
use Rattle.rb_law_client.specs.Below.{LawsBelow}
use Rattle.rb_law_client.specs.Reached.{main_run}
use Rattle.rb_law_client.proofs.Divided.{walking}

-- Typed code goes on so, from wherever it has come under a handler whose answers fit.
pub reaches : {S A : Type 0} (d : Declarations) (side : Side) (Holds : S → Type 0) (h : Handler S) → HandlerFits d side Holds h → (P : A → Type 0) (run rest : Dialogue A) (s s1 : S) → Passes h run s rest s1
    → Keeps d side P run → Holds s → Keeps d side P rest × Holds s1
reaches d side Holds h fits P _ _ _ _ (here run s) k holds = (k, holds)
reaches d side Holds h fits P _ _ _ _ (answered q go s s1 rest way) k holds =
    let next = h.answer s q in reaches d side Holds h fits P (go next.0) rest next.1 s1 way (k.1 next.0 (fits.answers s q holds k.0)) (fits.answered s q holds k.0)
reaches d side Holds h fits P _ _ _ _ (performed at l go s s1 rest way) k holds =
    let next = h.batch s at l in reaches d side Holds h fits P (go next.0) rest next.1 s1 way (k.2 next.0 (fits.batches s at l k.0 holds k.1)) (fits.performed s at l k.0 holds k.1)

module _ (below : LawsBelow) (p : Program) (lawful : IsLawful p) (checked : check_program p ≡ Ok tt) (none : HasNoRefusal p) (service : Service) (table : List Object) (served : IsTyped service table) where
  abbrev t : IsTypedProgram p
  t = program_typed p checked

  abbrev side : Side
  side = Own (program_sites p)

  pub whole : AllWhole below.calls below.exprs_formed below.stmts_formed below.classes_formed below.types_keep p lawful t none service table served
  whole = whole_fits (walking below) below.conditions below.exprs_formed below.stmts_formed below.classes_formed below.types_keep below.sends p lawful t none service table served

  pub main_fits : HandlerFits (of_program p) side (StandsAround service) (in_main p service)
  main_fits = main_handler_fits below.calls below.exprs_formed below.stmts_formed below.classes_formed below.types_keep p lawful t none service table served whole (below.notes p lawful)

  -- how `main` ends
  abbrev pub Ends : Outcome (Option Value) → Type 0
  Ends = MainEnds below.calls below.exprs_formed below.stmts_formed below.classes_formed below.types_keep p lawful t none service table served whole (below.notes p lawful)

  pub main_kept : (fuel : ℕ) → Keeps (of_program p) side Ends (main_run p fuel)
  main_kept fuel = main_keeps below.calls below.exprs_formed below.stmts_formed below.classes_formed below.types_keep p lawful t none service table served whole (below.notes p lawful) fuel
