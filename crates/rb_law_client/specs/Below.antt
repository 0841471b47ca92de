-- What the laws of the crates below say, which the laws of this crate stand on.
use Rattle.rb_flow.specs.Laws.{AdmittedSendPortable}
use Rattle.rb_marks.specs.Laws.{EachHasItsMark, NoMarkElsewhere}
use Rattle.rb_law_types.specs.Code.{TypesKeep}
use Rattle.rb_law_types.specs.Far.{FittingAreBounded, RemoteCallsGiveFar}
use Rattle.rb_law_types.specs.Formed.{LawfulExprsAreFormed, LawfulStmtsAreFormed, LawfulClassesAreFormed}
use Rattle.rb_law_types.specs.Operators.{OneKeeps, TwoKeep, LeftKeeps, ConditionsHold}
use Rattle.rb_law_types.specs.Remote.{CallsKeep}
use Rattle.rb_law_unsplit.specs.CarriedLoops.{LawfulHaveCarriedLoops}
use Rattle.rb_law_unsplit.specs.Noted.{LawfulAreNoted}
use Rattle.rb_law_script.specs.Remote.{ScriptsPerformRemoteParts}
use Rattle.rb_law_local.specs.Admitted.{AdmittedAreParted, BatchesBeginKnown, TurnsBeginKnown, TypesAreKnown}
use Rattle.rb_law_local.specs.Local.{LocalCodeDoesTheSame}
use Rattle.rb_law_local.specs.Marked.{AdmittedArePlaced}
use Rattle.rb_law_division.specs.Faults.{SentFaultsAreRemote, SentIsRemote}

-- Typed code keeps types, and lawful code is formed; each expression has its mark, and each carried loop its position; local code
-- does the same on both sides; and scripts perform just what is remote.
pub record LawsBelow : Type 0 where
  pub one : OneKeeps
  pub two : TwoKeep
  pub left : LeftKeeps
  pub conditions : ConditionsHold
  pub calls : CallsKeep
  pub bounded : FittingAreBounded
  pub given : RemoteCallsGiveFar
  pub types_keep : TypesKeep
  pub exprs_formed : LawfulExprsAreFormed
  pub stmts_formed : LawfulStmtsAreFormed
  pub classes_formed : LawfulClassesAreFormed
  pub sends : AdmittedSendPortable
  pub notes : LawfulAreNoted
  pub marks : EachHasItsMark
  pub elsewhere : NoMarkElsewhere
  pub loops : LawfulHaveCarriedLoops
  pub parted : AdmittedAreParted
  pub placed : AdmittedArePlaced
  pub local : LocalCodeDoesTheSame
  pub batches : BatchesBeginKnown
  pub turns : TurnsBeginKnown
  pub types : TypesAreKnown
  pub sent : SentIsRemote
  pub faults : SentFaultsAreRemote
  pub scripts : ScriptsPerformRemoteParts
