-- The positions of troubles.
use Rattle.std.specs.Prelude.{ℕ, List, [], ◌∷◌, Option, None, Some}
use Rattle.std.specs.Option.{option_to_list}
use Rattle.rb_trees.specs.declared.reading.LexError.{LexError}
use Rattle.rb_trees.specs.declared.reading.LexError.TheVariants as lexing
use Rattle.rb_trees.specs.declared.reading.ReadError.{ReadError}
use Rattle.rb_trees.specs.declared.reading.ReadError.TheVariants as reading
use Rattle.rb_trees.specs.declared.typing.TypeError.{TypeError}
use Rattle.rb_trees.specs.declared.typing.TypeError.TheVariants as typing
use Rattle.rb_trees.specs.declared.stores.StoreError.{StoreError}
use Rattle.rb_trees.specs.declared.stores.StoreError.TheVariants as stores
use Rattle.rb_trees.specs.declared.refusals.Refusal.{Refusal}
use Rattle.rb_trees.specs.declared.refusals.Refusal.TheVariants as refusals
use Rattle.rb_help.specs.declared.trouble.Trouble.{Trouble}
use Rattle.rb_help.specs.declared.trouble.Trouble.TheVariants as troubles

abbrev pub lex_position : LexError → Option ℕ
lex_position (lexing.BadByte at) = Some at
lex_position (lexing.OpenText at) = Some at
lex_position (lexing.NumberTooLarge at) = Some at
lex_position (lexing.NotUtf8 at) = Some at
lex_position (lexing.TooLong at) = Some at
lex_position lexing.Memory = None

abbrev pub read_position : ReadError → Option ℕ
read_position (reading.Lex e) = lex_position e
read_position (reading.Unexpected at) = Some at
read_position (reading.TooNested at) = Some at
read_position reading.Memory = None

abbrev pub type_position : TypeError → Option ℕ
type_position (typing.UnknownName at) = Some at
type_position (typing.NameTaken at) = Some at
type_position (typing.WrongType at found) = Some at
type_position (typing.WrongCount at) = Some at
type_position (typing.NotAssignable at) = Some at
type_position (typing.MissingReturn at) = Some at
type_position (typing.TypeNotHere at) = Some at
type_position (typing.NotAllowedHere at) = Some at
type_position typing.Memory = None

-- a refusal of a service's objects names the object and no position
abbrev pub store_position : StoreError → Option ℕ
store_position (stores.Read e) = read_position e
store_position (stores.Types e) = type_position e
store_position stores.NoRoot = None
store_position (stores.BadReference object) = None
store_position (stores.FieldMissing object) = None
store_position (stores.FieldKind object) = None
store_position (stores.ObjectNumber object) = None
store_position stores.Memory = None

-- of a flow the whole chain; of an operation under a local condition the condition, and then the operation
abbrev pub refusal_positions : Refusal → List ℕ
refusal_positions (refusals.Flow chain) = chain
refusal_positions (refusals.NotConstant at) = at ∷ []
refusal_positions (refusals.UnderLocalCondition condition operation) = condition ∷ operation ∷ []
refusal_positions (refusals.Escapes at) = at ∷ []
refusal_positions (refusals.BatchInside at) = at ∷ []
refusal_positions (refusals.InTry at) = at ∷ []
refusal_positions (refusals.RemoteVar at) = at ∷ []
refusal_positions (refusals.TooManyInputs batch count) = batch ∷ []
refusal_positions (refusals.ScriptTooLarge batch bytes) = batch ∷ []

-- the positions of a trouble, in its order
abbrev pub positions_of : Trouble → List ℕ
positions_of (troubles.Faulted fault at) = at ∷ []
positions_of (troubles.Words words) = []
positions_of (troubles.FileFault name) = []
positions_of (troubles.FileTooLong name) = []
positions_of (troubles.Unread e) = option_to_list (read_position e.now)
positions_of (troubles.Untyped e) = option_to_list (type_position e.now)
positions_of (troubles.Refused refusal) = refusal_positions refusal.now
positions_of (troubles.Unserved e) = option_to_list (store_position e.now)
positions_of (troubles.NoEvent name line) = []
positions_of (troubles.NotJson name) = []
positions_of (troubles.WrongForm name place) = []
positions_of (troubles.DiskFault name) = []
positions_of (troubles.Journal name flaw) = []
positions_of (troubles.LinkFault server exchanges) = []
positions_of (troubles.BadReply server exchanges flaw) = []
positions_of (troubles.DialFault server) = []
positions_of (troubles.ListenFault address) = []
positions_of troubles.OutputFault = []
positions_of troubles.Memory = []
