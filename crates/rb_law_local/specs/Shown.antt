-- The local state of a client beside that of the batch as it stands: the client has no names of objects of the service nor of
-- rows, and all else is the same.
use Rattle.std.specs.Prelude.{◌≡◌, [], ◌∷◌, ◌++◌, Bool, cond, ◌||◌}
use Rattle.rb_meaning_types.specs.Kinds.{Kind}
use Rattle.rb_meaning_types.specs.Declared.{Declarations, Context}
use Rattle.rb_meaning_types.specs.Scopes.{Scope}
use Rattle.rb_meaning_types.specs.Fits.{frame_scope}
use Rattle.rb_meaning_code.specs.State.{Names, Local}
use Rattle.rb_meaning_flow.specs.Facts.{is_object, is_rows}

-- the types of objects of the service, and of rows
abbrev pub is_far : Declarations → Kind → Bool
is_far d kind = is_object d kind || is_rows kind

-- the names of a scope that a client has too
abbrev pub shown : Declarations → Scope → Names → Names
shown d [] ns = []
shown d (v ∷ vs) [] = []
shown d (v ∷ vs) (n ∷ ns) = cond (is_far d v.kind) (shown d vs ns) (n ∷ shown d vs ns)

-- those of a frame
abbrev pub seen : Context → Scope → Names → Names
seen x scope ns = shown x.declared (frame_scope x.this scope) ns

-- a local state with other names
abbrev pub named : Names → Local → Local
named ns l = record l { names = ns }

-- the local state of a client
abbrev pub at_client : Context → Scope → Local → Local
at_client x scope l = named (seen x scope l.names) l

-- A client's local state after a fault: it begins with the names of the scope, and others may follow.
pub record Fronts (x : Context) (scope : Scope) (l client : Local) : Type 0 where
  pub rest : Names
  pub same : client ≡ named (seen x scope l.names ++ rest) l

-- how a statement leaves the client that leads to a scope
abbrev pub LeftSeen : Context → Scope → Unit {0} → Local → Local → Type 0
LeftSeen x after u l client = client ≡ at_client x after l

-- An expression leaves these names, on both sides.
abbrev pub SameNames : {A : Type 0} → Context → Scope → Names → A → Local → Local → Type 0
SameNames x scope ns a l client = (l.names ≡ ns) × (client ≡ at_client x scope l)

abbrev pub FellSame : Context → Scope → Names → Local → Local → Type 0
FellSame x scope ns l client = (l.names ≡ ns) × (client ≡ at_client x scope l)
