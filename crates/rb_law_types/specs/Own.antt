-- Types of values of the own side, and scopes of such: no interface and no Rows. Types of what comes from a remote object.
use Rattle.std.specs.Prelude.{◌≡◌, List, [], ◌∷◌, true, None}
use Rattle.std.specs.Option.{is_some}
use Rattle.rb_trees.specs.mirror.Declarations.{Interface}
use Rattle.rb_meaning_types.specs.Kinds as kind
use Rattle.rb_meaning_types.specs.Kinds.{Kind}
use Rattle.rb_meaning_types.specs.Names.{interface_named}
use Rattle.rb_meaning_types.specs.Scopes.{Scope}
use Rattle.rb_meaning_types.specs.Declared.{Context}
use Rattle.rb_meaning_types.specs.Fits.{frame_scope}

abbrev pub IsOwnKind : List Interface → Kind → Type 0
IsOwnKind interfaces kind.Int = Unit {0}
IsOwnKind interfaces kind.Bool = Unit {0}
IsOwnKind interfaces kind.Text = Unit {0}
IsOwnKind interfaces kind.Unit = Unit {0}
IsOwnKind interfaces (kind.Named name) = interface_named interfaces name ≡ None
IsOwnKind interfaces (kind.ListOf item) = IsOwnKind interfaces item
IsOwnKind interfaces (kind.RowsOf row) = ⊥

abbrev pub IsOwnScope : List Interface → Scope → Type 0
IsOwnScope interfaces [] = Unit {0}
IsOwnScope interfaces (v ∷ vs) = IsOwnKind interfaces v.kind × IsOwnScope interfaces vs

-- The names that a frame has there are of the own side: so it is everywhere but in the body of a batch.
abbrev pub IsOwnPlace : Context → Scope → Type 0
IsOwnPlace x scope = IsOwnScope x.declared.interfaces (frame_scope x.this scope)

-- what a single value is that comes from a remote object, and the results of remote calls: such values, rows of such, nothing
abbrev pub IsFarItem : List Interface → Kind → Type 0
IsFarItem interfaces kind.Int = Unit {0}
IsFarItem interfaces kind.Bool = Unit {0}
IsFarItem interfaces kind.Text = Unit {0}
IsFarItem interfaces kind.Unit = ⊥
IsFarItem interfaces (kind.Named name) = is_some (interface_named interfaces name) ≡ true
IsFarItem interfaces (kind.ListOf item) = ⊥
IsFarItem interfaces (kind.RowsOf row) = ⊥

abbrev pub IsFarKind : List Interface → Kind → Type 0
IsFarKind interfaces kind.Int = Unit {0}
IsFarKind interfaces kind.Bool = Unit {0}
IsFarKind interfaces kind.Text = Unit {0}
IsFarKind interfaces kind.Unit = Unit {0}
IsFarKind interfaces (kind.Named name) = is_some (interface_named interfaces name) ≡ true
IsFarKind interfaces (kind.ListOf item) = ⊥
IsFarKind interfaces (kind.RowsOf row) = IsFarItem interfaces row
