-- What is known of scopes where a batch and where a turn begins.
use Rattle.std.proofs.Common.{◌≡◌, ◌⊎◌, inl, inr, refl, subst, ℕ, List, [], ◌∷◌, true}
use Rattle.rb_trees.specs.mirror.Declarations.{Interface}
use Rattle.rb_meaning_types.specs.Kinds as kind
use Rattle.rb_meaning_types.specs.Kinds.{Kind}
use Rattle.rb_meaning_types.specs.Declared.{Declarations}
use Rattle.rb_meaning_types.specs.Scopes as typed
use Rattle.rb_meaning_flow.specs.declared.scopes.Role.{Role}
use Rattle.rb_meaning_flow.specs.Scopes.{Scope, with_variable, scope_with, assigned_in}
use Rattle.rb_law_types.specs.Own.{IsFarItem, IsFarKind, IsOwnScope}
use Rattle.rb_law_types.proofs.Known.{typed_known}
use Rattle.rb_law_local.specs.Admitted.{IsKnownKind, AreKnownKinds, Carries, AreNamed, BatchesBeginKnown, TurnsBeginKnown, TypesAreKnown}
use Rattle.rb_law_local.proofs.Origins.{own_near, item_own, known_added, kind_known}
use Rattle.rb_law_local.proofs.Admitting.{carries_added}

-- the names of the own side, and the root behind them
begins : (d : Declarations) (assigned : List (List ℕ)) (outer : Scope) (ws : typed.Scope) (at : ℕ) (root interface : List ℕ) → AreNamed outer ws → IsOwnScope d.interfaces ws
    → Carries d (scope_with assigned (with_variable outer root Role.Root at)) (typed.with_variable ws root (kind.Named interface) true)
begins d assigned [] [] at root interface h own = (refl, λ far. refl, tt)
begins d assigned [] (w ∷ ws) at root interface h own = absurd h
begins d assigned (v ∷ vs) [] at root interface h own = absurd h
begins d assigned (v ∷ vs) (w ∷ ws) at root interface h own =
    (h.0, λ far. let near = own_near d w.kind own.0 in absurd (cc (near, far)), begins d assigned vs ws at root interface h.1 own.1)

all_known : (is : List Interface) (ws : typed.Scope) → IsOwnScope is ws → AreKnownKinds is ws
all_known is [] h = tt
all_known is (w ∷ ws) h = (inl h.0, all_known is ws h.1)

pub batches_begin_known : BatchesBeginKnown
batches_begin_known d outer ws named own at root interface block is = record {
  kinds = known_added d.interfaces ws (record { name = root; kind = kind.Named interface; fixed = true }) (all_known d.interfaces ws own) (inr is);
  carries = begins d (assigned_in block) outer ws at root interface named own;
}

item_far : (is : List Interface) (row : Kind) → IsFarItem is row → IsFarKind is row
item_far is kind.Int h = tt
item_far is kind.Bool h = tt
item_far is kind.Text h = tt
item_far is kind.Unit h = tt
item_far is (kind.Named name) h = h
item_far is (kind.ListOf item) h = absurd h
item_far is (kind.RowsOf row) h = absurd h

turn_known : (is : List Interface) (list item : Kind) → (list ≡ kind.ListOf item) ⊎ (list ≡ kind.RowsOf item) → IsKnownKind is list → IsKnownKind is item
turn_known is list item (inl e) h = inl (item_own is item (subst (IsKnownKind is) e h))
turn_known is list item (inr e) h = by (subst (IsKnownKind is) e h)
  where
    by : IsKnownKind is (kind.RowsOf item) → IsKnownKind is item
    by (inl own) = absurd own
    by (inr far) = inr (item_far is item far)

pub turns_begin_known : TurnsBeginKnown
turns_begin_known d vs ws h at name list item over known = record {
  kinds = known_added d.interfaces ws (record { name = name; kind = item; fixed = true }) h.kinds (turn_known d.interfaces list item over known);
  carries = carries_added d vs ws name Role.Row at item true h.carries (λ far. refl);
}

pub types_are_known : TypesAreKnown
types_are_known p declared place near kinds e k t = kind_known (record { declared = _; this = place.this; remote = place.remote }) (typed_known _ declared) near place.scope kinds e k t
