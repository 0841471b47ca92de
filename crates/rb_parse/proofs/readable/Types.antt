-- The productions of types keep what holds of parts.
use Rattle.std.proofs.Common.{◌≡◌, ℕ, suc, ◌+◌, ◌≤◌, List, [], ◌∷◌, refl, arith}
use Rattle.rb_trees.specs.declared.tokens.TokenKind.TheVariants as kind
use Rattle.rb_trees.specs.mirror.Types.{TypeTree}
use Rattle.rb_trees.specs.Kinds as k
use Rattle.rb_meaning_bytes.specs.grammar.Symbols as s
use Rattle.rb_meaning_bytes.specs.grammar.Symbols.{Symbol, TreeOf, Makes}
use Rattle.rb_meaning_bytes.specs.grammar.Productions as r
use Rattle.rb_meaning_bytes.specs.grammar.Productions.{Production}
use Rattle.rb_meaning_bytes.specs.grammar.Limits.{Nesting}
use Rattle.rb_meaning_types.specs.Lawful.{IsLawfulType}
use Rattle.rb_parse.proofs.readable.Trees.{IsReadType, IsReadItem, type_depth}
use Rattle.rb_parse.proofs.readable.States.{afters, Moves, inner}
use Rattle.rb_parse.proofs.readable.Heads.{TypeOpens, list_opens, rows_opens, type_closes}
use Rattle.rb_parse.proofs.readable.Invariants.{Typed, Keeping}

depth_none : (n : ℕ) → n ≤ 64 → n + 0 ≤ 64
depth_none n h = omega arith

single : (n m : Nesting) (t : TypeTree) → type_depth t ≡ 0 → IsLawfulType t → Moves n m → n.types ≤ 64 → Typed n t m
single n m t h names a room = record { moves = a; names = names; depth = rw h (depth_none n.types room) }

depth_more : (n m d : ℕ) → m ≡ n + 1 → m + d ≤ 64 → n + suc d ≤ 64
depth_more n m d e f = omega arith

pub at_type : {source : List ℕ} {l : List Symbol} {f : Makes l (TreeOf s.AType)} → Production source s.AType l f → Keeping source s.AType l f
at_type r.int_type = λ n ys run ready room. single n _ _ refl tt (inner n k.keyword_Int refl refl ready) room
at_type r.bool_type = λ n ys run ready room. single n _ _ refl tt (inner n k.keyword_Bool refl refl ready) room
at_type r.text_type = λ n ys run ready room. single n _ _ refl tt (inner n k.keyword_Text refl refl ready) room
at_type r.unit_type = λ n ys run ready room. single n _ _ refl tt (inner n k.keyword_Unit refl refl ready) room
at_type r.named_type = λ n ys run ready room. single n _ _ refl run.1 (inner n kind.Name refl refl ready) room
at_type r.list_type = λ n ys run ready room.
    let a = list_opens n ready in
    let b = run.2.2.2 a.ready run.2.0.types in
    record { moves = type_closes n (afters n (k.keyword_List ∷ k.sign_less ∷ [])) run.2.2.0 a b.moves; names = b.names; depth = depth_more n.types (afters n (k.keyword_List ∷ k.sign_less ∷ [])).types (type_depth ys.1.1.0) a.types b.depth }
at_type r.rows_type = λ n ys run ready room.
    let a = rows_opens n ready in
    let b = run.2.2.2 a.ready run.2.0.types in
    record { moves = type_closes n (afters n (k.keyword_Rows ∷ k.sign_less ∷ [])) run.2.2.0 a b.moves; names = b.names; depth = depth_more n.types (afters n (k.keyword_Rows ∷ k.sign_less ∷ [])).types (type_depth ys.1.1.0) a.types b.depth }

room_in : (n d : ℕ) → n + d ≤ 64 → d ≤ 64
room_in n d h = omega arith

pub type_read : {n m : Nesting} {t : TypeTree} → Typed n t m → IsReadType t
type_read {n} {m} {t} a = (a.names, room_in n.types (type_depth t) a.depth)

item_in : (l n d : ℕ) → n ≡ l + 1 → n + d ≤ 64 → suc d ≤ 64
item_in l n d e h = omega arith

-- a type behind an angle bracket that is open
pub item_read : {l n m : Nesting} {t : TypeTree} → TypeOpens l n → Typed n t m → IsReadItem t
item_read {l} {n} {m} {t} a b = (b.names, item_in l.types n.types (type_depth t) a.types b.depth)
