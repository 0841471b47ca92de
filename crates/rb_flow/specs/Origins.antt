-- The first writer of a node, and the least number of a list.
use Rattle.std.specs.Prelude.{ℕ, zero, suc, ◌+◌, List, [], ◌∷◌, Bool, ◌||◌, ◌&&◌, cond, nat_eq, nat_lt, Option, Some, None}
use Rattle.rb_trees.specs.declared.flows.Writer.{Writer}
use Rattle.rb_flow.specs.declared.origins.Origin.{Origin}
use Rattle.rb_flow.specs.Levels.{level_at}

-- whether an origin has the lower level, or the same one at the lesser position
abbrev pub is_earlier : Origin → Origin → Bool
is_earlier p q = nat_lt p.level q.level || (nat_eq p.level q.level && nat_lt p.at q.at)

-- of two origins the one of the lower level, then the one at the lesser position
abbrev pub earlier_of : Option Origin → Option Origin → Option Origin
earlier_of None q = q
earlier_of (Some p) None = Some p
earlier_of (Some p) (Some q) = cond (is_earlier q p) (Some q) (Some p)

-- a writer that a source leads to
abbrev pub here : ℕ → Writer → ℕ → Option Origin → Option Origin
here place w zero o = o
here place w (suc level) o = earlier_of o (Some (record { level = suc level; at = w.at; place = place }))

-- what is known of a node's first writer, with this one
abbrev pub with_writer : ℕ → Writer → ℕ → ℕ → Option Origin → Option Origin
with_writer place w level n o = cond (nat_eq w.writes n) (here place w level o) o

-- the first writer of a node among these and what came before
abbrev pub first_from : ℕ → List Writer → List ℕ → ℕ → Option Origin → Option Origin
first_from place [] levels n o = o
first_from place (w ∷ ws) levels n o = first_from (place + 1) ws levels n (with_writer place w (level_at levels place) n o)

-- the first of the writers of these nodes and what came before
abbrev pub first_of : (ℕ → Option Origin) → List ℕ → Option Origin → Option Origin
first_of origins [] o = o
first_of origins (n ∷ ns) o = first_of origins ns (earlier_of o (origins n))

-- the lesser of a number, if there is one, and another
abbrev pub lesser : Option ℕ → ℕ → Option ℕ
lesser None y = Some y
lesser (Some x) y = cond (nat_lt y x) (Some y) (Some x)

-- the least of some numbers and what came before
abbrev pub least_of : List ℕ → Option ℕ → Option ℕ
least_of [] o = o
least_of (y ∷ ys) o = least_of ys (lesser o y)
