-- Exchanges as links tell them.
use Rattle.std.specs.Prelude.{◌≡◌, ℕ, List, [], ◌∷◌, ◌++◌, map}
use Rattle.rb_meaning.specs.Links.{Pair}
use Rattle.rb_base.specs.declared.links.Reply.{Reply}
use Rattle.rb_base.specs.Links.{pair_of}
use Rattle.rb_session.specs.declared.exchanges.Exchange.{Exchange}

abbrev pub pair_told : Exchange → Pair
pair_told e = record { request = e.request; kind = e.kind; reply = e.reply }

abbrev pub all_told : List Exchange → List Pair
all_told es = map pair_told es

-- There is one exchange more, of this request with this reply.
abbrev pub OneMore : List ℕ → List Exchange → List Exchange → Reply → Type 0
OneMore request old new reply = all_told new ≡ all_told old ++ pair_of request reply ∷ []
