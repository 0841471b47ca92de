-- What a link tells: the pairs of requests and replies so far; and what stands behind it, where it tells that too.
use Rattle.std.specs.Prelude.{◌≡◌, ◌⊎◌, ℕ, List, Option, None, Some, option_and_then, option_map, Ok}
use Rattle.rb_trees.specs.declared.services.Object.{Object}
use Rattle.rb_trees.specs.mirror.Services.{Service}
use Rattle.rb_meaning_types.specs.Lawful.{IsLawfulService}
use Rattle.rb_meaning_types.specs.Programs.{check_service}
use Rattle.rb_meaning_types.specs.Fits.{TableFits}
use Rattle.rb_meaning.specs.Answers.{Answers}

-- a request and its reply: the kind of the reply, and the payloads of both
pub record Pair : Type 0 where
  pub request : List ℕ
  pub kind : ℕ
  pub reply : List ℕ

-- The server behind a link: its service and its table; the tables that the requests found which were answered, and those that
-- they left; the number of exchanges so far, and the numbers of the exchanges that fail, from 1.
pub record Behind : Type 0 where
  pub service : Service
  pub table : List Object
  pub found : List (List Object)
  pub left : List (List Object)
  pub made : ℕ
  pub failing : List ℕ

pub record Told : Type 0 where
  pub pairs : List Pair
  pub server : Option Behind

-- the pairs, where a link tells anything
abbrev pub pairs_told : Option Told → Option (List Pair)
pairs_told told = option_map (λ t. t.pairs) told

-- the server, where a link tells it
abbrev pub server_told : Option Told → Option Behind
server_told told = option_and_then (λ t. t.server) told

-- The classes of the service are lawful and typed, and the table fits them, with the root among its objects.
pub record IsTyped (service : Service) (table : List Object) : Type 0 where
  pub lawful : IsLawfulService service.classes
  pub typed : check_service service.classes ≡ Ok tt
  pub fits : TableFits service.classes service.root table

-- A link that may be honest: it tells its server, which is typed.
abbrev pub TellsTyped : Option Behind → Type 0
TellsTyped (Some b) = IsTyped b.service b.table
TellsTyped None = ⊥

-- A request that was lost with its reply found this table, and was answered on it, or not.
abbrev pub MayAnswer : Service → List Object → List ℕ → List Object → Type 0
MayAnswer service found request after = (after ≡ found) ⊎ ((kind : ℕ) × (reply : List ℕ) × Answers service found request kind reply after)
