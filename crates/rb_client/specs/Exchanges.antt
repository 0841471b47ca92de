-- What a client exchanges over its link.
use Rattle.std.specs.Prelude.{◌≡◌, ℕ, List, [], ◌∷◌, map, Option, Some, Ok}
use Rattle.rb_trees.specs.Validity.{verdict}
use Rattle.rb_trees.specs.declared.declarations.Program as program
use Rattle.rb_trees.specs.declared.remainders.Split.{Split}
use Rattle.rb_trees.specs.mirror.Declarations.{Program, mirror_program}
use Rattle.rb_trees.specs.mirror.Forests.{Node}
use Rattle.rb_trees.specs.mirror.Scripts.{Script, mirror_script}
use Rattle.rb_meaning_bytes.specs.Fits.{fits}
use Rattle.rb_meaning_bytes.specs.formats.FormedScripts.{FormedScript}
use Rattle.rb_meaning_bytes.specs.formats.Messages.{Sent}
use Rattle.rb_meaning_bytes.specs.formats.Payloads.{IsForest, IsRequestOf}
use Rattle.rb_meaning.specs.Answers.{forest_kind}
use Rattle.rb_meaning.specs.Links.{Pair}
use Rattle.rb_meaning.specs.Unsplit.{batch_at}
use Rattle.rb_meaning_flow.specs.Outermost.{Outermost}
use Rattle.rb_meaning_split.specs.Client.{lengths, sent_version}
use Rattle.rb_meaning_split.specs.Division.{division, divisions, mirror_split}
use Rattle.rb_client.specs.Replies.{more_pairs}

-- A script that can be sent, with values for its inputs: it is formed and valid.
pub record CanBeSent (s : Script) : Type 0 where
  pub formed : FormedScript s
  pub valid : verdict s ≡ Ok tt

-- each script of divisions can be sent
abbrev pub AllCanBeSent : List Split → Type 0
AllCanBeSent [] = Unit {0}
AllCanBeSent (s ∷ ss) = CanBeSent (mirror_script s.script) × AllCanBeSent ss

-- The exchange of a batch: the request is its script with these values, in the version in which clients send, and the reply is
-- the forest of this node, in either version, which fits its remainder where its inputs have as many items as were sent.
pub record IsExchange (p : Program) (pair : Pair) (x : Sent) (n : Node) : Type 0 where
  pub at : ℕ
  pub batch : Outermost
  pub stands : batch_at p at ≡ Some batch
  pub version_so : x.version ≡ sent_version
  pub script_so : x.script ≡ (division p batch).script
  pub request : IsRequestOf x.version pair.request x.script x.values
  pub kind : pair.kind ≡ forest_kind
  pub reply : IsForest pair.reply n
  pub fits_so : fits n (division p batch).remainder (lengths x.values) ≡ Ok tt

-- as many pairs as were sent, and as many nodes, each an exchange, in order
abbrev pub Exchanges : Program → List Pair → List Sent → List Node → Type 0
Exchanges p [] [] [] = Unit {0}
Exchanges p (pair ∷ pairs) (x ∷ sent) (n ∷ nodes) = IsExchange p pair x n × Exchanges p pairs sent nodes
Exchanges p _ _ _ = ⊥

-- The pairs that a link tells grew by one for each script that was sent; if it tells none, they were exchanged all the same.
pub record Exchanged (p : Program) (before after : Option (List Pair)) (sent : List Sent) (nodes : List Node) : Type 0 where
  pub pairs : List Pair
  pub pairs_so : after ≡ more_pairs pairs before
  pub exchanges : Exchanges p pairs sent nodes

-- The divisions of a program, each of whose scripts can be sent.
pub record AreDivisions (p : program.Program) (splits : List Split) : Type 0 where
  pub divided : divisions (mirror_program p) ≡ Ok (map mirror_split splits)
  pub sent : AllCanBeSent splits
