-- What a server answers to a request: the forest that a script gives, or a refusal.
use Rattle.std.specs.Prelude.{◌≡◌, ℕ, List, Ok, Err}
use Rattle.rb_trees.specs.declared.services.Object.{Object}
use Rattle.rb_trees.specs.mirror.Services.{Service}
use Rattle.rb_meaning_bytes.specs.formats.Fields.{IsBytes}
use Rattle.rb_meaning_bytes.specs.formats.Messages.{Sent, Refused}
use Rattle.rb_meaning_bytes.specs.formats.Payloads.{IsForestOf, IsRefusalOf}
use Rattle.rb_meaning_bytes.specs.formats.ScriptPayloads.{Means}
use Rattle.rb_meaning_code.specs.ScriptRun.{Ran, run_script}

-- The greatest number of bytes of a request.
abbrev pub longest_request : ℕ
longest_request = 16777216

-- the kinds of replies
abbrev pub forest_kind : ℕ
forest_kind = 2

abbrev pub refusal_kind : ℕ
refusal_kind = 3

-- what a script with the values of its inputs gives on a service with a table
abbrev pub performed : Service → List Object → Sent → Ran
performed service table x = run_script x.script x.values service.classes service.root table

-- A payload that means a script is performed: the reply is the forest of its node, and the table is what it leaves. Any
-- other payload is refused, with the number and the place of what is wrong, and the table stays. Both are in the payload's
-- version.
pub data Answers (service : Service) (table : List Object) (payload : List ℕ) : ℕ → List ℕ → List Object → Type 0 where
  performs : (x : Sent) (reply : List ℕ) → Means payload (Ok x) → IsForestOf x.version reply (performed service table x).node
      → Answers service table payload forest_kind reply (performed service table x).server.table
  refuses : (wrong : Refused) (reply : List ℕ) → Means payload (Err wrong) → IsRefusalOf wrong.version reply wrong.number wrong.at
      → Answers service table payload refusal_kind reply table

-- Two answers to one payload are the same.
pub record SameAnswer (kind other : ℕ) (reply reply' : List ℕ) (table table' : List Object) : Type 0 where
  pub kinds : kind ≡ other
  pub replies : reply ≡ reply'
  pub tables : table ≡ table'

-- A payload has at most one answer.
abbrev pub HasOneAnswer : Type 0
HasOneAnswer = (service : Service) (table : List Object) (payload : List ℕ) (kind other : ℕ) (reply reply' : List ℕ) (after after' : List Object) → IsBytes payload
    → Answers service table payload kind reply after → Answers service table payload other reply' after' → SameAnswer kind other reply reply' after after'
