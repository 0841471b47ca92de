-- What a source is as a service.
use Rattle.std.specs.Prelude.{ℕ, List, Ok, Err}
use Rattle.rb_trees.specs.declared.reading.ReadError.{ReadError}
use Rattle.rb_trees.specs.declared.services.Object.{Object}
use Rattle.rb_trees.specs.mirror.Services.{Service, ServiceText}
use Rattle.rb_meaning_bytes.specs.grammar.Sources.{ReadService}
use Rattle.rb_meaning_types.specs.Stores.{Read, Stored, service_of}

-- The source is this service with this table, or has this first refusal.
pub data ReadsAsService (source : List ℕ) : Stored (Service × List Object) → Type 0 where
  -- it isn't read
  unread : {error : ReadError} → ReadService source (Err error) → ReadsAsService source (Err (Read error))
  -- it is read as a text, and is what that text is
  of_text : {text : ServiceText} → ReadService source (Ok text) → ReadsAsService source (service_of text)
