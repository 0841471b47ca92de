-- What reading a source as a service tells of the source.
use Rattle.std.specs.Prelude.{ℕ, List, Result, Ok, Err}
use Rattle.rb_trees.specs.Outcome.{Refused}
use Rattle.rb_trees.specs.declared.stores.StoreError.{StoreError}
use Rattle.rb_trees.specs.declared.services.ServiceText as text
use Rattle.rb_trees.specs.mirror.Services.{mirror_service_text}
use Rattle.rb_meaning_bytes.specs.grammar.Sources.{ReadService}
use Rattle.rb_meaning_types.specs.Stores.{store_refusal}
use Rattle.rb_meaning.specs.ServiceSources.{ReadsAsService}

-- The source is read as this text; or it isn't read, and the error tells why.
abbrev pub TellsText : List ℕ → Result text.ServiceText StoreError → Type 0
TellsText source (Ok text) = ReadService source (Ok (mirror_service_text text))
TellsText source (Err error) = Refused (ReadsAsService source) (store_refusal error)
