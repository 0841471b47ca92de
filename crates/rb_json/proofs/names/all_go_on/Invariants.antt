use Rattle.std.proofs.Common.{◌≡◌, drop}
use Rattle.rb_meaning_bytes.specs.formats.Fields.{are_word_bytes}
use Rattle.rb_json.proofs.names.all_go_on.Given as goal

abbrev pub invariant-loop-b : goal.invariant-loop-b
invariant-loop-b l = are_word_bytes (drop l.b-index l.bytes) ≡ are_word_bytes l.bytes
