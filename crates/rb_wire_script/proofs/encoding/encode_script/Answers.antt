use Rattle.rb_trees.specs.mirror.Scripts.{mirror_script}
use Rattle.rb_meaning_bytes.specs.formats.Messages.{Sent}
use Rattle.rb_meaning_bytes.proofs.formats.ScriptsSpelled.{script_spelled}
use Rattle.rb_meaning_bytes.proofs.formats.ValidScripts.{valid_within}
use Rattle.rb_wire_script.proofs.encoding.encode_script.Goals as goal

pub returns-in-Ok-clause-spelling : goal.returns-in-Ok-clause-spelling
returns-in-Ok-clause-spelling c =
    let sent : Sent = record { version = c.args.version; script = mirror_script c.args.script.now; values = c.args.values.now } in
    script_spelled sent (record {
      formed = c.requires.formed;
      suits = c.requires.suits;
      values = c.requires.inputs;
      within = valid_within _ c.requires.valid;
      pool = c.in-Ok.ensures.pool;
    })
