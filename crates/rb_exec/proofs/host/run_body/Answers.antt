-- The version, and the node of the body.
use Rattle.rb_exec.proofs.Hosted.{body_so}
use Rattle.rb_exec.proofs.host.run_body.Goals as goal

pub returns-in-Ok-clause-forest : goal.returns-in-Ok-clause-forest
returns-in-Ok-clause-forest c =
    (body_so c.args.stage.now c.args.body.now c.new-2.result c.args.server.now c.replace.result c.run_block-ran.new.self.server _ c.first_byte.result c.args.bytes.now.items c.put_tag.new.bytes c.replace-2.result c.run_block-ran.new.self.bytes.items
    c.new-2.ensures c.replace.ensures.value c.first_byte.ensures c.in_ok-put_tag.ensures.ok c.replace-2.ensures.value c.in-Ok.ensures.runs).0

pub returns-in-Ok-clause-server : goal.returns-in-Ok-clause-server
returns-in-Ok-clause-server c =
    (body_so c.args.stage.now c.args.body.now c.new-2.result c.args.server.now c.replace.result c.run_block-ran.new.self.server _ c.first_byte.result c.args.bytes.now.items c.put_tag.new.bytes c.replace-2.result c.run_block-ran.new.self.bytes.items
    c.new-2.ensures c.replace.ensures.value c.first_byte.ensures c.in_ok-put_tag.ensures.ok c.replace-2.ensures.value c.in-Ok.ensures.runs).1
