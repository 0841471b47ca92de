use Rattle.std.proofs.Common.{refl, ap, subst, ◌∙◌}
use Rattle.rb_base.specs.Devices.{failed}
use Rattle.rb_base.specs.Sinks.{with_bytes, WrotePrefix}
use Rattle.rb_client.specs.Worlds.{output}
use Rattle.rb_client.proofs.ClientAnswers.{line_cut, line_whole}
use Rattle.rb_client.proofs.client_world.ClientWorldWorld.line.Goals as goal

pub returns-in-Ok-write_whole : goal.returns-in-Ok-write_whole
returns-in-Ok-write_whole g c =
    line_whole g.L.Link g.W.Sink c.args.self.now _ c.args._at c.args.bytes.now refl refl refl refl
    (c.in-Ok-write_whole.ensures ∙ ap (with_bytes (output g.W.Sink c.args.self.now.out.now)) (c.as_slice.ensures.value ∙ c.in-Ok.ensures))

pub returns : goal.returns
returns g c =
    line_cut g.L.Link g.W.Sink c.args.self.now _ c.args._at c.args.bytes.now refl refl
    (subst (λ t. WrotePrefix (failed (output g.W.Sink c.args.self.now.out.now)) (output g.W.Sink c.write_whole.new.out) t) (c.as_slice.ensures.value ∙ c.in-Ok.ensures) c.in-Err.ensures)
