use Rattle.std.proofs.Common.{◌∙◌, ◌++◌, ◌∷◌, [], Bool, cond, sym, ap}
use Rattle.rb_disk.proofs.Noted.{noted}
use Rattle.rb_disk.proofs.disk_calls.note.Goals as goal

pub returns : goal.returns
returns c = noted c.args.calls.now.items c.push.new.self.items c.args.call c.is_ok.result
    (c.push.ensures.items ∙ ap (λ (b : Bool). cond b (c.args.calls.now.items ++ c.args.call ∷ []) c.args.calls.now.items) (sym c.is_ok.ensures.value))
