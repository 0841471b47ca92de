use Rattle.std.proofs.Common.{◌∙◌, ap, subst}
use Rattle.rb_base.specs.Directories.{Finds, read_once}
use Rattle.rb_top.specs.HubRuns.{PlaysText, no_events, no_service, played}
use Rattle.rb_top.specs.Runs.{served_on}
use Rattle.rb_top.specs.Scene.{output, scene}
use Rattle.rb_top.specs.Unusable.{TellsNoService}
use Rattle.rb_top.proofs.PlayedOn.{text_unread}
use Rattle.rb_top.proofs.hub_run.run_hub.Goals as goal

pub returns-in-Err : goal.returns-in-Err
returns-in-Err g c =
    let before = scene g.F.Files g.W.Sink c.args.files.now c.args.out.now in
    let after = scene g.F.Files g.W.Sink c.load_text.new.files c.say_unread.new.out in
    no_events (text_unread c.args.playing.now.events.now c.in-Err.stop c.say_unread.result before after c.in-Err.ensures c.say_unread.ensures)

pub returns-in-Err-loaded_service : goal.returns-in-Err-loaded_service
returns-in-Err-loaded_service g c =
    let after = scene g.F.Files g.W.Sink c.loaded_service.new.files c.loaded_service.new.out in
    no_service c.in-Ok.text.items c.in-Ok.ensures.0
    (subst (λ f. TellsNoService c.args.playing.now.service.now c.in-Err-loaded_service.status (record { files = f; out = output g.W.Sink c.args.out.now }) after) c.in-Ok.ensures.1 c.in-Err-loaded_service.ensures.loads)

pub returns : goal.returns
returns g c =
    let loads = c.in-Ok-loaded_service.ensures.loads in
    let service = served_on c.in-Ok-loaded_service.service c.in-Ok-loaded_service.table in
    played c.in-Ok.text.items loads.text service c.in-Ok.ensures.0
    (subst (λ f. Finds f.told c.args.playing.now.service.now loads.text) c.in-Ok.ensures.1 loads.holds.0) loads.is
    (subst (λ o. PlaysText c.in-Ok.text.items service c.play_text.result o (output g.W.Sink c.play_text.new.out)) (ap (λ s. s.out) loads.left)
    (subst (λ t. PlaysText t service c.play_text.result (output g.W.Sink c.loaded_service.new.out) (output g.W.Sink c.play_text.new.out)) c.as_slice.ensures c.play_text.ensures))
    (ap (λ s. s.files) loads.left ∙ ap read_once c.in-Ok.ensures.1)
