use Rattle.std.proofs.Common.{◌∙◌, ap, subst}
use Rattle.rb_base.specs.Directories.{read_once}
use Rattle.rb_top.specs.Ends.{Tells}
use Rattle.rb_top.specs.JsonRuns.{AnswersJson, answered_from, no_request, no_service}
use Rattle.rb_top.specs.Loads.{HoldsText}
use Rattle.rb_top.specs.Runs.{served_on}
use Rattle.rb_top.specs.Scene.{output, scene}
use Rattle.rb_top.specs.Unusable.{NoText}
use Rattle.rb_top.proofs.PlayedOn.{text_unread}
use Rattle.rb_top.proofs.json_run.run_json.Goals as goal

pub returns-in-Err : goal.returns-in-Err
returns-in-Err g c = no_service c.in-Err.ensures.loads

pub returns-in-Err-load_text : goal.returns-in-Err-load_text
returns-in-Err-load_text g c =
    let loads = c.in-Ok.ensures.loads in
    let request = c.args.asking.now.request.now in
    let mid = scene g.F.Files g.W.Sink c.loaded_service.new.files c.loaded_service.new.out in
    let after = scene g.F.Files g.W.Sink c.load_text.new.files c.say_unread.new.out in
    no_request loads.text (served_on c.in-Ok.service c.in-Ok.table) loads.holds.0 loads.is
    (subst (λ s. Tells (NoText s.files request) c.say_unread.result s after) loads.left
    (text_unread request c.in-Err-load_text.stop c.say_unread.result mid after c.in-Err-load_text.ensures c.say_unread.ensures))

pub returns-in-Ok-load_text : goal.returns-in-Ok-load_text
returns-in-Ok-load_text g c =
    let loads = c.in-Ok.ensures.loads in
    let request = c.args.asking.now.request.now in
    let text = c.in-Ok-load_text.text.items in
    let served = served_on c.in-Ok.service c.in-Ok.table in
    let files = ap (λ s. s.files) loads.left in
    answered_from loads.text text served loads.holds.0 loads.is
    (subst (λ f. HoldsText f.told request text) files c.in-Ok-load_text.ensures.0)
    (subst (λ o. AnswersJson text served c.answer_on.result o (output g.W.Sink c.answer_on.new.out)) (ap (λ s. s.out) loads.left)
    (subst (λ t. AnswersJson t served c.answer_on.result (output g.W.Sink c.loaded_service.new.out) (output g.W.Sink c.answer_on.new.out)) c.as_slice.ensures c.answer_on.ensures))
    (c.in-Ok-load_text.ensures.1 ∙ ap read_once files)
