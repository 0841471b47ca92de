use Rattle.rb_top.proofs.AnsweredOn.{answer_told}
use Rattle.rb_top.proofs.json_run.answer_request.Goals as goal

pub returns : goal.returns
returns g c =
    answer_told c.args.host c.json_answer-answer.new.host c.args.request.now c.new-reply.result c.json_answer-answer.new.reply c.table.result.now c.json_answer-answer.result c.say_answer.result _ _
    c.json_answer-answer.ensures.refused c.json_answer-answer.ensures.answers c.new-reply.ensures c.table.ensures c.say_answer.ensures
