-- What is checked names the method that is called.
use Rattle.rb_engine.specs.Remote.{server}
use Rattle.rb_engine.proofs.Served.{invoked_so}
use Rattle.rb_engine.proofs.remote.invoke_on.Goals as goal

pub serve-requires-clause-found : goal.serve-requires-clause-found
serve-requires-clause-found c = (c.args.state.now.heap, c.in-Ok.checked.object, c.args.method.now, c.in-Ok.ensures.found)

pub returns-in-Ok-clause-replies : goal.returns-in-Ok-clause-replies
returns-in-Ok-clause-replies c =
    invoked_so c.args.code.now c.args.at c.args.kind c.in-Ok.checked.object c.args.target.now c.args.method.now c.in-Ok.checked.method.now c.args.args.now c.in-Ok.checked.args (server c.args.state.now)
    (server c.serve.new.state) c.serve.result c.in-Ok.ensures.gives c.in-Ok.ensures.found c.in-Ok.ensures.count c.serve.ensures.replies
