use mir.Facts.{Fits-lt-pow}
use Rattle.std.proofs.Common.{Err, subst}
use Rattle.rb_client.specs.Replies.{Replied}
use Rattle.rb_client.proofs.Traded.{replied, stopped, unreplied}
use Rattle.rb_client.proofs.replies.send.Goals as goal

pub returns-in-Ok : goal.returns-in-Ok
returns-in-Ok g c =
    replied g.L.Link c.script_payloads_mean_one_thing.ensures.alone c.args.done c.args.request.now (λ i. Fits-lt-pow (c.type_inv.request i)) c.args.link.now c.exchange.new.self c.in-Ok.reply c.in-Ok.ensures.kind
    c.in-Ok.ensures.pairs c.in-Ok.ensures.faults c.in-Ok.ensures.lends c.in-Ok.ensures.listed (record { fitting = c.in-Ok.ensures.serves; standing = c.in-Ok.ensures.serves_alone }) c.in-Ok.ensures.stays c.in-Ok.ensures.stays_quiet

pub returns-in-Err-Failed : goal.returns-in-Err-Failed
returns-in-Err-Failed g c =
    subst (λ s. Replied g.L.Link c.args.done c.args.request.now c.args.link.now (Err (stopped c.args.done s)) c.exchange.new.self) c.in-Err-Failed.field-0-is
    (unreplied g.L.Link c.script_payloads_mean_one_thing.ensures.alone c.args.done c.args.request.now (λ i. Fits-lt-pow (c.type_inv.request i)) c.args.link.now c.exchange.new.self c.in-Err-Failed.field-0
    c.in-Err-Failed.ensures.cause c.in-Err-Failed.ensures.pairs c.in-Err-Failed.ensures.faults c.in-Err-Failed.ensures.lends c.in-Err-Failed.ensures.listed (record { fitting = c.in-Err-Failed.ensures.serves; standing = c.in-Err-Failed.ensures.serves_alone }))

pub returns-in-Err-Frame : goal.returns-in-Err-Frame
returns-in-Err-Frame g c =
    subst (λ s. Replied g.L.Link c.args.done c.args.request.now c.args.link.now (Err (stopped c.args.done s)) c.exchange.new.self) c.in-Err-Frame.field-0-is
    (unreplied g.L.Link c.script_payloads_mean_one_thing.ensures.alone c.args.done c.args.request.now (λ i. Fits-lt-pow (c.type_inv.request i)) c.args.link.now c.exchange.new.self c.in-Err-Frame.field-0
    c.in-Err-Frame.ensures.cause c.in-Err-Frame.ensures.pairs c.in-Err-Frame.ensures.faults c.in-Err-Frame.ensures.lends c.in-Err-Frame.ensures.listed (record { fitting = c.in-Err-Frame.ensures.serves; standing = c.in-Err-Frame.ensures.serves_alone }))

pub returns-in-Err-Cut : goal.returns-in-Err-Cut
returns-in-Err-Cut g c =
    subst (λ s. Replied g.L.Link c.args.done c.args.request.now c.args.link.now (Err (stopped c.args.done s)) c.exchange.new.self) c.in-Err-Cut.field-0-is
    (unreplied g.L.Link c.script_payloads_mean_one_thing.ensures.alone c.args.done c.args.request.now (λ i. Fits-lt-pow (c.type_inv.request i)) c.args.link.now c.exchange.new.self c.in-Err-Cut.field-0
    c.in-Err-Cut.ensures.cause c.in-Err-Cut.ensures.pairs c.in-Err-Cut.ensures.faults c.in-Err-Cut.ensures.lends c.in-Err-Cut.ensures.listed (record { fitting = c.in-Err-Cut.ensures.serves; standing = c.in-Err-Cut.ensures.serves_alone }))
