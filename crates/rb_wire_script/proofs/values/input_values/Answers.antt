use Rattle.std.proofs.Common.{◌≡◌, ◌<◌, ◌-◌, ◌+◌, ◌++◌, ◌∷◌, [], ap, ◌∙◌, arith}
use Rattle.std.proofs.lemmas.Grind.{common_steps}
use Rattle.rb_meaning_bytes.specs.formats.Items.{items_of}
use Rattle.rb_wire_script.specs.Parts.{reads, input_values}
use Rattle.rb_wire_script.proofs.Inputs.{goes_on}
use Rattle.rb_wire_script.proofs.Stages.{with_front}
use Rattle.rb_wire_script.proofs.values.input_values.Goals as goal

pub loop-preserved : goal.loop-preserved
loop-preserved c =
    let pool = c.args.pool.now in
    let item = c.in_ok-item.item in
    let more = c.args.count - (c.loop.counter + 1) in
    let room : c.saturating_sub-room.result ≡ c.loop.room - items_of item = grind (arith, common_steps) in
    let below : c.loop.counter < c.args.count = grind (arith, common_steps) in
    let next = goes_on pool.version pool.texts c.loop.items c.loop.room c.args.count c.loop.counter c.loop.place.used c.loop.place.bytes.now item
    c.in_ok-item.behind.used c.in_ok-item.behind.bytes.now _ below c.in_ok-item.ensures c.loop.invariant.0 in (
      ap (λ items. with_front items (reads (input_values pool c.saturating_sub-room.result more) c.in_ok-item.behind)) c.in_ok-push.ensures.ok
          ∙ ap (λ r. with_front (c.loop.items ++ item ∷ []) (reads (input_values pool r more) c.in_ok-item.behind)) room ∙ next,
      grind (arith, common_steps),
    )
