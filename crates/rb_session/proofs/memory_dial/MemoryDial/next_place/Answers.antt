-- The place of the first that waits, where the dial isn't listed.
use Rattle.std.proofs.Common.{◌∙◌, sym, ap, subst}
use Rattle.std.specs.Prelude.{◌==◌}
use Rattle.std.specs.List.{list_any}
use Rattle.rb_session.specs.Places.{StandsAt}
use Rattle.rb_session.specs.MemoryDials.{DialInMemory}
use Rattle.rb_session.proofs.Waiting.{is_next}
use Rattle.rb_session.proofs.memory_dial.MemoryDial.next_place.Goals as goal

pub returns : goal.returns
returns g c =
    let own = c.self.inside in
    let d : DialInMemory _ = record { waiting = own.waiting.items; made = own.made; failing = own.failing; faults = own.faults; out = own.out; back = own.back.items } in
    let unlisted = ap (λ f. list_any (λ n. n == c.saturating_add-number.result) f) (sym c.as_slice.ensures) ∙ sym c.contains.ensures.value ∙ c.if-contains.false in
    let numbered = ap (λ m. list_any (λ n. n == m) own.failing) (sym c.saturating_add-number.ensures) ∙ unlisted in
    let said = is_next d c.args.target.now c.place_of.result numbered (subst (λ ps. StandsAt c.args.target.now ps c.place_of.result) c.as_slice-2.ensures.value c.place_of.ensures) in
    rw (← c.self.view_is) said
